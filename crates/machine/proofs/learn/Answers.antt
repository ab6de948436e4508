use native.Mathlib.Omega.{arith}
use mathlib.Core.Path.{◌≡◌}
use Prim.Native.Nat.{suc, ◌-◌}
use Rattle.machine.proofs.learn.Goals as goal

pub learn_value-requires : goal.learn_value-requires
learn_value-requires c = let e : c.args.l ≡ suc (c.args.l - 1) = omega (arith, c.if-l-eq0.false) in (c.requires.0, rw e at c.requires.1, rw c.in-Value.is at c.requires.2, c.requires.3)

pub learn_thrown-requires : goal.learn_thrown-requires
learn_thrown-requires c = let e : c.args.l ≡ suc (c.args.l - 1) = omega (arith, c.if-l-eq0.false) in (c.requires.0, rw e at c.requires.1, rw c.in-Thrown.is at c.requires.2, c.requires.3)
