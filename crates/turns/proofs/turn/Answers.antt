-- `turns::turn` meets its contract.
use Prim.Native.Nat.{◌-◌, suc}
use mathlib.Core.Path.{◌≡◌, refl}
use native.Mathlib.Omega.{arith}
use Rattle.turns.proofs.turn.Goals as goal

pub enter-requires : goal.enter-requires
enter-requires c = (rw c.in-Node.is at c.requires.0, c.requires.1)

pub returns-then-l-eq0 : goal.returns-then-l-eq0
returns-then-l-eq0 c = rw c.in-Value.is (c.if-l-eq0.true, refl)

pub value_back-requires : goal.value_back-requires
value_back-requires c = let e : c.args.l ≡ suc (c.args.l - 1) = omega (arith, c.if-l-eq0.false) in let v = rw c.in-Value.is at c.requires.0 in (rw e at v, c.requires.1)

pub returns-then-l-eq0-2 : goal.returns-then-l-eq0-2
returns-then-l-eq0-2 c = rw c.in-Thrown.is (c.if-l-eq0-2.true, refl)

pub unwind-requires : goal.unwind-requires
unwind-requires c = let e : c.args.l ≡ suc (c.args.l - 1) = omega (arith, c.if-l-eq0-2.false) in let v = rw c.in-Thrown.is at c.requires.0 in (rw e at v, c.requires.1)

pub returns-in-Node : goal.returns-in-Node
returns-in-Node c = rw c.in-Node.is c.enter.ensures

pub returns-else-l-eq0 : goal.returns-else-l-eq0
returns-else-l-eq0 c = let e : suc (c.args.l - 1) ≡ c.args.l = omega (arith, c.if-l-eq0.false) in rw c.in-Value.is (rw e at c.value_back.ensures)

pub returns-else-l-eq0-2 : goal.returns-else-l-eq0-2
returns-else-l-eq0-2 c = let e : suc (c.args.l - 1) ≡ c.args.l = omega (arith, c.if-l-eq0-2.false) in rw c.in-Thrown.is (rw e at (c.unwind.ensures c.args.may))
