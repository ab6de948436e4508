use mathlib.Core.Path.{◌≡◌}
use Rattle.strides.specs.ReachLaws.{onward_leads, onward_kept, leaps_less}
use native.Mathlib.Omega.{arith}
use Prim.Native.Nat.{suc, ◌-◌}
use borrow.Author.Rules.{rules}
use Rattle.strides.proofs.backs.Goals as goal

pub returns-in_default : goal.returns-in_default
returns-in_default c = let e : suc (c.loop-l.l - 1) ≡ c.loop-l.l = omega (arith, c.loop-l-test.true) in let a = rw (c.in_default.is, e) at c.back_leap.ensures in let z = onward_kept _ _ c.loop-l.invariant.0 a.0 in rw (c.at-in_default.ensures, a.1) (record { low = z.low; leads = z.leads })

pub returns-in_default-focus : goal.returns-in_default-focus
returns-in_default-focus c = let e : suc (c.loop-l.l - 1) ≡ c.loop-l.l = omega (arith, c.loop-l-test.true) in let a = rw (c.in-Some.is, e) at c.back_leap.ensures in let z = onward_leads _ _ c.loop-l.invariant.0 _ a.leaps.leads (omega (arith, a.few, c.if-left-lt-ENOUGH.false)) in rw c.at-in_default-focus.ensures (record { low = z.low; leads = z.leads })

pub loop-l-smaller : goal.loop-l-smaller
loop-l-smaller c = let e : suc (c.loop-l.l - 1) ≡ c.loop-l.l = omega (arith, c.loop-l-test.true) in let a = rw (c.in-Some.is, e) at c.back_leap.ensures in leaps_less _ c.args.image.now.good.nodes _ _ (rw c.in-Value.is at a.leaps) (omega (arith, a.few, c.if-left-lt-ENOUGH.false))

pub loop-l-preserved : goal.loop-l-preserved
loop-l-preserved c = let e : suc (c.loop-l.l - 1) ≡ c.loop-l.l = omega (arith, c.loop-l-test.true) in let o = c.loop-l.invariant in let a = rw (c.in-Some.is, e) at c.back_leap.ensures in (onward_leads _ _ o.0 _ (rw c.in-Value.is at a.leaps).leads (omega (arith, a.few, c.if-left-lt-ENOUGH.false)), (let q = rw c.in-Value.is at a.low in omega (arith, q, o.1)), search rules)
