use Rattle.strides.specs.ReachLaws.{onward_to, onward_kept, low_on, leap_reaches, leaps_to_less}
use native.Mathlib.Omega.{arith}
use mathlib.Core.Path.{refl}
use borrow.Author.Rules.{rules}
use Rattle.strides.proofs.strides.Goals as goal

pub returns-in_default : goal.returns-in_default
returns-in_default c = let a = rw c.in_default.is at c.enter_leap.ensures in let z = onward_kept _ _ c.loop-l.invariant.0 a.0 in rw (c.at-in_default.ensures, a.1) (record { low = z.low; leads = z.leads })

pub outward-r-requires : goal.outward-r-requires
outward-r-requires c = let a = rw c.in-Some.is at c.enter_leap.ensures in (a.leaps.leads.inv, a.leaps.leads.heap, c.requires.2, low_on _ _ _ (omega (arith, c.loop-l-test.true)) a.low)

pub returns-in_default-focus : goal.returns-in_default-focus
returns-in_default-focus c = let a = rw c.in-Some.is at c.enter_leap.ensures in let x = leap_reaches _ _ a.leaps (omega (arith, a.few, c.if-left-lt-ENOUGH.false)) c.outward-r.ensures in let z = onward_to _ _ c.loop-l.invariant.0 _ x.0.leads x.1 in record { low = z.low; leads = z.leads }

pub loop-l-smaller : goal.loop-l-smaller
loop-l-smaller c = let a = rw c.in-Some.is at c.enter_leap.ensures in let x = leap_reaches _ _ a.leaps (omega (arith, a.few, c.if-left-lt-ENOUGH.false)) c.outward-r.ensures in leaps_to_less _ c.args.table.now.image.good.nodes _ _ _ refl x.1 (rw c.in-Node.is at x.0)

pub loop-l-preserved : goal.loop-l-preserved
loop-l-preserved c = let a = rw c.in-Some.is at c.enter_leap.ensures in let x = leap_reaches _ _ a.leaps (omega (arith, a.few, c.if-left-lt-ENOUGH.false)) c.outward-r.ensures in (onward_to _ _ c.loop-l.invariant.0 _ (rw c.in-Node.is at x.0.leads) x.1, search rules)
