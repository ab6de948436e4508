-- `enter_leaps::enters::whole` meets its contract.
use Rattle.enter_leaps.specs.EnterLaps.{after_first, count_two, first_one, first_two, two_whole, whole_lands}
use mathlib.Core.Logic.{inl, inr}
use native.Mathlib.Omega.{arith}
use Rattle.enter_leaps.proofs.enters.whole.Goals as goal

pub returns-in-Some : goal.returns-in-Some
returns-in-Some c = let p = c.requires in λ hs k D inv h low. rw c.at_value.ensures (whole_lands p.0.holds inv h low (rw c.in-Some.is at k))

pub overflow_sub-n : goal.overflow_sub-n
overflow_sub-n c = let p = c.requires in after_first _ _ (p.0.holds _ p.1) (first_one _ _ p.3 (inr (inl c.if-kind-eq-GET.true)))

pub returns-then-kind-eq-GET : goal.returns-then-kind-eq-GET
returns-then-kind-eq-GET c = let p = c.requires in λ hs k. c.first.ensures _ hs p.0.holds (first_one _ _ p.3 (inr (inl c.if-kind-eq-GET.true)))

pub first_of_two-requires : goal.first_of_two-requires
first_of_two-requires c = let p = c.requires in let t = two_whole _ p.4 c.if-kind-eq-GET.false in (p.0, p.1, omega (arith, count_two _ _ p.3 t))

pub returns : goal.returns
returns c = let p = c.requires in let t = two_whole _ p.4 c.if-kind-eq-GET.false in λ hs k. c.first-2.ensures _ hs p.0.holds (rw c.first_of_two.ensures.0 (first_two _ _ p.3 t))
