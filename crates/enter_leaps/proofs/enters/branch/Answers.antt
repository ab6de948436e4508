-- `enter_leaps::enters::branch` meets its contract.
use Rattle.enter_leaps.specs.EnterLaps.{after_first, else_lands, first_if, if_operand, then_lands}
use native.Mathlib.Omega.{arith}
use Rattle.enter_leaps.proofs.enters.branch.Goals as goal

pub first_of_two-requires : goal.first_of_two-requires
first_of_two-requires c = let p = c.requires in (p.0, p.1, omega (arith, if_operand _ _ p.3))

pub returns-in-Some : goal.returns-in-Some
returns-in-Some c = let p = c.requires in λ hs k D inv h low. rw (c.at_node.ensures, c.first_of_two.ensures.0) (then_lands p.0.holds inv h low p.3 (rw (c.in-Some.is, p.4) at k) c.if-v-eq-TRUE.true)

pub overflow_sub-n : goal.overflow_sub-n
overflow_sub-n c = let p = c.requires in after_first _ _ (p.0.holds _ p.1) (first_if _ _ p.3)

pub returns-in-Some-2 : goal.returns-in-Some-2
returns-in-Some-2 c = let p = c.requires in λ hs k D inv h low. rw c.at_node-in-Some-2.ensures (else_lands p.0.holds inv h low p.3 (rw (c.in-Some-2.is, p.4) at k) c.if-v-eq-FALSE.true)

pub returns-in_default : goal.returns-in_default
returns-in_default c = let p = c.requires in λ hs k. c.first.ensures _ hs p.0.holds (rw p.4 (first_if _ _ p.3))
