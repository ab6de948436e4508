-- `enter_leaps::enters::asked` meets its contract.
use Rattle.pushes.specs.EnterLaws.{while_operand}
use Rattle.enter_leaps.specs.EnterLaps.{after_first, first_one, if_operand}
use Rattle.rules.specs.Trees.{operand}
use mathlib.Core.Logic.{inl}
use mathlib.Core.Path.{◌∙◌, refl}
use native.Mathlib.Omega.{arith}
use Rattle.enter_leaps.proofs.enters.asked.Goals as goal

pub overflow_sub-result : goal.overflow_sub-result
overflow_sub-result c = let p = c.requires in after_first _ _ (p.0.holds _ p.1) (first_one _ _ (p.2 ∙ c.in-6.is) (inl refl))

pub condition-requires : goal.condition-requires
condition-requires c = let p = c.requires in (p.0, p.1, if_operand _ _ (p.2 ∙ c.in-12.is))

pub first_of_two-requires : goal.first_of_two-requires
first_of_two-requires c = let p = c.requires in (p.0, p.1, while_operand _ _ (p.2 ∙ c.in-13.is))

pub returns-in-6 : goal.returns-in-6
unfolding operand
returns-in-6 c = let p = c.requires in let k = c.in-6.is in record { within = omega (arith, p.1); assign = λ e. refl; branch = λ e. absurd (omega arith); repeat = λ e. absurd (omega arith); whole = λ a. absurd (a k) }

pub returns-in-12 : goal.returns-in-12
returns-in-12 c = let p = c.requires in let k = c.in-12.is in record { within = omega (arith, p.1, c.condition.ensures.1); assign = λ e. absurd (omega arith); branch = λ e. c.condition.ensures.0; repeat = λ e. absurd (omega arith); whole = λ a b. absurd (b k) }

pub returns-in-13 : goal.returns-in-13
returns-in-13 c = let p = c.requires in let k = c.in-13.is in record { within = omega (arith, p.1, c.first_of_two.ensures.1); assign = λ e. absurd (omega arith); branch = λ e. absurd (omega arith); repeat = λ e. c.first_of_two.ensures.0; whole = λ a b d. absurd (d k) }

pub returns-in_default : goal.returns-in_default
returns-in_default c = let p = c.requires in let r = c.in_default.in_default-own.rest in record { within = p.1; assign = λ e. absurd (r.0.0.1 e); branch = λ e. absurd (r.0.1 e); repeat = λ e. absurd (r.1 e); whole = λ a b d. refl }
