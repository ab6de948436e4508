-- `enter_leaps::enters::condition` meets its contract.
use Rattle.laws.specs.Trees.{operand_after, operand_below}
use Rattle.rules.specs.Trees.{operand}
use mathlib.Core.Path.{refl}
use native.Mathlib.Omega.{arith}
use Rattle.enter_leaps.proofs.enters.condition.Goals as goal

pub overflow_sub-result : goal.overflow_sub-result
overflow_sub-result c = let p = c.requires in rw (c.word_at.ensures, c.first_of_two-m.ensures.0) (omega (arith, operand_after _ _ (p.0.holds _ p.1) 1 p.2))

pub returns : goal.returns
unfolding operand
returns c = let p = c.requires in rw (c.word_at.ensures, c.first_of_two-m.ensures.0) (refl, omega (arith, operand_below _ _ (p.0.holds _ p.1) 1 (omega (arith, p.2))))
