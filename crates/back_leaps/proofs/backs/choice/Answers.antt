-- `back_leaps::backs::choice` meets its contract.
use Rattle.image.specs.Nodes.{kind_of, operands}
use Rattle.back_leaps.specs.BackLaps.{else_lands, inner, then_lands}
use native.Mathlib.Omega.{arith}
use Rattle.back_leaps.proofs.backs.choice.Goals as goal

pub first_of_two-requires : goal.first_of_two-requires
unfolding kind_of operands
first_of_two-requires c = let p = c.requires in (p.0, p.1.0, rw p.1.1 (omega arith))

pub overflow_sub-p : goal.overflow_sub-p
unfolding kind_of operands
overflow_sub-p c = let p = c.requires in inner _ _ _ 12 p.0 p.1 (omega arith)

pub returns-then-branch : goal.returns-then-branch
returns-then-branch c = λ room D hs k. rw (c.at_node.ensures, c.first_of_two.ensures.0) (then_lands _ D hs room _ _ _ k (rw (c.in_ok-if_redex.was, c.if-branch.true) at c.if_redex.ensures))

pub returns-else-branch : goal.returns-else-branch
returns-else-branch c = λ room D hs k. rw c.at_node-else-branch.ensures (else_lands _ D hs room _ _ _ k (rw (c.in_ok-if_redex.was, c.if-branch.false) at c.if_redex.ensures))
