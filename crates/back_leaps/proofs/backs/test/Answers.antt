-- `back_leaps::backs::test` meets its contract.
use Rattle.back_leaps.specs.BackLaps.{again_lands, over_lands}
use native.Mathlib.Numerals.{add-one}
use Rattle.back_leaps.proofs.backs.test.Goals as goal

pub returns-then-branch : goal.returns-then-branch
returns-then-branch c = λ ws D hs k. rw (c.at_node.ensures, add-one) (again_lands ws D hs _ _ _ _ k (rw (c.in_ok-if_redex.was, c.if-branch.true) at c.if_redex.ensures))

pub returns-else-branch : goal.returns-else-branch
returns-else-branch c = λ ws D hs k. rw c.at_value.ensures (over_lands ws D hs _ _ _ _ k (rw (c.in_ok-if_redex.was, c.if-branch.false) at c.if_redex.ensures))
