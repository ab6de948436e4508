-- `comes::back_if` meets its contract.
use Rattle.comes.specs.ComesLaws.{if_else, if_stuck, if_then}
use Rattle.comes.specs.FrameLaws.{inner}
use Rattle.image.specs.Nodes.{kind_of, operands}
use native.Mathlib.Omega.{arith}
use Rattle.comes.proofs.back_if.Goals as goal

pub operand_place-requires : goal.operand_place-requires
unfolding kind_of operands
operand_place-requires c = (c.requires.0, rw c.requires.1 (omega arith))

pub overflow_sub-result : goal.overflow_sub-result
unfolding kind_of operands
overflow_sub-result c = inner _ _ 12 (c.args.image.now.good.nodes c.args.p (rw (← c.args.image.now.good.lay.node_count_lem) c.requires.0)) c.requires.1 (omega arith)

pub returns-in-Some-true : goal.returns-in-Some-true
returns-in-Some-true c = λ hs D room may k. rw c.operand_place.ensures.0 (if_then _ D hs room _ _ _ may k (rw (c.in-Some-true.is, c.in-Some-true.field-0-test) at c.if_redex.ensures))

pub returns-in-Some-false : goal.returns-in-Some-false
returns-in-Some-false c = λ hs D room may k. if_else _ D hs room _ _ _ may k (rw (c.in-Some-false.is, c.in-Some-false.field-0-test) at c.if_redex.ensures)

pub returns-in-None : goal.returns-in-None
returns-in-None c = λ hs D room may k. if_stuck _ D hs room _ _ _ may k (rw c.in-None.is at c.if_redex.ensures)
