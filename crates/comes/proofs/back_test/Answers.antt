-- `comes::back_test` meets its contract.
use Rattle.comes.specs.ComesLaws.{test_again, test_over, test_stuck}
use native.Mathlib.Numerals.{add-one}
use Rattle.comes.proofs.back_test.Goals as goal

pub returns-in-Some-true : goal.returns-in-Some-true
returns-in-Some-true c = λ ws D hs may k. rw add-one (test_again ws D hs _ _ _ _ may k (rw (c.in-Some-true.is, c.in-Some-true.field-0-test) at c.if_redex.ensures))

pub returns-in-Some-false : goal.returns-in-Some-false
returns-in-Some-false c = λ ws D hs may k. test_over ws D hs _ _ _ _ may k (rw (c.in-Some-false.is, c.in-Some-false.field-0-test) at c.if_redex.ensures)

pub returns-in-None : goal.returns-in-None
returns-in-None c = λ ws D hs may k. test_stuck ws D hs _ _ _ _ may k (rw c.in-None.is at c.if_redex.ensures)
