-- `comes::back_throw` meets its contract.
use Rattle.comes.specs.ComesLaws.{throw_null, throw_stuck, throw_turned}
use Rattle.comes.proofs.back_throw.Goals as goal

pub returns-in-Gives : goal.returns-in-Gives
returns-in-Gives c = λ ws hs D room may k. throw_turned ws D hs room _ _ _ may k _ (rw c.in-Gives.is at c.throw_redex.ensures)

pub returns-in-Raises : goal.returns-in-Raises
returns-in-Raises c = λ ws hs D room may k. throw_null ws D hs room _ _ _ may k _ (rw c.in-Raises.is at c.throw_redex.ensures)

pub returns-in-Fails : goal.returns-in-Fails
returns-in-Fails c = λ ws hs D room may k. throw_stuck ws D hs room _ _ _ may k (rw c.in-Fails.is at c.throw_redex.ensures)
