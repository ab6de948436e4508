-- `comes::back_cast` meets its contract.
use Rattle.comes.specs.ComesLaws.{cast_turned}
use Rattle.comes.proofs.back_cast.Goals as goal

pub returns : goal.returns
returns c = λ D room may k. rw c.finish.ensures (cast_turned _ D _ room _ _ _ may k c.cast_redex.result (rw (← c.node_word-c.ensures) c.cast_redex.ensures.0) c.cast_redex.ensures.1)
