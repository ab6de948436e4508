-- `comes::back_add` meets its contract.
use Rattle.comes.specs.ComesLaws.{add_turned}
use Rattle.comes.proofs.back_add.Goals as goal

pub returns : goal.returns
returns c = λ ws hs D room may k q. rw c.finish.ensures (add_turned ws D hs room _ _ _ may k _ q c.add_redex.result (c.add_redex.ensures.0 _) c.add_redex.ensures.1)
