-- `comes::back_eq` meets its contract.
use Rattle.comes.specs.ComesLaws.{eq_turned}
use Rattle.comes.proofs.back_eq.Goals as goal

pub returns : goal.returns
returns c = λ ws hs p D room may k q. eq_turned ws D hs room p _ _ may k _ q _ c.eq_redex.ensures.0 c.eq_redex.ensures.1
