-- `redexes::call_target` meets its contract.
use Rattle.redexes.specs.RedexLaws.{call_null}
use Rattle.redexes.proofs.call_target.Goals as goal

pub returns-in-1 : goal.returns-in-1
returns-in-1 c = call_null _ c.requires.2 c.in-1.is _ _ _ _
