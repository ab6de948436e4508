-- `redexes::throw_redex` meets its contract.
use Rattle.redexes.specs.RedexLaws.{throw_address}
use Rattle.redexes.proofs.throw_redex.Goals as goal

pub returns-in-4 : goal.returns-in-4
returns-in-4 c = throw_address _ c.requires c.in-4.is
