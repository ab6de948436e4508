-- `comes::back_block` meets its contract.
use Rattle.comes.specs.ComesLaws.{block_turned}
use Rattle.comes.proofs.back_block.Goals as goal

pub returns : goal.returns
returns c = λ ws p D hs may k. block_turned ws D hs _ p _ _ may k
