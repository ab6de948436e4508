-- `back_leaps::backs::block` meets its contract.
use Rattle.back_leaps.specs.BackLaps.{block_lands}
use Rattle.back_leaps.proofs.backs.block.Goals as goal

pub returns : goal.returns
returns c = λ ws p D hs k. rw c.at_value.ensures (block_lands ws D hs _ p _ _ k)
