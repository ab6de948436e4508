-- `quick::pair` meets its contract.
use Rattle.quick.specs.KnownLaws.{paired}
use Rattle.quick.proofs.pair.Goals as goal

pub returns : goal.returns
returns c = paired _ _ _ _ _ _ c.in_ok-v.was c.in_ok-w.was (rw c.in_ok-pair_word.was at c.pair_word.ensures)
