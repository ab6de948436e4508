-- `quick::word_at` meets its contract.
use Rattle.image.specs.Laws.{begins}
use Rattle.image.specs.Nodes.{node_word}
use Rattle.quick.proofs.word_at.Goals as goal

pub returns : goal.returns
unfolding node_word
returns c = rw (begins _ _ _ c.requires.0.nodes_at)
