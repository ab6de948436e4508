-- `trailer::layout_of` meets its contract.
use Rattle.trailer.specs.Shape.{opened}
use Rattle.trailer.proofs.layout_of.Goals as goal

pub returns : goal.returns
returns c = simp (c.trailer_word-classes.ensures, c.trailer_word-fields.ensures, c.trailer_word-methods.ensures, c.trailer_word-types.ensures, c.trailer_word-nodes.ensures, c.trailer_word.ensures, c.trailer_word-2.ensures) (opened _ c.requires)
