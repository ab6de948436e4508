-- A section that ends at the last distance leaves room for the trailer.
use Rattle.std.proofs.Common.{sym, ◌∙◌, arith}
use Rattle.trailer.specs.Shape.{section}
use Rattle.trailer.proofs.last_holds.Goals as goal

pub overflow_sub-result : goal.overflow_sub-result
overflow_sub-result c = omega (arith, (section _ _ _ (sym c.section_holds.ensures ∙ c.if-section_holds.true)).low)
