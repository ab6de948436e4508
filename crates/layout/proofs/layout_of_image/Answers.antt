-- Where 1, 2 and 3 hold, the words are cut into sections.
use Rattle.std.proofs.Common.{sym, ◌∙◌}
use Rattle.layout.specs.Laws.{ceilings}
use Rattle.trailer.specs.Shape.{small}
use Rattle.layout.proofs.layout_of_image.Goals as goal

pub invariant_of-records : goal.invariant_of-records
invariant_of-records c =
    let lay = c.layout_of-layout.ensures in
    record {
      lay = lay;
      small =
          small
          _
          _
          lay
          (sym (ceilings _ _ lay) ∙ sym c.ceiling_place.ensures ∙ c.in_default-ceiling_place.is);
    }
