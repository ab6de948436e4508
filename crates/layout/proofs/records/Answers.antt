-- No record rule is broken anywhere, so the sections are an image.
use Rattle.std.proofs.Common.{sym, ◌∙◌}
use Rattle.layout.specs.Laws.{good}
use Rattle.layout.proofs.records.Goals as goal

pub invariant_of-result : goal.invariant_of-result
invariant_of-result c =
    record {
      good =
          good
          _
          _
          c.args.sections.now.lay
          c.args.sections.now.small
          (sym c.class_place.ensures ∙ c.in_default.is)
          (sym c.field_place.ensures ∙ c.in_default-field_place.is)
          (sym c.method_place.ensures ∙ c.in_default-method_place.is)
          (sym c.type_place.ensures ∙ c.in_default-type_place.is)
          (sym c.node_place.ensures ∙ c.in_default-node_place.is)
          (sym c.body_place.ensures ∙ c.in_default-body_place.is);
    }
