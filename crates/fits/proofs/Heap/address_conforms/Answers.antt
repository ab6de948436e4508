-- A slot that is free holds no object, and one that is not holds one of a known class.
use Rattle.fits.specs.FitLaws.{class_in, class_type, conforms_free, conforms_object}
use mathlib.Core.Path.{◌∙◌, sym}
use native.Mathlib.Omega.{arith}
use Rattle.fits.proofs.Heap.address_conforms.Goals as goal

pub returns-in_default : goal.returns-in_default
returns-in_default c = conforms_free _ _ _ c.args.self.now.sound _ _ (sym c.class_at.ensures.0 ∙ c.in_default.is)

pub overflow_cast-c : goal.overflow_cast-c
overflow_cast-c c =
    let g = c.args.self.now.table.image.good in
    let k = class_in _ _ _ c.args.self.now.sound _ _ (sym c.class_at.ensures.0 ∙ c.in-Some.is) in
    omega (arith, g.small.classes, g.lay.class_count_lem)

pub is_subtype-requires : goal.is_subtype-requires
is_subtype-requires c = class_type _ _ _ c.args.self.now.sound _ _ (sym c.class_at.ensures.0 ∙ c.in-Some.is)

pub returns : goal.returns
returns c = c.is_subtype.ensures ∙ conforms_object _ _ _ c.args.self.now.sound _ _ _ (sym c.class_at.ensures.0 ∙ c.in-Some.is)
