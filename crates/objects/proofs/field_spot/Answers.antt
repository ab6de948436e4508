-- `objects::field_spot` meets its contract.
use Rattle.classes.specs.Types.{low}
use Rattle.laws.specs.Tags.{address_at, address_small}
use Rattle.objects.specs.SpotLaws.{index_few, spot_at, spot_free, spot_missing, spot_not_below, spot_null, spot_other}
use Rattle.redexes.specs.RedexLaws.{object_class}
use mathlib.Core.Path.{◌∙◌, sym}
use native.Mathlib.Omega.{arith}
use Rattle.objects.proofs.field_spot.Goals as goal

pub returns-then-tag-eq-NULL : goal.returns-then-tag-eq-NULL
returns-then-tag-eq-NULL c = spot_null _ _ _ _ _ c.requires.3 c.if-tag-eq-NULL.true

pub returns-then-tag-ne-ADDRESS : goal.returns-then-tag-ne-ADDRESS
returns-then-tag-ne-ADDRESS c = spot_other _ _ _ _ _ c.requires.3 c.if-tag-eq-NULL.false c.if-tag-ne-ADDRESS.true

pub class_at-requires : goal.class_at-requires
class_at-requires c = address_small _ c.requires.3 c.if-tag-ne-ADDRESS.false

pub returns-in_default : goal.returns-in_default
returns-in_default c = let q = address_at _ c.requires.3 c.if-tag-ne-ADDRESS.false in spot_free _ _ _ _ _ c.requires.0 _ q (sym c.class_at.ensures.0 ∙ c.in_default.is)

pub is_subclass-requires : goal.is_subclass-requires
is_subclass-requires c = object_class _ _ _ c.args.table.now.image.good c.requires.0 _ _ (sym c.class_at.ensures.0 ∙ c.in-Some.is)

pub returns-then-not-is_subclass : goal.returns-then-not-is_subclass
returns-then-not-is_subclass c = let q = address_at _ c.requires.3 c.if-tag-ne-ADDRESS.false in let z = sym c.class_at.ensures.0 ∙ c.in-Some.is in spot_not_below _ _ _ _ _ c.requires.0 _ q _ z (low _ _ c.args.table.now.image.good) (sym c.is_subclass.ensures ∙ c.if-not-is_subclass.true)

pub overflow_add-result-in-Some-field_index : goal.overflow_add-result-in-Some-field_index
overflow_add-result-in-Some-field_index c = let i = index_few c.requires.0 _ _ _ (omega (arith, c.requires.1, c.args.table.now.image.good.lay.class_count_lem)) (rw c.in-Some-field_index.is at c.field_index.ensures) in omega arith

pub returns-in-Some-field_index : goal.returns-in-Some-field_index
returns-in-Some-field_index c = let q = address_at _ c.requires.3 c.if-tag-ne-ADDRESS.false in let z = sym c.class_at.ensures.0 ∙ c.in-Some.is in spot_at _ _ _ _ _ c.requires.0 _ q _ z (low _ _ c.args.table.now.image.good) _ (rw c.in-Some-field_index.is at c.field_index.ensures) (sym c.is_subclass.ensures ∙ c.if-not-is_subclass.false)

pub returns-in-None : goal.returns-in-None
returns-in-None c = let q = address_at _ c.requires.3 c.if-tag-ne-ADDRESS.false in let z = sym c.class_at.ensures.0 ∙ c.in-Some.is in spot_missing _ _ _ _ _ c.requires.0 _ q _ z (low _ _ c.args.table.now.image.good) (rw c.in-None.is at c.field_index.ensures) (sym c.is_subclass.ensures ∙ c.if-not-is_subclass.false)
