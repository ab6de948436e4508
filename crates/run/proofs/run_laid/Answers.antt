-- `run::run_laid` meets its contract.
use Rattle.run.specs.Laws.{fields_refused}
use mathlib.Core.Path.{◌∙◌, refl, sym}
use native.Mathlib.Omega.{arith}
use Rattle.run.proofs.run_laid.Goals as goal

pub returns-in-Some : goal.returns-in-Some
returns-in-Some c = record { numbers = fields_refused _ _ _ _ _ _ c.requires (sym c.fields_place.ensures ∙ c.in-Some.is); heap = refl; room = refl }

pub run_within-requires : goal.run_within-requires
run_within-requires c = (c.requires, sym c.fields_place.ensures ∙ c.in_default.is, omega (arith, c.args.image.now.good.lay.class_count_lem), omega arith)

pub run_within-requires-else-image-le-FEW_CLASSES : goal.run_within-requires-else-image-le-FEW_CLASSES
run_within-requires-else-image-le-FEW_CLASSES c = (c.requires, sym c.fields_place.ensures ∙ c.in_default.is, omega (arith, c.args.image.now.good.small.classes, c.args.image.now.good.lay.class_count_lem), omega arith)
