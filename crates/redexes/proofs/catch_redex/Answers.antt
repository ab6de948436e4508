-- `redexes::catch_redex` meets its contract.
use Rattle.redexes.specs.RedexLaws.{object_class}
use mathlib.Core.Path.{◌∙◌, sym}
use Rattle.redexes.proofs.catch_redex.Goals as goal

pub is_subclass-requires : goal.is_subclass-requires
is_subclass-requires c = object_class _ _ _ c.args.image.now.good c.requires.0 _ _ (sym c.class_at.ensures.0 ∙ c.in_ok-d.was)
