-- `redexes::method_target` meets its contract.
use Rattle.redexes.specs.RedexLaws.{object_class}
use mathlib.Core.Path.{◌∙◌, sym}
use native.Mathlib.Omega.{arith}
use Rattle.redexes.proofs.method_target.Goals as goal

pub look_up-requires : goal.look_up-requires
look_up-requires c = (object_class _ _ _ c.args.image.now.good c.requires.0 _ _ (sym c.class_at.ensures.0 ∙ c.in-Some.is), c.requires.1)

pub method_word-requires : goal.method_word-requires
method_word-requires c = let s = rw c.in-Some-look_up.is at c.look_up.ensures in (omega (arith, s.within, c.args.image.now.good.lay.method_count_lem), omega arith)
