-- `objects::new_object` meets its contract.
use Prim.Native.Nat.{◌<◌}
use Rattle.image.specs.Trailer.{class_count}
use Rattle.objects.specs.MadeLaws.{made_whole, making_on, row_default}
use mathlib.Core.Path.{◌∙◌}
use native.Mathlib.Omega.{arith}
use Rattle.objects.proofs.new_object.Goals as goal

pub loop-k-preserved : goal.loop-k-preserved
loop-k-preserved c = let y = c.args.table.now.image.good.lay.class_count_lem in let b : c.args.c < class_count c.args.table.now.image.words.now = omega (arith, c.requires.1) in let m = c.args.table.now.image.good.small.classes in let n = c.args.table.now.rows.sizes.count _ b in let f = c.args.table.now.rows.sizes.few _ b in let s = c.loop-k.invariant.1 in (omega arith, making_on _ _ _ _ s (omega arith) _ (c.default_word.ensures ∙ row_default c.args.table.now.rows _ _ b (omega arith)))

pub returns : goal.returns
returns c = let y = c.args.table.now.image.good.lay.class_count_lem in let b : c.args.c < class_count c.args.table.now.image.words.now = omega (arith, c.requires.1) in let m = c.args.table.now.image.good.small.classes in let n = c.args.table.now.rows.sizes.count _ b in let f = c.args.table.now.rows.sizes.few _ b in made_whole _ _ c.requires.0 _ _ c.requires.2 c.requires.3 b c.loop-k.invariant.1 (omega arith)
