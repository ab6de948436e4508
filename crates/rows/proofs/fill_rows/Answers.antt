-- Class 0 has no fields, and each class's row is filled after those of the classes below it.
use Rattle.rows.specs.RowLaws.{upto_end, upto_start}
use native.Mathlib.Omega.{arith}
use Rattle.rows.proofs.fill_rows.Goals as goal

pub loop-c-init : goal.loop-c-init
loop-c-init c = upto_start _ _ c.args.image.now.good c.args.counts.now _ c.requires.1 c.requires.2

pub returns : goal.returns
returns c = upto_end _ _ c.args.image.now.good c.requires.0 c.loop-c.invariant (omega (arith, c.args.image.now.good.lay.class_count_lem))
