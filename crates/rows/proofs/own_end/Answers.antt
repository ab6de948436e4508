-- Another class ends the records of c, or the table does.
use Rattle.rows.specs.RowLaws.{own_ends}
use mathlib.Core.Path.{◌∙◌}
use native.Mathlib.Omega.{arith}
use Rattle.rows.proofs.own_end.Goals as goal

pub returns-then-field_word-c : goal.returns-then-field_word-c
returns-then-field_word-c c =
    let g = c.args.image.now.good in
    own_ends _ _ g c.requires.1 (omega arith) (omega (arith, g.lay.field_count_lem)) (λ e. c.if-field_word-c.true (c.field_word.ensures ∙ e)) c.loop-j.invariant
