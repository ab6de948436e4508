-- A slot that is free, or whose fields are values and whose other words are 0.
use Rattle.heap.specs.WordLaws.{class_count_lem, count_few, free_slot, used_slot, values_part, zeros_part}
use Rattle.image.specs.Trailer.{class_count}
use Rattle.std.proofs.Common.{◌≤◌, get_or}
use mathlib.Core.Path.{◌∙◌, sym, refl}
use native.Mathlib.Omega.{arith}
use Rattle.heap.proofs.slot_holds.Goals as goal

pub returns-then-first-eq0 : goal.returns-then-first-eq0
returns-then-first-eq0 c = λ e. free_slot _ _ _ c.requires.0 c.if-first-eq0.true (zeros_part _ _ _ _ refl c.requires.1 (sym c.zeros.ensures ∙ e))

pub returns-then-values : goal.returns-then-values
returns-then-values c =
    let t = c.args.table.now in
    let h : get_or c.args.heap.now c.args.i 0 ≤ class_count t.image.words.now = omega (arith, t.image.good.lay.class_count_lem) in
    let f = count_few _ t.rows.sizes h c.if-first-eq0.false in
    λ e. used_slot _ _ _ c.requires.0 c.if-first-eq0.false h _ (class_count_lem _ t.rows.sizes h c.if-first-eq0.false)
    (values_part _ _ _ _ refl (omega (arith, c.requires.1)) (sym c.values.ensures ∙ c.if-values.true))
    (zeros_part _ _ _ _ (omega arith) c.requires.1 (sym c.zeros-then-values.ensures ∙ e))
