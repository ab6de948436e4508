-- A word by cases: the slot's first, of a free slot, a field, or behind the fields.
use Prim.Native.Nat.{◌*◌, ◌-◌, ◌/◌, ◌<◌}
use Rattle.fits.specs.FitLaws.{row_type, slot_known, value_field, value_rest}
use Rattle.heap.specs.WordLaws.{class_count_lem}
use Rattle.image.specs.Trailer.{class_count}
use Rattle.rules.specs.Heap.{slot_words}
use Rattle.rules.specs.Numbers.{heap_rule}
use lib.ListN.{get_or}
use native.Mathlib.Omega.{arith}
use Rattle.fits.proofs.Heap.word_holds.Goals as goal

pub offset_bounds-self-c : goal.offset_bounds-self-c
offset_bounds-self-c c =
    let g = c.args.self.now.table.image.good in
    let k = slot_known _ _ _ c.args.self.now.sound _ c.if-first-eq0.false in
    omega (arith, g.small.classes, g.lay.class_count_lem)

pub bounds-self-c : goal.bounds-self-c
bounds-self-c c =
    let g = c.args.self.now.table.image.good in
    let k = slot_known _ _ _ c.args.self.now.sound _ c.if-first-eq0.false in
    omega (arith, c.args.self.now.table.rows.sizes.size, g.small.classes, g.lay.class_count_lem)

pub bounds-self-c-then-k-self : goal.bounds-self-c-then-k-self
bounds-self-c-then-k-self c =
    let r = c.args.self.now.table.rows in
    let k = slot_known _ _ _ c.args.self.now.sound _ c.if-first-eq0.false in
    let f = rw (class_count_lem _ r.sizes k c.if-first-eq0.false) at c.if-k-self.true in
    let b : get_or c.args.self.now.words.now (slot_words * (c.args.i / slot_words)) 0 - 1 < class_count c.args.self.now.table.image.words.now = omega arith in
    let s = r.sizes.few _ b in
    omega (arith, r.size)

pub returns-then-k-self : goal.returns-then-k-self
unfolding heap_rule
returns-then-k-self c =
    let r = c.args.self.now.table.rows in
    let k = slot_known _ _ _ c.args.self.now.sound _ c.if-first-eq0.false in
    let f = rw (class_count_lem _ r.sizes k c.if-first-eq0.false) at c.if-k-self.true in
    rw (c.value_conforms.ensures, c.type_of-t.ensures, row_type _ _ r k c.if-first-eq0.false f) (value_field _ _ _ _ _ _ c.if-k-eq0.false c.if-first-eq0.false f)

pub returns-else-k-self : goal.returns-else-k-self
unfolding heap_rule
returns-else-k-self c =
    let k = slot_known _ _ _ c.args.self.now.sound _ c.if-first-eq0.false in
    value_rest _ _ _ _ _ _ c.if-k-eq0.false c.if-first-eq0.false (rw (class_count_lem _ c.args.self.now.table.rows.sizes k c.if-first-eq0.false) at c.if-k-self.false)
