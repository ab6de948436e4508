-- The superclass's fields are copied, and the class's own follow.
use Prim.Native.Nat.{◌+◌, ◌-◌}
use Rattle.rows.specs.RowLaws.{above_short, part_end, part_fits, part_on, part_start}
use lib.ListN.{get_or}
use mathlib.Core.Path.{◌≡◌, refl}
use native.Mathlib.Omega.{arith}
use Rattle.rows.proofs.fill_row.Goals as goal

pub bounds-counts-s : goal.bounds-counts-s
bounds-counts-s c =
    let a = above_short _ _ c.args.image.now.good c.requires.3 c.requires.0 c.requires.1 c.requires.2 c.class_word-s.ensures in
    omega (arith, c.requires.0.count_size)

pub copy_row-requires : goal.copy_row-requires
copy_row-requires c =
    let a = above_short _ _ c.args.image.now.good c.requires.3 c.requires.0 c.requires.1 c.requires.2 c.class_word-s.ensures in
    (a.0, a.1, a.2, omega (arith, c.requires.2, c.requires.0.type_size))

pub loop-j-init : goal.loop-j-init
loop-j-init c =
    let p = c.requires in
    let z : get_or c.args.counts.now c.class_word-s.result 0 + (c.args.i - c.args.i) ≡ get_or c.args.counts.now c.class_word-s.result 0 = omega arith in
    rw z (part_start _ _ c.args.image.now.good p.3 p.0 p.1 p.2 c.class_word-s.ensures refl c.copy_row.ensures)

pub overflow_add-types : goal.overflow_add-types
overflow_add-types c =
    let o = c.own_end-end.ensures in
    let f = part_fits _ _ c.args.image.now.good c.requires.3 c.loop-j.invariant c.requires.1 c.requires.2 (omega (arith, o.high)) (o.owned _ c.loop-j.auto.j c.loop-j-test.true) in
    omega arith

pub overflow_add-types-in-loop-j : goal.overflow_add-types-in-loop-j
overflow_add-types-in-loop-j c =
    let o = c.own_end-end.ensures in
    let f = part_fits _ _ c.args.image.now.good c.requires.3 c.loop-j.invariant c.requires.1 c.requires.2 (omega (arith, o.high)) (o.owned _ c.loop-j.auto.j c.loop-j-test.true) in
    omega arith

pub offset_bounds-types-c : goal.offset_bounds-types-c
offset_bounds-types-c c =
    let o = c.own_end-end.ensures in
    let f = part_fits _ _ c.args.image.now.good c.requires.3 c.loop-j.invariant c.requires.1 c.requires.2 (omega (arith, o.high)) (o.owned _ c.loop-j.auto.j c.loop-j-test.true) in
    omega arith

pub bounds-types-c : goal.bounds-types-c
bounds-types-c c =
    let o = c.own_end-end.ensures in
    let f = part_fits _ _ c.args.image.now.good c.requires.3 c.loop-j.invariant c.requires.1 c.requires.2 (omega (arith, o.high)) (o.owned _ c.loop-j.auto.j c.loop-j-test.true) in
    omega arith

pub loop-j-preserved : goal.loop-j-preserved
loop-j-preserved c =
    let p = c.requires in
    let o = c.own_end-end.ensures in
    let z : get_or c.args.counts.now c.class_word-s.result 0 + (c.loop-j.j + 1 - c.args.i) ≡ get_or c.args.counts.now c.class_word-s.result 0 + (c.loop-j.j - c.args.i) + 1 = omega arith in
    rw z (part_on _ _ c.args.image.now.good p.3 c.loop-j.invariant p.1 p.2 (omega (arith, o.high)) (o.owned _ c.loop-j.auto.j c.loop-j-test.true) _ c.field_word.ensures)

pub overflow_add-counts : goal.overflow_add-counts
overflow_add-counts c =
    let g = c.args.image.now.good in
    let a = above_short _ _ c.args.image.now.good c.requires.3 c.requires.0 c.requires.1 c.requires.2 c.class_word-s.ensures in
    omega (arith, c.own_end-end.ensures.high, g.small.fields, g.lay.field_count_lem)

pub returns : goal.returns
returns c =
    let p = c.requires in
    let e : c.loop-j.j ≡ c.own_end-end.result = omega (arith, c.own_end-end.ensures.low) in
    part_end _ _ c.args.image.now.good p.3 p.0 p.1 p.2 c.own_end-end.ensures (rw e at c.loop-j.invariant)
