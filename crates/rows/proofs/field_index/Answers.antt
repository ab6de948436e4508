-- A field that the class declares stands behind those above, by its rank among the class's own.
use Rattle.rows.specs.IndexLaws.{above_known, index_above, index_counted, index_small, index_unseen}
use Rattle.image.specs.Trailer.{class_count}
use Prim.Native.Nat.{◌<◌}
use Rattle.std.proofs.Common.{None, rules}
use mathlib.Core.Path.{◌≡◌, sym}
use native.Mathlib.Omega.{arith}
use Rattle.rows.proofs.field_index.Goals as goal

pub returns-in_err-seen : goal.returns-in_err-seen
returns-in_err-seen c =
    let g = c.args.table.now.image.good in
    let e : c.from_residual.result ≡ None = search rules in
    rw e (sym (index_unseen _ _ g _ _ (omega (arith, c.requires.0, g.lay.class_count_lem)) (rw c.in_err-seen.was at c.look_up.ensures)))

pub returns-then-seen-d : goal.returns-then-seen-d
returns-then-seen-d c =
    let g = c.args.table.now.image.good in
    sym (index_above _ _ g _ _ (omega (arith, c.requires.0, g.lay.class_count_lem)) _ _ (rw c.in_ok-seen.was at c.look_up.ensures) c.if-seen-d.true)

pub bounds-table-s : goal.bounds-table-s
bounds-table-s c =
    let g = c.args.table.now.image.good in
    let b : c.args.d < class_count c.args.table.now.image.words.now = omega (arith, c.requires.0, g.lay.class_count_lem) in
    let k = above_known _ _ g _ _ b _ _ _ (rw c.in_ok-seen.was at c.look_up.ensures) c.if-seen-d.false c.class_word-s.ensures in
    omega (arith, c.args.table.now.rows.sizes.size, g.small.classes, g.lay.class_count_lem)

pub overflow_add-result : goal.overflow_add-result
overflow_add-result c =
    let g = c.args.table.now.image.good in
    let b : c.args.d < class_count c.args.table.now.image.words.now = omega (arith, c.requires.0, g.lay.class_count_lem) in
    let s = rw c.in_ok-seen.was at c.look_up.ensures in
    let k = above_known _ _ g _ _ b _ _ _ s c.if-seen-d.false c.class_word-s.ensures in
    omega (arith, index_small _ _ g _ 0 b _ _ c.args.table.now.rows.sizes k s.within _ c.own_rank-rank.ensures)

pub returns : goal.returns
returns c =
    let g = c.args.table.now.image.good in
    index_counted _ _ g _ _ (omega (arith, c.requires.0, g.lay.class_count_lem)) _ _ _ c.args.table.now.rows.sizes (rw c.in_ok-seen.was at c.look_up.ensures) c.if-seen-d.false c.class_word-s.ensures _ c.own_rank-rank.ensures
