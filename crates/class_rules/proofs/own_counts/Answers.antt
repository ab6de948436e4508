-- The invariant: the counts are those of the fields passed.
use Rattle.class_rules.specs.Totals.{count_le, counted_more, counted_none, owner_small}
use Rattle.image.specs.Trailer.{field_count}
use mathlib.Core.Path.{◌≡◌}
use native.Mathlib.Omega.{arith}
use Rattle.class_rules.proofs.own_counts.Goals as goal

pub loop-i-init : goal.loop-i-init
loop-i-init c = counted_none _

pub bounds-counts-c : goal.bounds-counts-c
bounds-counts-c c =
    let o = owner_small _ _ c.args.image.now.good c.loop-i.i (omega arith) in omega arith

pub overflow_add-counts : goal.overflow_add-counts
overflow_add-counts c =
    let o = owner_small _ _ c.args.image.now.good c.loop-i.i (omega arith) in
    omega (arith, c.loop-i.invariant.each c.field_word-c.result (omega arith), count_le c.args.image.now.words.now c.loop-i.i c.field_word-c.result, c.args.image.now.good.small.fields)

pub bounds-counts-c-in-loop-i : goal.bounds-counts-c-in-loop-i
bounds-counts-c-in-loop-i c =
    let o = owner_small _ _ c.args.image.now.good c.loop-i.i (omega arith) in omega arith

pub loop-i-preserved : goal.loop-i-preserved
loop-i-preserved c =
    let o = owner_small _ _ c.args.image.now.good c.loop-i.i (omega arith) in
    counted_more _ c.loop-i.invariant _ c.field_word-c.ensures (omega arith)

pub returns : goal.returns
returns c =
    let e : c.loop-i.i ≡ field_count c.args.image.now.words.now = omega arith in rw (← e) c.loop-i.invariant
