-- The invariant: below c the table has all fields of each class, from c on its own; and scanning on from c gives the answer.
use Rattle.class_rules.specs.Totals.{few_hold, many_fail, start_one, total_is, total_small, totals_more, totals_start}
use Rattle.classes.specs.Types.{super_below}
use Rattle.order.specs.Rules.{first_place}
use Rattle.order.specs.Scan.{hit, none, on}
use Rattle.rules.specs.Numbers.{fields_rule}
use native.Mathlib.Omega.{arith}
use Rattle.class_rules.proofs.fields_place.Goals as goal

pub loop-c-init : goal.loop-c-init
loop-c-init c =
    (totals_start _ _ c.args.image.now.good c.own_counts-counts.ensures, start_one _ _ c.args.image.now.good)

pub bounds-counts-s : goal.bounds-counts-s
bounds-counts-s c =
    let b = super_below _ _ c.args.image.now.good c.loop-c.c (omega arith) (omega arith) in omega arith

pub bounds-counts-c : goal.bounds-counts-c
bounds-counts-c c = omega arith

pub overflow_add-total : goal.overflow_add-total
overflow_add-total c =
    let i = c.loop-c.invariant in omega (arith, total_small _ _ c.args.image.now.good i.0 (omega arith) (omega arith) _ c.class_word-s.ensures)

pub returns-then-total-gt-MOST_FIELDS_ABOVE : goal.returns-then-total-gt-MOST_FIELDS_ABOVE
unfolding first_place fields_rule
returns-then-total-gt-MOST_FIELDS_ABOVE c =
    let i = c.loop-c.invariant in
    let t = total_is _ _ c.args.image.now.good i.0 (omega arith) (omega arith) _ c.class_word-s.ensures in
    hit i.1 (omega arith) (many_fail _ _ c.args.image.now.good _ (omega arith))

pub loop-c-preserved : goal.loop-c-preserved
loop-c-preserved c =
    let i = c.loop-c.invariant in
    let t = total_is _ _ c.args.image.now.good i.0 (omega arith) (omega arith) _ c.class_word-s.ensures in (
      totals_more _ _ c.args.image.now.good i.0 (omega arith) (omega arith) _ t (omega arith),
      on i.1 (omega arith) (few_hold _ _ c.args.image.now.good _ (omega arith)),
    )

pub returns : goal.returns
unfolding first_place fields_rule
returns c = none c.loop-c.invariant.1 (omega arith)
