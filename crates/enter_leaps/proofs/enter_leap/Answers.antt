-- `enter_leaps::enter_leap` meets its contract.
use Rattle.enter_leaps.specs.EnterLaps.{after_first, count_two, first_one, first_two, quickly}
use Rattle.quick.specs.KnownLaws.{stored, tabled}
use Rattle.room.specs.Nodes.{kind_below}
use mathlib.Core.Logic.{inr}
use mathlib.Core.Path.{◌∙◌, sym}
use native.Mathlib.Omega.{arith}
use Rattle.enter_leaps.proofs.enter_leap.Goals as goal

pub word_at-kind-requires : goal.word_at-kind-requires
word_at-kind-requires c = (tabled c.args.table.now.image.good, c.requires.0.here, omega arith)

pub new-requires : goal.new-requires
new-requires c = (c.requires.0.here, c.requires.0.fit.long, (sym c.word_at-kind.ensures ∙ c.in-0.is), c.requires.1)

pub leaf-requires : goal.leaf-requires
leaf-requires c = (tabled c.args.table.now.image.good, c.requires.0.here, stored c.requires.0.fit)

pub leaf-requires-in-3 : goal.leaf-requires-in-3
leaf-requires-in-3 c = (tabled c.args.table.now.image.good, c.requires.0.here, stored c.requires.0.fit)

pub call-requires : goal.call-requires
call-requires c = (c.requires.0, c.requires.1, c.requires.2, c.requires.3, (sym c.word_at-kind.ensures ∙ c.in-9.is))

pub block-requires : goal.block-requires
block-requires c = (tabled c.args.table.now.image.good, c.requires.0.here, omega (arith, c.requires.0.long, c.requires.3), (sym c.word_at-kind.ensures ∙ c.in-10.is))

pub overflow_sub-n : goal.overflow_sub-n
overflow_sub-n c = after_first _ _ (c.args.table.now.image.good.nodes _ c.requires.0.here) (first_one _ _ (sym c.word_at-kind.ensures) (inr (inr c.in-1.is)))

pub first-requires : goal.first-requires
first-requires c = omega (arith, c.requires.0.long, c.requires.3)

pub first_of_two-requires : goal.first_of_two-requires
first_of_two-requires c = (tabled c.args.table.now.image.good, c.requires.0.here, omega (arith, count_two _ _ (sym c.word_at-kind.ensures) (inr (inr c.in-8.is))))

pub first-requires-in-8 : goal.first-requires-in-8
first-requires-in-8 c = omega (arith, c.requires.0.long, c.requires.3)

pub with_quick-requires : goal.with_quick-requires
with_quick-requires c = let r = c.in_default.in_default-own.rest in (tabled c.args.table.now.image.good, c.requires.0.here, omega (arith, c.requires.0.long, c.requires.3), sym c.word_at-kind.ensures, quickly _ (rw c.word_at-kind.ensures (kind_below _ _ (c.args.table.now.image.good.nodes _ c.requires.0.here))) r.0.0.0.0.0.0.1 r.0.0.0.0.0.1 r.0.0.0.0.1 r.0.0.0.1 r.0.0.1 r.0.1 r.1, stored c.requires.0.fit, c.requires.1.words, c.requires.2)

pub returns-in-0 : goal.returns-in-0
returns-in-0 c = c.new.ensures _ c.requires.0 c.requires.1 c.requires.3

pub returns-in-2 : goal.returns-in-2
returns-in-2 c = c.leaf.ensures _ _ c.requires.0 c.requires.1 c.requires.3

pub returns-in-3 : goal.returns-in-3
returns-in-3 c = c.leaf-in-3.ensures _ _ c.requires.0 c.requires.1 c.requires.3

pub returns-in-9 : goal.returns-in-9
returns-in-9 c = c.call.ensures

pub returns-in-10 : goal.returns-in-10
returns-in-10 c = c.block.ensures _ _ c.requires.0 c.requires.1 c.requires.3

pub returns-in-1 : goal.returns-in-1
returns-in-1 c = c.first.ensures _ _ c.args.table.now.image.good.nodes (first_one _ _ (sym c.word_at-kind.ensures) (inr (inr c.in-1.is))) _ c.requires.0 c.requires.1 c.requires.3

pub returns-in-8 : goal.returns-in-8
returns-in-8 c = c.first-in-8.ensures _ _ c.args.table.now.image.good.nodes (rw c.first_of_two.ensures.0 (first_two _ _ (sym c.word_at-kind.ensures) (inr (inr c.in-8.is)))) _ c.requires.0 c.requires.1 c.requires.3

pub returns-in_default : goal.returns-in_default
returns-in_default c = c.with_quick.ensures _ c.requires.0 c.requires.1 c.requires.3
