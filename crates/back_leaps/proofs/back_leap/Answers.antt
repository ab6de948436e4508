-- `back_leaps::back_leap` meets its contract.
use Rattle.room.specs.TagLaws.{numbered}
use Rattle.room.specs.declared.Tag.TheVariants.{AddFirst, EqFirst, Assign, Get, SetFirst, Block, Seq, If, Test, AddSecond, EqSecond, SetSecond, Throw, Try, Loop}
use Rattle.room.specs.RoomLaws.{kept_refl}
use Rattle.image.specs.Nodes.{kind_of, operands}
use Rattle.back_leaps.specs.BackLaps.{comes, fielded, first_node, get_field_lem, inner_node, long_room, loop_lands, second_node, seq_lands, set_field, test_node, try_lands}
use Rattle.memo.specs.MemoLaws.{node_small}
use Rattle.quick.specs.KnownLaws.{stored, tabled}
use Rattle.room.specs.Room.{shape_of}
use Rattle.room.specs.RoomLaws.{fit_variable}
use mathlib.Core.Logic.{inl, inr}
use mathlib.Core.Path.{◌∙◌, refl, sym}
use native.Mathlib.Omega.{arith}
use Rattle.back_leaps.proofs.back_leap.Goals as goal

pub first_of_pair-requires : goal.first_of_pair-requires
unfolding shape_of kind_of operands
first_of_pair-requires c = let n = first_node _ _ _ _ _ _ _ 4 refl (comes c.args.image.now.good c.requires 4 (numbered _ AddFirst (sym c.in-AddFirst.is ∙ c.from.ensures))) in (tabled c.args.image.now.good, stored c.requires.0.fit, inl refl, inner_node c.args.image.now.good c.requires _ 4 n (omega arith), n.0, long_room c.args.image.now.good c.requires, c.requires.0.here)

pub first_of_pair-requires-in-EqFirst : goal.first_of_pair-requires-in-EqFirst
unfolding shape_of kind_of operands
first_of_pair-requires-in-EqFirst c = let n = first_node _ _ _ _ _ _ _ 5 refl (comes c.args.image.now.good c.requires 5 (numbered _ EqFirst (sym c.in-EqFirst.is ∙ c.from.ensures))) in (tabled c.args.image.now.good, stored c.requires.0.fit, inr refl, inner_node c.args.image.now.good c.requires _ 5 n (omega arith), n.0, long_room c.args.image.now.good c.requires, c.requires.0.here)

pub assign-requires : goal.assign-requires
unfolding shape_of kind_of operands
assign-requires c = (tabled c.args.image.now.good, first_node _ _ _ _ _ _ _ 6 refl (comes c.args.image.now.good c.requires 6 (numbered _ Assign (sym c.in-Assign.is ∙ c.from.ensures))), long_room c.args.image.now.good c.requires, c.requires.0.here)

pub get-requires : goal.get-requires
unfolding shape_of kind_of operands
get-requires c = let f = get_field_lem _ _ _ _ _ _ _ (comes c.args.image.now.good c.requires 7 (numbered _ Get (sym c.in-Get.is ∙ c.from.ensures))) in (node_small _ _ c.args.image.now.good _ f.0, c.requires.0.here, fielded c.args.image.now.good c.requires _ f)

pub first-requires : goal.first-requires
unfolding shape_of kind_of operands
first-requires c = let n = first_node _ _ _ _ _ _ _ 8 refl (comes c.args.image.now.good c.requires 8 (numbered _ SetFirst (sym c.in-SetFirst.is ∙ c.from.ensures))) in (inr refl, inner_node c.args.image.now.good c.requires _ 8 n (omega arith), long_room c.args.image.now.good c.requires)

pub block-requires : goal.block-requires
block-requires c = (fit_variable c.requires.0.fit (numbered _ Block (sym c.in-Block.is ∙ c.from.ensures)), long_room c.args.image.now.good c.requires)

pub overflow_sub-p : goal.overflow_sub-p
unfolding shape_of kind_of operands
overflow_sub-p c = let n = first_node _ _ _ _ _ _ _ 11 refl (comes c.args.image.now.good c.requires 11 (numbered _ Seq (sym c.in-Seq.is ∙ c.from.ensures))) in inner_node c.args.image.now.good c.requires _ 11 n (omega arith)

pub choice-requires : goal.choice-requires
unfolding shape_of kind_of operands
choice-requires c = (tabled c.args.image.now.good, first_node _ _ _ _ _ _ _ 12 refl (comes c.args.image.now.good c.requires 12 (numbered _ If (sym c.in-If.is ∙ c.from.ensures))))

pub test-requires : goal.test-requires
unfolding shape_of kind_of operands
test-requires c = let n = test_node _ _ _ _ _ _ _ (comes c.args.image.now.good c.requires 13 (numbered _ Test (sym c.in-Test.is ∙ c.from.ensures))) in (inner_node c.args.image.now.good c.requires _ 13 n (omega arith), long_room c.args.image.now.good c.requires)

pub throw-requires : goal.throw-requires
throw-requires c = c.requires.0.here

pub second_of_pair-requires : goal.second_of_pair-requires
unfolding shape_of kind_of operands
second_of_pair-requires c = (inl refl, (second_node _ _ _ _ _ _ _ 20 refl (comes c.args.image.now.good c.requires 20 (numbered _ AddSecond (sym c.in-AddSecond.is ∙ c.from.ensures)))).1, c.requires.0.here)

pub second_of_pair-requires-in-EqSecond : goal.second_of_pair-requires-in-EqSecond
unfolding shape_of kind_of operands
second_of_pair-requires-in-EqSecond c = (inr refl, (second_node _ _ _ _ _ _ _ 21 refl (comes c.args.image.now.good c.requires 21 (numbered _ EqSecond (sym c.in-EqSecond.is ∙ c.from.ensures)))).1, c.requires.0.here)

pub set-requires : goal.set-requires
unfolding shape_of kind_of operands
set-requires c = let k = comes c.args.image.now.good c.requires 24 (numbered _ SetSecond (sym c.in-SetSecond.is ∙ c.from.ensures)) in let f = set_field _ _ _ _ _ _ _ k in (node_small _ _ c.args.image.now.good _ f.0, (second_node _ _ _ _ _ _ _ 24 refl k).1, fielded c.args.image.now.good c.requires _ f)

pub returns-in-AddFirst : goal.returns-in-AddFirst
returns-in-AddFirst c = c.first_of_pair.ensures _ _ (comes c.args.image.now.good c.requires 4 (numbered _ AddFirst (sym c.in-AddFirst.is ∙ c.from.ensures)))

pub returns-in-EqFirst : goal.returns-in-EqFirst
returns-in-EqFirst c = c.first_of_pair-in-EqFirst.ensures _ _ (comes c.args.image.now.good c.requires 5 (numbered _ EqFirst (sym c.in-EqFirst.is ∙ c.from.ensures)))

pub returns-in-Assign : goal.returns-in-Assign
returns-in-Assign c = c.assign.ensures _ _ (comes c.args.image.now.good c.requires 6 (numbered _ Assign (sym c.in-Assign.is ∙ c.from.ensures)))

pub returns-in-Get : goal.returns-in-Get
returns-in-Get c = c.get.ensures _ c.requires.2 _ _ (comes c.args.image.now.good c.requires 7 (numbered _ Get (sym c.in-Get.is ∙ c.from.ensures)))

pub returns-in-SetFirst : goal.returns-in-SetFirst
returns-in-SetFirst c = c.first.ensures _ _ _ (comes c.args.image.now.good c.requires 8 (numbered _ SetFirst (sym c.in-SetFirst.is ∙ c.from.ensures)))

pub returns-in-Block : goal.returns-in-Block
returns-in-Block c = c.block.ensures _ _ _ _ (comes c.args.image.now.good c.requires 10 (numbered _ Block (sym c.in-Block.is ∙ c.from.ensures)))

pub returns-in-Seq : goal.returns-in-Seq
returns-in-Seq c = rw c.at_node.ensures (seq_lands _ _ _ _ _ _ _ (comes c.args.image.now.good c.requires 11 (numbered _ Seq (sym c.in-Seq.is ∙ c.from.ensures))))

pub returns-in-If : goal.returns-in-If
returns-in-If c = c.choice.ensures _ _ _ (comes c.args.image.now.good c.requires 12 (numbered _ If (sym c.in-If.is ∙ c.from.ensures)))

pub returns-in-Test : goal.returns-in-Test
returns-in-Test c = c.test.ensures _ _ _ (comes c.args.image.now.good c.requires 13 (numbered _ Test (sym c.in-Test.is ∙ c.from.ensures)))

pub returns-in-Throw : goal.returns-in-Throw
returns-in-Throw c = c.throw.ensures _ _ _ _ (comes c.args.image.now.good c.requires 14 (numbered _ Throw (sym c.in-Throw.is ∙ c.from.ensures)))

pub returns-in-Try : goal.returns-in-Try
returns-in-Try c = rw c.at_value.ensures (try_lands _ _ _ _ _ _ _ (comes c.args.image.now.good c.requires 15 (numbered _ Try (sym c.in-Try.is ∙ c.from.ensures))))

pub returns-in-AddSecond : goal.returns-in-AddSecond
returns-in-AddSecond c = c.second_of_pair.ensures _ _ _ refl _ _ (comes c.args.image.now.good c.requires 20 (numbered _ AddSecond (sym c.in-AddSecond.is ∙ c.from.ensures)))

pub returns-in-EqSecond : goal.returns-in-EqSecond
returns-in-EqSecond c = c.second_of_pair-in-EqSecond.ensures _ _ _ refl _ _ (comes c.args.image.now.good c.requires 21 (numbered _ EqSecond (sym c.in-EqSecond.is ∙ c.from.ensures)))

pub returns-in-SetSecond : goal.returns-in-SetSecond
returns-in-SetSecond c = c.set.ensures _ c.requires.2 _ _ (comes c.args.image.now.good c.requires 24 (numbered _ SetSecond (sym c.in-SetSecond.is ∙ c.from.ensures))) refl

pub returns-in-Loop : goal.returns-in-Loop
returns-in-Loop c = rw c.at_node-in-Loop.ensures (loop_lands _ _ _ _ _ _ _ (comes c.args.image.now.good c.requires 29 (numbered _ Loop (sym c.in-Loop.is ∙ c.from.ensures))))

pub returns-in_default : goal.returns-in_default
returns-in_default c = (kept_refl _ _, refl)
