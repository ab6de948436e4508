-- `back::back_plain` meets its contract.
use Rattle.room.specs.TagLaws.{numbered, other_tag}
use Rattle.room.specs.Tags.{tag_in, tag_of}
use Rattle.room.specs.declared.Tag.TheVariants.{Assign, Block, Seq, If, Test, Throw, Try, AddSecond, EqSecond, Loop}
use mathlib.Core.Path.{◌∙◌, refl, sym}
use Rattle.comes.specs.ComesLaws.{loop_turned, seq_turned, try_turned}
use Rattle.comes.specs.FrameLaws.{first_shape, inner, inner_first, node_first, node_second, node_test, tag_left}
use Rattle.image.specs.Nodes.{kind_of, operands}
use Rattle.room.specs.Room.{shape_of}
use Rattle.room.specs.RoomLaws.{fit_variable}
use native.Mathlib.Omega.{arith}
use Rattle.back.proofs.back_plain.Goals as goal

pub back_assign-requires : goal.back_assign-requires
unfolding shape_of kind_of operands
back_assign-requires c = let n = node_first _ _ _ c.requires.1 6 c.args.p refl (c.requires.3 ∙ (numbered _ Assign (sym c.in-Assign.is ∙ c.from.ensures))) c.requires.4 in (rw c.args.image.now.good.lay.node_count_lem n.0, n.1, c.requires.1, c.requires.2)

pub back_block-requires : goal.back_block-requires
back_block-requires c = (fit_variable c.requires.1 (c.requires.3 ∙ (numbered _ Block (sym c.in-Block.is ∙ c.from.ensures))), c.requires.1.long)

pub overflow_sub-result : goal.overflow_sub-result
unfolding shape_of kind_of operands
overflow_sub-result c = let n = node_first _ _ _ c.requires.1 11 c.args.p refl (c.requires.3 ∙ (numbered _ Seq (sym c.in-Seq.is ∙ c.from.ensures))) c.requires.4 in inner _ _ 11 (c.args.image.now.good.nodes c.args.p n.0) n.1 (omega arith)

pub back_if-requires : goal.back_if-requires
unfolding shape_of kind_of operands
back_if-requires c = let n = node_first _ _ _ c.requires.1 12 c.args.p refl (c.requires.3 ∙ (numbered _ If (sym c.in-If.is ∙ c.from.ensures))) c.requires.4 in (rw c.args.image.now.good.lay.node_count_lem n.0, n.1, c.requires.2)

pub back_test-requires : goal.back_test-requires
unfolding shape_of kind_of operands
back_test-requires c = let n = node_test _ _ _ c.requires.1 c.args.p (c.requires.3 ∙ (numbered _ Test (sym c.in-Test.is ∙ c.from.ensures))) c.requires.4 in (inner _ _ 13 (c.args.image.now.good.nodes c.args.p n.0) n.1 (omega arith), c.requires.1.long, c.requires.2)

pub back_add-requires : goal.back_add-requires
unfolding shape_of kind_of operands
back_add-requires c = ((node_second _ _ _ c.requires.1 20 c.args.p refl (c.requires.3 ∙ (numbered _ AddSecond (sym c.in-AddSecond.is ∙ c.from.ensures))) c.requires.4).1, c.requires.2)

pub back_eq-requires : goal.back_eq-requires
unfolding shape_of kind_of operands
back_eq-requires c = ((node_second _ _ _ c.requires.1 21 c.args.p refl (c.requires.3 ∙ (numbered _ EqSecond (sym c.in-EqSecond.is ∙ c.from.ensures))) c.requires.4).1, c.requires.2)

pub back_first-requires : goal.back_first-requires
unfolding tag_of tag_in
back_first-requires c = let f = tag_left _ _ _ c.requires.1 c.args.t c.requires.3 c.requires.0 (other_tag _ 6 Assign _ c.from.ensures refl c.in_default.not-Assign) (other_tag _ 10 Block _ c.from.ensures refl c.in_default.not-Block) (other_tag _ 11 Seq _ c.from.ensures refl c.in_default.not-Seq) (other_tag _ 12 If _ c.from.ensures refl c.in_default.not-If) (other_tag _ 13 Test _ c.from.ensures refl c.in_default.not-Test) (other_tag _ 14 Throw _ c.from.ensures refl c.in_default.not-Throw) (other_tag _ 15 Try _ c.from.ensures refl c.in_default.not-Try) (other_tag _ 20 AddSecond _ c.from.ensures refl c.in_default.not-AddSecond) (other_tag _ 21 EqSecond _ c.from.ensures refl c.in_default.not-EqSecond) (other_tag _ 29 Loop _ c.from.ensures refl c.in_default.not-Loop) in let n = node_first _ _ _ c.requires.1 _ c.args.p (first_shape _ f) c.requires.3 c.requires.4 in (f, inner_first _ _ _ (c.args.image.now.good.nodes c.args.p n.0) n.1 f, c.requires.1.long)

pub returns-in-Assign : goal.returns-in-Assign
returns-in-Assign c = λ D hs may k. c.back_assign.ensures D hs may (rw (numbered _ Assign (sym c.in-Assign.is ∙ c.from.ensures)) at k)

pub returns-in-Block : goal.returns-in-Block
returns-in-Block c = λ D hs may k. c.back_block.ensures _ _ D hs may (rw (numbered _ Block (sym c.in-Block.is ∙ c.from.ensures)) at k)

pub returns-in-Seq : goal.returns-in-Seq
returns-in-Seq c = λ D hs may k. seq_turned _ D hs _ _ _ _ may (rw (numbered _ Seq (sym c.in-Seq.is ∙ c.from.ensures)) at k)

pub returns-in-If : goal.returns-in-If
returns-in-If c = λ D hs may k. c.back_if.ensures hs D _ may (rw (numbered _ If (sym c.in-If.is ∙ c.from.ensures)) at k)

pub returns-in-Test : goal.returns-in-Test
returns-in-Test c = λ D hs may k. c.back_test.ensures _ D hs may (rw (numbered _ Test (sym c.in-Test.is ∙ c.from.ensures)) at k)

pub returns-in-Throw : goal.returns-in-Throw
returns-in-Throw c = λ D hs may k. c.back_throw.ensures _ hs D _ may (rw (numbered _ Throw (sym c.in-Throw.is ∙ c.from.ensures)) at k)

pub returns-in-Try : goal.returns-in-Try
returns-in-Try c = λ D hs may k. try_turned _ D hs _ c.args.p _ _ may (rw (numbered _ Try (sym c.in-Try.is ∙ c.from.ensures)) at k)

pub returns-in-AddSecond : goal.returns-in-AddSecond
returns-in-AddSecond c = λ D hs may k. c.back_add.ensures _ hs D _ may (rw (numbered _ AddSecond (sym c.in-AddSecond.is ∙ c.from.ensures)) at k) refl

pub returns-in-EqSecond : goal.returns-in-EqSecond
returns-in-EqSecond c = λ D hs may k. c.back_eq.ensures _ hs c.args.p D _ may (rw (numbered _ EqSecond (sym c.in-EqSecond.is ∙ c.from.ensures)) at k) refl

pub returns-in-Loop : goal.returns-in-Loop
returns-in-Loop c = λ D hs may k. loop_turned _ D hs _ _ _ _ may (rw (numbered _ Loop (sym c.in-Loop.is ∙ c.from.ensures)) at k)

pub returns-in_default : goal.returns-in_default
returns-in_default c = λ D hs may k. c.back_first.ensures _ D hs may k
