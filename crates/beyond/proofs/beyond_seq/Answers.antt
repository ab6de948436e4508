-- `beyond::beyond_seq` meets its contract.
use Rattle.pushes.specs.Kinds.{kind_number, other_kind}
use Rattle.image.specs.Nodes.{kind_of}
use Rattle.image.specs.declared.Kind.TheVariants.{Assign, Value as Literal}
use Rattle.beyond.specs.Beyond.{deep_seq, deep_seq_assign, deep_seq_unarmed}
use Rattle.pushes.specs.EnterLaws.{assign_operand, holds_at, not_first, seq_operand}
use Rattle.pushes.specs.TakeUp.{seq_takes}
use Rattle.laws.specs.Tags.{tag_small}
use Rattle.room.specs.Nodes.{assign_local}
use mathlib.Core.Path.{◌∙◌, refl, sym}
use native.Mathlib.Numerals.{add-one}
use native.Mathlib.Omega.{arith}
use Rattle.beyond.proofs.beyond_seq.Goals as goal

pub operand_place-m-requires : goal.operand_place-m-requires
operand_place-m-requires c = (c.requires.0, seq_operand _ _ c.requires.2)

pub returns-in_default : goal.returns-in_default
unfolding kind_of
returns-in_default c = λ D hs may inv past h. (deep_seq _ c.args.image.now.good.nodes D hs _ _ _ inv past _ c.requires.2 c.operand_place-m.ensures.0 (λ e. other_kind _ 6 Assign _ c.from.ensures refl c.in_default.not-Assign (c.node_word.ensures ∙ e)), refl)

pub overflow_sub-v : goal.overflow_sub-v
overflow_sub-v c = not_first _ _ (holds_at c.args.image.now.good (omega (arith, c.requires.0, c.operand_place-m.ensures.1))) (assign_operand _ _ (sym c.node_word.ensures ∙ kind_number _ Assign (sym c.in-Assign.is ∙ c.from.ensures)))

pub returns-in_default-from : goal.returns-in_default-from
unfolding kind_of
returns-in_default-from c = λ D hs may inv past h. (deep_seq_assign _ c.args.image.now.good.nodes D hs _ _ _ inv past _ c.requires.2 c.operand_place-m.ensures.0 (sym c.node_word.ensures ∙ kind_number _ Assign (sym c.in-Assign.is ∙ c.from.ensures)) (λ e. other_kind _ 2 Literal _ c.from-2.ensures refl c.in_default-from.not-Value (c.node_word-2.ensures ∙ e)), refl)

pub armed-requires : goal.armed-requires
armed-requires c = (c.requires.1.long, rw c.node_word-x.ensures (assign_local _ _ (holds_at c.args.image.now.good (omega (arith, c.requires.0, c.operand_place-m.ensures.1))) (sym c.node_word.ensures ∙ kind_number _ Assign (sym c.in-Assign.is ∙ c.from.ensures))))

pub returns-then-not-armed : goal.returns-then-not-armed
returns-then-not-armed c = λ D hs may inv past h. (deep_seq_unarmed _ c.args.image.now.good.nodes D hs _ _ _ inv past _ c.requires.2 c.operand_place-m.ensures.0 (sym c.node_word.ensures ∙ kind_number _ Assign (sym c.in-Assign.is ∙ c.from.ensures)) (sym c.node_word-2.ensures ∙ kind_number _ Literal (sym c.in-Value.is ∙ c.from-2.ensures)) (rw (← c.node_word-x.ensures) (sym (c.armed.ensures _) ∙ c.if-not-armed.true)), refl)

pub overflow_add-room : goal.overflow_add-room
overflow_add-room c = let t = tag_small c.literal_word.result c.literal_word.ensures.1 in omega arith

pub bounds-room-x : goal.bounds-room-x
bounds-room-x c = let b = (assign_local _ _ (holds_at c.args.image.now.good (omega (arith, c.requires.0, c.operand_place-m.ensures.1))) (sym c.node_word.ensures ∙ kind_number _ Assign (sym c.in-Assign.is ∙ c.from.ensures))) in rw c.node_word-x.ensures (omega (arith, c.requires.1.long))

pub returns : goal.returns
returns c = λ D hs may inv past h. (rw (add-one c.literal_word.result, c.node_word-x.ensures) (seq_takes _ c.args.image.now.good.nodes D _ _ _ _ _ inv c.requires.2 c.operand_place-m.ensures.0 (sym c.node_word.ensures ∙ kind_number _ Assign (sym c.in-Assign.is ∙ c.from.ensures)) (sym c.node_word-2.ensures ∙ kind_number _ Literal (sym c.in-Value.is ∙ c.from-2.ensures)) c.literal_word.ensures.0 c.literal_word.ensures.1 (assign_local _ _ (holds_at c.args.image.now.good (omega (arith, c.requires.0, c.operand_place-m.ensures.1))) (sym c.node_word.ensures ∙ kind_number _ Assign (sym c.in-Assign.is ∙ c.from.ensures))) (rw (← c.node_word-x.ensures) (sym (c.armed.ensures _) ∙ c.if-not-armed.false))), refl)

pub literal_word-requires : goal.literal_word-requires
literal_word-requires c = (omega (arith, c.requires.0, c.operand_place-m.ensures.1), sym c.node_word-2.ensures ∙ kind_number _ Literal (sym c.in-Value.is ∙ c.from-2.ensures))
