-- `beyond::beyond_assign` meets its contract.
use Rattle.pushes.specs.Kinds.{kind_number, other_kind}
use Rattle.image.specs.Nodes.{kind_of}
use Rattle.image.specs.declared.Kind.TheVariants.{Value as Literal}
use Rattle.pushes.specs.ArmedLaws.{assign_up, rest_there}
use Rattle.beyond.specs.Beyond.{deep_assign, deep_unarmed}
use Rattle.pushes.specs.EnterLaws.{assign_operand, holds_at, not_first}
use Rattle.room.specs.Nodes.{assign_local}
use mathlib.Core.Path.{◌∙◌, refl, sym}
use native.Mathlib.Omega.{arith}
use Rattle.beyond.proofs.beyond_assign.Goals as goal

pub overflow_sub-m : goal.overflow_sub-m
overflow_sub-m c = not_first _ _ (holds_at c.args.image.now.good c.requires.0) (assign_operand _ _ c.requires.2)

pub returns-in_default : goal.returns-in_default
unfolding kind_of
returns-in_default c = λ D hs may inv past h. (deep_assign _ c.args.image.now.good.nodes D hs _ _ _ inv past c.requires.2 (λ e. other_kind _ 2 Literal _ c.from.ensures refl c.in_default.not-Value (c.node_word.ensures ∙ e)), refl)

pub armed_seq-requires : goal.armed_seq-requires
armed_seq-requires c = (c.requires.1.long, rw c.node_word-x.ensures (assign_local _ _ (holds_at c.args.image.now.good c.requires.0) c.requires.2))

pub returns-then-not-armed_seq : goal.returns-then-not-armed_seq
returns-then-not-armed_seq c = λ D hs may inv past h. (deep_unarmed _ c.args.image.now.good.nodes D hs _ _ _ inv past c.requires.2 (sym c.node_word.ensures ∙ kind_number _ Literal (sym c.in-Value.is ∙ c.from.ensures)) (rw (← c.node_word-x.ensures) (sym (c.armed_seq.ensures _) ∙ c.if-not-armed_seq.true)), refl)

pub overflow_sub-i : goal.overflow_sub-i
overflow_sub-i c = (rest_there _ c.args.image.now.good.nodes _ _ _ c.requires.1 (sym (c.armed_seq.ensures _) ∙ c.if-not-armed_seq.false)).0

pub take_up-rest-requires : goal.take_up-rest-requires
take_up-rest-requires c = let r = rest_there _ c.args.image.now.good.nodes _ _ _ c.requires.1 (sym (c.armed_seq.ensures _) ∙ c.if-not-armed_seq.false) in (omega (arith, c.requires.1.long), rw c.node_word-x.ensures (assign_local _ _ (holds_at c.args.image.now.good c.requires.0) c.requires.2), c.literal_word-w.ensures.1, r.1)

pub returns : goal.returns
returns c = λ D hs may inv past h. (rw (c.take_up-rest.ensures.0, c.take_up-rest.ensures.1, c.node_word-x.ensures) (assign_up _ c.args.image.now.good.nodes D _ _ _ _ inv c.requires.2 (sym c.node_word.ensures ∙ kind_number _ Literal (sym c.in-Value.is ∙ c.from.ensures)) c.literal_word-w.ensures.0 c.literal_word-w.ensures.1 (rw (← c.node_word-x.ensures) (sym (c.armed_seq.ensures _) ∙ c.if-not-armed_seq.false))), refl)

pub literal_word-w-requires : goal.literal_word-w-requires
literal_word-w-requires c = (omega (arith, c.requires.0), sym c.node_word.ensures ∙ kind_number _ Literal (sym c.in-Value.is ∙ c.from.ensures))
