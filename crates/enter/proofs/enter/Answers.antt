-- `enter::enter` meets its contract.
use Rattle.image.specs.Nodes.{kind_of}
use Rattle.image.specs.declared.Kind.TheVariants.{Block, Call, New, Var, While, Value as Literal}
use Rattle.pushes.specs.Kinds.{first_shape, kind_number, other_kind}
use Rattle.room.specs.Enter.{enter_value}
use Rattle.room.specs.Nodes.{kind_below}
use mathlib.Core.Path.{◌∙◌, refl, sym}
use native.Mathlib.Omega.{arith}
use Rattle.enter.proofs.enter.Goals as goal

pub literal_word-requires : goal.literal_word-requires
literal_word-requires c = (rw c.args.table.now.image.good.lay.node_count_lem c.requires.0.here, sym c.node_word-word.ensures ∙ kind_number _ Literal (sym c.in-Value.is ∙ c.from-kind.ensures))

pub returns-in-Value : goal.returns-in-Value
returns-in-Value c = (enter_value _ c.args.table.now.image.good.nodes _ _ _ _ c.requires.0 _ (sym c.node_word-word.ensures ∙ kind_number _ Literal (sym c.in-Value.is ∙ c.from-kind.ensures)) c.literal_word.ensures.0 c.literal_word.ensures.1, refl)

pub returns-then-depth-l : goal.returns-then-depth-l
returns-then-depth-l c = c.beyond.ensures _ _ _ c.requires.0 c.if-depth-l.true c.requires.1

pub enter_new-requires : goal.enter_new-requires
enter_new-requires c = (rw c.args.table.now.image.good.lay.node_count_lem c.requires.0.here, omega (arith, c.requires.0.long, c.if-depth-l.false), sym c.node_word-word.ensures ∙ kind_number _ New (sym c.in-New.is ∙ c.from-kind.ensures), c.requires.1)

pub enter_var-requires : goal.enter_var-requires
enter_var-requires c = (rw c.args.table.now.image.good.lay.node_count_lem c.requires.0.here, omega (arith, c.requires.0.long, c.if-depth-l.false), sym c.node_word-word.ensures ∙ kind_number _ Var (sym c.in-Var.is ∙ c.from-kind.ensures))

pub enter_call-requires : goal.enter_call-requires
enter_call-requires c = (rw c.args.table.now.image.good.lay.node_count_lem c.requires.0.here, omega (arith, c.requires.0.long, c.if-depth-l.false), sym c.node_word-word.ensures ∙ kind_number _ Call (sym c.in-Call.is ∙ c.from-kind.ensures))

pub enter_block-requires : goal.enter_block-requires
enter_block-requires c = (rw c.args.table.now.image.good.lay.node_count_lem c.requires.0.here, omega (arith, c.requires.0.long, c.if-depth-l.false), sym c.node_word-word.ensures ∙ kind_number _ Block (sym c.in-Block.is ∙ c.from-kind.ensures))

pub enter_while-requires : goal.enter_while-requires
enter_while-requires c = (rw c.args.table.now.image.good.lay.node_count_lem c.requires.0.here, omega (arith, c.requires.0.long, c.if-depth-l.false), sym c.node_word-word.ensures ∙ kind_number _ While (sym c.in-While.is ∙ c.from-kind.ensures))

pub enter_first-requires : goal.enter_first-requires
unfolding kind_of
enter_first-requires c = let b = kind_below _ _ (c.args.table.now.image.good.nodes _ c.requires.0.here) in (rw c.args.table.now.image.good.lay.node_count_lem c.requires.0.here, omega (arith, c.requires.0.long, c.if-depth-l.false), sym c.node_word-word.ensures, first_shape _ (rw c.node_word-word.ensures b) (other_kind _ 0 New _ c.from-kind.ensures refl c.in_default-kind.not-New) (other_kind _ 2 Literal _ c.from-kind.ensures refl c.in_default.not-Value) (other_kind _ 3 Var _ c.from-kind.ensures refl c.in_default-kind.not-Var) (other_kind _ 9 Call _ c.from-kind.ensures refl c.in_default-kind.not-Call) (other_kind _ 10 Block _ c.from-kind.ensures refl c.in_default-kind.not-Block) (other_kind _ 13 While _ c.from-kind.ensures refl c.in_default-kind.not-While))

pub returns-in-New : goal.returns-in-New
returns-in-New c = c.enter_new.ensures _ c.requires.0 (omega (arith, c.if-depth-l.false))

pub returns-in-Var : goal.returns-in-Var
returns-in-Var c = c.enter_var.ensures _ _ _ c.requires.0 (omega (arith, c.if-depth-l.false)) c.requires.1

pub returns-in-Call : goal.returns-in-Call
returns-in-Call c = c.enter_call.ensures _ _ _ c.requires.0 (omega (arith, c.if-depth-l.false)) c.requires.1

pub returns-in-Block : goal.returns-in-Block
returns-in-Block c = c.enter_block.ensures _ _ _ c.requires.0 (omega (arith, c.if-depth-l.false)) c.requires.1

pub returns-in-While : goal.returns-in-While
returns-in-While c = c.enter_while.ensures _ _ _ c.requires.0 (omega (arith, c.if-depth-l.false)) c.requires.1

pub returns-in_default-kind : goal.returns-in_default-kind
returns-in_default-kind c = c.enter_first.ensures _ _ _ c.requires.0 (omega (arith, c.if-depth-l.false)) c.requires.1
