-- `enter::enter_block` meets its contract.
use Rattle.pushes.specs.EnterLaws.{block_operand, holds_at, not_first}
use Rattle.room.specs.Nodes.{block_local, enter_block}
use Rattle.rules.specs.Trees.{operand}
use mathlib.Core.Path.{refl}
use native.Mathlib.Numerals.{add-one}
use Rattle.enter.proofs.enter_block.Goals as goal

pub push_block-requires : goal.push_block-requires
push_block-requires c = (c.requires.1, rw c.node_word-x.ensures (block_local _ _ (holds_at c.args.image.now.good c.requires.0) c.requires.2))

pub overflow_sub-result : goal.overflow_sub-result
overflow_sub-result c = not_first _ _ (holds_at c.args.image.now.good c.requires.0) (block_operand _ _ c.requires.2)

pub returns : goal.returns
unfolding operand
returns c = λ D hs may inv low h. (rw (c.push_block.ensures, c.node_word-x.ensures, c.node_word-t.ensures, add-one) (enter_block _ c.args.image.now.good.nodes D hs _ _ _ inv low c.requires.2), refl)
