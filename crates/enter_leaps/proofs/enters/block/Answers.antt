-- `enter_leaps::enters::block` meets its contract.
use Rattle.pushes.specs.EnterLaws.{block_operand, not_first}
use Rattle.enter_leaps.specs.EnterLaps.{block_leaps}
use Rattle.landings.specs.LandsLaws.{lands_node}
use Rattle.room.specs.Nodes.{block_local}
use Rattle.rules.specs.Trees.{operand}
use native.Mathlib.Numerals.{add-one}
use native.Mathlib.Omega.{arith}
use Rattle.enter_leaps.proofs.enters.block.Goals as goal

pub push_block-requires : goal.push_block-requires
push_block-requires c = let p = c.requires in (p.2, rw c.word_at-x.ensures (block_local _ _ (p.0.holds _ p.1) p.3))

pub overflow_sub-n : goal.overflow_sub-n
overflow_sub-n c = let p = c.requires in not_first _ _ (p.0.holds _ p.1) (block_operand _ _ p.3)

pub returns : goal.returns
unfolding operand
returns c = let p = c.requires in λ hs D inv h low. rw (c.push_block.ensures, c.word_at-x.ensures, c.word_at-t.ensures, c.at_node.ensures, add-one) (lands_node (block_leaps p.0.holds inv h low p.3) (omega arith))
