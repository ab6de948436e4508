-- `calls::call` meets its contract.
use Rattle.calls.specs.CallLaws.{body_node, call_fails, call_goes, call_raises, call_sunk, callable, few, operand_value}
use Rattle.room.specs.Back.{is_call}
use Rattle.room.specs.Nodes.{call_name}
use mathlib.Core.Path.{refl}
use native.Mathlib.Omega.{arith}
use Rattle.calls.proofs.call.Goals as goal

pub overflow_add-room : goal.overflow_add-room
overflow_add-room c = let f = few _ c.args.image.now.good.nodes _ c.args.heap.now _ _ _ c.requires.0 c.requires.2 in omega (arith, f, c.requires.4, c.requires.5, c.requires.0.long, c.requires.0.level)

pub overflow_add-room-2 : goal.overflow_add-room-2
overflow_add-room-2 c = let f = few _ c.args.image.now.good.nodes _ c.args.heap.now _ _ _ c.requires.0 c.requires.2 in omega (arith, f, c.requires.4, c.requires.5, c.requires.0.long, c.requires.0.level)

pub offset_bounds-room-at : goal.offset_bounds-room-at
offset_bounds-room-at c = let f = few _ c.args.image.now.good.nodes _ c.args.heap.now _ _ _ c.requires.0 c.requires.2 in omega (arith, f, c.requires.4, c.requires.5, c.requires.0.long, c.requires.0.level)

pub bounds-room-at : goal.bounds-room-at
bounds-room-at c = let f = few _ c.args.image.now.good.nodes _ c.args.heap.now _ _ _ c.requires.0 c.requires.2 in omega (arith, f, c.requires.4, c.requires.5, c.requires.0.long, c.requires.0.level)

pub node_word-name-requires : goal.node_word-name-requires
node_word-name-requires c = let n = (is_call _ c.args.image.now.good.nodes _ c.args.heap.now _ _ _ c.requires.0 c.requires.2).0 in (rw (c.requires.3, c.args.image.now.good.lay.node_count_lem) n.0, omega arith)

pub call_target-requires : goal.call_target-requires
call_target-requires c = let n = (is_call _ c.args.image.now.good.nodes _ c.args.heap.now _ _ _ c.requires.0 c.requires.2).0 in (c.requires.1.words, rw (c.node_word-name.ensures, c.requires.3) (call_name _ _ (c.args.image.now.good.nodes _ n.0) n.1), rw c.requires.4 (operand_value _ c.args.image.now.good.nodes _ c.args.heap.now _ _ _ c.requires.0 c.requires.2 0 (omega arith)))

pub overflow_add-i : goal.overflow_add-i
overflow_add-i c = let f = few _ c.args.image.now.good.nodes _ c.args.heap.now _ _ _ c.requires.0 c.requires.2 in omega (arith, f, c.requires.4, c.requires.5, c.requires.0.long, c.requires.0.level)

pub returns-then-depth-i : goal.returns-then-depth-i
returns-then-depth-i c = let k = rw (c.in-Gives.is, c.node_word-name.ensures, c.requires.3, c.requires.4) at c.call_target.ensures in λ may. (call_sunk _ c.args.image.now.good.nodes _ c.args.heap.now _ _ _ c.requires.0 c.requires.2 c.requires.5 _ _ k (rw (← c.requires.4) c.if-depth-i.true), refl)

pub push_blocks-requires : goal.push_blocks-requires
push_blocks-requires c = let k = rw (c.in-Gives.is, c.node_word-name.ensures, c.requires.3, c.requires.4) at c.call_target.ensures in (rw c.requires.4 (callable _ c.args.image.now.good.nodes _ c.args.heap.now _ _ _ c.requires.0 c.requires.2 c.requires.5 _ _ k (rw (← c.requires.4) (omega (arith, c.if-depth-i.false)))))

pub returns-else-depth-i : goal.returns-else-depth-i
returns-else-depth-i c = let k = rw (c.in-Gives.is, c.node_word-name.ensures, c.requires.3, c.requires.4) at c.call_target.ensures in λ may. (rw (c.requires.4, c.method_word-m.ensures) (call_goes _ c.args.image.now.good.nodes _ c.args.heap.now _ _ _ c.requires.0 c.requires.2 c.requires.5 _ _ k _ (rw (← c.requires.3, ← c.requires.4) c.push_blocks.ensures) (rw (← c.requires.4) (omega (arith, c.if-depth-i.false))) (body_node c.args.image.now.good _ k.within) c.requires.1), λ e. refl)

pub returns-in-Raises : goal.returns-in-Raises
returns-in-Raises c = let k = rw (c.in-Raises.is, c.node_word-name.ensures, c.requires.3, c.requires.4) at c.call_target.ensures in λ may. (rw (c.requires.3, c.requires.4) (call_raises _ c.args.image.now.good.nodes _ c.args.heap.now _ _ _ c.requires.0 c.requires.2 c.requires.5 _ k c.requires.1), λ e. refl)

pub returns-in-Fails : goal.returns-in-Fails
returns-in-Fails c = let k = rw (c.in-Fails.is, c.node_word-name.ensures, c.requires.3, c.requires.4) at c.call_target.ensures in λ may. (rw c.requires.3 (call_fails _ c.args.image.now.good.nodes _ c.args.heap.now _ _ _ c.requires.0 c.requires.2 c.requires.5 k), refl)
