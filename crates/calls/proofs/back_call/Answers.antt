-- `calls::back_call` meets its contract.
use Prim.Native.Nat.{◌<◌}
use Rattle.calls.specs.CallLaws.{few}
use Rattle.pushes.specs.EnterLaws.{call_operand}
use Rattle.image.specs.Nodes.{node_word}
use Rattle.room.specs.Back.{is_call}
use Rattle.room.specs.Calls.{more_moves}
use Rattle.room.specs.Room.{word}
use mathlib.Core.Path.{refl}
use native.Mathlib.Numerals.{add-one}
use native.Mathlib.Omega.{arith}
use Rattle.calls.proofs.back_call.Goals as goal

pub node_word-y-requires : goal.node_word-y-requires
node_word-y-requires c = let f = few _ c.args.image.now.good.nodes _ c.args.heap.now _ _ _ c.requires.0 c.requires.2 in let n = is_call _ c.args.image.now.good.nodes _ c.args.heap.now _ _ _ c.requires.0 c.requires.2 in (rw c.args.image.now.good.lay.node_count_lem n.0.0, omega arith)

pub overflow_add-room : goal.overflow_add-room
overflow_add-room c = let f = few _ c.args.image.now.good.nodes _ c.args.heap.now _ _ _ c.requires.0 c.requires.2 in let n = is_call _ c.args.image.now.good.nodes _ c.args.heap.now _ _ _ c.requires.0 c.requires.2 in omega (arith, f, n.1, c.requires.0.long, c.requires.0.level)

pub overflow_add-room-2 : goal.overflow_add-room-2
overflow_add-room-2 c = let f = few _ c.args.image.now.good.nodes _ c.args.heap.now _ _ _ c.requires.0 c.requires.2 in let n = is_call _ c.args.image.now.good.nodes _ c.args.heap.now _ _ _ c.requires.0 c.requires.2 in omega (arith, f, n.1, c.requires.0.long, c.requires.0.level)

pub offset_bounds-room-at-3 : goal.offset_bounds-room-at-3
offset_bounds-room-at-3 c = let f = few _ c.args.image.now.good.nodes _ c.args.heap.now _ _ _ c.requires.0 c.requires.2 in let n = is_call _ c.args.image.now.good.nodes _ c.args.heap.now _ _ _ c.requires.0 c.requires.2 in omega (arith, f, n.1, c.requires.0.long, c.requires.0.level)

pub bounds-room-at-3 : goal.bounds-room-at-3
bounds-room-at-3 c = let f = few _ c.args.image.now.good.nodes _ c.args.heap.now _ _ _ c.requires.0 c.requires.2 in let n = is_call _ c.args.image.now.good.nodes _ c.args.heap.now _ _ _ c.requires.0 c.requires.2 in omega (arith, f, n.1, c.requires.0.long, c.requires.0.level)

pub overflow_add-room-3 : goal.overflow_add-room-3
overflow_add-room-3 c = let f = few _ c.args.image.now.good.nodes _ c.args.heap.now _ _ _ c.requires.0 c.requires.2 in let n = is_call _ c.args.image.now.good.nodes _ c.args.heap.now _ _ _ c.requires.0 c.requires.2 in omega (arith, f, n.1, c.requires.0.long, c.requires.0.level)

pub overflow_add-k-2 : goal.overflow_add-k-2
overflow_add-k-2 c = let f = few _ c.args.image.now.good.nodes _ c.args.heap.now _ _ _ c.requires.0 c.requires.2 in let n = is_call _ c.args.image.now.good.nodes _ c.args.heap.now _ _ _ c.requires.0 c.requires.2 in omega (arith, f, n.1, c.requires.0.long, c.requires.0.level)

pub overflow_sub-y : goal.overflow_sub-y
overflow_sub-y c = let f = few _ c.args.image.now.good.nodes _ c.args.heap.now _ _ _ c.requires.0 c.requires.2 in let n = is_call _ c.args.image.now.good.nodes _ c.args.heap.now _ _ _ c.requires.0 c.requires.2 in let l : word c.args.image.now.words.now c.args.room.now c.args.i 2 < node_word c.args.image.now.words.now (word c.args.image.now.words.now c.args.room.now c.args.i 1) 3 = omega (arith, n.1, c.if-k-y.false, c.node_word-y.ensures) in rw c.node_word-y.ensures (omega (arith, l))

pub operand_place-m-requires : goal.operand_place-m-requires
operand_place-m-requires c = let f = few _ c.args.image.now.good.nodes _ c.args.heap.now _ _ _ c.requires.0 c.requires.2 in let n = is_call _ c.args.image.now.good.nodes _ c.args.heap.now _ _ _ c.requires.0 c.requires.2 in let l : word c.args.image.now.words.now c.args.room.now c.args.i 2 < node_word c.args.image.now.words.now (word c.args.image.now.words.now c.args.room.now c.args.i 1) 3 = omega (arith, n.1, c.if-k-y.false, c.node_word-y.ensures) in (rw c.args.image.now.good.lay.node_count_lem n.0.0, rw c.node_word-y.ensures (omega (arith, call_operand _ _ n.0.1)))

pub returns : goal.returns
returns c = let f = few _ c.args.image.now.good.nodes _ c.args.heap.now _ _ _ c.requires.0 c.requires.2 in let n = is_call _ c.args.image.now.good.nodes _ c.args.heap.now _ _ _ c.requires.0 c.requires.2 in let l : word c.args.image.now.words.now c.args.room.now c.args.i 2 < node_word c.args.image.now.words.now (word c.args.image.now.words.now c.args.room.now c.args.i 1) 3 = omega (arith, n.1, c.if-k-y.false, c.node_word-y.ensures) in λ may. (rw (c.operand_place-m.ensures.0, c.node_word-y.ensures, add-one (word c.args.image.now.words.now c.args.room.now c.args.i 2), add-one c.args.i) (more_moves _ c.args.image.now.good.nodes _ c.args.heap.now _ _ _ c.requires.0 c.requires.2 l), refl)
