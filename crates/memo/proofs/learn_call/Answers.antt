-- `memo::learn_call` meets its contract.
use Rattle.room.specs.Room.{kept}
use Rattle.room.specs.RoomLaws.{fit_call}
use native.Mathlib.Omega.{arith}
use Rattle.memo.proofs.learn_call.Goals as goal

pub node_word-y-requires : goal.node_word-y-requires
node_word-y-requires c = let n = fit_call _ c.requires.1 c.requires.2 in (omega (arith, c.requires.3, n.0.0, c.args.image.now.good.lay.node_count_lem), omega arith)

pub learn_method-requires : goal.learn_method-requires
learn_method-requires c = let n = fit_call _ c.requires.1 c.requires.2 in (c.requires.0, rw c.requires.3 n.0, c.requires.4, c.requires.5)

pub learn_method-requires-then-room-at : goal.learn_method-requires-then-room-at
unfolding kept
learn_method-requires-then-room-at c = let n = fit_call _ c.requires.1 c.requires.2 in (c.requires.0, rw c.requires.3 n.0, n.2 0 (omega (arith, c.if-y-eq0.false, c.if-room-at.true)), c.requires.5)
