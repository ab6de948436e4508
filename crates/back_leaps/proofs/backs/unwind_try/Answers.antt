-- `back_leaps::backs::unwind_try` meets its contract.
use Rattle.room.specs.RoomLaws.{kept_refl}
use mathlib.Core.Path.{refl}
use Prim.Native.Nat.{◌*◌, ◌+◌, ◌^◌}
use Rattle.image.specs.Nodes.{kind_of, operands}
use Rattle.back_leaps.specs.BackLaps.{catch_lands, inner, pass_lands}
use Rattle.room.specs.Nodes.{try_local}
use native.Mathlib.Numerals.{add-one}
use native.Mathlib.Omega.{arith}
use Rattle.back_leaps.proofs.backs.unwind_try.Goals as goal

pub push_block-requires : goal.push_block-requires
push_block-requires c = let p = c.requires in (p.6, rw c.word_at-x.ensures (try_local _ _ (p.0.holds _ p.3.0) p.3.1))

pub overflow_sub-p : goal.overflow_sub-p
unfolding kind_of operands
overflow_sub-p c = let p = c.requires in inner _ _ _ 15 p.0 p.3 (omega arith)

pub returns-in_err-catches : goal.returns-in_err-catches
returns-in_err-catches c = λ D q k. rw c.from_residual.ensures (kept_refl _ _, refl)

pub returns-then-not-catches : goal.returns-then-not-catches
returns-then-not-catches c = let p = c.requires in λ D q k. rw c.at_thrown.ensures (pass_lands _ D _ _ _ _ q _ k (rw c.if-not-catches.true at (c.in_ok-catches.ensures _ p.1 p.2 p.3)))

pub returns : goal.returns
returns c = let p = c.requires in λ D q k. rw (c.at_node.ensures, c.push_block.ensures, c.word_at-x.ensures, c.word_at-c.ensures, add-one c.args.i, add-one (4 * 2 ^ 32 + c.args.a)) (catch_lands _ D _ _ _ _ q _ k (rw c.if-not-catches.false at (c.in_ok-catches.ensures _ p.1 p.2 p.3)))
