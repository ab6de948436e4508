-- `back_leaps::backs::get` meets its contract.
use Rattle.back_leaps.specs.BackLaps.{get_field_lem, get_lands, null_lands}
use Rattle.objects.specs.SpotLaws.{spot_null}
use Rattle.room.specs.RoomLaws.{kept_refl}
use mathlib.Core.Path.{refl}
use native.Mathlib.Omega.{arith}
use Rattle.back_leaps.proofs.backs.get.Goals as goal

pub returns-then-w-eq-TAG : goal.returns-then-w-eq-TAG
returns-then-w-eq-TAG c = λ ws m D room k. rw c.at_thrown.ensures (null_lands ws D _ room _ _ _ k 0 (spot_null _ _ _ _ _ c.requires.1 (omega (arith, c.if-w-eq-TAG.true))))

pub spot-requires : goal.spot-requires
spot-requires c = let p = c.requires in (p.2.table.size, p.0, p.1)

pub returns-in_err-j : goal.returns-in_err-j
returns-in_err-j c = λ ws m D room k. rw c.from_residual.ensures (kept_refl _ _, refl)

pub bounds-heap-j : goal.bounds-heap-j
bounds-heap-j c = let p = c.requires in (c.in_ok-j.ensures _ p.2.table p.2.words p.2.field).inside

pub returns : goal.returns
returns c = λ ws m D room k. rw c.at_value.ensures (get_lands ws D _ room _ _ _ k _ (c.in_ok-j.ensures ws m k.heap.words (get_field_lem ws D _ room _ _ _ k)))
