-- `back_leaps::backs::set` meets its contract.
use Rattle.back_leaps.specs.BackLaps.{set_field, set_lands}
use Rattle.room.specs.RoomLaws.{kept_refl}
use mathlib.Core.Path.{refl}
use Rattle.back_leaps.proofs.backs.set.Goals as goal

pub spot-requires : goal.spot-requires
spot-requires c = let p = c.requires in (p.2.table.size, p.0, p.1)

pub returns-in_err-j : goal.returns-in_err-j
returns-in_err-j c = λ ws m D room k q. rw c.from_residual.ensures (kept_refl _ _, refl)

pub bounds-heap-j : goal.bounds-heap-j
bounds-heap-j c = let p = c.requires in (c.in_ok-j.ensures _ p.2.table p.2.words p.2.field).inside

pub returns : goal.returns
returns c = λ ws m D room k q. rw c.at_value.ensures (set_lands ws D _ room _ _ _ k _ (rw q (c.in_ok-j.ensures ws m k.heap.words (set_field ws D _ room _ _ _ k))))
