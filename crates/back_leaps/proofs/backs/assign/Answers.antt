-- `back_leaps::backs::assign` meets its contract.
use Rattle.room.specs.RoomLaws.{kept_refl}
use mathlib.Core.Path.{refl}
use Rattle.laws.specs.Tags.{tag_small}
use Rattle.back_leaps.specs.BackLaps.{assign_lands}
use Rattle.room.specs.Nodes.{assign_local}
use native.Mathlib.Numerals.{add-one}
use native.Mathlib.Omega.{arith}
use Rattle.back_leaps.proofs.backs.assign.Goals as goal

pub bounds-room-x : goal.bounds-room-x
bounds-room-x c = let p = c.requires in omega (arith, p.2, c.word_at-x.ensures, assign_local _ _ (p.0.holds _ p.1.0) p.1.1)

pub returns-then-room-x-eq0 : goal.returns-then-room-x-eq0
returns-then-room-x-eq0 c = λ D hs k. (kept_refl _ _, refl)

pub overflow_add-room : goal.overflow_add-room
overflow_add-room c = omega (arith, tag_small _ c.requires.3)

pub bounds-room-x-2 : goal.bounds-room-x-2
bounds-room-x-2 c = let p = c.requires in omega (arith, p.2, c.word_at-x.ensures, assign_local _ _ (p.0.holds _ p.1.0) p.1.1)

pub returns : goal.returns
returns c = λ D hs k. rw (c.at_value.ensures, add-one) (assign_lands _ D hs _ _ _ _ k _ c.word_at-x.ensures c.if-room-x-eq0.false)
