-- `enter_leaps::enters::new` meets its contract.
use Rattle.room.specs.RoomLaws.{kept_refl}
use mathlib.Core.Path.{refl}
use Rattle.fresh.specs.NewLaws.{new_opens, new_steps}
use Rattle.landings.specs.LandsLaws.{lands_value}
use Rattle.objects.specs.Made.{Opens}
use Rattle.room.specs.LeadsLaws.{leaps_step}
use Rattle.room.specs.Nodes.{new_class}
use native.Mathlib.Numerals.{add-one}
use native.Mathlib.Omega.{arith}
use Rattle.enter_leaps.proofs.enters.new.Goals as goal

pub new_object-requires : goal.new_object-requires
new_object-requires c = let o : Opens _ _ 0 _ _ = (new_opens _ _ _ c.requires.3 _ _ (rw c.in-Some.is at c.lowest_free.ensures)) in (c.requires.3.words, rw (c.node_word-c.ensures, c.args.table.now.image.good.lay.class_count_lem) (new_class _ _ (c.args.table.now.image.good.nodes _ c.requires.0) c.requires.2), o.inside, o.empty)

pub overflow_add-room : goal.overflow_add-room
overflow_add-room c = let o : Opens _ _ 0 _ _ = (new_opens _ _ _ c.requires.3 _ _ (rw c.in-Some.is at c.lowest_free.ensures)) in omega (arith, o.known)

pub overflow_add-a : goal.overflow_add-a
overflow_add-a c = let o : Opens _ _ 0 _ _ = (new_opens _ _ _ c.requires.3 _ _ (rw c.in-Some.is at c.lowest_free.ensures)) in omega (arith, o.known)

pub returns-in-None : goal.returns-in-None
returns-in-None c = λ D inv h low. (kept_refl _ _, refl)

pub returns-in-Some : goal.returns-in-Some
returns-in-Some c = λ D inv h low. rw (c.at_value.ensures, add-one c.in-Some.a) (lands_value (leaps_step _ D (new_steps _ c.args.table.now.image.good.nodes D _ _ _ _ inv (omega arith) c.requires.2 c.requires.3 _ _ (new_opens _ _ _ c.requires.3 _ _ (rw c.in-Some.is at c.lowest_free.ensures)) _ (rw c.node_word-c.ensures at c.new_object.ensures))) (omega arith) (omega arith))
