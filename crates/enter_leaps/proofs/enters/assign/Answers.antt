-- `enter_leaps::enters::assign` meets its contract.
use Rattle.enter_leaps.specs.EnterLaps.{after_first, assign_lands, first_one}
use Rattle.laws.specs.Tags.{word_low}
use Rattle.room.specs.Nodes.{assign_local}
use mathlib.Core.Logic.{inl}
use mathlib.Core.Path.{refl}
use native.Mathlib.Numerals.{add-one}
use native.Mathlib.Omega.{arith}
use Rattle.enter_leaps.proofs.enters.assign.Goals as goal

pub bounds-room-x : goal.bounds-room-x
bounds-room-x c = let p = c.requires in let b = assign_local _ _ (p.0.holds _ p.1) p.3 in rw c.word_at-x.ensures (omega (arith, b, p.2))

pub overflow_sub-n : goal.overflow_sub-n
overflow_sub-n c = let p = c.requires in after_first _ _ (p.0.holds _ p.1) (first_one _ _ p.3 (inl refl))

pub overflow_add-room : goal.overflow_add-room
overflow_add-room c = let v = rw c.in-Some.is at c.requires.4 in omega (arith, word_low _ v.0)

pub returns-in_default : goal.returns-in_default
returns-in_default c = let p = c.requires in λ hs k. c.first.ensures _ hs p.0.holds (first_one _ _ p.3 (inl refl))

pub returns-in-Some : goal.returns-in-Some
returns-in-Some c = let p = c.requires in λ hs k D inv h low. rw (c.at_value.ensures, add-one) (rw (← c.word_at-x.ensures) at (assign_lands p.0.holds inv h low p.3 (rw c.in-Some.is at k) (rw c.word_at-x.ensures at c.if-set.true)))
