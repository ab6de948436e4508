-- `back_leaps::backs::first_of_pair` meets its contract.
use Rattle.back_leaps.specs.BackLaps.{pair_lands}
use Rattle.room.specs.RoomLaws.{kept_refl}
use mathlib.Core.List.{[]}
use mathlib.Core.Logic.{inl}
use mathlib.Core.Path.{refl}
use native.Mathlib.Omega.{arith}
use Rattle.back_leaps.proofs.backs.first_of_pair.Goals as goal

pub first-requires : goal.first-requires
first-requires c = let p = c.requires in (inl p.2, p.3, p.5)

pub returns-in_default : goal.returns-in_default
returns-in_default c = λ D hs k. c.first.ensures _ D hs k

pub pair_word-requires : goal.pair_word-requires
pair_word-requires c = let b = rw c.in-Some.is at (c.leaf.ensures []) in (c.requires.2, c.requires.6, b.eval.is_value_lem)

pub returns-in_err-u : goal.returns-in_err-u
returns-in_err-u c = λ D hs k. rw c.from_residual.ensures (kept_refl _ _, refl)

pub overflow_add-b : goal.overflow_add-b
overflow_add-b c = let b = rw c.in-Some.is at (c.leaf.ensures []) in omega (arith, b.few)

pub returns : goal.returns
returns c = λ D hs k. let b = rw c.in-Some.is at (c.leaf.ensures hs) in rw c.at_value.ensures (pair_lands _ D hs _ _ _ _ _ _ c.requires.2 k _ _ b.eval c.in_ok-u.ensures b.few)
