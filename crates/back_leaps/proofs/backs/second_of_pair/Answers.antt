-- `back_leaps::backs::second_of_pair` meets its contract.
use Rattle.back_leaps.specs.BackLaps.{second_lands}
use Rattle.room.specs.RoomLaws.{kept_refl}
use mathlib.Core.Path.{refl}
use Rattle.back_leaps.proofs.backs.second_of_pair.Goals as goal

pub returns-in_err-u : goal.returns-in_err-u
returns-in_err-u c = λ ws room p q D hs k. rw c.from_residual.ensures (kept_refl _ _, refl)

pub returns : goal.returns
returns c = λ ws room p q D hs k. rw c.at_value.ensures (second_lands ws D hs room p _ _ _ _ k _ q c.in_ok-u.ensures)
