-- `enter_leaps::enters::leaf` meets its contract.
use Rattle.landings.specs.LandsLaws.{lands_value}
use Rattle.room.specs.RoomLaws.{kept_refl}
use mathlib.Core.Path.{refl}
use native.Mathlib.Omega.{arith}
use Rattle.enter_leaps.proofs.enters.leaf.Goals as goal

pub returns-in_err-q : goal.returns-in_err-q
returns-in_err-q c = λ hs D inv h low. rw c.from_residual.ensures (kept_refl _ _, refl)

pub returns : goal.returns
returns c = λ hs D inv h low. let k = c.in_ok-q.ensures hs in rw c.at_value.ensures (lands_value (k.eval.leaps D _ _ (λ x y. refl) inv h (omega arith)) (omega (arith, k.few)) (omega arith))
