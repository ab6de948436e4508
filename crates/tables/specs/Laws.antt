-- Laws: what a record that is not the first is compared with.
use Rattle.std.specs.Prelude.{◌≡◌, refl, List, ℕ, zero, suc, ◌-◌, ◌<◌}
use Rattle.std.proofs.Common.{arith}
use Rattle.image.specs.Records.{field_word, method_word, rises, field_rises, method_rises}

-- the number of the record before is in range too
pub below : {i n : ℕ} → i < n → i - 1 < n
below h = omega arith

pub field_after : (ws : List ℕ) (i : ℕ) → (i ≡ 0 → ⊥)
    → rises (field_word ws (i - 1) 0) (field_word ws (i - 1) 1) (field_word ws i 0) (field_word ws i 1) ≡ field_rises ws i
unfolding field_rises
field_after ws zero h = absurd (h refl)
field_after ws (suc i) h = let e : suc i - 1 ≡ i = omega arith in rw e

pub method_after : (ws : List ℕ) (i : ℕ) → (i ≡ 0 → ⊥)
    → rises (method_word ws (i - 1) 0) (method_word ws (i - 1) 1) (method_word ws i 0) (method_word ws i 1) ≡ method_rises ws i
unfolding method_rises
method_after ws zero h = absurd (h refl)
method_after ws (suc i) h = let e : suc i - 1 ≡ i = omega arith in rw e
