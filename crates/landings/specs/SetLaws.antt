-- A variable that is set arms no block.
use Rattle.std.specs.Prelude.{◌≡◌, refl, Bool, true, false, ◌&&◌, ◌||◌, List, ℕ, zero, suc, eqb, get_or}
use Rattle.std.proofs.Common.{ne_eqb}
use Rattle.room.specs.Room.{word, tag}
use Rattle.room.specs.Armed.{armed, armed_seq}

and_none : (b : Bool) → (b && false) ≡ false
and_none true = refl
and_none false = refl

pub set_armed : (ws room : List ℕ) (l x : ℕ) → (get_or room x 0 ≡ 0 → ⊥) → armed_seq ws room l x ≡ false
unfolding armed_seq armed
set_armed ws room zero x d = refl
set_armed ws room (suc zero) x d = and_none (eqb (tag ws room 0) 11 || eqb (tag ws room 0) 29)
set_armed ws room (suc (suc l)) x d =
    rw (ne_eqb (get_or room x 0) 0 d, and_none (eqb (tag ws room l) 10 && eqb (word ws room l 2) x))
    (and_none (eqb (tag ws room (suc l)) 11 || eqb (tag ws room (suc l)) 29))
