-- What the functions promise that go into a node and leave the heap alone.
use Rattle.std.specs.Prelude.{◌≡◌, Bool, cond, List, ◌∷◌, ℕ, suc, ◌+◌, ◌*◌, ◌-◌, ◌≤◌, ◌<◌, eqb, get_or}
use Rattle.rules.specs.Trees.{val}
use Rattle.rules.specs.Step.{blocked}
use Rattle.laws.specs.Values.{value_at}
use Rattle.laws.specs.Frames.{assign_f, plugs, outers}
use Rattle.room.specs.declared.Focus.{Focus}
use Rattle.room.specs.declared.Go.{Go}
use Rattle.room.specs.Room.{search_word, frame_at, store_of, frames}
use Rattle.room.specs.Turn.{HeapOk, pending, phi, whole, outside, Inv, Turned}

-- A turn under every depth limit that is met, with any heap.
abbrev pub Turns : (ws room : List ℕ) (l : ℕ) (f : Focus) (room' : List ℕ) → (met : ℕ → Type 0) → Go → Type 0
Turns ws room l f room' met r =
    (D : ℕ) (hs : List ℕ) (may : Bool) → Inv ws D room l f → met D → HeapOk ws hs (get_or room search_word 0)
    → Turned ws D may hs room l f hs room' r

-- the limit lets a node under l frames be gone into,
abbrev pub Within : (l D : ℕ) → Type 0
Within l D = l ≤ D

-- or it does not
abbrev pub Past : (l D : ℕ) → Type 0
Past l D = D < l

-- The node with which a sequence's frame i goes on, or a loop's: the one before the sequence, or the loop itself.
unfoldable pub rest_of : (room : List ℕ) (i : ℕ) → ℕ
rest_of room i = let p = get_or room (frame_at i + 1) 0 in cond (eqb (get_or room (frame_at i) 0) 11) (p - 1) p

-- The focus f under k frames is an assignment of the value of w to x, right below frame i.
pub record Writes (ws : List ℕ) (D : ℕ) (room : List ℕ) (k : ℕ) (f : Focus) (i x w : ℕ) : Type 0 where
  pub inv : Inv ws D room k f
  pub under : suc i ≤ k
  pub place : ℕ
  pub value_place : ℕ
  pub same : whole ws room k f ≡ plugs blocked (assign_f place x ∷ frames ws room (suc i)) (store_of room) (val value_place (value_at w))
  pub around : outside ws room k ≡ outers (frames ws room (suc i)) (store_of room)
  pub more : suc (2 * pending ws room (suc i)) < phi ws room k f
