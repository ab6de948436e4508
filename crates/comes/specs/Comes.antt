-- What the functions promise that take a value back to the innermost frame.
use Rattle.std.specs.Prelude.{◌≡◌, Bool, true, List, ◌⊎◌, ℕ, suc, ◌<◌, get_or}
use Rattle.image.specs.Trailer.{node_count}
use Rattle.image.specs.Nodes.{node_holds}
use Rattle.redexes.specs.declared.Outcome.{Outcome}
use Rattle.redexes.specs.declared.Outcome.TheVariants.{Gives, Raises, Fails}
use Rattle.room.specs.declared.Focus.TheVariants.{Value, Thrown}
use Rattle.room.specs.declared.Go.{Go}
use Rattle.room.specs.declared.Go.TheVariants.{Stepped, Stuck}
use Rattle.room.specs.Room.{search_word, word, tag}
use Rattle.room.specs.Turn.{HeapOk, Inv, Turned}

-- A value w comes back to frame i, whose tag is t and whose place is p.
pub record Coming (ws : List ℕ) (D : ℕ) (hs room : List ℕ) (t p i w : ℕ) : Type 0 where
  pub nodes : (n : ℕ) → n < node_count ws → node_holds ws n ≡ true
  pub inv : Inv ws D room (suc i) (Value w)
  pub heap : HeapOk ws hs (get_or room search_word 0)
  pub tagged : tag ws room i ≡ t
  pub placed : word ws room i 1 ≡ p

-- A turn of such a value under every depth limit, in every room that has the frame. Heap and room are left alone.
abbrev pub Stays : (ws hs : List ℕ) (t p i w : ℕ) → Go → Type 0
Stays ws hs t p i w r =
    (D : ℕ) (room : List ℕ) (may : Bool) → Coming ws D hs room t p i w → Turned ws D may hs room (suc i) (Value w) hs room r

-- the same where the frame's third word is v
abbrev pub Pairs : (ws hs : List ℕ) (t p i v w : ℕ) → Go → Type 0
Pairs ws hs t p i v w r =
    (D : ℕ) (room : List ℕ) (may : Bool) → Coming ws D hs room t p i w → word ws room i 2 ≡ v
    → Turned ws D may hs room (suc i) (Value w) hs room r

-- A turn in one room, which may be written. The heap is left alone.
abbrev pub Changes : (ws room : List ℕ) (t p i w : ℕ) (room' : List ℕ) → Go → Type 0
Changes ws room t p i w room' r =
    (D : ℕ) (hs : List ℕ) (may : Bool) → Coming ws D hs room t p i w → Turned ws D may hs room (suc i) (Value w) hs room' r

-- the turn that a redex's outcome makes at place p
unfoldable pub finish_of : Outcome ℕ → (p i : ℕ) → Go
finish_of (Gives u) p i = Stepped (Value u) i
finish_of (Raises a) p i = Stepped (Thrown a p) i
finish_of Fails p i = Stuck p

-- the tags of Add, Eq and Set where the first operand is active
abbrev pub First : ℕ → Type 0
First t = ((t ≡ 4) ⊎ (t ≡ 5)) ⊎ (t ≡ 8)

-- a tag for which the heap is not read, and not a Call's
abbrev pub Unheaped : ℕ → Type 0
Unheaped t = (t ≡ 1 → ⊥) × (t ≡ 7 → ⊥) × (t ≡ 24 → ⊥) × (t ≡ 9 → ⊥)
