-- What the parts of a leap from a node promise.
use Rattle.std.specs.Prelude.{◌≡◌, true, List, ◌⊎◌, ℕ, zero, suc, ◌+◌, ◌*◌, ◌-◌, ◌≤◌, ◌<◌, get_or}
use Rattle.image.specs.Trailer.{node_count}
use Rattle.image.specs.Nodes.{node_word, node_holds}
use Rattle.rules.specs.Trees.{operand}
use Rattle.laws.specs.Trees.{operand_count, begins}
use Rattle.room.specs.declared.Focus.TheVariants.{Node}
use Rattle.room.specs.Room.{search_word, first, shape_of, word}
use Rattle.room.specs.RoomLaws.{Kept}
use Rattle.room.specs.Turn.{HeapOk, Inv}
use Rattle.quick.specs.Known.{Eval, most_quick}
use Rattle.std.specs.declared.option.Option.{Option}
use Rattle.landings.specs.declared.Leap.{Leap}
use Rattle.landings.specs.Lands.{Lands}

-- every node's record is in order
abbrev pub Holds : List ℕ → Type 0
Holds ws = (n : ℕ) → n < node_count ws → node_holds ws n ≡ true

-- A leap from node n under every depth limit that leaves three levels.
abbrev pub Enters : (ws hs room : List ℕ) (l n : ℕ) (hs' room' : List ℕ) → Option Leap → Type 0
Enters ws hs room l n hs' room' r =
    (D : ℕ) → Inv ws D room l (Node n) → HeapOk ws hs (get_or room search_word 0) → l + 3 ≤ D → Lands ws D l hs room l (Node n) hs' room' r

-- Node n is of a kind that is gone into by its first operand, which is node m.
pub record First (ws : List ℕ) (kind n m : ℕ) : Type 0 where
  pub kind_is : node_word ws n 0 ≡ kind
  pub shape : shape_of kind ≡ first
  pub behind : ℕ
  pub count : suc behind ≡ operand_count ws n
  pub is : m ≡ operand ws n behind

-- The node whose value decides how node n goes on: an operand of it, or itself.
pub record Asked (ws : List ℕ) (kind n m : ℕ) : Type 0 where
  pub within : m < node_count ws
  pub assign : kind ≡ 6 → m ≡ operand ws n 0
  pub branch : kind ≡ 12 → m ≡ operand ws n 2
  pub repeat : kind ≡ 13 → m ≡ operand ws n 1
  pub whole : (kind ≡ 6 → ⊥) → (kind ≡ 12 → ⊥) → (kind ≡ 13 → ⊥) → m ≡ n

-- Kinds: those that go on by a value, the ones of them whose own value may be had, and those that are gone into by the first of two
-- operands, or by their only one.
abbrev pub Whole : ℕ → Type 0
Whole kind = (kind ≡ 7) ⊎ ((kind ≡ 4) ⊎ (kind ≡ 5))

abbrev pub Quickly : ℕ → Type 0
Quickly kind = (kind ≡ 6) ⊎ ((kind ≡ 12) ⊎ ((kind ≡ 13) ⊎ Whole kind))

abbrev pub Two : ℕ → Type 0
Two kind = (kind ≡ 4) ⊎ ((kind ≡ 5) ⊎ ((kind ≡ 8) ⊎ ((kind ≡ 11) ⊎ (kind ≡ 15))))

abbrev pub One : ℕ → Type 0
One kind = (kind ≡ 6) ⊎ ((kind ≡ 7) ⊎ ((kind ≡ 1) ⊎ (kind ≡ 14)))

-- From index k on, c operands of the Call at node n have the values whose words stand in frame l of the room R. All s steps to them
-- are taken with the variables of a room.
module _ (ws hs room R : List ℕ) (l n : ℕ) where
  unfoldable pub Ready : (c k s : ℕ) → Type 0
  Ready zero k s = s ≡ 0
  Ready (suc c) k s =
      (a : ℕ) × (r : ℕ) × Eval ws hs room (operand ws n (node_word ws n 3 - k)) (word ws R l (5 + k)) a 1 × Ready c (suc k) r × (s ≡ a + r)

-- A Call's y arguments and its receiver are gone through from the last on: those from index k on are ready, the trees before them end
-- before node e, and s is the steps to them. The room was once `room`.
pub record Gathers (ws hs room : List ℕ) (l n y : ℕ) (R : List ℕ) (e k s : ℕ) : Type 0 where
  pub kept : Kept room R l
  pub low : k ≤ suc y
  pub ends : e ≡ begins ws n (suc y - k)
  pub few : s ≤ most_quick * (suc y - k)
  pub ready : Ready ws hs room R l n (suc y - k) k s
