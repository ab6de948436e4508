-- What the functions promise that take a value back to a frame, and throw an address through one.
use Rattle.std.specs.Prelude.{◌≡◌, true, List, ◌⊎◌, ℕ, suc, ◌≤◌, ◌<◌, get_or}
use Rattle.image.specs.Trailer.{class_count, node_count}
use Rattle.image.specs.Nodes.{node_holds}
use Rattle.rules.specs.Program.{program}
use Rattle.laws.specs.Heap.{Words}
use Rattle.memo.specs.Memo.{IsField, Memo}
use Rattle.quick.specs.Known.{IsPair}
use Rattle.room.specs.declared.Focus.TheVariants.{Value as Word, Thrown}
use Rattle.room.specs.Room.{search_word, word, tag}
use Rattle.room.specs.Turn.{HeapOk, Inv}
use Rattle.std.specs.declared.option.Option.{Option}
use Rattle.landings.specs.declared.Leap.{Leap}
use Rattle.landings.specs.Lands.{Lands}

-- The value of w comes back to frame i, whose tag is t and whose place is p.
pub record Comes (ws : List ℕ) (D : ℕ) (hs room : List ℕ) (t p i w : ℕ) : Type 0 where
  pub nodes : (n : ℕ) → n < node_count ws → node_holds ws n ≡ true
  pub inv : Inv ws D room (suc i) (Word w)
  pub heap : HeapOk ws hs (get_or room search_word 0)
  pub tagged : tag ws room i ≡ t
  pub placed : p ≡ word ws room i 1
  pub below : suc i ≤ D

-- A leap of such a value in every heap: the heap is left alone.
abbrev pub LandsBack : (ws room : List ℕ) (t p i w : ℕ) (room' : List ℕ) → Option Leap → Type 0
LandsBack ws room t p i w room' r =
    (D : ℕ) (hs : List ℕ) → Comes ws D hs room t p i w → Lands ws D i hs room (suc i) (Word w) hs room' r

-- the tags of Add, Eq and Set where the first operand is active
abbrev pub Begun : ℕ → Type 0
Begun t = IsPair t ⊎ (t ≡ 8)

-- node p has a field, and the table of what was found is true of its image and of the heap
pub record Fielded (hs memo : List ℕ) (p : ℕ) : Type 0 where
  pub image : List ℕ
  pub table : Memo image memo
  pub words : Words (program image) (class_count image) hs
  pub field : IsField image p

-- Address a, thrown at place q, comes to frame i, which is that of the Try at node p.
pub record Tried (ws : List ℕ) (D : ℕ) (hs room : List ℕ) (p i a q : ℕ) : Type 0 where
  pub nodes : (n : ℕ) → n < node_count ws → node_holds ws n ≡ true
  pub inv : Inv ws D room (suc i) (Thrown a q)
  pub heap : HeapOk ws hs (get_or room search_word 0)
  pub tagged : tag ws room i ≡ 15
  pub placed : p ≡ word ws room i 1
