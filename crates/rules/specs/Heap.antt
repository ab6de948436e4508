-- The heap: objects at addresses, and the words that hold them.
use Rattle.std.specs.Prelude.{ℕ, zero, suc, ◌+◌, ◌*◌, ◌-◌, ◌/◌, false, List, [], ◌∷◌, ◌++◌, map, length, get_or, replicate}
use Rattle.std.proofs.Math.Option.{Option, none, some}
use Rattle.words.specs.declared.Value.{Value}
use Rattle.words.specs.declared.Value.TheVariants.{Null, Intg}
use Rattle.words.specs.declared.Ty.{Ty}
use Rattle.words.specs.declared.Ty.TheVariants.{Void, Boolean, Integer, NT, Class}
use Rattle.words.specs.Value.{value_of, word_of}
use Rattle.rules.specs.Maps.{tabulate}
use Rattle.rules.specs.Trees.{written}
use Rattle.rules.specs.Program.{Field, Program}
use Rattle.rules.specs.Classes.{has_fields}

-- a slot is free or holds an object: its class and its fields' values, in heap order
pub data Slot : Type 0 where
  free : Slot
  obj : (c : ℕ) → List Value → Slot

abbrev pub Heap : Type 0
Heap = List Slot

-- what stands at an address; nothing beyond the heap
abbrev pub look : Heap → ℕ → Slot
look h a = get_or h a free

-- the default of a type
unfoldable pub default : Ty → Value
default Void = Value.Unit
default Boolean = Value.Bool false
default Integer = Intg 0
default NT = Null
default (Class c) = Null

unfoldable pub defaults : List Field → List Value
defaults [] = []
defaults (f ∷ fs) = default f.type ∷ defaults fs

-- the lowest free slot from the i-th on
unfoldable pub free_from : Heap → (i : ℕ) → Option ℕ
free_from [] i = none
free_from (free ∷ h) i = some i
free_from (obj c vs ∷ h) i = free_from h (suc i)

unfoldable pub lowest_free : Heap → Option ℕ
lowest_free h = free_from h 0

-- A slot is 16 words: class + 1, or 0 when free; then the fields; the rest is 0.
abbrev pub slot_words : ℕ
slot_words = 16

-- the slot that begins at word b, in a program whose objects have those fields
unfoldable pub slot_at : Program → List ℕ → (b : ℕ) → (first : ℕ) → Slot
slot_at P ws b zero = free
slot_at P ws b (suc c) = obj c (tabulate (length (has_fields P c)) (λ i. written (value_of (get_or ws (b + suc i) 0))))

unfoldable pub heap_of : Program → List ℕ → Heap
heap_of P ws = tabulate (length ws / slot_words) (λ a. slot_at P ws (slot_words * a) (get_or ws (slot_words * a) 0))

-- and back
unfoldable pub slot_words_of : Slot → List ℕ
slot_words_of free = replicate slot_words 0
slot_words_of (obj c vs) = suc c ∷ (map word_of vs ++ replicate (slot_words - suc (length vs)) 0)

unfoldable pub words_of : Heap → List ℕ
words_of [] = []
words_of (s ∷ h) = slot_words_of s ++ words_of h

-- an end's values, and a run's inputs, from their words
unfoldable pub values_of : List ℕ → List Value
values_of ws = map (λ w. written (value_of w)) ws
