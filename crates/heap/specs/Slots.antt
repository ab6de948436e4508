-- Slots, by the words.
use Rattle.std.specs.Prelude.{◌≡◌, Bool, true, not, List, ℕ, zero, suc, ◌+◌, ◌*◌, ◌<◌, eqb, get_or, is_some}
use Rattle.std.specs.declared.option.Option.{Option}
use Rattle.std.specs.declared.option.Option.TheVariants.{Some, None}
use Rattle.order.specs.Scan.{Still}
use Rattle.words.specs.Value.{value_of}
use Rattle.rules.specs.Heap.{slot_words}
use Rattle.rules.specs.Numbers.{heap_word_rule}

-- the class that a slot's first word names: it is the class and 1 more, or 0 where the slot is free
unfoldable pub class_named : ℕ → Option ℕ
class_named zero = None
class_named (suc c) = Some c

-- the class of the object in slot a, where one stands there
abbrev pub class_at : List ℕ → ℕ → Option ℕ
class_at hs a = class_named (get_or hs (slot_words * a) 0)

-- slot a is taken: its first word is not 0
unfoldable pub taken_at : List ℕ → ℕ → Bool
taken_at hs a = not (eqb (get_or hs (slot_words * a) 0) 0)

-- the n words from i on are 0, or stand for values
abbrev pub ZerosAt : List ℕ → (i n : ℕ) → Type 0
ZerosAt hs i n = (k : ℕ) → k < n → get_or hs (i + k) 0 ≡ 0

abbrev pub ValuesAt : List ℕ → (i n : ℕ) → Type 0
ValuesAt hs i n = (k : ℕ) → k < n → is_some (value_of (get_or hs (i + k) 0)) ≡ true

-- 15 holds for each word of the slot that begins at word i
abbrev pub SlotHolds : (ws hs : List ℕ) (i : ℕ) → Type 0
SlotHolds ws hs i = (k : ℕ) → k < slot_words → (heap_word_rule ws hs).holds (i + k) ≡ true

-- a scan that stands at i: every place below it held
pub record Clean (p : ℕ → Bool) (n i : ℕ) : Type 0 where
  pub still : Still p n i
  pub passed : (j : ℕ) → j < i → p j ≡ true
