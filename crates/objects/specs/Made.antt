-- New objects, in the heap's words.
use Rattle.std.specs.Prelude.{◌≡◌, true, List, map, ℕ, ◌*◌, ◌≤◌, ◌<◌, length, get_or, set}
use Rattle.std.specs.declared.option.Option.{Option}
use Rattle.std.specs.declared.option.Option.TheVariants.{Some, None}
use Rattle.words.specs.declared.Value.TheVariants.{Addr}
use Rattle.words.specs.Value.{addresses, word_of}
use Rattle.image.specs.Trailer.{class_count}
use Rattle.rules.specs.Program.{program}
use Rattle.rules.specs.Classes.{has_fields}
use Rattle.rules.specs.Heap.{obj, defaults, lowest_free, slot_words, heap_of}
use Rattle.rules.specs.Step.{gives, raises, new_redex, out_of_memory}
use Rattle.laws.specs.Heap.{Words}
use Rattle.heap.specs.Slots.{taken_at}

-- the words of a new object's fields
abbrev pub default_words : (ws : List ℕ) (c : ℕ) → List ℕ
default_words ws c = map word_of (defaults (has_fields (program ws) c))

-- The words `after` are the words `hs` with a new object of class c at address a.
pub record Made (ws hs after : List ℕ) (a c : ℕ) : Type 0 where
  pub same : heap_of (program ws) after ≡ set (heap_of (program ws) hs) a (obj c (defaults (has_fields (program ws) c)))
  pub words : Words (program ws) (class_count ws) after
  pub size : length after ≡ length hs
  pub here : taken_at after a ≡ true
  pub others : (b : ℕ) → (b ≡ a → ⊥) → taken_at after b ≡ taken_at hs b

-- a new object of class c is made at a, the lowest free slot
pub record Opens (ws hs : List ℕ) (c from a : ℕ) : Type 0 where
  pub makes : new_redex (program ws) (heap_of (program ws) hs) c (lowest_free (heap_of (program ws) hs))
      ≡ gives (set (heap_of (program ws) hs) a (obj c (defaults (has_fields (program ws) c)))) (Addr a)
  pub inside : slot_words * a < length hs
  pub known : a < addresses
  pub empty : get_or hs (slot_words * a) 0 ≡ 0
  pub low : from ≤ a
  pub below : (b : ℕ) → b < a → taken_at hs b ≡ true

-- what the lowest free slot from a start says of a new object
abbrev pub Opened : (ws hs : List ℕ) (c from : ℕ) → Option ℕ → Type 0
Opened ws hs c from (Some a) = Opens ws hs c from a
Opened ws hs c from None =
    new_redex (program ws) (heap_of (program ws) hs) c (lowest_free (heap_of (program ws) hs)) ≡ raises out_of_memory
