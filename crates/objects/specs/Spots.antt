-- Where a field stands in the heap's words.
use Rattle.std.specs.Prelude.{◌≡◌, List, ℕ, ◌<◌, length, get_or, set}
use Rattle.words.specs.declared.Value.{Value}
use Rattle.words.specs.Value.{addresses}
use Rattle.image.specs.Trailer.{class_count}
use Rattle.rules.specs.Program.{program}
use Rattle.rules.specs.Heap.{heap_of}
use Rattle.rules.specs.Step.{gives, raises, fails, get_redex, put_redex}
use Rattle.laws.specs.Values.{value_at, IsValue}
use Rattle.laws.specs.Heap.{Words}
use Rattle.heap.specs.Slots.{taken_at}
use Rattle.redexes.specs.declared.Outcome.{Outcome}
use Rattle.redexes.specs.declared.Outcome.TheVariants.{Gives, Raises, Fails}

-- The field that class d declares by that name, of the object that word w is the address of, stands at word j: to read the
-- field is to read the word, and to write the field is to write it.
pub record FieldSpot (ws hs : List ℕ) (name d w j : ℕ) : Type 0 where
  pub inside : j < length hs
  pub reads : get_redex (program ws) (heap_of (program ws) hs) name d (value_at w)
      ≡ gives (heap_of (program ws) hs) (value_at (get_or hs j 0))
  pub holds : IsValue (get_or hs j 0)
  pub writes : (u : ℕ) → IsValue u
      → put_redex (program ws) (heap_of (program ws) hs) name d (value_at w) (value_at u)
      ≡ gives (heap_of (program ws) (set hs j u)) (value_at u)
  pub keeps : (u : ℕ) → IsValue u → Words (program ws) (class_count ws) (set hs j u)
  pub slots : (u a : ℕ) → taken_at (set hs j u) a ≡ taken_at hs a

-- to read or to write it throws the exception at that address
pub record FieldRaises (ws hs : List ℕ) (name d w a : ℕ) : Type 0 where
  pub known : a < addresses
  pub reads : get_redex (program ws) (heap_of (program ws) hs) name d (value_at w) ≡ raises a
  pub writes : (v : Value) → put_redex (program ws) (heap_of (program ws) hs) name d (value_at w) v ≡ raises a

-- there is no rule to read it or to write it
pub record FieldFails (ws hs : List ℕ) (name d w : ℕ) : Type 0 where
  pub reads : get_redex (program ws) (heap_of (program ws) hs) name d (value_at w) ≡ fails
  pub writes : (v : Value) → put_redex (program ws) (heap_of (program ws) hs) name d (value_at w) v ≡ fails

-- what an answer says
abbrev pub Spotted : (ws hs : List ℕ) (name d w : ℕ) → Outcome ℕ → Type 0
Spotted ws hs name d w (Gives j) = FieldSpot ws hs name d w j
Spotted ws hs name d w (Raises a) = FieldRaises ws hs name d w a
Spotted ws hs name d w Fails = FieldFails ws hs name d w
