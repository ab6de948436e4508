-- Laws: what it takes for a value to fit its type, word by word.
use Rattle.std.specs.Prelude.{◌≡◌, true, false, cond, List, ltb, length, get_or}
use Rattle.std.proofs.Math.Path.{refl, ap}
use Rattle.std.proofs.Common.{sym, ◌∙◌}
use Prim.Native.Nat.{ℕ, zero, suc, ◌+◌, ◌*◌, ◌-◌, ◌≤◌, ◌<◌}
use native.Mathlib.Omega.{arith}
use Rattle.std.proofs.Math.Dec.{eqb}
use borrow.Author.Tests.{lt-ltb, le-ltb}
use Rattle.words.specs.declared.Value.{Value}
use Rattle.words.specs.declared.Value.TheVariants.{Addr}
use Rattle.std.specs.declared.option.Option.{Option}
use Rattle.std.specs.declared.option.Option.TheVariants.{Some, None}
use Rattle.std.specs.Prelude.{unwrap_or}
use Rattle.words.specs.declared.Ty.{Ty}
use Rattle.words.specs.declared.Ty.TheVariants.{Void, Class}
use Rattle.words.specs.Types.{type_of, known}
use Rattle.words.specs.Value.{value_of, addresses}
use Rattle.words.proofs.ValueLaws.{decode_proper}
use Rattle.image.specs.Trailer.{class_count, type_count, input_count}
use Rattle.image.specs.Records.{type_at}
use Rattle.rules.specs.Trees.{written}
use Rattle.rules.specs.Program.{Program, program, types_from, input_types}
use Rattle.rules.specs.Classes.{subtype, has_fields}
use Rattle.rules.specs.Heap.{slot_words, heap_of}
use Rattle.rules.specs.Conform.{slot_conforms, conforms}
use Rattle.rules.specs.Numbers.{fewest_slots, field_type, slot_word_conforms}
use Rattle.laws.specs.Maps.{get_d_tabulate}
use Rattle.laws.specs.Heap.{Words, look_free, look_obj, class_known}
use Rattle.rows.specs.Rows.{row_words, Rows}
use Rattle.heap.specs.Slots.{class_at}
use Rattle.heap.specs.SlotLaws.{class_none, class_some}

-- An address by its slot.
module _ (P : Program) (classes : ℕ) (hs : List ℕ) (w : Words P classes hs) where
  pub slot_known : (a : ℕ) → (get_or hs (slot_words * a) 0 ≡ 0 → ⊥) → get_or hs (slot_words * a) 0 ≤ classes
  slot_known a n = go (get_or hs (slot_words * a) 0) refl
    where
      go : (first : ℕ) → get_or hs (slot_words * a) 0 ≡ first → first ≤ classes
      go zero e = omega arith
      go (suc c) e = class_known P classes hs w a c e

  pub class_in : (a c : ℕ) → class_at hs a ≡ Some c → c < classes
  class_in a c e = class_known P classes hs w a c (class_some hs a c e)

  pub class_type : (a c : ℕ) → class_at hs a ≡ Some c → known (Class c) classes ≡ true
  class_type a c e = lt-ltb c classes (class_in a c e)

  pub conforms_free : (a : ℕ) (t : Ty) → class_at hs a ≡ None → false ≡ conforms P (heap_of P hs) (Addr a) t
  unfolding conforms slot_conforms
  conforms_free a t e = rw (look_free P hs w.whole a (class_none hs a e))

  pub conforms_object : (a c : ℕ) (t : Ty) → class_at hs a ≡ Some c → subtype P (Class c) t ≡ conforms P (heap_of P hs) (Addr a) t
  unfolding conforms slot_conforms
  conforms_object a c t e = rw (look_obj P hs w.whole a c (class_some hs a c e))

-- the value that is written is the word's, or Unit where it stands for none
pub written_or : (o : Option Value) → unwrap_or o Value.Unit ≡ written o
written_or None = refl
written_or (Some v) = refl

-- the value of an address is one
pub address_small : (w a : ℕ) → unwrap_or (value_of w) Value.Unit ≡ Addr a → a < addresses
address_small w a q = go (value_of w) refl q
  where
    go : (o : Option Value) → value_of w ≡ o → unwrap_or o Value.Unit ≡ Addr a → a < addresses
    go None e q = absurd (cc)
    go (Some v) e q = decode_proper w (Addr a) (e ∙ ap Some q)

-- A word of a slot by cases.
module _ (P : Program) (hs : List ℕ) where
  pub value_first : (a first k word : ℕ) → k ≡ 0 → cond (ltb a fewest_slots) (eqb first (suc (suc a))) true ≡ slot_word_conforms P hs a first k word
  unfolding slot_word_conforms
  value_first a first k word e = rw e

  pub value_free : (a first k word : ℕ) → (k ≡ 0 → ⊥) → first ≡ 0 → true ≡ slot_word_conforms P hs a first k word
  unfolding slot_word_conforms
  value_free a first zero word n e = absurd (n refl)
  value_free a zero (suc j) word n e = refl
  value_free a (suc c) (suc j) word n e = absurd (omega arith)

  pub value_field : (a first k word : ℕ) → (k ≡ 0 → ⊥) → (first ≡ 0 → ⊥) → k - 1 < length (has_fields P (first - 1))
      → conforms P (heap_of P hs) (written (value_of word)) (field_type (has_fields P (first - 1)) (k - 1)) ≡ slot_word_conforms P hs a first k word
  unfolding slot_word_conforms
  value_field a first zero word n m h = absurd (n refl)
  value_field a zero (suc j) word n m h = absurd (m refl)
  value_field a (suc c) (suc j) word n m h =
      let p : suc j - 1 ≡ j = omega arith in
      let q : suc c - 1 ≡ c = omega arith in
      rw (p, q, lt-ltb j (length (has_fields P c)) (rw (p, q) at h))

  pub value_rest : (a first k word : ℕ) → (k ≡ 0 → ⊥) → (first ≡ 0 → ⊥) → length (has_fields P (first - 1)) ≤ k - 1
      → true ≡ slot_word_conforms P hs a first k word
  unfolding slot_word_conforms
  value_rest a first zero word n m h = absurd (n refl)
  value_rest a zero (suc j) word n m h = absurd (m refl)
  value_rest a (suc c) (suc j) word n m h =
      let p : suc j - 1 ≡ j = omega arith in
      let q : suc c - 1 ≡ c = omega arith in
      rw (le-ltb j (length (has_fields P c)) (rw (p, q) at h))

-- the type of a field in its class's row
pub row_type : {ws counts types : List ℕ} (first j : ℕ) → Rows ws counts types → first ≤ class_count ws → (first ≡ 0 → ⊥)
    → j < length (has_fields (program ws) (first - 1))
    → type_of (get_or types (row_words * (first - 1) + j) 0) ≡ field_type (has_fields (program ws) (first - 1)) j
row_type first j r h n l = (r.row (first - 1) (omega arith)).each j l

-- the type of main's input i
pub input_type : (ws : List ℕ) (i : ℕ) → i < input_count ws
    → type_of (type_at ws (type_count ws - input_count ws + i)) ≡ get_or (input_types ws) i Void
unfolding input_types types_from
input_type ws i h = sym (get_d_tabulate (input_count ws) _ i Void h)
