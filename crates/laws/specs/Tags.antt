-- Laws of a value word by its tag.
use Rattle.std.specs.Prelude.{◌≡◌, refl, Bool, true, false, ℕ, ◌+◌, ◌*◌, ◌/◌, ◌%◌, ◌^◌, ◌<◌, eqb, ltb, is_some}
use Rattle.std.proofs.Common.{sym, ◌∙◌}
use Rattle.std.proofs.Math.Path.{ap}
use native.Mathlib.Omega.{arith}
use Rattle.words.specs.declared.Value.{Value}
use Rattle.words.specs.declared.Value.TheVariants.{Null, Intg, Addr}
use Rattle.words.specs.Value.{addresses, word_of, Proper, tag_of, payload_of, given, value_with, value_of}
use Rattle.words.proofs.ValueLaws.{encode_decode}
use Rattle.rules.specs.Trees.{written}
use Rattle.rules.specs.Step.{tag, payload}
use Rattle.laws.specs.Values.{value_at, IsValue}
use Rattle.laws.specs.Heap.{written_word, written_proper, written_same}

-- A proper value's word is a value's. (Its value is that one: `written_same`.)
pub word_value : (v : Value) → Proper v → IsValue (word_of v)
word_value v h = ap is_some (encode_decode v h)

-- the word of an address
pub address_word : (a : ℕ) → a < addresses → IsValue (4 * 2 ^ 32 + a) × (value_at (4 * 2 ^ 32 + a) ≡ Addr a)
unfolding word_of
address_word a h = (word_value (Addr a) h, written_same (Addr a) h)

given_value : (b : Bool) (v : Value) → is_some (given b v) ≡ true → written (given b v) ≡ v
given_value true v k = refl
given_value false v k = absurd (let z : ◌≡◌ {A = ℕ} 0 1 = cc in omega arith)

word_parts : (v : Value) → Proper v → (tag v ≡ word_of v / 2 ^ 32) × (payload v ≡ word_of v % 2 ^ 32)
unfolding tag payload word_of
word_parts Value.Unit h = (refl, refl)
word_parts Null h = (refl, refl)
word_parts (Value.Bool true) h = (refl, refl)
word_parts (Value.Bool false) h = (refl, refl)
word_parts (Intg i) h = (omega arith, omega arith)
word_parts (Addr a) h = (omega arith, omega arith)

module _ (w : ℕ) (k : IsValue w) where
  -- a word's tag and payload are its value's
  pub tag_is : tag (value_at w) ≡ w / 2 ^ 32
  tag_is = rw (written_word w k) at (word_parts (value_at w) (written_proper w)).0

  pub payload_is : payload (value_at w) ≡ w % 2 ^ 32
  payload_is = rw (written_word w k) at (word_parts (value_at w) (written_proper w)).1

  -- A word by its tag. There are five tags.
  pub tag_small : w / 2 ^ 32 < 5
  unfolding tag
  tag_small = rw (← tag_is) (go (value_at w))
    where
      go : (v : Value) → tag v < 5
      go Value.Unit = omega arith
      go Null = omega arith
      go (Value.Bool b) = omega arith
      go (Intg i) = omega arith
      go (Addr a) = omega arith

  -- so the word is small, and 1 more is a word too
  pub word_low : w < 5 * 2 ^ 32
  word_low = omega (arith, tag_small)

  pub unit_at : w / 2 ^ 32 ≡ 0 → value_at w ≡ Value.Unit
  unfolding value_of value_with tag_of payload_of
  unit_at e = rw e (given_value (eqb (w % 2 ^ 32) 0) Value.Unit (rw e at k))

  pub null_at : w / 2 ^ 32 ≡ 1 → value_at w ≡ Null
  unfolding value_of value_with tag_of payload_of
  null_at e = rw e (given_value (eqb (w % 2 ^ 32) 0) Null (rw e at k))

  pub bool_at : w / 2 ^ 32 ≡ 2 → value_at w ≡ Value.Bool (eqb (w % 2 ^ 32) 1)
  unfolding value_of value_with tag_of payload_of
  bool_at e = rw e (given_value (ltb (w % 2 ^ 32) 2) (Value.Bool (eqb (w % 2 ^ 32) 1)) (rw e at k))

  pub integer_at : w / 2 ^ 32 ≡ 3 → value_at w ≡ Intg (w % 2 ^ 32)
  unfolding value_of value_with tag_of payload_of
  integer_at e = rw e (given_value (ltb (w % 2 ^ 32) (2 ^ 32)) (Intg (w % 2 ^ 32)) (rw e at k))

  pub address_at : w / 2 ^ 32 ≡ 4 → value_at w ≡ Addr (w % 2 ^ 32)
  unfolding value_of value_with tag_of payload_of
  address_at e = rw e (given_value (ltb (w % 2 ^ 32) addresses) (Addr (w % 2 ^ 32)) (rw e at k))

  pub address_small : w / 2 ^ 32 ≡ 4 → w % 2 ^ 32 < addresses
  address_small e = rw (address_at e) at (written_proper w)

  -- a word of a lower tag is no address's
  pub no_address : w / 2 ^ 32 < 4 → (a : ℕ) → value_at w ≡ Addr a → ⊥
  unfolding tag
  no_address l a e = let t : 4 ≡ w / 2 ^ 32 = ap tag (sym e) ∙ tag_is in omega arith
