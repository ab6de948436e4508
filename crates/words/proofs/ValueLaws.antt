-- Laws of value words, and no definitions.
use Rattle.std.specs.Prelude.{◌≡◌, ℕ, zero, suc, ◌^◌, ◌<◌, Bool, true, false, ◌↔◌, ◌==◌, ◌≢◌, nat_lt, refl, is_some}
use Rattle.std.proofs.Common.{sym, ◌∙◌, arith, lt-ltb, ltb-true, eqb-true}
use Rattle.words.specs.declared.Value.{Value}
use Rattle.words.specs.declared.Value.TheVariants.{Null, Intg, Addr}
use Rattle.std.specs.declared.option.Option.{Option}
use Rattle.std.specs.declared.option.Option.TheVariants.{Some, None}
use Rattle.words.specs.Value.{addresses, word_with, WordOf, word_of, Proper, tag_of, payload_of, given, value_with, value_of, is_value}

-- a word has one tag and one payload, and they make it
pub tag_of_lem : (t p : ℕ) → p < 2 ^ 32 → tag_of (word_with t p) ≡ t
unfolding tag_of
tag_of_lem t p h = omega arith

pub payload_of_lem : (t p : ℕ) → p < 2 ^ 32 → payload_of (word_with t p) ≡ p
unfolding payload_of
payload_of_lem t p h = omega arith

pub word_with_lem : (w : ℕ) → word_with (tag_of w) (payload_of w) ≡ w
unfolding tag_of payload_of
word_with_lem w = omega arith

-- no tag above 4 has a value
pub no_tag : (t p : ℕ) → 4 < t → value_with t p ≡ None
unfolding value_with
no_tag zero p h = absurd (omega arith)
no_tag (suc zero) p h = absurd (omega arith)
no_tag (suc (suc zero)) p h = absurd (omega arith)
no_tag (suc (suc (suc zero))) p h = absurd (omega arith)
no_tag (suc (suc (suc (suc zero)))) p h = absurd (omega arith)
no_tag (suc (suc (suc (suc (suc t))))) p h = refl

not_is : {v : Value} → None ≢ Some v
not_is {v} e = let z : ◌≡◌ {A = ℕ} 0 1 = cc in omega arith

-- where given is v, its test was true
given_is : (b : Bool) (u v : Value) → given b u ≡ Some v → (b ≡ true) × (u ≡ v)
given_is true u v e = (refl, cc)
given_is false u v e = absurd (not_is e)

-- the word of a value is decoded to the value
pub decodes : (w : ℕ) (v : Value) → WordOf w v → value_of w ≡ Some v
unfolding value_of value_with tag_of payload_of
decodes w v WordOf.unit = refl
decodes w v WordOf.null = refl
decodes w v (WordOf.bool {b = true}) = refl
decodes w v (WordOf.bool {b = false}) = refl
decodes w v (WordOf.intg {i = i} h) = rw (tag_of_lem 3 i h, payload_of_lem 3 i h, lt-ltb i (2 ^ 32) h)
decodes w v (WordOf.addr {a = a} h) =
    let k : a < 2 ^ 32 = omega arith in rw (tag_of_lem 4 a k, payload_of_lem 4 a k, lt-ltb a addresses h)

-- and only the word of a value is
pub decoded_with : (t p : ℕ) (v : Value) → value_with t p ≡ Some v → WordOf (word_with t p) v
unfolding value_with
decoded_with zero p v e =
    let g = given_is (p == 0) Value.Unit v e in rw (← g.1, eqb-true p 0 g.0) WordOf.unit
decoded_with (suc zero) p v e =
    let g = given_is (p == 0) Null v e in rw (← g.1, eqb-true p 0 g.0) WordOf.null
decoded_with (suc (suc zero)) zero v e = rw (← (given_is true (Value.Bool false) v e).1) WordOf.bool
decoded_with (suc (suc zero)) (suc zero) v e = rw (← (given_is true (Value.Bool true) v e).1) WordOf.bool
decoded_with (suc (suc zero)) (suc (suc p)) v e =
    let g = given_is (nat_lt (suc (suc p)) 2) (Value.Bool (suc (suc p) == 1)) v e in
    absurd (omega (arith, ltb-true (suc (suc p)) 2 g.0))
decoded_with (suc (suc (suc zero))) p v e =
    let g = given_is (nat_lt p (2 ^ 32)) (Intg p) v e in rw (← g.1) (WordOf.intg (ltb-true p (2 ^ 32) g.0))
decoded_with (suc (suc (suc (suc zero)))) p v e =
    let g = given_is (nat_lt p addresses) (Addr p) v e in rw (← g.1) (WordOf.addr (ltb-true p addresses g.0))
decoded_with (suc (suc (suc (suc (suc t))))) p v e = absurd (not_is e)

pub decoded : (w : ℕ) (v : Value) → value_of w ≡ Some v → WordOf w v
unfolding value_of
decoded w v e = rw word_with_lem at (decoded_with (tag_of w) (payload_of w) v e)

-- a word is decoded to nothing exactly where it is the word of no value
pub not_decoded : (w : ℕ) → (value_of w ≡ None) ↔ ((v : Value) → WordOf w v → ⊥)
not_decoded w = (λ e v h. not_is (sym e ∙ decodes w v h), λ h. go h (value_of w) refl)
  where
    go : ((v : Value) → WordOf w v → ⊥) → (d : Option Value) → value_of w ≡ d → value_of w ≡ None
    go h (Some v) e = absurd (h v (decoded w v e))
    go h None e = e

-- a proper value is encoded to its word
pub encoded : (v : Value) → Proper v → WordOf (word_of v) v
unfolding word_of
encoded Value.Unit h = WordOf.unit
encoded Null h = WordOf.null
encoded (Value.Bool b) h = WordOf.bool
encoded (Intg i) h = WordOf.intg h
encoded (Addr a) h = WordOf.addr h

-- encoding and decoding undo each other
pub encode_decode : (v : Value) → Proper v → value_of (word_of v) ≡ Some v
encode_decode v h = decodes (word_of v) v (encoded v h)

pub decode_encode : (w : ℕ) (v : Value) → value_of w ≡ Some v → word_of v ≡ w
unfolding word_of
decode_encode w v e = go (decoded w v e)
  where
    go : {x : ℕ} {u : Value} → WordOf x u → word_of u ≡ x
    go WordOf.unit = refl
    go WordOf.null = refl
    go WordOf.bool = refl
    go (WordOf.intg h) = refl
    go (WordOf.addr h) = refl

pub decode_proper : (w : ℕ) (v : Value) → value_of w ≡ Some v → Proper v
decode_proper w v e = go (decoded w v e)
  where
    go : {x : ℕ} {u : Value} → WordOf x u → Proper u
    go WordOf.unit = tt
    go WordOf.null = tt
    go WordOf.bool = tt
    go (WordOf.intg h) = h
    go (WordOf.addr h) = h

-- two values with one word are equal
pub same_word : (u v : Value) → Proper u → Proper v → word_of u ≡ word_of v → u ≡ v
same_word u v h k e = let i = encode_decode u h in let j = encode_decode v k in cc

-- a tag and a payload are a value exactly where some value is decoded from them
pub is_value_lem : (t p : ℕ) → (is_value t p ≡ true) ↔ ((v : Value) × (value_with t p ≡ Some v))
unfolding is_value
is_value_lem t p = (go (value_with t p), λ h. rw h.1)
  where
    go : (d : Option Value) → is_some d ≡ true → (v : Value) × (d ≡ Some v)
    go (Some v) e = (v, refl)
    go None e = absurd (let z : ◌≡◌ {A = ℕ} 0 1 = cc in omega arith)

-- given is a value exactly where its test is true
pub is_given : (b : Bool) (v : Value) → is_some (given b v) ≡ b
is_given true v = refl
is_given false v = refl
