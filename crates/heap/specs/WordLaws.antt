-- Laws of 14, 15 and 16: a scan whose earlier places all held, a slot's word by cases, and the inputs.
use Rattle.std.specs.Prelude.{◌≡◌, refl, Bool, true, false, cond, ◌&&◌, List, eqb, leb, ltb, length, get_or, is_some}
use Rattle.std.proofs.Common.{sym, ◌∙◌, ⊎_elim, leb-true, le-leb, eq-eqb, ne_eqb, eqb-true, lt-ltb, le-ltb}
use Prim.Native.Nat.{ℕ, zero, suc, ◌+◌, ◌*◌, ◌-◌, ◌/◌, ◌%◌, ◌≤◌, ◌<◌}
use native.Mathlib.Omega.{arith}
use Rattle.std.specs.Int.Bits.{bit_or, or_add_and}
use Rattle.std.proofs.lemmas.Nat.{and_le_l, and_le_r}
use Rattle.std.proofs.lemmas.Bool.{eqb-false}
use Rattle.std.proofs.lemmas.List.{get_or-take, get_or-drop}
use Rattle.std.proofs.lemmas.List.Sums.{AllPass-from_list_all}
use Rattle.std.proofs.Math.ListN.{take, drop, length-take, length-drop}
use Rattle.std.proofs.lemmas.List.Folds.{list_all_more}
use Rattle.std.specs.List.{list_all}
use Rattle.order.specs.Rules.{first_place}
use Rattle.order.specs.Scan.{start, on}
use Rattle.order.specs.Lowest.{held}
use Rattle.std.specs.declared.option.Option.TheVariants.{None}
use Rattle.words.specs.Value.{value_of}
use Rattle.image.specs.Trailer.{class_count, input_count}
use Rattle.rules.specs.Program.{Program, program}
use Rattle.rules.specs.Classes.{has_fields}
use Rattle.rules.specs.Heap.{slot_words}
use Rattle.rules.specs.Numbers.{most_fields_above, slot_word_holds, slot_first, heap_word_rule, input_holds, input_rule}
use Rattle.classes.specs.Search.{lt_or_ge}
use Rattle.rows.specs.Rows.{Sizes}
use Rattle.heap.specs.Slots.{ZerosAt, ValuesAt, SlotHolds, Clean}

-- What holds below k, and at k, holds below the next.
each_on : {P : ℕ → Type 0} {k : ℕ} → ((j : ℕ) → j < k → P j) → P k → (j : ℕ) → j < k + 1 → P j
each_on {P} {k} below at j l =
    ⊎_elim (λ (z : j < k). below j z) (λ (z : k ≤ j). let y : j ≡ k = omega arith in rw y at) (lt_or_ge j k)

-- A scan, by one place and by several.
pub clean_start : (p : ℕ → Bool) (n : ℕ) → Clean p n 0
clean_start p n = record { still = start p n; passed = λ j h. absurd (omega arith) }

pub clean_on : {p : ℕ → Bool} {n i : ℕ} → Clean p n i → i < n → p i ≡ true → Clean p n (i + 1)
clean_on {p} {n} {i} s h e =
    record { still = on s.still h e; passed = each_on {P = λ (j : ℕ). p j ≡ true} s.passed e }

pub clean_far : {p : ℕ → Bool} {n i : ℕ} (m : ℕ) → Clean p n i → i + m ≤ n → ((k : ℕ) → k < m → p (i + k) ≡ true) → Clean p n (i + m)
clean_far {p} {n} {i} zero s h e = let y : i + 0 ≡ i = omega arith in rw y s
clean_far {p} {n} {i} (suc m) s h e =
    let y : i + suc m ≡ i + m + 1 = omega arith in
    rw y (clean_on (clean_far m s (omega arith) (λ k l. e k (omega arith))) (omega arith) (e m (omega arith)))

-- Words that were joined come to 0 where each is 0.
or_zero : (a b : ℕ) → eqb (bit_or a b) 0 ≡ (eqb a 0 && eqb b 0)
or_zero a b = go (eqb a 0) (eqb b 0) refl refl
  where
    go : (t u : Bool) → eqb a 0 ≡ t → eqb b 0 ≡ u → eqb (bit_or a b) 0 ≡ (t && u)
    go true true d e = eq-eqb (bit_or a b) 0 (omega (arith, or_add_and a b, eqb-true a 0 d, eqb-true b 0 e))
    go true false d e = ne_eqb (bit_or a b) 0 (λ z. eqb-false b 0 e (omega (arith, or_add_and a b, and_le_l a b, z)))
    go false u d e = ne_eqb (bit_or a b) 0 (λ z. eqb-false a 0 d (omega (arith, or_add_and a b, and_le_r a b, z)))

pub zeros_on : (ws : List ℕ) (k d : ℕ) → k < length ws → eqb d 0 ≡ list_all (λ w. eqb w 0) (take k ws)
    → eqb (bit_or d (get_or ws k 0)) 0 ≡ list_all (λ w. eqb w 0) (take (k + 1) ws)
zeros_on ws k d h e = rw (list_all_more (λ w. eqb w 0) ws k 0 h, or_zero d (get_or ws k 0), e)

-- What is tested of all words of a part is so of the heap's words there.
part_all : (p : ℕ → Bool) (hs : List ℕ) (a b : ℕ) → b ≤ length hs → list_all p (take (b - a) (drop a hs)) ≡ true
    → (k : ℕ) → k < b - a → p (get_or hs (a + k) 0) ≡ true
part_all p hs a b h e k l =
    let s : k < length (take (b - a) (drop a hs)) = rw (length-take, length-drop) (omega arith) in
    rw (get_or-take (b - a) (drop a hs) k 0 l, get_or-drop a hs k 0) at (AllPass-from_list_all p (take (b - a) (drop a hs)) e k 0 s)

pub zeros_part : (hs : List ℕ) (a b n : ℕ) → b ≡ a + n → b ≤ length hs → list_all (λ w. eqb w 0) (take (b - a) (drop a hs)) ≡ true
    → ZerosAt hs a n
zeros_part hs a b n q h e k l = eqb-true _ 0 (part_all (λ w. eqb w 0) hs a b h e k (omega arith))

pub values_part : (hs : List ℕ) (a b n : ℕ) → b ≡ a + n → b ≤ length hs
    → list_all (λ w. is_some (value_of w)) (take (b - a) (drop a hs)) ≡ true → ValuesAt hs a n
values_part hs a b n q h e k l = part_all (λ w. is_some (value_of w)) hs a b h e k (omega arith)

-- A word by cases.
pub word_first : (P : Program) (classes first k word : ℕ) → k ≡ 0 → leb first classes ≡ slot_word_holds P classes first k word
unfolding slot_word_holds
word_first P classes first k word e = rw e

pub word_free : (P : Program) (classes first k word : ℕ) → (k ≡ 0 → ⊥) → first ≡ 0 → eqb word 0 ≡ slot_word_holds P classes first k word
unfolding slot_word_holds
word_free P classes zero zero word n e = absurd (n refl)
word_free P classes zero (suc j) word n e = refl
word_free P classes (suc c) k word n e = absurd (omega arith)

pub word_value : (P : Program) (classes first k word : ℕ) → (k ≡ 0 → ⊥) → (first ≡ 0 → ⊥) → k - 1 < length (has_fields P (first - 1))
    → is_some (value_of word) ≡ slot_word_holds P classes first k word
unfolding slot_word_holds
word_value P classes first zero word n m h = absurd (n refl)
word_value P classes zero (suc j) word n m h = absurd (m refl)
word_value P classes (suc c) (suc j) word n m h =
    let p : suc j - 1 ≡ j = omega arith in
    let q : suc c - 1 ≡ c = omega arith in
    rw (lt-ltb j (length (has_fields P c)) (rw (p, q) at h))

pub word_rest : (P : Program) (classes first k word : ℕ) → (k ≡ 0 → ⊥) → (first ≡ 0 → ⊥) → length (has_fields P (first - 1)) ≤ k - 1
    → eqb word 0 ≡ slot_word_holds P classes first k word
unfolding slot_word_holds
word_rest P classes first zero word n m h = absurd (n refl)
word_rest P classes zero (suc j) word n m h = absurd (m refl)
word_rest P classes (suc c) (suc j) word n m h =
    let p : suc j - 1 ≡ j = omega arith in
    let q : suc c - 1 ≡ c = omega arith in
    rw (le-ltb j (length (has_fields P c)) (rw (p, q) at h))

-- A whole slot: one that is free, and one of a known class with n fields.
module _ (ws hs : List ℕ) (i : ℕ) (e : i % slot_words ≡ 0) where
  at_slot : (k : ℕ) → k < slot_words
      → (heap_word_rule ws hs).holds (i + k) ≡ slot_word_holds (program ws) (class_count ws) (get_or hs i 0) k (get_or hs (i + k) 0)
  unfolding heap_word_rule
  at_slot k h =
      let p : slot_words * ((i + k) / slot_words) ≡ i = omega arith in
      let q : (i + k) % slot_words ≡ k = omega arith in
      rw (p, q)

  first_holds : get_or hs i 0 ≤ class_count ws → (heap_word_rule ws hs).holds (i + 0) ≡ true
  first_holds h = at_slot 0 (omega arith) ∙ sym (word_first (program ws) (class_count ws) (get_or hs i 0) 0 (get_or hs (i + 0) 0) refl) ∙ le-leb _ _ h

  pub free_slot : get_or hs i 0 ≡ 0 → ZerosAt hs i slot_words → SlotHolds ws hs i
  free_slot f z zero h = first_holds (omega (arith, f))
  free_slot f z (suc j) h =
      at_slot (suc j) h ∙ sym (word_free (program ws) (class_count ws) _ (suc j) _ (λ d. omega (arith, d)) f)
      ∙ eq-eqb _ 0 (z (suc j) h)

  pub used_slot : (get_or hs i 0 ≡ 0 → ⊥) → get_or hs i 0 ≤ class_count ws → (n : ℕ) → n ≡ length (has_fields (program ws) (get_or hs i 0 - 1))
      → ValuesAt hs (i + 1) n
      → ZerosAt hs (i + 1 + n) (slot_words - 1 - n)
      → SlotHolds ws hs i
  used_slot f c n m v z zero h = first_holds c
  used_slot f c n m v z (suc j) h = at_slot (suc j) h ∙ ⊎_elim value rest (lt_or_ge j n)
    where
      later : suc j ≡ 0 → ⊥
      later d = omega (arith, d)

      value : j < n → slot_word_holds (program ws) (class_count ws) (get_or hs i 0) (suc j) (get_or hs (i + suc j) 0) ≡ true
      value l =
          let y : i + suc j ≡ i + 1 + j = omega arith in
          let b : is_some (value_of (get_or hs (i + suc j) 0)) ≡ true = rw y (v j l) in
          sym (word_value (program ws) (class_count ws) (get_or hs i 0) (suc j) (get_or hs (i + suc j) 0) later f (omega (arith, m))) ∙ b

      rest : n ≤ j → slot_word_holds (program ws) (class_count ws) (get_or hs i 0) (suc j) (get_or hs (i + suc j) 0) ≡ true
      rest l =
          let y : i + suc j ≡ i + 1 + n + (j - n) = omega arith in
          let b : get_or hs (i + suc j) 0 ≡ 0 = rw y (z (j - n) (omega arith)) in
          sym (word_rest (program ws) (class_count ws) (get_or hs i 0) (suc j) (get_or hs (i + suc j) 0) later f (omega (arith, m)))
          ∙ eq-eqb _ 0 b

-- the first word of a slot was looked at before the others
pub first_known : (ws hs : List ℕ) (i : ℕ) → ((j : ℕ) → j < i → (heap_word_rule ws hs).holds j ≡ true) → (i % slot_words ≡ 0 → ⊥)
    → slot_first hs i ≤ class_count ws
unfolding heap_word_rule slot_word_holds
first_known ws hs i h n =
    let j = slot_words * (i / slot_words) in
    let b : j < i = omega arith in
    let p : j / slot_words ≡ i / slot_words = omega arith in
    let q : j % slot_words ≡ 0 = omega arith in
    leb-true _ _ (rw (q, p) at (h j b))

-- the count of a known class
pub class_count_lem : {ws counts : List ℕ} (first : ℕ) → Sizes ws counts → first ≤ class_count ws → (first ≡ 0 → ⊥)
    → get_or counts (first - 1) 0 ≡ length (has_fields (program ws) (first - 1))
class_count_lem first s h n = s.count (first - 1) (omega arith)

pub count_few : {ws counts : List ℕ} (first : ℕ) → Sizes ws counts → first ≤ class_count ws → (first ≡ 0 → ⊥)
    → get_or counts (first - 1) 0 ≤ most_fields_above
count_few first s h n = rw (class_count_lem first s h n) (s.few (first - 1) (omega arith))

-- Inputs: at main's count 16 asks that there are as many, and elsewhere that each that is there is a value.
module _ (count : ℕ) (is : List ℕ) (i : ℕ) where
  pub input_last : i ≡ count → eqb (length is) count ≡ input_holds count is i
  unfolding input_holds
  input_last e = go (eqb (length is) count) refl
    where
      go : (t : Bool) → eqb (length is) count ≡ t → t ≡ (cond (eqb i count) t true && cond (ltb i (length is)) (is_some (value_of (get_or is i 0))) true)
      go true q = rw (eq-eqb i count e, le-ltb i (length is) (omega (arith, eqb-true _ _ q)))
      go false q = rw (eq-eqb i count e)

  pub input_value : (i ≡ count → ⊥) → i < length is → is_some (value_of (get_or is i 0)) ≡ input_holds count is i
  unfolding input_holds
  input_value n h = rw (ne_eqb i count n, lt-ltb i (length is) h)

  pub input_beyond : (i ≡ count → ⊥) → length is ≤ i → true ≡ input_holds count is i
  unfolding input_holds
  input_beyond n h = rw (ne_eqb i count n, le-ltb i (length is) h)

-- where 16 holds there are as many inputs as main takes
pub inputs_count : (ws is : List ℕ) → first_place (input_rule ws is) ≡ None → length is ≡ input_count ws
unfolding input_rule
inputs_count ws is h =
    eqb-true _ _ (input_last (input_count ws) is (input_count ws) refl ∙ held (input_rule ws is) h (input_count ws) (omega arith))
