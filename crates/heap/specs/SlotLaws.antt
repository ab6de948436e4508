-- Laws of slots: the lowest free one from a start, and default words.
use Rattle.std.specs.Prelude.{◌≡◌, refl, Bool, true, false, List, ◌⊎◌, ℕ, zero, suc, ◌+◌, ◌*◌, ◌-◌, ◌/◌, ◌≤◌, ◌<◌, length, get_or}
use Rattle.std.proofs.Common.{sym, ◌∙◌, ap, inl, inr, arith, eq-eqb, ne_eqb}
use Rattle.std.proofs.Math.ListN.{get_or-eq_default}
use Rattle.order.specs.Rules.{scan}
use Rattle.std.specs.declared.option.Option.TheVariants.{Some, None}
use Rattle.words.specs.Types.{type_of}
use Rattle.words.specs.Value.{word_of}
use Rattle.rules.specs.Program.{Program}
use Rattle.rules.specs.Heap.{default, slot_words, heap_of, lowest_free}
use Rattle.rules.specs.Numbers.{most_fields_above}
use Rattle.classes.specs.Search.{lt_or_ge}
use Rattle.laws.specs.Heap.{place, Words, length_heap, heap_fits, words_heap, lowest_free_words}
use Rattle.heap.specs.Slots.{class_named, class_at, taken_at}

-- A scan that has come from `from` to a: what is left gives the answer.
pub record Since (p : ℕ → Bool) (n from a : ℕ) : Type 0 where
  pub low : from ≤ a
  pub same : scan p (n - a) a ≡ scan p (n - from) from

pub since_start : (p : ℕ → Bool) (n from : ℕ) → Since p n from from
since_start p n from = record { low = omega arith; same = refl }

pub since_on : {p : ℕ → Bool} {n from a : ℕ} → Since p n from a → a < n → p a ≡ true → Since p n from (a + 1)
unfolding scan
since_on {p} {n} {from} {a} s h e =
    let q : n - a ≡ suc (n - (a + 1)) = omega arith in
    let z : suc a ≡ a + 1 = omega arith in
    let w : scan p (n - a) a ≡ scan p (n - (a + 1)) (a + 1) = rw (q, e, z) in
    record { low = omega (arith, s.low); same = sym w ∙ s.same }

pub since_hit : {p : ℕ → Bool} {n from a : ℕ} → Since p n from a → a < n → p a ≡ false → Some a ≡ scan p (n - from) from
unfolding scan
since_hit {p} {n} {from} {a} s h e =
    let q : n - a ≡ suc (n - (a + 1)) = omega arith in
    let w : scan p (n - a) a ≡ Some a = rw (q, e) in
    sym w ∙ s.same

pub since_none : {p : ℕ → Bool} {n from a : ℕ} → Since p n from a → n ≤ a → None ≡ scan p (n - from) from
unfolding scan
since_none {p} {n} {from} {a} s h =
    let q : n - a ≡ 0 = omega arith in
    let w : scan p (n - a) a ≡ None = rw q in
    sym w ∙ s.same

pub free_at : (hs : List ℕ) (a : ℕ) → get_or hs (slot_words * a) 0 ≡ 0 → taken_at hs a ≡ false
unfolding taken_at
free_at hs a e = rw (eq-eqb _ _ e)

pub taken_at_lem : (hs : List ℕ) (a : ℕ) → (get_or hs (slot_words * a) 0 ≡ 0 → ⊥) → taken_at hs a ≡ true
unfolding taken_at
taken_at_lem hs a e = rw (ne_eqb _ _ e)

-- A slot's class, by its first word.
pub named_none : (first : ℕ) → first ≡ 0 → None ≡ class_named first
unfolding class_named
named_none first e = rw e

pub named_some : (first : ℕ) → (first ≡ 0 → ⊥) → Some (first - 1) ≡ class_named first
unfolding class_named
named_some zero n = absurd (n refl)
named_some (suc c) n = let z : suc c - 1 ≡ c = omega arith in rw z

none_named : (first : ℕ) → class_named first ≡ None → first ≡ 0
unfolding class_named
none_named zero e = refl
none_named (suc c) e = absurd (let z : ◌≡◌ {A = ℕ} 0 1 = cc in omega arith)

some_named : (first c : ℕ) → class_named first ≡ Some c → first ≡ suc c
unfolding class_named
some_named zero c e = absurd (let z : ◌≡◌ {A = ℕ} 0 1 = cc in omega arith)
some_named (suc d) c e = let z : d ≡ c = cc in rw z

pub class_none : (hs : List ℕ) (a : ℕ) → class_at hs a ≡ None → get_or hs (slot_words * a) 0 ≡ 0
class_none hs a e = none_named _ e

pub class_some : (hs : List ℕ) (a c : ℕ) → class_at hs a ≡ Some c → get_or hs (slot_words * a) 0 ≡ suc c
class_some hs a c e = some_named _ c e

-- where the slots below the start are taken, the lowest from there is the lowest of all
skipped : (p : ℕ → Bool) (n k i : ℕ) → k ≤ n → ((a : ℕ) → i ≤ a → a < i + k → p a ≡ true) → scan p (n - k) (i + k) ≡ scan p n i
unfolding scan
skipped p n zero i h t =
    let q : n - 0 ≡ n = omega arith in
    let z : i + 0 ≡ i = omega arith in
    rw (q, z)
skipped p zero (suc k) i h t = absurd (omega arith)
skipped p (suc n) (suc k) i h t =
    let q : suc n - suc k ≡ n - k = omega arith in
    let z : i + suc k ≡ suc i + k = omega arith in
    rw (q, z, t i (omega arith) (omega arith)) (skipped p n k (suc i) (omega arith) (λ a l m. t a (omega arith) (omega arith)))

module _ (P : Program) (classes : ℕ) (hs : List ℕ) (w : Words P classes hs) where
  -- the lowest free slot of the heap that the words hold
  pub lowest_free_lem : lowest_free (heap_of P hs) ≡ place (scan (taken_at hs) (length hs / slot_words) 0)
  unfolding taken_at
  lowest_free_lem = rw (words_heap P classes hs w, length_heap P hs) at (lowest_free_words (heap_of P hs) (heap_fits P classes hs w))

  pub lowest_free_from : (from : ℕ) → from ≤ length hs / slot_words → ((a : ℕ) → a < from → taken_at hs a ≡ true)
      → lowest_free (heap_of P hs) ≡ place (scan (taken_at hs) (length hs / slot_words - from) from)
  lowest_free_from from h t =
      let z : 0 + from ≡ from = omega arith in
      lowest_free_lem ∙ ap place (sym (rw z at (skipped (taken_at hs) (length hs / slot_words) from 0 h (λ a l m. t a (omega arith)))))

  -- an object's slot stands in the heap
  pub slot_inside : (a c i : ℕ) → get_or hs (slot_words * a) 0 ≡ suc c → i < most_fields_above → slot_words * a + 1 + i < length hs
  slot_inside a c i e h = go (lt_or_ge (slot_words * a) (length hs))
    where
      go : (slot_words * a < length hs) ⊎ (length hs ≤ slot_words * a) → slot_words * a + 1 + i < length hs
      go (inl l) = omega (arith, w.whole)
      go (inr l) = absurd (omega (arith, get_or-eq_default hs 0 l))

-- beyond a list stands 0
pub beyond : (hs : List ℕ) (n : ℕ) → length hs ≤ n → 0 ≡ get_or hs n 0
beyond hs n h = sym (get_or-eq_default hs 0 h)

-- the default words
module _ (t : ℕ) where
  pub default_void : t ≡ 0 → 0 ≡ word_of (default (type_of t))
  unfolding word_of default type_of
  default_void e = rw e

  pub default_boolean : t ≡ 1 → 8589934592 ≡ word_of (default (type_of t))
  unfolding word_of default type_of
  default_boolean e = rw e

  pub default_integer : t ≡ 2 → 12884901888 ≡ word_of (default (type_of t))
  unfolding word_of default type_of
  default_integer e = rw e

pub default_other : (t : ℕ) → 3 ≤ t → 4294967296 ≡ word_of (default (type_of t))
unfolding word_of default type_of
default_other zero h = absurd (omega arith)
default_other (suc zero) h = absurd (omega arith)
default_other (suc (suc zero)) h = absurd (omega arith)
default_other (suc (suc (suc zero))) h = refl
default_other (suc (suc (suc (suc t)))) h = refl
