-- Laws of the heap: words and slots say the same, and a change of one is a change of the other.
use Rattle.std.specs.Prelude.{◌≡◌, Bool, not, ◌&&◌, List, [], ◌∷◌, ◌++◌, map, eqb, leb, set, take, drop, replicate, is_some}
use Rattle.std.proofs.Math.Path.{refl, sym, ap}
use Rattle.std.proofs.Common.{◌∙◌, append_assoc, length-append, length-set, length-take-le, drop-drop, get_or-append-add, drop_at, get_or-set_same, get_or-set_other, ext_get_or}
use Rattle.std.proofs.Math.Bool.{true, false, cond}
use Rattle.std.proofs.Math.Option.{Option, none, some}
use Prim.Native.Nat.{ℕ, zero, suc, ◌+◌, ◌*◌, ◌-◌, ◌/◌, ◌%◌, ◌≤◌, ◌<◌}
use native.Mathlib.Omega.{arith}
use Rattle.std.proofs.Math.Decide.{ℕ_discrete}
use Rattle.std.proofs.Math.Dec.{ltb, eqb-suc-zero}
use Rattle.std.proofs.Math.ListN.{length, get_or, get_or-append, get_or-eq_default}
use Rattle.std.proofs.lemmas.List.{length-map, length-replicate, get_or-replicate, drop-append-le, set-get_or, set-append_left}
use Rattle.std.proofs.lemmas.List.Edits.{sets, sets-eq}
use Rattle.std.proofs.Math.Seq.{take-append-add, drop-append-add, set_out}
use borrow.Author.Tests.{eqb-true, leb-true, le-leb, ltb-true, ltb-false}
use Rattle.std.specs.declared.option.Option.{Option as Maybe}
use Rattle.std.specs.declared.option.Option.TheVariants.{Some, None}
use Rattle.order.specs.Rules.{scan}
use Rattle.words.specs.declared.Value.{Value}
use Rattle.std.specs.declared.option.Option.{Option as Maybe}
use Rattle.std.specs.declared.option.Option.TheVariants.{Some, None}
use Rattle.words.specs.declared.Ty.{Ty}
use Rattle.words.specs.declared.Ty.TheVariants.{Void, Boolean, Integer, NT, Class}
use Rattle.words.specs.Value.{value_of, word_of, Proper}
use Rattle.words.proofs.ValueLaws.{decode_encode, encode_decode, decode_proper}
use Rattle.image.specs.Laws.{and_left}
use Rattle.image.specs.Trailer.{class_count}
use Rattle.rules.specs.Maps.{tabulate}
use Rattle.rules.specs.Trees.{written}
use Rattle.rules.specs.Program.{Field, Program, program}
use Rattle.rules.specs.Classes.{has_fields}
use Rattle.rules.specs.Heap.{Slot, free, obj, Heap, look, default, defaults, free_from, lowest_free, slot_words, slot_at, heap_of, slot_words_of, words_of}
use Rattle.rules.specs.Numbers.{fields_rule, heap_word_rule, most_fields_above, fewest_slots, most_slots, heap_length_holds, slot_word_holds, slot_first}
use Rattle.laws.specs.Maps.{length_tabulate, get_d_tabulate, tabulate_same, tabulate_get_d, tabulate_all, get_d_map}

-- two facts about lists
map_set {ℓ} : {A B : Type ℓ} (f : A → B) (l : List A) (i : ℕ) (a : A) → map f (set l i a) ≡ set (map f l) i (f a)
map_set f [] i a = refl
map_set f (x ∷ l) zero a = refl
map_set f (x ∷ l) (suc i) a = ap (f x ∷◌) (map_set f l i a)

set_append_right {ℓ} : {A : Type ℓ} (xs ys : List A) (n : ℕ) (a : A) → set (xs ++ ys) (length xs + n) a ≡ xs ++ set ys n a
set_append_right [] ys n a = let e : 0 + n ≡ n = omega arith in rw e
set_append_right (x ∷ xs) ys n a =
    let e : suc (length xs) + n ≡ suc (length xs + n) = omega arith in rw e (ap (x ∷◌) (set_append_right xs ys n a))

-- A slot has room for its fields.
abbrev pub SlotFits : Slot → Type 0
SlotFits free = Unit {0}
SlotFits (obj c vs) = length vs ≤ most_fields_above

pub record Fits (h : Heap) : Type 0 where
  pub at : (a : ℕ) → SlotFits (look h a)

fits_tail : {s : Slot} {h : Heap} → Fits (s ∷ h) → Fits h
fits_tail f = record { at = λ a. f.at (suc a) }

pub length_slot : (s : Slot) → SlotFits s → length (slot_words_of s) ≡ slot_words
unfolding slot_words_of
length_slot free f = refl
length_slot (obj c vs) f =
    simp (length-append, length-map, length-replicate) (omega arith)

pub length_words : (h : Heap) → Fits h → length (words_of h) ≡ slot_words * length h
unfolding words_of
length_words [] f = refl
length_words (s ∷ h) f = rw (length-append, length_slot s (f.at 0), length_words h (fits_tail f)) (omega arith)

-- the words of a slot
pub slot_free : (k : ℕ) → k < slot_words → get_or (slot_words_of free) k 0 ≡ 0
unfolding slot_words_of
slot_free k l = get_or-replicate slot_words k 0 0 l

pub slot_class : (c : ℕ) (vs : List Value) → get_or (slot_words_of (obj c vs)) 0 0 ≡ suc c
unfolding slot_words_of
slot_class c vs = refl

pub slot_field : (c : ℕ) (vs : List Value) (i : ℕ) (d : Value) → i < length vs
    → get_or (slot_words_of (obj c vs)) (suc i) 0 ≡ word_of (get_or vs i d)
unfolding slot_words_of
slot_field c vs i d l =
    get_or-append (map word_of vs) _ 0 i (rw length-map l) ∙ get_d_map word_of vs i 0 d l

pub slot_rest : (c : ℕ) (vs : List Value) (i : ℕ) → length vs ≤ i → suc i < slot_words → get_or (slot_words_of (obj c vs)) (suc i) 0 ≡ 0
unfolding slot_words_of
slot_rest c vs i h l =
    let e : i ≡ length (map word_of vs) + (i - length vs) = rw length-map (omega arith) in
    ap (λ (j : ℕ). get_or (map word_of vs ++ replicate (slot_words - suc (length vs)) 0) j 0) e
    ∙ get_or-append-add (map word_of vs) _ (i - length vs) 0
    ∙ get_or-replicate (slot_words - suc (length vs)) (i - length vs) 0 0 (omega arith)

-- word k of slot a
pub word_at : (h : Heap) → Fits h → (a k : ℕ) → k < slot_words
    → get_or (words_of h) (slot_words * a + k) 0 ≡ get_or (slot_words_of (look h a)) k 0
unfolding words_of
word_at [] f a k l = sym (slot_free k l)
word_at (s ∷ h) f zero k l =
    let e : slot_words * 0 + k ≡ k = omega arith in
    rw e (get_or-append (slot_words_of s) (words_of h) 0 k (rw (length_slot s (f.at 0)) l))
word_at (s ∷ h) f (suc a) k l =
    let e : slot_words * suc a + k ≡ length (slot_words_of s) + (slot_words * a + k) = rw (length_slot s (f.at 0)) (omega arith) in
    rw e (get_or-append-add (slot_words_of s) (words_of h) (slot_words * a + k) 0 ∙ word_at h (fits_tail f) a k l)

-- A slot written: its 16 words are replaced,
pub words_set : (h : Heap) → Fits h → (a : ℕ) (s : Slot) → a < length h
    → words_of (set h a s) ≡ take (slot_words * a) (words_of h) ++ (slot_words_of s ++ drop (slot_words * a + slot_words) (words_of h))
unfolding words_of
words_set [] f a s l = absurd (omega arith)
words_set (r ∷ h) f zero s l = rw (drop_at (slot_words_of r) (words_of h) slot_words (length_slot r (f.at 0)))
words_set (r ∷ h) f (suc a) s l =
    let xs = slot_words_of r in
    let p : slot_words * suc a ≡ length xs + slot_words * a = rw (length_slot r (f.at 0)) (omega arith) in
    let q : length xs + slot_words * a + slot_words ≡ length xs + (slot_words * a + slot_words) = omega arith in
    rw (p, q, take-append-add xs (words_of h) (slot_words * a), drop-append-add xs (words_of h) (slot_words * a + slot_words), append_assoc)
    (ap (xs ++◌) (words_set h (fits_tail f) a s (omega arith)))

-- as the words around it and its own are all;
pub words_split : (h : Heap) → Fits h → (a : ℕ) → a < length h
    → words_of h ≡ take (slot_words * a) (words_of h) ++ (slot_words_of (look h a) ++ drop (slot_words * a + slot_words) (words_of h))
words_split h f a l = ap words_of (sym (set-get_or h a free)) ∙ words_set h f a (look h a) l

-- an object put where a slot is free: the class word and the fields' words are written, and the rest is 0 already;
drop_zeros : (m n : ℕ) → drop {A = ℕ} m (replicate n 0) ≡ replicate (n - m) 0
drop_zeros zero n = let e : n - 0 ≡ n = omega arith in rw e
drop_zeros (suc m) zero = let e : 0 - suc m ≡ 0 = omega arith in rw e
drop_zeros (suc m) (suc n) = let e : suc n - suc m ≡ n - m = omega arith in rw e (drop_zeros m n)

drop_free : (h : Heap) → Fits h → (a m : ℕ) → a < length h → look h a ≡ free → m ≤ slot_words
    → drop (slot_words * a + m) (words_of h) ≡ replicate (slot_words - m) 0 ++ drop (slot_words * a + slot_words) (words_of h)
unfolding slot_words_of
drop_free h f a m l e k =
    let ws = words_of h in
    let q = drop (slot_words * a + slot_words) ws in
    let t = take (slot_words * a) ws in
    let n : length t ≡ slot_words * a = length-take-le (slot_words * a) ws (rw (length_words h f) (omega arith)) in
    let p : ws ≡ t ++ (replicate slot_words 0 ++ q) = words_split h f a l ∙ rw e in
    sym (drop-drop m (slot_words * a) ws)
    ∙ ap (drop m) (ap (drop (slot_words * a)) p ∙ drop_at t (replicate slot_words 0 ++ q) (slot_words * a) n)
    ∙ drop-append-le m (replicate slot_words 0) q (rw length-replicate k)
    ∙ ap (◌++ q) (drop_zeros m slot_words)

pub words_new : (h : Heap) → Fits h → (a c : ℕ) (vs : List Value) → a < length h → look h a ≡ free → length vs ≤ most_fields_above
    → words_of (set h a (obj c vs)) ≡ sets (words_of h) (slot_words * a) (suc c ∷ map word_of vs)
unfolding slot_words_of
words_new h f a c vs l e k =
    let n : length (map word_of vs) ≡ length vs = length-map vs word_of in
    words_set h f a (obj c vs) l
    ∙ rw (n, drop_free h f a (suc (length vs)) l e (omega arith)) (simp append_assoc)
    ∙ sym (sets-eq (suc c ∷ map word_of vs) (words_of h) (slot_words * a) (rw (length_words h f) (omega arith)))

-- and a field written: its word is.
slot_set : (c : ℕ) (vs : List Value) (i : ℕ) (w : Value) → i < length vs
    → slot_words_of (obj c (set vs i w)) ≡ set (slot_words_of (obj c vs)) (suc i) (word_of w)
unfolding slot_words_of
slot_set c vs i w l =
    let ws = map word_of vs in
    rw (length-set vs i w, map_set word_of vs i w)
    (ap (suc c ∷◌) (sym (set-append_left ws (replicate (slot_words - suc (length vs)) 0) i (word_of w) (rw length-map l))))

pub words_put : (h : Heap) → Fits h → (a c : ℕ) (vs : List Value) (i : ℕ) (w : Value) → look h a ≡ obj c vs → i < length vs
    → words_of (set h a (obj c (set vs i w))) ≡ set (words_of h) (slot_words * a + 1 + i) (word_of w)
unfolding words_of
words_put [] f a c vs i w e l = absurd (let z : ◌≡◌ {A = ℕ} 0 1 = cc in omega arith)
words_put (s ∷ h) f zero c vs i w e l =
    let k : SlotFits (obj c vs) = rw e at (f.at 0) in
    let q : slot_words * 0 + 1 + i ≡ suc i = omega arith in
    let r : suc i < length (slot_words_of (obj c vs)) = rw (length_slot (obj c vs) k) (omega arith) in
    rw (q, slot_set c vs i w l, e) (sym (set-append_left (slot_words_of (obj c vs)) (words_of h) (suc i) (word_of w) r))
words_put (s ∷ h) f (suc a) c vs i w e l =
    let xs = slot_words_of s in
    let q : slot_words * suc a + 1 + i ≡ length xs + (slot_words * a + 1 + i) = rw (length_slot s (f.at 0)) (omega arith) in
    rw (q, set_append_right xs (words_of h) (slot_words * a + 1 + i) (word_of w)) (ap (xs ++◌) (words_put h (fits_tail f) a c vs i w e l))

-- a word that is a value's is the word of that value, and what is decoded is proper
pub written_word : (w : ℕ) → is_some (value_of w) ≡ true → word_of (written (value_of w)) ≡ w
written_word w h = go (value_of w) refl h
  where
    go : (d : Maybe Value) → value_of w ≡ d → is_some d ≡ true → word_of (written d) ≡ w
    go (Some v) e q = decode_encode w v e
    go None e q = absurd (let z : ◌≡◌ {A = ℕ} 0 1 = cc in omega arith)

pub written_proper : (w : ℕ) → Proper (written (value_of w))
written_proper w = go (value_of w) refl
  where
    go : (d : Maybe Value) → value_of w ≡ d → Proper (written d)
    go (Some v) e = decode_proper w v e
    go None e = tt

pub written_same : (v : Value) → Proper v → written (value_of (word_of v)) ≡ v
written_same v h = ap written (encode_decode v h)

pub length_defaults : (fs : List Field) → length (defaults fs) ≡ length fs
unfolding defaults
length_defaults [] = refl
length_defaults (f ∷ fs) = ap suc (length_defaults fs)

default_proper : (t : Ty) → Proper (default t)
unfolding default
default_proper Void = tt
default_proper Boolean = tt
default_proper Integer = omega arith
default_proper NT = tt
default_proper (Class c) = tt

pub defaults_proper : (fs : List Field) (i : ℕ) → Proper (get_or (defaults fs) i Value.Unit)
unfolding defaults
defaults_proper [] i = tt
defaults_proper (f ∷ fs) zero = default_proper f.type
defaults_proper (f ∷ fs) (suc i) = defaults_proper fs i

-- The slots of words.
module _ (P : Program) (hs : List ℕ) where
  pub length_heap : length (heap_of P hs) ≡ length hs / slot_words
  unfolding heap_of
  length_heap = length_tabulate _ _

  -- the values of slot a's fields, for an object of class c
  abbrev pub fields_at : (a c : ℕ) → List Value
  fields_at a c = tabulate (length (has_fields P c)) (λ i. written (value_of (get_or hs (slot_words * a + suc i) 0)))

  module _ (whole : length hs % slot_words ≡ 0) where
    pub look_at : (a : ℕ) → look (heap_of P hs) a ≡ slot_at P hs (slot_words * a) (get_or hs (slot_words * a) 0)
    unfolding heap_of slot_at
    look_at a = go (ltb a (length hs / slot_words)) refl
      where
        go : (t : Bool) → ltb a (length hs / slot_words) ≡ t
            → look (heap_of P hs) a ≡ slot_at P hs (slot_words * a) (get_or hs (slot_words * a) 0)
        go true e = get_d_tabulate (length hs / slot_words) _ a free (ltb-true _ _ e)
        go false e =
            let l : length (heap_of P hs) ≤ a = rw length_heap (ltb-false a (length hs / slot_words) e) in
            let k : length hs ≤ slot_words * a = omega (arith, ltb-false a (length hs / slot_words) e) in
            rw (get_or-eq_default hs 0 k) (get_or-eq_default (heap_of P hs) free l)

    -- free where the class word is 0, else an object of the class one below it
    pub look_free : (a : ℕ) → get_or hs (slot_words * a) 0 ≡ 0 → look (heap_of P hs) a ≡ free
    unfolding slot_at
    look_free a e = look_at a ∙ rw e

    pub look_obj : (a c : ℕ) → get_or hs (slot_words * a) 0 ≡ suc c → look (heap_of P hs) a ≡ obj c (fields_at a c)
    unfolding slot_at
    look_obj a c e = look_at a ∙ rw e

    pub free_word : (a : ℕ) → look (heap_of P hs) a ≡ free → get_or hs (slot_words * a) 0 ≡ 0
    free_word a h = go (get_or hs (slot_words * a) 0) refl
      where
        go : (first : ℕ) → get_or hs (slot_words * a) 0 ≡ first → first ≡ 0
        go zero e = refl
        go (suc c) e = let q = look_obj a c e in absurd (let z : ◌≡◌ {A = ℕ} 0 1 = cc in omega arith)

    pub obj_word : (a c : ℕ) (vs : List Value) → look (heap_of P hs) a ≡ obj c vs
        → (get_or hs (slot_words * a) 0 ≡ suc c) × (vs ≡ fields_at a c)
    obj_word a c vs h = go (get_or hs (slot_words * a) 0) refl
      where
        go : (first : ℕ) → get_or hs (slot_words * a) 0 ≡ first → (first ≡ suc c) × (vs ≡ fields_at a c)
        go zero e = let q = look_free a e in absurd (let z : ◌≡◌ {A = ℕ} 0 1 = cc in omega arith)
        go (suc d) e =
            let q = look_obj a d e in
            let z : c ≡ d = cc in
            (ap suc (sym z), rw z (cc))

    pub obj_count : (a c : ℕ) (vs : List Value) → look (heap_of P hs) a ≡ obj c vs → length vs ≡ length (has_fields P c)
    obj_count a c vs h = ap length (obj_word a c vs h).1 ∙ length_tabulate _ _

    pub obj_field : (a c : ℕ) (vs : List Value) → look (heap_of P hs) a ≡ obj c vs → (i : ℕ) (d : Value) → i < length vs
        → get_or vs i d ≡ written (value_of (get_or hs (slot_words * a + 1 + i) 0))
    obj_field a c vs h i d l =
        let e : slot_words * a + 1 + i ≡ slot_words * a + suc i = omega arith in
        ap (λ (us : List Value). get_or us i d) (obj_word a c vs h).1
        ∙ get_d_tabulate (length (has_fields P c)) _ i d (rw (← obj_count a c vs h) l)
        ∙ rw e

-- Words that 14 and 15 accept, in a program whose classes 10 accepts.
pub record Words (P : Program) (classes : ℕ) (hs : List ℕ) : Type 0 where
  pub few : (c : ℕ) → c < classes → length (has_fields P c) ≤ most_fields_above
  pub whole : length hs % slot_words ≡ 0
  pub holds : (i : ℕ) → i < length hs → slot_word_holds P classes (slot_first hs i) (i % slot_words) (get_or hs i 0) ≡ true

pub words : (ws hs : List ℕ) → ((c : ℕ) → c < class_count ws → (fields_rule ws).holds c ≡ true) → heap_length_holds (length hs) ≡ true
    → ((i : ℕ) → i < length hs → (heap_word_rule ws hs).holds i ≡ true)
    → Words (program ws) (class_count ws) hs
unfolding fields_rule heap_length_holds heap_word_rule
words ws hs few long hold =
    let t = eqb (length hs % slot_words) 0 in
    let u = leb fewest_slots (length hs / slot_words) in
    let v = leb (length hs / slot_words) most_slots in
    record {
      few = λ c l. leb-true _ _ (few c l);
      whole = eqb-true _ _ (and_left t u (and_left (t && u) v long));
      holds = hold;
    }

module _ (P : Program) (classes : ℕ) (hs : List ℕ) (w : Words P classes hs) where
  -- word k of slot a
  slot_holds : (a k : ℕ) → k < slot_words → a < length hs / slot_words
      → slot_word_holds P classes (get_or hs (slot_words * a) 0) k (get_or hs (slot_words * a + k) 0) ≡ true
  slot_holds a k l m =
      let p : (slot_words * a + k) / slot_words ≡ a = omega arith in
      let q : (slot_words * a + k) % slot_words ≡ k = omega arith in
      rw (p, q) at (w.holds (slot_words * a + k) (omega arith))

  -- the class of an object is one of the program's
  pub class_known : (a c : ℕ) → get_or hs (slot_words * a) 0 ≡ suc c → c < classes
  unfolding slot_word_holds
  class_known a c e = go (ltb a (length hs / slot_words)) refl
    where
      go : (t : Bool) → ltb a (length hs / slot_words) ≡ t → c < classes
      go true q =
          let l = ltb-true a (length hs / slot_words) q in
          omega (arith, leb-true (get_or hs (slot_words * a) 0) classes (slot_holds a 0 (omega arith) l))
      go false q =
          let n : length hs ≤ slot_words * a = omega (arith, ltb-false a (length hs / slot_words) q, w.whole) in
          absurd (omega (arith, get_or-eq_default hs 0 n))

  slot_same : (b first k : ℕ) → k < slot_words → first ≡ get_or hs b 0 → slot_word_holds P classes first k (get_or hs (b + k) 0) ≡ true
      → get_or (slot_words_of (slot_at P hs b first)) k 0 ≡ get_or hs (b + k) 0
  unfolding slot_at slot_word_holds
  slot_same b zero zero l e h = let q : b + 0 ≡ b = omega arith in slot_free 0 l ∙ rw (q, ← e)
  slot_same b (suc c) zero l e h = let q : b + 0 ≡ b = omega arith in slot_class c _ ∙ rw (q, ← e)
  slot_same b zero (suc j) l e h = slot_free (suc j) l ∙ sym (eqb-true _ _ h)
  slot_same b (suc c) (suc j) l e h = go (ltb j (length (has_fields P c))) refl h
    where
      n : ℕ
      n = length (has_fields P c)

      f : ℕ → Value
      f i = written (value_of (get_or hs (b + suc i) 0))

      go : (t : Bool) → ltb j n ≡ t → cond t (is_some (value_of (get_or hs (b + suc j) 0))) (eqb (get_or hs (b + suc j) 0) 0) ≡ true
          → get_or (slot_words_of (obj c (tabulate n f))) (suc j) 0 ≡ get_or hs (b + suc j) 0
      go true t q =
          let m = ltb-true j n t in
          slot_field c (tabulate n f) j Value.Unit (rw length_tabulate m)
          ∙ ap word_of (get_d_tabulate n f j Value.Unit m)
          ∙ written_word (get_or hs (b + suc j) 0) q
      go false t q = slot_rest c (tabulate n f) j (rw length_tabulate (ltb-false j n t)) l ∙ sym (eqb-true _ _ q)

  pub heap_fits : Fits (heap_of P hs)
  heap_fits = record { at = λ a. go a (look (heap_of P hs) a) refl }
    where
      go : (a : ℕ) (s : Slot) → look (heap_of P hs) a ≡ s → SlotFits s
      go a free e = tt
      go a (obj c vs) e =
          rw (obj_count P hs w.whole a c vs e)
          (w.few c (class_known a c (obj_word P hs w.whole a c vs e).0))

  -- Decoded and encoded again, the words are the same.
  pub words_heap : words_of (heap_of P hs) ≡ hs
  words_heap = ext_get_or 0 (words_of (heap_of P hs)) hs long (λ i l. each i (rw long at l))
    where
      long : length (words_of (heap_of P hs)) ≡ length hs
      long = length_words (heap_of P hs) heap_fits ∙ rw length_heap (omega (arith, w.whole))

      each : (i : ℕ) → i < length hs → get_or (words_of (heap_of P hs)) i 0 ≡ get_or hs i 0
      each i l =
          let a = i / slot_words in
          let k = i % slot_words in
          let e : slot_words * a + k ≡ i = omega arith in
          ap (λ (j : ℕ). get_or (words_of (heap_of P hs)) j 0) (sym e)
          ∙ word_at (heap_of P hs) heap_fits a k (omega arith)
          ∙ ap (λ (s : Slot). get_or (slot_words_of s) k 0) (look_at P hs w.whole a)
          ∙ slot_same (slot_words * a) (get_or hs (slot_words * a) 0) k (omega arith) refl
          (slot_holds a k (omega arith) (omega (arith, w.whole)))
          ∙ ap (λ (j : ℕ). get_or hs j 0) e

-- An object as a program has it: a known class, as many proper values as the class has fields, and no more than a slot holds.
pub record Object (P : Program) (classes c : ℕ) (vs : List Value) : Type 0 where
  pub class : c < classes
  pub count : length vs ≡ length (has_fields P c)
  pub few : length vs ≤ most_fields_above
  pub proper : (i : ℕ) → Proper (get_or vs i Value.Unit)

abbrev pub SlotShaped : Program → ℕ → Slot → Type 0
SlotShaped P classes free = Unit {0}
SlotShaped P classes (obj c vs) = Object P classes c vs

pub record Shaped (P : Program) (classes : ℕ) (h : Heap) : Type 0 where
  pub at : (a : ℕ) → SlotShaped P classes (look h a)

module _ (P : Program) (classes : ℕ) where
  pub shaped_fits : (h : Heap) → Shaped P classes h → Fits h
  shaped_fits h s = record { at = λ a. go (look h a) (s.at a) }
    where
      go : (r : Slot) → SlotShaped P classes r → SlotFits r
      go free k = tt
      go (obj c vs) k = k.few

  pub object_at : (h : Heap) → Shaped P classes h → (a c : ℕ) (vs : List Value) → look h a ≡ obj c vs → Object P classes c vs
  object_at h s a c vs e = rw e at (s.at a)

  -- what words that hold are decoded to
  pub heap_shaped : (hs : List ℕ) → Words P classes hs → Shaped P classes (heap_of P hs)
  heap_shaped hs w = record { at = λ a. go a (look (heap_of P hs) a) refl }
    where
      go : (a : ℕ) (s : Slot) → look (heap_of P hs) a ≡ s → SlotShaped P classes s
      go a free e = tt
      go a (obj c vs) e =
          let o = obj_word P hs w.whole a c vs e in
          let k = class_known P classes hs w a c o.0 in
          let n = obj_count P hs w.whole a c vs e in
          record {
            class = k;
            count = n;
            few = omega (arith, n, w.few c k);
            proper = λ i. rw o.1 (tabulate_all Proper (length (has_fields P c)) _ i Value.Unit (λ j. written_proper _) tt);
          }

  -- Encoded and decoded again, a shaped heap is the same.
  module _ (h : Heap) (s : Shaped P classes h) where
    class_word : (a k : ℕ) → k < slot_words → get_or (words_of h) (slot_words * a + k) 0 ≡ get_or (slot_words_of (look h a)) k 0
    class_word a k l = word_at h (shaped_fits h s) a k l

    -- the class word and the field words of an address
    pub word_free : (a : ℕ) → look h a ≡ free → get_or (words_of h) (slot_words * a) 0 ≡ 0
    word_free a e =
        let q : slot_words * a ≡ slot_words * a + 0 = omega arith in
        rw q (class_word a 0 (omega arith) ∙ ap (λ (r : Slot). get_or (slot_words_of r) 0 0) e ∙ slot_free 0 (omega arith))

    pub word_class : (a c : ℕ) (vs : List Value) → look h a ≡ obj c vs → get_or (words_of h) (slot_words * a) 0 ≡ suc c
    word_class a c vs e =
        let q : slot_words * a ≡ slot_words * a + 0 = omega arith in
        rw q (class_word a 0 (omega arith) ∙ ap (λ (r : Slot). get_or (slot_words_of r) 0 0) e ∙ slot_class c vs)

    pub word_field : (a c : ℕ) (vs : List Value) → look h a ≡ obj c vs → (i : ℕ) (d : Value) → i < length vs
        → get_or (words_of h) (slot_words * a + 1 + i) 0 ≡ word_of (get_or vs i d)
    word_field a c vs e i d l =
        let q : slot_words * a + 1 + i ≡ slot_words * a + suc i = omega arith in
        let o = object_at h s a c vs e in
        rw q
        (class_word a (suc i) (omega (arith, o.few))
        ∙ ap (λ (r : Slot). get_or (slot_words_of r) (suc i) 0) e
        ∙ slot_field c vs i d l)

    slot_back : (a : ℕ) → slot_at P (words_of h) (slot_words * a) (get_or (words_of h) (slot_words * a) 0) ≡ look h a
    unfolding slot_at
    slot_back a = go (look h a) refl
      where
        go : (r : Slot) → look h a ≡ r → slot_at P (words_of h) (slot_words * a) (get_or (words_of h) (slot_words * a) 0) ≡ r
        go free e = rw (word_free a e)
        go (obj c vs) e =
            let o = object_at h s a c vs e in
            rw (word_class a c vs e)
            (ap (obj c)
            (tabulate_same (length (has_fields P c)) _ (λ i. get_or vs i Value.Unit)
            (λ i l.
            let q : slot_words * a + 1 + i ≡ slot_words * a + suc i = omega arith in
            rw (← q, word_field a c vs e i Value.Unit (rw o.count l)) (written_same _ (o.proper i)))
            ∙ ap (λ (n : ℕ). tabulate n (λ i. get_or vs i Value.Unit)) (sym o.count)
            ∙ tabulate_get_d vs Value.Unit))

    pub heap_words : heap_of P (words_of h) ≡ h
    unfolding heap_of
    heap_words =
        let n : length (words_of h) / slot_words ≡ length h = rw (length_words h (shaped_fits h s)) (omega arith) in
        tabulate_same (length (words_of h) / slot_words) _ (λ a. look h a) (λ a l. slot_back a)
        ∙ ap (λ (n : ℕ). tabulate n (λ a. look h a)) n
        ∙ tabulate_get_d h free

  -- A slot written keeps the shape.
  pub shaped_set : (h : Heap) → Shaped P classes h → (a : ℕ) (r : Slot) → SlotShaped P classes r → Shaped P classes (set h a r)
  shaped_set h s a r k = record { at = λ b. go b (ltb a (length h)) refl (ℕ_discrete b a) }
    where
      go : (b : ℕ) (t : Bool) → ltb a (length h) ≡ t → Dec (b ≡ a) → SlotShaped P classes (look (set h a r) b)
      go b t e (no d) = rw (get_or-set_other h a b r free d) (s.at b)
      go b true e (yes q) = rw (q, get_or-set_same h a r free (ltb-true _ _ e)) k
      go b false e (yes q) = rw (set_out h a r (ltb-false _ _ e)) (s.at b)

  -- a field written
  pub object_put : (c : ℕ) (vs : List Value) → Object P classes c vs → (i : ℕ) (w : Value) → Proper w
      → Object P classes c (set vs i w)
  object_put c vs o i w p =
      record {
        class = o.class;
        count = length-set vs i w ∙ o.count;
        few = rw length-set o.few;
        proper = λ j. go j (ltb i (length vs)) refl (ℕ_discrete j i);
      }
    where
      go : (j : ℕ) (t : Bool) → ltb i (length vs) ≡ t → Dec (j ≡ i) → Proper (get_or (set vs i w) j Value.Unit)
      go j t e (no d) = rw (get_or-set_other vs i j w Value.Unit d) (o.proper j)
      go j true e (yes q) = rw (q, get_or-set_same vs i w Value.Unit (ltb-true _ _ e)) p
      go j false e (yes q) = rw (set_out vs i w (ltb-false _ _ e)) (o.proper j)

  pub shaped_put : (h : Heap) → Shaped P classes h → (a c : ℕ) (vs : List Value) (i : ℕ) (w : Value) → look h a ≡ obj c vs
      → Proper w
      → Shaped P classes (set h a (obj c (set vs i w)))
  shaped_put h s a c vs i w e p = shaped_set h s a (obj c (set vs i w)) (object_put c vs (object_at h s a c vs e) i w p)

  -- a new object
  pub object_new : (c : ℕ) → c < classes → length (has_fields P c) ≤ most_fields_above → Object P classes c (defaults (has_fields P c))
  object_new c k l =
      record {
        class = k;
        count = length_defaults (has_fields P c);
        few = rw length_defaults l;
        proper = defaults_proper (has_fields P c);
      }

  pub shaped_new : (h : Heap) → Shaped P classes h → (a c : ℕ) → c < classes → length (has_fields P c) ≤ most_fields_above
      → Shaped P classes (set h a (obj c (defaults (has_fields P c))))
  shaped_new h s a c k l = shaped_set h s a (obj c (defaults (has_fields P c))) (object_new c k l)

  -- The same in words: a word written, and the slots that it makes.
  pub heap_put : (hs : List ℕ) → Words P classes hs → (a c : ℕ) (vs : List Value) (i : ℕ) (v : Value)
      → look (heap_of P hs) a ≡ obj c vs
      → i < length vs → Proper v → heap_of P (set hs (slot_words * a + 1 + i) (word_of v)) ≡ set (heap_of P hs) a (obj c (set vs i v))
  heap_put hs w a c vs i v e l p =
      let s = heap_shaped hs w in
      let h = heap_of P hs in
      ap (heap_of P)
      (ap (λ (l : List ℕ). set l (slot_words * a + 1 + i) (word_of v)) (sym (words_heap P classes hs w))
      ∙ sym (words_put h (shaped_fits h s) a c vs i v e l))
      ∙ heap_words (set h a (obj c (set vs i v))) (shaped_put h s a c vs i v e p)

  pub heap_new : (hs : List ℕ) → Words P classes hs → (a c : ℕ) → a < length (heap_of P hs) → look (heap_of P hs) a ≡ free
      → c < classes
      → heap_of P (sets hs (slot_words * a) (suc c ∷ map word_of (defaults (has_fields P c))))
      ≡ set (heap_of P hs) a (obj c (defaults (has_fields P c)))
  heap_new hs w a c l e k =
      let s = heap_shaped hs w in
      let h = heap_of P hs in
      let vs = defaults (has_fields P c) in
      ap (heap_of P)
      (ap (λ (l : List ℕ). sets l (slot_words * a) (suc c ∷ map word_of vs)) (sym (words_heap P classes hs w))
      ∙ sym (words_new h (shaped_fits h s) a c vs l e (rw length_defaults (w.few c k))))
      ∙ heap_words (set h a (obj c vs)) (shaped_new h s a c k (w.few c k))

  -- the words of a shaped heap hold
  slot_shaped : (r : Slot) → SlotShaped P classes r → (k : ℕ) → k < slot_words
      → slot_word_holds P classes (get_or (slot_words_of r) 0 0) k (get_or (slot_words_of r) k 0) ≡ true
  unfolding slot_word_holds
  slot_shaped free o zero l = rw (slot_free 0 l) (le-leb 0 classes (omega arith))
  slot_shaped free o (suc j) l = rw (slot_free 0 (omega arith), slot_free (suc j) l)
  slot_shaped (obj c vs) o zero l = rw slot_class (le-leb _ _ o.class)
  slot_shaped (obj c vs) o (suc j) l = rw slot_class (go (ltb j (length (has_fields P c))) refl)
    where
      go : (t : Bool) → ltb j (length (has_fields P c)) ≡ t
          → cond t (is_some (value_of (get_or (slot_words_of (obj c vs)) (suc j) 0))) (eqb (get_or (slot_words_of (obj c vs)) (suc j) 0) 0) ≡ true
      go true t =
          rw (slot_field c vs j Value.Unit (rw o.count (ltb-true _ _ t)), encode_decode (get_or vs j Value.Unit) (o.proper j))
      go false t = rw (slot_rest c vs j (rw o.count (ltb-false _ _ t)) l)

  pub shaped_words : (h : Heap) → Shaped P classes h → ((c : ℕ) → c < classes → length (has_fields P c) ≤ most_fields_above)
      → Words P classes (words_of h)
  shaped_words h s few =
      let f = shaped_fits h s in
      record {
        few = few;
        whole = rw (length_words h f) (omega arith);
        holds =
            λ i l.
            let a = i / slot_words in
            let k = i % slot_words in
            let e : i ≡ slot_words * a + k = omega arith in
            let z : slot_words * a ≡ slot_words * a + 0 = omega arith in
            let p : get_or (words_of h) (slot_words * a) 0 ≡ get_or (slot_words_of (look h a)) 0 0 =
            ap (λ (j : ℕ). get_or (words_of h) j 0) z ∙ word_at h f a 0 (omega arith) in
            let q : get_or (words_of h) i 0 ≡ get_or (slot_words_of (look h a)) k 0 =
            ap (λ (j : ℕ). get_or (words_of h) j 0) e ∙ word_at h f a k (omega arith) in
            rw (p, q) (slot_shaped (look h a) (s.at a) k (omega arith));
      }

-- Free slots. The lowest one is free, and those below it are not.
pub record Room (h : Heap) (a : ℕ) : Type 0 where
  pub within : a < length h
  pub empty : look h a ≡ free

room_from : (h : Heap) (i a : ℕ) → free_from h i ≡ some a → (k : ℕ) × (a ≡ i + k) × Room h k
unfolding free_from
room_from [] i a e = absurd (let z : ◌≡◌ {A = ℕ} 0 1 = cc in omega arith)
room_from (free ∷ h) i a e = let q : i ≡ a = cc in (0, omega arith, record { within = omega arith; empty = refl })
room_from (obj c vs ∷ h) i a e =
    let r = room_from h (suc i) a e in
    (suc r.0, omega (arith, r.1), record { within = omega (arith, r.2.within); empty = r.2.empty })

pub room : (h : Heap) (a : ℕ) → lowest_free h ≡ some a → Room h a
unfolding lowest_free
room h a e = let r = room_from h 0 a e in let q : a ≡ r.0 = omega (arith, r.1) in rw q r.2

-- As a scan: it goes on where a slot is taken.
abbrev pub taken : Slot → Bool
taken free = false
taken (obj c vs) = true

abbrev pub place : Maybe ℕ → Option ℕ
place (Some a) = some a
place None = none

free_from_scan : (test : ℕ → Bool) (h : Heap) (i : ℕ) → ((a : ℕ) → a < length h → test (i + a) ≡ taken (look h a))
    → free_from h i ≡ place (scan test (length h) i)
unfolding free_from scan
free_from_scan test [] i t = refl
free_from_scan test (free ∷ h) i t = let z : i + 0 ≡ i = omega arith in rw (rw z at (t 0 (omega arith)))
free_from_scan test (obj c vs ∷ h) i t =
    let z : i + 0 ≡ i = omega arith in
    rw (rw z at (t 0 (omega arith)))
    (free_from_scan test h (suc i) (λ a l. let q : suc i + a ≡ i + suc a = omega arith in rw q (t (suc a) (omega arith))))

pub lowest_free_scan : (test : ℕ → Bool) (h : Heap) → ((a : ℕ) → a < length h → test a ≡ taken (look h a))
    → lowest_free h ≡ place (scan test (length h) 0)
unfolding lowest_free
lowest_free_scan test h t = free_from_scan test h 0 (λ a l. let q : 0 + a ≡ a = omega arith in rw q (t a l))

-- over words: a slot is taken where its class word is not 0
pub taken_word : (h : Heap) → Fits h → (a : ℕ) → not (eqb (get_or (words_of h) (slot_words * a) 0) 0) ≡ taken (look h a)
taken_word h f a =
    let q : slot_words * a ≡ slot_words * a + 0 = omega arith in
    rw (q, word_at h f a 0 (omega arith)) (go (look h a))
  where
    go : (s : Slot) → not (eqb (get_or (slot_words_of s) 0 0) 0) ≡ taken s
    go free = rw (slot_free 0 (omega arith))
    go (obj c vs) = rw (slot_class, eqb-suc-zero c)

pub lowest_free_words : (h : Heap) → Fits h
    → lowest_free h ≡ place (scan (λ a. not (eqb (get_or (words_of h) (slot_words * a) 0) 0)) (length h) 0)
lowest_free_words h f = lowest_free_scan _ h (λ a l. taken_word h f a)
