-- Laws of new objects: where one is made, and the words that are written for it.
use Rattle.std.specs.Prelude.{◌≡◌, refl, true, List, [], ◌∷◌, map, get_or, set, drop}
use Rattle.std.proofs.Common.{sym, ◌∙◌, ⊎_elim, arith, length-set, drop_of_length-le, drop-cons, get_or-set_same, get_or-set_other}
use Rattle.std.proofs.Math.Path.{ap}
use Rattle.std.proofs.Math.Option.{some}
use Prim.Native.Nat.{ℕ, zero, suc, ◌+◌, ◌*◌, ◌-◌, ◌/◌, ◌≤◌, ◌<◌}
use Rattle.std.proofs.Math.ListN.{length}
use Rattle.std.proofs.lemmas.List.{length-map}
use Rattle.std.proofs.lemmas.List.Edits.{sets}
use Rattle.std.proofs.Math.Seq.{length-sets}
use Rattle.std.specs.declared.option.Option.{Option}
use Rattle.std.specs.declared.option.Option.TheVariants.{Some, None}
use Rattle.order.specs.Rules.{scan, first_place}
use Rattle.order.specs.Lowest.{found}
use Rattle.words.specs.Types.{type_of}
use Rattle.words.specs.Value.{addresses, word_of}
use Rattle.image.specs.Trailer.{class_count}
use Rattle.rules.specs.Program.{Field, Program, program}
use Rattle.rules.specs.Classes.{has_fields}
use Rattle.rules.specs.Heap.{free, obj, look, default, defaults, lowest_free, slot_words, heap_of}
use Rattle.rules.specs.Numbers.{field_type}
use Rattle.rules.specs.Step.{new_redex}
use Rattle.laws.specs.Heap.{Words, place, taken, taken_word, room, look_free, free_word, length_heap, length_defaults, heap_fits, heap_new, heap_shaped, shaped_fits, shaped_new, shaped_words, words_heap, words_new}
use Rattle.classes.specs.Search.{lt_or_ge}
use Rattle.rows.specs.Rows.{row_words, Rows}
use Rattle.heap.specs.Slots.{taken_at}
use Rattle.heap.specs.SlotLaws.{free_at, lowest_free_lem, lowest_free_from}
use Rattle.objects.specs.Made.{default_words, Made, Opened}

place_at : (r : Option ℕ) (a : ℕ) → place r ≡ some a → r ≡ Some a
place_at (Some b) a e = let z : b ≡ a = cc in rw z
place_at None a e = absurd (let z : ◌≡◌ {A = ℕ} 0 1 = cc in omega arith)

-- the slots that are taken are those that hold an object
taken_look : (P : Program) (classes : ℕ) (hs : List ℕ) → Words P classes hs → (b : ℕ) → taken_at hs b ≡ taken (look (heap_of P hs) b)
unfolding taken_at
taken_look P classes hs k b = rw (words_heap P classes hs k) at (taken_word (heap_of P hs) (heap_fits P classes hs k) b)

module _ (ws hs : List ℕ) (k : Words (program ws) (class_count ws) hs) where
  -- where the slots below the start are taken, the lowest free slot from there is where a new object is made
  pub opened : (c from : ℕ) → from ≤ length hs / slot_words → ((b : ℕ) → b < from → taken_at hs b ≡ true)
      → length hs ≤ slot_words * addresses → (r : Option ℕ) → r ≡ scan (taken_at hs) (length hs / slot_words - from) from
      → Opened ws hs c from r
  unfolding new_redex first_place
  opened c from h t small r e =
      go r (lowest_free_from (program ws) (class_count ws) hs k from h t ∙ ap place (sym e))
    where
      n : ℕ
      n = length hs / slot_words

      go : (r : Option ℕ) → lowest_free (heap_of (program ws) hs) ≡ place r → Opened ws hs c from r
      go (Some a) q =
          let m = room (heap_of (program ws) hs) a q in
          let z = free_word (program ws) hs k.whole a m.empty in
          let l = m.within in
          let s = place_at (scan (taken_at hs) n 0) a (sym (lowest_free_lem (program ws) (class_count ws) hs k) ∙ q) in
          let inside : slot_words * a < length hs = omega (arith, length_heap (program ws) hs) in
          record {
            makes = rw q;
            inside = inside;
            known = omega arith;
            empty = z;
            low =
                ⊎_elim
                (λ (y : a < from).
                let u = t a y in
                let v = free_at hs a z in
                absurd (let x : ◌≡◌ {A = ℕ} 0 1 = cc in omega arith))
                (λ y. y) (lt_or_ge a from);
            below = (found (record { number = 0; places = n; holds = taken_at hs }) a s).lower;
          }
      go None q = rw q

  -- the class word and the default words make an object
  made : (a c : ℕ) → slot_words * a < length hs → get_or hs (slot_words * a) 0 ≡ 0 → c < class_count ws
      → Made ws hs (sets hs (slot_words * a) (suc c ∷ default_words ws c)) a c
  made a c l e b =
      let P = program ws in
      let n = class_count ws in
      let h = heap_of P hs in
      let vs = defaults (has_fields P c) in
      let w = sets hs (slot_words * a) (suc c ∷ map word_of vs) in
      let in_heap : a < length h = omega (arith, length_heap P hs, k.whole) in
      let f = look_free P hs k.whole a e in
      let s = heap_shaped P n hs k in
      let same = heap_new P n hs k a c in_heap f b in
      let few = k.few c b in
      let long : length vs ≤ 15 = rw length_defaults few in
      let y = words_new h (shaped_fits P n h s) a c vs in_heap f long in
      let words : Words P n w =
      rw (y, words_heap P n hs k) at (shaped_words P n (set h a (obj c vs)) (shaped_new P n h s a c b few) k.few) in
      record {
        same = same;
        words = words;
        size = length-sets hs (slot_words * a) (suc c ∷ map word_of vs);
        here = taken_look P n w words a ∙ rw (same, get_or-set_same h a (obj c vs) free in_heap);
        others =
            λ x d.
            taken_look P n w words x
            ∙ rw (same, get_or-set_other h a x (obj c vs) free d) (sym (taken_look P n hs k x));
      }

-- A loop that writes the fields' words to `hs`: k of them are written, and the others would complete the object.
pub record Making (ws hs after : List ℕ) (a c k : ℕ) : Type 0 where
  pub size : length after ≡ length hs
  pub left : sets after (slot_words * a + 1 + k) (drop k (default_words ws c)) ≡ sets hs (suc (slot_words * a)) (default_words ws c)

length_default_words : (ws : List ℕ) (c : ℕ) → length (default_words ws c) ≡ length (has_fields (program ws) c)
length_default_words ws c = rw (length-map, length_defaults)

module _ (ws hs : List ℕ) (a c : ℕ) where
  pub making_start : Making ws hs hs a c 0
  making_start = let q : slot_words * a + 1 + 0 ≡ suc (slot_words * a) = omega arith in record { size = refl; left = rw q }

  module _ {after : List ℕ} {k : ℕ} (s : Making ws hs after a c k) where
    pub making_on : k < length (has_fields (program ws) c) → (t : ℕ) → t ≡ get_or (default_words ws c) k 0
        → Making ws hs (set after (slot_words * a + 1 + k) t) a c (k + 1)
    making_on h t e =
        let n = length_default_words ws c in
        let p : k + 1 ≡ suc k = omega arith in
        let q : slot_words * a + 1 + suc k ≡ suc (slot_words * a + 1 + k) = omega arith in
        record {
          size = length-set after _ t ∙ s.size;
          left = rw (p, q, e) (rw (drop-cons (default_words ws c) k 0 (omega arith)) at s.left);
        }

    pub making_end : length (has_fields (program ws) c) ≤ k → after ≡ sets hs (suc (slot_words * a)) (default_words ws c)
    making_end h =
        let n = length_default_words ws c in
        let m : length (default_words ws c) ≤ k = omega arith in
        rw (drop_of_length-le (default_words ws c) m) at s.left

-- which it does, after the class word
pub made_whole : (ws hs : List ℕ) → Words (program ws) (class_count ws) hs → (a c : ℕ) → slot_words * a < length hs
    → get_or hs (slot_words * a) 0 ≡ 0 → c < class_count ws → {after : List ℕ} {k : ℕ}
    → Making ws (set hs (slot_words * a) (c + 1)) after a c k → length (has_fields (program ws) c) ≤ k → Made ws hs after a c
made_whole ws hs w a c l e b s h =
    let q : c + 1 ≡ suc c = omega arith in
    rw (making_end ws _ a c s h, q) (made ws hs w a c l e b)

-- a field's default is that of its type
defaults_at : (fs : List Field) (k : ℕ) → k < length fs → word_of (default (field_type fs k)) ≡ get_or (map word_of (defaults fs)) k 0
unfolding defaults
defaults_at [] k h = absurd (omega arith)
defaults_at (f ∷ fs) zero h = refl
defaults_at (f ∷ fs) (suc k) h = defaults_at fs k (omega arith)

pub row_default : {ws counts types : List ℕ} → Rows ws counts types → (c k : ℕ) → c < class_count ws
    → k < length (has_fields (program ws) c)
    → word_of (default (type_of (get_or types (row_words * c + k) 0))) ≡ get_or (default_words ws c) k 0
row_default {ws} r c k h l = rw ((r.row c h).each k l) (defaults_at (has_fields (program ws) c) k l)
