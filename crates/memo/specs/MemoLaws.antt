-- Laws of what is kept.
use Rattle.std.specs.Prelude.{◌≡◌, refl, true, false, ◌&&◌, List, ◌⊎◌, ℕ, ◌+◌, ◌*◌, ◌-◌, ◌/◌, ◌%◌, ◌≤◌, ◌<◌, eqb, length, get_or, set, IfSome}
use Rattle.std.proofs.Common.{sym, ◌∙◌, inl, inr, arith, length-set, get_or-set_same, get_or-set_other, eqb-true}
use Rattle.std.proofs.Math.Option.{some}
use Rattle.std.proofs.Math.Decide.{ℕ_discrete}
use Rattle.image.specs.Trailer.{class_count, node_count}
use Rattle.image.specs.Layout.{Good}
use Rattle.image.specs.declared.Layout.{Layout}
use Rattle.image.specs.Nodes.{node_word, node_holds}
use Rattle.image.specs.Laws.{and_left, and_right}
use Rattle.image.specs.Records.{method_word}
use Rattle.image.specs.Numbers.{highest_name, most_nodes}
use Rattle.rules.specs.Program.{program}
use Rattle.rules.specs.Classes.{subclass, has_fields, field_index}
use Rattle.rules.specs.Heap.{slot_words}
use Rattle.laws.specs.Classes.{Lower}
use Rattle.laws.specs.Heap.{Words}
use Rattle.laws.specs.Values.{value_at, IsValue}
use Rattle.laws.specs.Tags.{address_at, address_small}
use Rattle.classes.specs.Sees.{MethodAt}
use Rattle.objects.specs.Spots.{FieldSpot}
use Rattle.objects.specs.SpotLaws.{index_in, spot_some}
use Rattle.std.specs.declared.option.Option.{Option}
use Rattle.std.specs.declared.option.Option.TheVariants.{Some, None}
use Rattle.heap.specs.Slots.{class_at}
use Rattle.redexes.specs.Outcomes.{EntersAt, Tries}
use Rattle.redexes.specs.RedexLaws.{object_class, call_enters, catch_below, catch_other}
use Rattle.room.specs.Nodes.{get_name, get_class, set_name, set_class}
use Rattle.room.specs.Room.{IsNode}
use Rattle.memo.specs.Memo.{memo_words, found_of, class_of, class_word, node_of, IsField, Judges, Learnt, Entry, Memo}

-- a table of zeros
pub memo_empty : (ws memo : List ℕ) → length memo ≡ memo_words → ((k : ℕ) → k < memo_words → get_or memo k 0 ≡ 0) → Memo ws memo
memo_empty ws memo e z = record { size = e; entries = λ k h. rw (z k h) (λ d. absurd (d refl)) }

-- An entry is read.
pub entry_read : (ws : List ℕ) (e p first : ℕ) → (eqb (node_of e) p && eqb (class_of e) first) ≡ true → Entry ws e → (found_of e ≡ 0 → ⊥)
    → Learnt ws p first (found_of e)
entry_read ws e p first t h d =
    let n = eqb-true (node_of e) p (and_left (eqb (node_of e) p) (eqb (class_of e) first) t) in
    let c = eqb-true (class_of e) first (and_right (eqb (node_of e) p) (eqb (class_of e) first) t) in
    let l = h d in
    rw (n, c) at l

-- An entry is written.
module _ (ws : List ℕ) (p first o : ℕ) (c : first < 512) (u : o < 65536) where
  entry_written : Learnt ws p first o → Entry ws ((p * 512 + first) * 65536 + o)
  entry_written l d =
      let e = (p * 512 + first) * 65536 + o in
      let q : node_of e ≡ p = omega arith in
      let r : class_of e ≡ first = omega arith in
      let s : found_of e ≡ o = omega arith in
      rw (q, r, s) l

  pub memo_kept : (memo : List ℕ) → Memo ws memo → Learnt ws p first o → (k : ℕ) → k < memo_words
      → Memo ws (set memo k ((p * 512 + first) * 65536 + o))
  memo_kept memo m l k h =
      record {
        size = rw length-set m.size;
        entries = λ j i. go j i (ℕ_discrete k j);
      }
    where
      e : ℕ
      e = (p * 512 + first) * 65536 + o

      go : (j : ℕ) → j < memo_words → Dec (k ≡ j) → Entry ws (get_or (set memo k e) j 0)
      go j i (yes q) = rw (← q, get_or-set_same memo k e 0 (rw m.size h)) (entry_written l)
      go j i (no n) = rw (get_or-set_other memo k j e 0 (λ z. n (sym z))) (m.entries j i)

-- The object that a value is the address of, by its slot's class.
pub receiver_is : (r : Option ℕ) (hs : List ℕ) (w : ℕ) → w / 4294967296 ≡ 4 → r ≡ class_at hs (w % 4294967296)
    → IfSome r (λ c. (w / 4294967296 ≡ 4) × (class_at hs (w % 4294967296) ≡ Some c))
receiver_is None hs w t e = tt
receiver_is (Some c) hs w t e = (t, sym e)

-- the class that a class word is 1 above
above : (c : ℕ) → c + 1 - 1 ≡ c
above c = omega arith

-- What is kept, of the heap at hand. Of no class nothing is kept.
module _ (ws hs : List ℕ) (k : Words (program ws) (class_count ws) hs) (p o : ℕ) where
  pub learnt_spot : (r : Option ℕ) → Learnt ws p (class_word r) o → (w : ℕ) → IsValue w
      → IfSome r (λ c. (w / 4294967296 ≡ 4) × (class_at hs (w % 4294967296) ≡ Some c)) → (o ≡ 0 → ⊥) → IsField ws p
      → FieldSpot ws hs (node_word ws p 2) (node_word ws p 3) w (16 * (w % 4294967296) + o)
  learnt_spot None l w v i d f = absurd (l.taken refl)
  learnt_spot (Some c) l w v i d f =
      let a = w % 4294967296 in
      let q : slot_words * a + 1 + (o - 1) ≡ 16 * a + o = omega arith in
      rw q at
      (spot_some ws hs (node_word ws p 2) (node_word ws p 3) w k a (address_at w v i.0) c i.1 (o - 1) (rw (above c) at (l.field f)))

  pub learnt_method : (r : Option ℕ) → Learnt ws p (class_word r) o → (w : ℕ) → IsValue w
      → IfSome r (λ c. (w / 4294967296 ≡ 4) × (class_at hs (w % 4294967296) ≡ Some c)) → IsNode ws p 9
      → EntersAt ws hs (node_word ws p 2) (node_word ws p 3) (value_at w) (w % 4294967296) (o - 1)
  learnt_method None l w v i n = absurd (l.taken refl)
  learnt_method (Some c) l w v i n =
      let m = rw (above c) at (l.call n) in
      rw (address_at w v i.0)
      (call_enters ws hs k (w % 4294967296) (node_word ws p 2) (node_word ws p 3) c i.1 (method_word ws (o - 1) 0) (o - 1) m.sees
      (address_small w v i.0) m.arguments)

  module _ (r : Option ℕ) (l : Learnt ws p (class_word r) o) (a : ℕ) (e : r ≡ class_at hs a) (n : IsNode ws p 15) where
    pub learnt_passes : o ≡ 1 → Tries ws hs (node_word ws p 2) a (Some false)
    learnt_passes z = go r l e
      where
        go : (r : Option ℕ) → Learnt ws p (class_word r) o → r ≡ class_at hs a → Tries ws hs (node_word ws p 2) a (Some false)
        go None l e = absurd (l.taken refl)
        go (Some c) l e = catch_other ws hs k a c (node_word ws p 2) (sym e) (rw (above c) at ((l.catch n).passes z))

    pub learnt_catches : o ≡ 2 → Tries ws hs (node_word ws p 2) a (Some true)
    learnt_catches z = go r l e
      where
        go : (r : Option ℕ) → Learnt ws p (class_word r) o → r ≡ class_at hs a → Tries ws hs (node_word ws p 2) a (Some true)
        go None l e = absurd (l.taken refl)
        go (Some c) l e = catch_below ws hs k a c (node_word ws p 2) (sym e) (rw (above c) at ((l.catch n).catches z))

-- What is found is true of the class.
module _ (ws : List ℕ) (p d : ℕ) where
  taken_above : d + 1 ≡ 0 → ⊥
  taken_above z = omega (arith, z)

  -- neither a Call nor a Try is a Get or a Set
  no_field : (k : ℕ) → 8 < k → node_word ws p 0 ≡ k → IsField ws p → ⊥
  no_field k h e f = go f.1
    where
      go : (node_word ws p 0 ≡ 7) ⊎ (node_word ws p 0 ≡ 8) → ⊥
      go (inl z) = omega arith
      go (inr z) = omega arith

  pub keeps_field : IsField ws p → Lower (program ws) → (name c i : ℕ) → name ≡ node_word ws p 2 → c ≡ node_word ws p 3
      → some i ≡ field_index (has_fields (program ws) c) c name → subclass (program ws) d c ≡ true → Learnt ws p (d + 1) (i + 1)
  keeps_field f low name c i en ec e s =
      let x : i + 1 - 1 ≡ i = omega arith in
      let q : field_index (has_fields (program ws) d) c name ≡ some i = index_in (program ws) c name low d ∙ rw (s, ← e) in
      record {
        taken = taken_above;
        field = λ g. rw (above d, x, ← en, ← ec) q;
        call = λ n. absurd (no_field 9 (omega arith) n.1 f);
        catch = λ n. absurd (no_field 15 (omega arith) n.1 f);
      }

  pub keeps_method : IsNode ws p 9 → (name c j : ℕ) → name ≡ node_word ws p 2 → MethodAt ws d name c j
      → method_word ws j 4 ≡ node_word ws p 3 → Learnt ws p (d + 1) (j + 1)
  keeps_method n name c j en m a =
      let x : j + 1 - 1 ≡ j = omega arith in
      record {
        taken = taken_above;
        field = λ f. absurd (no_field 9 (omega arith) n.1 f);
        call = λ z. rw (above d, x) (record { sees = rw (m.owner, ← en) m; arguments = a });
        catch = λ z. absurd (omega (arith, n.1, z.1));
      }

  module _ (n : IsNode ws p 15) (c : ℕ) (e : c ≡ node_word ws p 2) where
    keeps_try : (o : ℕ) → Judges ws p d o → Learnt ws p (d + 1) o
    keeps_try o j =
        record {
          taken = taken_above;
          field = λ f. absurd (no_field 15 (omega arith) n.1 f);
          call = λ z. absurd (omega (arith, n.1, z.1));
          catch = λ z. rw (above d) j;
        }

    pub keeps_catch : subclass (program ws) d c ≡ true → Learnt ws p (d + 1) 2
    keeps_catch s = keeps_try 2 (record { passes = λ z. absurd (omega arith); catches = λ z. rw (← e) s })

    pub keeps_pass : subclass (program ws) d c ≡ false → Learnt ws p (d + 1) 1
    keeps_pass s = keeps_try 1 (record { passes = λ z. rw (← e) s; catches = λ z. absurd (omega arith) })

-- a Get's or a Set's name and class
module _ (ws : List ℕ) (p : ℕ) (h : node_holds ws p ≡ true) where
  pub field_name : IsField ws p → node_word ws p 2 ≤ highest_name
  field_name f = go f.1
    where
      go : (node_word ws p 0 ≡ 7) ⊎ (node_word ws p 0 ≡ 8) → node_word ws p 2 ≤ highest_name
      go (inl z) = get_name ws p h z
      go (inr z) = set_name ws p h z

  pub field_class : IsField ws p → node_word ws p 3 < class_count ws
  field_class f = go f.1
    where
      go : (node_word ws p 0 ≡ 7) ⊎ (node_word ws p 0 ≡ 8) → node_word ws p 3 < class_count ws
      go (inl z) = get_class ws p h z
      go (inr z) = set_class ws p h z

-- numbers that fit an entry
module _ (ws : List ℕ) (l : Layout) (g : Good ws l) where
  pub node_small : (p : ℕ) → p < node_count ws → p < most_nodes
  node_small p h = omega (arith, g.lay.node_count_lem, g.small.nodes)

  pub class_small : (hs : List ℕ) → Words (program ws) (class_count ws) hs → (a c : ℕ) → class_at hs a ≡ Some c → c < 511
  class_small hs k a c e = omega (arith, object_class ws hs l g k a c e, g.small.classes)
