-- From the words of a heap and inputs to conformity, and from a heap that conforms back to words that 14, 15 and 17 accept.
use Prim.Native.Nat.{ℕ, zero, suc, ◌+◌, ◌*◌, ◌-◌, ◌/◌, ◌%◌, ◌≤◌, ◌<◌, max}
use Rattle.std.specs.Prelude.{◌≡◌, Bool, ◌&&◌, is_some as is_some_value}
use Rattle.std.proofs.Math.Path.{refl, sym, ap}
use Rattle.std.proofs.Common.{◌∙◌}
use Rattle.std.proofs.Math.Bool.{true, false, cond}
use Rattle.std.proofs.Math.Option.{some}
use mathlib.Core.List.{List, [], ◌∷◌}
use native.Mathlib.Omega.{arith}
use Rattle.std.proofs.Math.Dec.{eqb, ltb, leb}
use Rattle.std.proofs.Math.ListN.{length, get_or, length-map, get_or-eq_default}
use borrow.Author.Tests.{eqb-true, eq-eqb, leb-true, le-leb, ltb-true, ltb-false, lt-ltb}
use Rattle.order.specs.Rules.{answer_of, accepted}
use Rattle.words.specs.declared.Value.{Value}
use Rattle.words.specs.declared.Ty.{Ty}
use Rattle.words.specs.declared.Ty.TheVariants.{Void}
use Rattle.words.specs.Value.{Proper, value_of}
use Rattle.image.specs.Laws.{and_left, and_right}
use Rattle.image.specs.Trailer.{class_count, input_count}
use Rattle.image.specs.Layout.{tested, format_rule, trailer_rule, ceiling_rule, class_rule, field_rule, method_rule, type_rule, node_rule, body_rule, record_rules, layout_rules}
use Rattle.rules.specs.Maps.{from}
use Rattle.rules.specs.Trees.{written}
use Rattle.rules.specs.Program.{Program, program, types_from, input_types, main_env}
use Rattle.rules.specs.Classes.{has_fields}
use Rattle.rules.specs.Setting.{between}
use Rattle.rules.specs.Heap.{Slot, free, obj, Heap, look, slot_words, heap_of, words_of, values_of}
use Rattle.rules.specs.Conform.{conforms}
use Rattle.rules.specs.Numbers.{most_fields_above, fewest_slots, most_slots, fields_rule, heap_length_holds, heap_length_rule, heap_word_rule, input_holds, input_rule, field_type, slot_word_conforms, heap_rule, input_type_rule, conform_rules}
use Rattle.laws.specs.Maps.{length_tabulate, from_at, get_d_map}
use Rattle.laws.specs.Classes.{Lower}
use Rattle.laws.specs.Heap.{Words, words, look_obj, obj_word, obj_field, length_heap, length_words, Object, SlotShaped, Shaped, shaped_fits, object_at, heap_shaped, heap_words, word_free, word_class, word_field, shaped_words, written_proper, written_same}
use Rattle.safety.specs.Sets.{◌⊆◌, is_some, dom}
use Rattle.safety.specs.Conform.{class_in, class_slot, in_range, Conf, StoreOk, HeapOk, AllConf, store_upd, below_test, test_below}
use Rattle.safety.specs.Image.{Held, positive}
use Rattle.safety.proofs.Image.{all_held}
use Rattle.safety.specs.Heaps.{Start}

pub start_held : (ws hs is : List ℕ) → answer_of (conform_rules ws hs is) ≡ accepted → Start ws hs is
unfolding conform_rules layout_rules record_rules format_rule trailer_rule ceiling_rule class_rule field_rule method_rule type_rule node_rule body_rule fields_rule heap_length_rule heap_word_rule input_rule heap_rule input_type_rule tested positive
start_held ws hs is e =
    let a = all_held (conform_rules ws hs is) refl e in
    let f = a.1.1.1.1.1.1.1.1.1 in
    let g = f.1.1.1 in
    record { fields = f.0; length = f.1.0; words = f.1.1.0; inputs = g.0; objects = g.1.0; types = g.1.1.0 }

module _ (ws : List ℕ) (low : Lower (program ws)) where
  abbrev P : Program
  P = program ws

  classes : length P.supers ≡ class_count ws
  unfolding program
  classes = length_tabulate (class_count ws) _

  -- FROM WORDS
  module _ (hs is : List ℕ) (S : Start ws hs is) where
    long : heap_length_holds (length hs) ≡ true
    unfolding heap_length_rule tested
    long = S.length 0 (omega arith)

    slots : (fewest_slots ≤ length hs / slot_words) × (length hs / slot_words ≤ most_slots)
    unfolding heap_length_holds
    slots =
        let t = eqb (length hs % slot_words) 0 in
        let u = leb fewest_slots (length hs / slot_words) in
        let v = leb (length hs / slot_words) most_slots in
        (leb-true _ _ (and_right t u (and_left (t && u) v long)), leb-true _ _ (and_right (t && u) v long))

    good_words : Words P (class_count ws) hs
    unfolding fields_rule heap_word_rule
    good_words = words ws hs (λ c l. S.fields c l) long (λ i l. S.words i l)

    -- 17 at word k of slot a
    conform_at : (a k : ℕ) → k < slot_words → a < length hs / slot_words
        → slot_word_conforms P hs a (get_or hs (slot_words * a) 0) k (get_or hs (slot_words * a + k) 0) ≡ true
    unfolding heap_rule
    conform_at a k l m =
        let p : (slot_words * a + k) / slot_words ≡ a = omega arith in
        let q : (slot_words * a + k) % slot_words ≡ k = omega arith in
        rw (p, q) at (S.objects (slot_words * a + k) (omega arith))

    pub heap_ok : HeapOk P (heap_of P hs)
    unfolding slot_word_conforms
    heap_ok =
        record {
          object =
              λ a c vs e.
              let o = object_at P (class_count ws) (heap_of P hs) (heap_shaped P (class_count ws) hs good_words) a c vs e in
              let w = (obj_word P hs good_words.whole a c vs e).0 in
              let m : a < length hs / slot_words = rw (length_heap P hs) at (in_range (heap_of P hs) a c (ap class_in e)) in
              record {
                known = rw classes o.class;
                count = o.count;
                field =
                    λ i l.
                    let n : i < length (has_fields P c) = rw o.count at l in
                    let q : slot_words * a + 1 + i ≡ slot_words * a + suc i = omega arith in
                    let k : conforms P (heap_of P hs) (written (value_of (get_or hs (slot_words * a + suc i) 0)))
                    (field_type (has_fields P c) i) ≡ true =
                    rw (w, lt-ltb i (length (has_fields P c)) n) at (conform_at a (suc i) (omega (arith, o.few)) m) in
                    record {
                      proper = o.proper i;
                      below =
                          test_below P low (heap_of P hs) (get_or vs i Value.Unit) (field_type (has_fields P c) i)
                          (rw (obj_field P hs good_words.whole a c vs e i Value.Unit l, q) k);
                    };
              };
          system =
              λ a l.
              let k = rw (lt-ltb a fewest_slots l) at (conform_at a 0 (omega arith) (omega (arith, slots.0))) in
              rw (look_obj P hs good_words.whole a (suc a) (eqb-true _ _ k));
          most = rw (length_heap P hs) slots.1;
        }

    -- the inputs, as variables from 1 on
    all_conf : (h : Heap) (vs : List Value) (ts : List Ty) → length vs ≡ length ts
        → ((i : ℕ) → i < length vs → Conf P h (get_or vs i Value.Unit) (get_or ts i Void)) → AllConf P h vs ts
    all_conf h [] [] e k = tt
    all_conf h [] (t ∷ ts) e k = omega arith
    all_conf h (v ∷ vs) [] e k = omega arith
    all_conf h (v ∷ vs) (t ∷ ts) e k = (k 0 (omega arith), all_conf h vs ts (omega arith) (λ i l. k (suc i) (omega arith)))

    store_from : (h : Heap) (vs : List Value) (ts : List Ty) (x : ℕ) → AllConf P h vs ts → StoreOk P h (from x vs) (from x ts)
    unfolding from
    store_from h [] [] x c = record { at = λ y. tt }
    store_from h [] (t ∷ ts) x c = absurd c
    store_from h (v ∷ vs) [] x c = absurd c
    store_from h (v ∷ vs) (t ∷ ts) x c = store_upd P low x (some v) (some t) (store_from h vs ts (suc x) c.1) c.0

    input_count_lem : length is ≡ input_count ws
    unfolding input_rule input_holds
    input_count_lem =
        let n = input_count ws in
        let h = S.inputs n (below_max (length is) n) in
        let value = cond (ltb n (length is)) (is_some_value (value_of (get_or is n 0))) true in
        eqb-true _ _ (and_left (eqb (length is) n) value (rw (eq-eqb n n refl) at h))
      where
        below_max : (a b : ℕ) → b < suc (max a b)
        below_max a b = omega arith

    length_values : length (values_of is) ≡ length is
    unfolding values_of
    length_values = length-map is _

    type_count_lem : length (input_types ws) ≡ input_count ws
    unfolding input_types types_from
    type_count_lem = length_tabulate (input_count ws) _

    pub inputs_ok : StoreOk P (heap_of P hs) (from 1 (values_of is)) (main_env ws)
    unfolding main_env input_type_rule values_of
    inputs_ok =
        store_from (heap_of P hs) (values_of is) (input_types ws) 1
        (all_conf (heap_of P hs) (values_of is) (input_types ws) (length_values ∙ input_count_lem ∙ sym type_count_lem)
        (λ i l.
        let m : i < length is = rw length_values at l in
        rw (get_d_map (λ w. written (value_of w)) is i Value.Unit 0 m)
        (record { proper = written_proper (get_or is i 0); below = test_below P low (heap_of P hs) _ _ (S.types i m) })))

    pub inputs_set : between 1 (input_count ws) ⊆ dom (from 1 (values_of is))
    unfolding between
    inputs_set =
        record {
          at =
              λ x e.
              let a = leb 1 x in
              let b = leb x (input_count ws) in
              go x (leb-true _ _ (and_left a b e)) (leb-true _ _ (and_right a b e));
        }
      where
        go : (x : ℕ) → 1 ≤ x → x ≤ input_count ws → is_some (from 1 (values_of is) x) ≡ true
        go x l m =
            let q : x ≡ 1 + (x - 1) = omega arith in
            let n : x - 1 < length (values_of is) = omega (arith, length_values, input_count_lem) in
            rw (q, from_at 1 (values_of is) (x - 1) Value.Unit n)

  -- AND BACK
  module _ (few : Held (fields_rule ws)) (h : Heap) (hk : HeapOk P h) where
    few_fields : (c : ℕ) → c < class_count ws → length (has_fields P c) ≤ most_fields_above
    unfolding fields_rule
    few_fields c l = leb-true _ _ (few c l)

    object_shaped : (a c : ℕ) (vs : List Value) → look h a ≡ obj c vs → Object P (class_count ws) c vs
    object_shaped a c vs e =
        let o = hk.object a c vs e in
        let k : c < class_count ws = rw classes at o.known in
        record {
          class = k;
          count = o.count;
          few = omega (arith, o.count, few_fields c k);
          proper = λ i. go o.field i (ltb i (length vs)) refl;
        }
      where
        go : ((i : ℕ) → i < length vs → Conf P h (get_or vs i Value.Unit) (field_type (has_fields P c) i)) → (i : ℕ) (t : Bool)
            → ltb i (length vs) ≡ t → Proper (get_or vs i Value.Unit)
        go f i true q = (f i (ltb-true _ _ q)).proper
        go f i false q = rw (get_or-eq_default vs Value.Unit (ltb-false i (length vs) q)) tt

    shaped : Shaped P (class_count ws) h
    shaped = record { at = λ a. go a (look h a) refl }
      where
        go : (a : ℕ) (s : Slot) → look h a ≡ s → SlotShaped P (class_count ws) s
        go a free e = tt
        go a (obj c vs) e = object_shaped a c vs e

    word_count : length (words_of h) ≡ slot_words * length h
    word_count = length_words h (shaped_fits P (class_count ws) h shaped)

    pub heap_back : heap_of P (words_of h) ≡ h
    heap_back = heap_words P (class_count ws) h shaped

    pub length_back : Held (heap_length_rule (words_of h))
    unfolding heap_length_rule tested heap_length_holds
    length_back zero l =
        let three : 2 < length h = in_range h 2 3 (hk.system 2 (omega arith)) in
        let p : slot_words * length h % slot_words ≡ 0 = omega arith in
        let q : slot_words * length h / slot_words ≡ length h = omega arith in
        rw (word_count, p, q, le-leb fewest_slots (length h) (omega arith), le-leb (length h) most_slots hk.most)
    length_back (suc i) l = absurd (omega arith)

    pub words_back : Held (heap_word_rule ws (words_of h))
    unfolding heap_word_rule
    words_back = (shaped_words P (class_count ws) h shaped few_fields).holds

    pub class_word : (a c : ℕ) (vs : List Value) → look h a ≡ obj c vs
        → (get_or (words_of h) (slot_words * a) 0 ≡ suc c) × (c < class_count ws)
    class_word a c vs e = (word_class P (class_count ws) h shaped a c vs e, (object_shaped a c vs e).class)

    -- the class word and the field words of slot a
    class_back : (a word : ℕ) → slot_word_conforms P (words_of h) a (get_or (words_of h) (slot_words * a) 0) 0 word ≡ true
    unfolding slot_word_conforms
    class_back a word = go (ltb a fewest_slots) refl
      where
        go : (t : Bool) → ltb a fewest_slots ≡ t → cond t (eqb (get_or (words_of h) (slot_words * a) 0) (suc (suc a))) true ≡ true
        go true e =
            let k = class_slot (look h a) (suc a) (hk.system a (ltb-true _ _ e)) in
            rw (word_class P (class_count ws) h shaped a (suc a) k.0 k.1) (eq-eqb (suc (suc a)) (suc (suc a)) refl)
        go false e = refl

    field_back : (a j : ℕ) (s : Slot) → look h a ≡ s
        → slot_word_conforms P (words_of h) a (get_or (words_of h) (slot_words * a) 0) (suc j) (get_or (words_of h) (slot_words * a + suc j) 0) ≡ true
    unfolding slot_word_conforms
    field_back a j free e = rw (word_free P (class_count ws) h shaped a e)
    field_back a j (obj c vs) e = rw (word_class P (class_count ws) h shaped a c vs e) (go (ltb j (length (has_fields P c))) refl)
      where
        word : ℕ
        word = get_or (words_of h) (slot_words * a + suc j) 0

        go : (t : Bool) → ltb j (length (has_fields P c)) ≡ t
            → cond t (conforms P (heap_of P (words_of h)) (written (value_of word)) (field_type (has_fields P c) j)) true ≡ true
        go true q =
            let o = hk.object a c vs e in
            let l : j < length vs = rw o.count (ltb-true _ _ q) in
            let k = o.field j l in
            let z : slot_words * a + suc j ≡ slot_words * a + 1 + j = omega arith in
            rw (
              heap_back,
              z,
              word_field P (class_count ws) h shaped a c vs e j Value.Unit l,
              written_same (get_or vs j Value.Unit)
                  k.proper,
            )
            (below_test P low h (get_or vs j Value.Unit) (field_type (has_fields P c) j) k.below)
        go false q = refl

    slot_back : (a k : ℕ)
        → slot_word_conforms P (words_of h) a (get_or (words_of h) (slot_words * a) 0) k (get_or (words_of h) (slot_words * a + k) 0) ≡ true
    slot_back a zero = class_back a _
    slot_back a (suc j) = field_back a j (look h a) refl

    pub objects_back : Held (heap_rule ws (words_of h))
    unfolding heap_rule
    objects_back i l =
        let e : i ≡ slot_words * (i / slot_words) + i % slot_words = omega arith in
        let q : get_or (words_of h) i 0 ≡ get_or (words_of h) (slot_words * (i / slot_words) + i % slot_words) 0 =
        ap (λ (j : ℕ). get_or (words_of h) j 0) e in
        rw q (slot_back (i / slot_words) (i % slot_words))
