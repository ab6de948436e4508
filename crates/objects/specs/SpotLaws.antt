-- Laws of a field's spot: the index of a field in every class, and the answers case by case.
use Rattle.std.specs.Prelude.{◌≡◌, Bool, cond, ◌&&◌, get_or, set}
use Rattle.std.proofs.Math.Path.{refl, ap}
use Rattle.std.proofs.Common.{sym, ◌∙◌, get_or-set_other, eqb-true, ne_eqb, lt-ltb}
use Rattle.std.proofs.Math.Bool.{true, false}
use Rattle.std.proofs.Math.Option.{Option, none, some}
use mathlib.Core.List.{List, [], ◌∷◌, ◌++◌}
use Prim.Native.Nat.{ℕ, suc, ◌+◌, ◌*◌, ◌/◌, ◌%◌, ◌<◌}
use native.Mathlib.Omega.{arith}
use Rattle.std.proofs.Math.Dec.{eqb}
use Rattle.std.proofs.Math.ListN.{length}
use Rattle.std.proofs.lemmas.Bool.{eqb-false}
use Rattle.words.specs.declared.Value.{Value}
use Rattle.words.specs.declared.Value.TheVariants.{Null, Intg, Addr}
use Rattle.words.specs.Value.{addresses, word_of}
use Rattle.image.specs.Trailer.{class_count}
use Rattle.rules.specs.Program.{Field, Program, program}
use Rattle.rules.specs.Classes.{super, subclass, own, has_fields, index_from, field_index}
use Rattle.rules.specs.Heap.{obj, Heap, look, slot_words, heap_of}
use Rattle.rules.specs.Numbers.{most_fields_above, slot_word_holds}
use Rattle.rules.specs.Step.{gives, fails, get_field, get_slot, get_redex, put_field, put_slot, put_redex}
use Rattle.laws.specs.Classes.{Lower, class_ind, subclass_here, subclass_end, subclass_suc, has_fields_zero, has_fields_suc, field_index_found}
use Rattle.laws.specs.Heap.{Words, fields_at, look_free, look_obj, obj_count, obj_field, class_known, written_word, written_proper, heap_put, heap_shaped, shaped_fits, shaped_put, shaped_words, words_heap, words_put}
use Rattle.laws.specs.Values.{value_at, IsValue}
use Rattle.laws.specs.Tags.{null_at}
use Rattle.std.specs.declared.option.Option.TheVariants.{Some, None}
use Rattle.heap.specs.Slots.{class_at, taken_at}
use Rattle.heap.specs.SlotLaws.{class_none, class_some, slot_inside}
use Rattle.objects.specs.Spots.{FieldSpot, FieldRaises, FieldFails}

-- fields that follow and are not the one that is looked for
index_append : (L R : List Field) (d f i : ℕ) → ((k : ℕ) → index_from R d f k ≡ none) → index_from (L ++ R) d f i ≡ index_from L d f i
unfolding index_from
index_append [] R d f i h = h i
index_append (r ∷ L) R d f i h = ap (cond (eqb r.owner d && eqb r.name f) (some i)) (index_append L R d f (suc i) h)

module _ (P : Program) (d f : ℕ) where
  -- another class's own fields
  index_own : (c : ℕ) → (c ≡ d → ⊥) → (L : List Field) (i : ℕ) → index_from (own P L c) d f i ≡ none
  unfolding own index_from
  index_own c n [] i = refl
  index_own c n (r ∷ L) i = go (eqb r.owner c) refl (λ k. index_own c n L k)
    where
      go : (t : Bool) → eqb r.owner c ≡ t → ((k : ℕ) → index_from (own P L c) d f k ≡ none)
          → index_from (cond t (r ∷ own P L c) (own P L c)) d f i ≡ none
      go true e ih = rw (ne_eqb r.owner d (λ z. n (sym (eqb-true _ _ e) ∙ z))) (ih (suc i))
      go false e ih = ih i

  -- A field that class d declares has the same index in every class from d downwards, and no other class has it.
  pub index_in : Lower P → (c : ℕ)
      → field_index (has_fields P c) d f ≡ cond (subclass P c d) (field_index (has_fields P d) d f) none
  unfolding field_index
  index_in low = class_ind P low (λ c. At c ≡ Want c) (top (eqb 0 d) refl) (λ c ih. next c (eqb (suc c) d) refl ih)
    where
      At : ℕ → Option ℕ
      At c = index_from (has_fields P c) d f 0

      Want : ℕ → Option ℕ
      Want c = cond (subclass P c d) (At d) none

      same : (c : ℕ) → c ≡ d → At c ≡ Want c
      same c e = rw (subclass_here P c d e) (ap At e)

      top : (t : Bool) → eqb 0 d ≡ t → At 0 ≡ Want 0
      top true e = same 0 (eqb-true 0 d e)
      top false e =
          let n = eqb-false 0 d e in
          rw (subclass_end P 0 d refl n, has_fields_zero P) (index_own 0 n P.fields 0)

      next : (c : ℕ) (t : Bool) → eqb (suc c) d ≡ t → At (super P (suc c)) ≡ Want (super P (suc c)) → At (suc c) ≡ Want (suc c)
      next c true e ih = same (suc c) (eqb-true (suc c) d e)
      next c false e ih =
          let n = eqb-false (suc c) d e in
          rw (subclass_suc P low c d, e, has_fields_suc P low c)
          (index_append (has_fields P (super P (suc c))) (own P P.fields (suc c)) d f 0 (index_own (suc c) n P.fields) ∙ ih)

-- a value that is neither null nor an address has no object
module _ (P : Program) (h : Heap) (name d : ℕ) where
  no_object : (v : Value) → (v ≡ Null → ⊥) → ((a : ℕ) → v ≡ Addr a → ⊥)
      → (get_redex P h name d v ≡ fails) × ((u : Value) → put_redex P h name d v u ≡ fails)
  unfolding get_redex put_redex
  no_object Value.Unit n m = (refl, λ u. refl)
  no_object Null n m = absurd (n refl)
  no_object (Value.Bool b) n m = (refl, λ u. refl)
  no_object (Intg i) n m = (refl, λ u. refl)
  no_object (Addr a) n m = absurd (m a refl)

-- The answers, case by case.
module _ (ws hs : List ℕ) (name d w : ℕ) where
  pub spot_null : IsValue w → w / 4294967296 ≡ 1 → FieldRaises ws hs name d w 0
  unfolding get_redex put_redex
  spot_null v e = let z = null_at w v e in record { known = omega arith; reads = rw z; writes = λ u. rw z }

  pub spot_other : IsValue w → (w / 4294967296 ≡ 1 → ⊥) → (w / 4294967296 ≡ 4 → ⊥) → FieldFails ws hs name d w
  unfolding word_of
  spot_other v n m =
      let e = written_word w v in
      let r =
      no_object (program ws) (heap_of (program ws) hs) name d (value_at w)
      (λ q. n (let z : 4294967296 ≡ w = ap word_of (sym q) ∙ e in omega arith))
      (λ a q.
      let b : a < addresses = rw q at (written_proper w) in
      m (let z : 4 * 4294967296 + a ≡ w = ap word_of (sym q) ∙ e in omega arith)) in
      record { reads = r.0; writes = r.1 }

  module _ (k : Words (program ws) (class_count ws) hs) (a : ℕ) (e : value_at w ≡ Addr a) where
    pub spot_free : class_at hs a ≡ None → FieldFails ws hs name d w
    unfolding get_redex put_redex get_slot put_slot
    spot_free z = let f = look_free (program ws) hs k.whole a (class_none hs a z) in record { reads = rw (e, f); writes = λ u. rw (e, f) }

    -- an object
    module _ (c : ℕ) (z : class_at hs a ≡ Some c) where
      first_is : get_or hs (slot_words * a) 0 ≡ suc c
      first_is = class_some hs a c z

      spot_none : field_index (has_fields (program ws) c) d name ≡ none → FieldFails ws hs name d w
      unfolding get_redex put_redex get_slot put_slot get_field put_field
      spot_none n =
          let f = look_obj (program ws) hs k.whole a c first_is in
          record { reads = rw (e, f, n); writes = λ u. rw (e, f, n) }

      pub spot_some : (i : ℕ) → field_index (has_fields (program ws) c) d name ≡ some i → FieldSpot ws hs name d w (slot_words * a + 1 + i)
      unfolding get_redex put_redex get_slot put_slot get_field put_field taken_at slot_word_holds
      spot_some i q =
          let P = program ws in
          let h = heap_of P hs in
          let vs = fields_at P hs a c in
          let j = slot_words * a + 1 + i in
          let f : look h a ≡ obj c vs = look_obj P hs k.whole a c first_is in
          let n = (field_index_found (has_fields P c) d name i q).within in
          let few = k.few c (class_known P (class_count ws) hs k a c first_is) in
          let count = obj_count P hs k.whole a c vs f in
          let long : i < length vs = omega arith in
          let inside : j < length hs = slot_inside P (class_count ws) hs k a c i first_is (omega arith) in
          let at : j / slot_words ≡ a = omega arith in
          let rest : j % slot_words ≡ suc i = omega arith in
          record {
            inside = inside;
            reads = rw (e, f, q) (ap (gives h) (obj_field P hs k.whole a c vs f i Value.Unit long));
            holds = rw (lt-ltb i (length (has_fields P c)) n) at (rw (rest, at, first_is) at (k.holds j inside));
            writes =
                λ u v.
                let p = heap_put P (class_count ws) hs k a c vs i (value_at u) f long (written_proper u) in
                rw (e, f, q) (ap (λ (x : Heap). gives x (value_at u)) (sym (rw (written_word u v) at p)));
            keeps =
                λ u v.
                let s = heap_shaped P (class_count ws) hs k in
                let p = words_put h (shaped_fits P (class_count ws) h s) a c vs i (value_at u) f long in
                let r = shaped_words P (class_count ws) (set h a (obj c (set vs i (value_at u))))
                (shaped_put P (class_count ws) h s a c vs i (value_at u) f (written_proper u)) k.few in
                rw (p, words_heap P (class_count ws) hs k, written_word u v) at r;
            slots = λ u b. rw (get_or-set_other hs j (slot_words * b) u 0 (λ y. omega arith));
          }

      -- The same by the index that the field has in class d.
      module _ (low : Lower (program ws)) where
        pub spot_not_below : subclass (program ws) c d ≡ false → FieldFails ws hs name d w
        spot_not_below s = spot_none (index_in (program ws) d name low c ∙ rw s)

        pub spot_missing : none ≡ field_index (has_fields (program ws) d) d name → subclass (program ws) c d ≡ true
            → FieldFails ws hs name d w
        spot_missing n s = spot_none (index_in (program ws) d name low c ∙ rw (s, ← n))

        pub spot_at : (i : ℕ) → some i ≡ field_index (has_fields (program ws) d) d name → subclass (program ws) c d ≡ true
            → FieldSpot ws hs name d w (slot_words * a + 1 + i)
        spot_at i n s = spot_some i (index_in (program ws) d name low c ∙ rw (s, ← n))

-- an index is small
pub index_few : {P : Program} {classes : ℕ} {hs : List ℕ} → Words P classes hs → (d f i : ℕ) → d < classes
    → some i ≡ field_index (has_fields P d) d f → i < most_fields_above
index_few {P} k d f i h e = omega (arith, (field_index_found (has_fields P d) d f i (sym e)).within, k.few d h)
