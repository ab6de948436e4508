-- Laws of 10: own fields by one pass over the fields, and all fields by one pass over the classes.
use Rattle.std.specs.Prelude.{◌≡◌, Bool, cond, ◌⊎◌, eqb, get_or, set, replicate}
use Rattle.std.proofs.Math.Path.{refl, ap}
use Rattle.std.proofs.Common.{sym, ◌∙◌, inl, inr, ⊎_elim, add-one, arith, length-set, get_or-set_same, get_or-set_other}
use Rattle.std.proofs.Math.Bool.{true, false}
use mathlib.Core.List.{List, [], ◌∷◌, ◌++◌}
use Prim.Native.Nat.{ℕ, zero, suc, ◌+◌, ◌≤◌, ◌<◌}
use Rattle.std.proofs.Math.ListN.{length, length-append}
use Rattle.std.proofs.lemmas.List.{length-replicate, get_or-replicate}
use borrow.Author.Tests.{le-ltb, leb-true, le-leb, lt-leb, eqb-true, eqb-false, eq-eqb, ne_eqb}
use Rattle.order.specs.Scan.{Still, start, on}
use Rattle.image.specs.Numbers.{first_user_class, most_classes, most_fields}
use Rattle.image.specs.Trailer.{class_count, field_count}
use Rattle.image.specs.Records.{superclass, field_word, class_holds}
use Rattle.image.specs.Layout.{Good}
use Rattle.image.specs.declared.Layout.{Layout}
use Rattle.rules.specs.Maps.{tabulate}
use Rattle.rules.specs.Program.{Field, Program, field_at, program}
use Rattle.rules.specs.Classes.{own, has_fields}
use Rattle.rules.specs.Numbers.{most_fields_above, fields_rule}
use Rattle.laws.specs.Maps.{tabulate_last}
use Rattle.laws.specs.Classes.{has_fields_zero, has_fields_suc}
use Rattle.class_rules.specs.Counts.{own_count, Counted}
use Rattle.classes.specs.Records.{field_open}
use Rattle.classes.specs.Types.{low, super_is, super_below}

eq_or_not : (a b : ℕ) → (a ≡ b) ⊎ (a ≡ b → ⊥)
eq_or_not a b = go (eqb a b) refl
  where
    go : (t : Bool) → eqb a b ≡ t → (a ≡ b) ⊎ (a ≡ b → ⊥)
    go true e = inl (eqb-true a b e)
    go false e = inr (eqb-false a b e)

-- one field more
module _ (P : Program) (r : Field) (c : ℕ) where
  own_hit : eqb r.owner c ≡ true → (l : List Field) → length (own P (l ++ r ∷ []) c) ≡ suc (length (own P l c))
  unfolding own
  own_hit h [] = rw h
  own_hit h (x ∷ l) = go (eqb x.owner c) (own_hit h l)
    where
      go : (t : Bool) → length (own P (l ++ r ∷ []) c) ≡ suc (length (own P l c))
          → length (cond t (x ∷ own P (l ++ r ∷ []) c) (own P (l ++ r ∷ []) c)) ≡ suc (length (cond t (x ∷ own P l c) (own P l c)))
      go true e = ap suc e
      go false e = e

  own_skip : eqb r.owner c ≡ false → (l : List Field) → length (own P (l ++ r ∷ []) c) ≡ length (own P l c)
  unfolding own
  own_skip h [] = rw h
  own_skip h (x ∷ l) = go (eqb x.owner c) (own_skip h l)
    where
      go : (t : Bool) → length (own P (l ++ r ∷ []) c) ≡ length (own P l c)
          → length (cond t (x ∷ own P (l ++ r ∷ []) c) (own P (l ++ r ∷ []) c)) ≡ length (cond t (x ∷ own P l c) (own P l c))
      go true e = ap suc e
      go false e = e

module _ (ws : List ℕ) where
  count_hit : (n c : ℕ) → field_word ws n 0 ≡ c → own_count ws (suc n) c ≡ suc (own_count ws n c)
  unfolding own_count field_at
  count_hit n c h =
      rw (tabulate_last n (field_at ws)) (own_hit (program ws) (field_at ws n) c (eq-eqb _ _ h) (tabulate n (field_at ws)))

  count_skip : (n c : ℕ) → (field_word ws n 0 ≡ c → ⊥) → own_count ws (suc n) c ≡ own_count ws n c
  unfolding own_count field_at
  count_skip n c h =
      rw (tabulate_last n (field_at ws)) (own_skip (program ws) (field_at ws n) c (ne_eqb _ _ h) (tabulate n (field_at ws)))

  count_none : (c : ℕ) → own_count ws 0 c ≡ 0
  unfolding own_count tabulate own
  count_none c = refl

  pub count_le : (n c : ℕ) → own_count ws n c ≤ n
  count_le zero c = omega (arith, count_none c)
  count_le (suc n) c =
      let k = count_le n c in
      ⊎_elim (λ h. omega (arith, count_hit n c h)) (λ h. omega (arith, count_skip n c h)) (eq_or_not (field_word ws n 0) c)

  pub counted_none : Counted ws 0 (replicate most_classes 0)
  counted_none =
      record {
        size = length-replicate {A = ℕ} most_classes 0;
        each = λ c k. get_or-replicate {A = ℕ} most_classes c 0 0 k ∙ sym (count_none c);
      }

  pub counted_more : {n : ℕ} {counts : List ℕ} → Counted ws n counts → (k : ℕ) → k ≡ field_word ws n 0 → k < most_classes
      → Counted ws (n + 1) (set counts k (get_or counts k 0 + 1))
  counted_more {n} {counts} s k e h =
      rw (add-one n)
      (record {
        size = rw length-set s.size;
        each =
            λ c q.
            ⊎_elim
            (λ (p : k ≡ c).
            let w : k < length counts = omega (arith, s.size) in
            rw (← p, get_or-set_same counts k (get_or counts k 0 + 1) 0 w, s.each k h, count_hit n k (sym e)) (omega arith))
            (λ (p : k ≡ c → ⊥).
            rw (get_or-set_other counts k c (get_or counts k 0 + 1) 0 (λ z. p (sym z)), s.each c q, count_skip n c (λ z. p (e ∙ z))))
            (eq_or_not k c);
      })

fields_are : (ws : List ℕ) → (program ws).fields ≡ tabulate (field_count ws) (field_at ws)
unfolding program
fields_are ws = refl

-- all fields of a class
unfoldable pub total : List ℕ → ℕ → ℕ
total ws c = length (has_fields (program ws) c)

-- A pass that stands at class c: below it the table has all fields, of which there are few enough, and from it on own fields.
pub record Totals (ws : List ℕ) (c : ℕ) (counts : List ℕ) : Type 0 where
  pub size : length counts ≡ most_classes
  pub done : (j : ℕ) → j < c → get_or counts j 0 ≡ total ws j
  pub few : (j : ℕ) → j < c → get_or counts j 0 ≤ most_fields_above
  pub rest : (j : ℕ) → c ≤ j → j < most_classes → get_or counts j 0 ≡ own_count ws (field_count ws) j

module _ (ws : List ℕ) (l : Layout) (g : Good ws l) where
  -- the fields are of user classes
  no_zero : (n : ℕ) → n ≤ field_count ws → own_count ws n 0 ≡ 0
  no_zero zero h = count_none ws 0
  no_zero (suc n) h =
      let m = (field_open ws n (g.fields n h)).user in
      count_skip ws n 0 (λ z. omega arith) ∙ no_zero n (omega arith)

  pub owner_small : (i : ℕ) → i < field_count ws → field_word ws i 0 < most_classes
  owner_small i h = omega (arith, (field_open ws i (g.fields i h)).class, g.lay.class_count_lem, g.small.classes)

  total_zero : total ws 0 ≡ 0
  unfolding total own_count program
  total_zero = rw (has_fields_zero (program ws)) (no_zero (field_count ws) (omega arith))

  total_up : (c : ℕ) → c < class_count ws → 0 < c → total ws (superclass ws c) + own_count ws (field_count ws) c ≡ total ws c
  unfolding total own_count
  total_up zero h k = absurd (omega arith)
  total_up (suc c) h k =
      rw (
        ← super_is ws (suc c) h,
        has_fields_suc (program ws) (low ws l g) c,
        length-append,
        fields_are ws,
      )

  pub enough_classes : first_user_class ≤ class_count ws
  unfolding class_holds
  enough_classes =
      leb-true _ _ (rw (le-ltb (class_count ws) (class_count ws) (omega arith)) at (g.classes (class_count ws) (omega arith)))

  -- class 0 has no fields
  pub totals_start : {counts : List ℕ} → Counted ws (field_count ws) counts → Totals ws 1 counts
  totals_start {counts} s =
      let zero-count : get_or counts 0 0 ≡ 0 = s.each 0 (omega arith) ∙ no_zero (field_count ws) (omega arith) in
      record {
        size = s.size;
        done = λ j h. let e : j ≡ 0 = omega arith in rw (e, zero-count, total_zero);
        few = λ j h. let e : j ≡ 0 = omega arith in rw (e, zero-count) (omega arith);
        rest = λ j h k. s.each j k;
      }

  module _ {c : ℕ} {counts : List ℕ} (s : Totals ws c counts) (h : c < class_count ws) (p : 0 < c) where
    pub total_is : (k : ℕ) → k ≡ superclass ws c → get_or counts k 0 + get_or counts c 0 ≡ total ws c
    total_is k e =
        let b = super_below ws l g c h p in
        rw (s.done k (omega arith), s.rest c (omega arith) (omega (arith, g.lay.class_count_lem, g.small.classes)), e) (total_up c h p)

    -- the sum is small, so that it fits
    pub total_small : (k : ℕ) → k ≡ superclass ws c → get_or counts k 0 + get_or counts c 0 ≤ most_fields_above + most_fields
    total_small k e =
        let b = super_below ws l g c h p in
        omega (arith, s.few k (omega arith), s.rest c (omega arith) (omega (arith, g.lay.class_count_lem, g.small.classes)), count_le ws (field_count ws) c, g.small.fields, g.lay.field_count_lem)

    pub totals_more : (n : ℕ) → n ≡ total ws c → n ≤ most_fields_above → Totals ws (c + 1) (set counts c n)
    totals_more n e k =
        let w : c < length counts = omega (arith, s.size, g.lay.class_count_lem, g.small.classes) in
        record {
          size = rw length-set s.size;
          done =
              λ j q.
              ⊎_elim
              (λ (z : j ≡ c). rw (z, get_or-set_same counts c n 0 w, e))
              (λ (z : j ≡ c → ⊥). rw (get_or-set_other counts c j n 0 z) (s.done j (omega arith)))
              (eq_or_not j c);
          few =
              λ j q.
              ⊎_elim
              (λ (z : j ≡ c). rw (z, get_or-set_same counts c n 0 w) k)
              (λ (z : j ≡ c → ⊥). rw (get_or-set_other counts c j n 0 z) (s.few j (omega arith)))
              (eq_or_not j c);
          rest = λ j q z. rw (get_or-set_other counts c j n 0 (λ y. omega arith)) (s.rest j (omega arith) z);
        }

  pub few_hold : (c : ℕ) → total ws c ≤ most_fields_above → (fields_rule ws).holds c ≡ true
  unfolding fields_rule total
  few_hold c h = le-leb _ _ h

  pub many_fail : (c : ℕ) → most_fields_above < total ws c → (fields_rule ws).holds c ≡ false
  unfolding fields_rule total
  many_fail c h = lt-leb _ _ h

  -- and so the scan starts at class 1
  pub start_one : Still (fields_rule ws).holds (class_count ws) 1
  start_one =
      on (start (fields_rule ws).holds (class_count ws)) (omega (arith, enough_classes))
      (few_hold 0 (omega (arith, total_zero)))
