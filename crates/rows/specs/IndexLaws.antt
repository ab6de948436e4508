-- Laws of a field's index: the fields above the declaring class come first, then that class's own in table order.
use Rattle.std.proofs.Math.Path.{◌≡◌, refl, sym, ap}
use Rattle.std.proofs.Common.{◌∙◌, length-append}
use Rattle.std.specs.Prelude.{Bool, ◌&&◌, get_or}
use Rattle.std.proofs.Math.Bool.{true, false, cond}
use Rattle.std.proofs.Math.Option.{Option, none, some}
use mathlib.Core.List.{List, [], ◌∷◌, ◌++◌, append_assoc}
use Prim.Native.Nat.{ℕ, zero, suc, ◌+◌, ◌-◌, ◌≤◌, ◌<◌}
use native.Mathlib.Omega.{arith}
use Rattle.std.proofs.Math.Dec.{eqb}
use Rattle.std.proofs.Math.ListN.{length}
use borrow.Author.Tests.{eqb-true, eq-eqb, ne_eqb}
use Rattle.image.specs.Laws.{and_left, and_right}
use Rattle.image.specs.Numbers.{most_fields}
use Rattle.rules.specs.Numbers.{most_fields_above}
use Rattle.image.specs.Trailer.{class_count, field_count}
use Rattle.image.specs.Records.{superclass, field_word}
use Rattle.image.specs.Layout.{Good}
use Rattle.image.specs.declared.Layout.{Layout}
use Rattle.rules.specs.Maps.{tabulate}
use Rattle.rules.specs.Program.{Field, Program, field_at, program}
use Rattle.rules.specs.Classes.{or_else, super, above, declared_in, sees_field_in, sees_field, own, has_fields, index_from, field_index}
use Rattle.laws.specs.Classes.{Lower, class_ind, has_fields_zero, has_fields_suc, has_fields_on, sees_field_here}
use Rattle.classes.specs.declared.Members.TheVariants.{Fields}
use Rattle.classes.specs.Sees.{FieldAt}
use Rattle.classes.specs.Keys.{key_of, size_of}
use Rattle.class_rules.specs.Counts.{own_count}
use Rattle.class_rules.specs.Totals.{count_le}
use Rattle.classes.specs.Search.{rising}
use Rattle.classes.specs.Tables.{keys_rise}
use Rattle.classes.specs.Types.{low, super_is, super_below}
use Rattle.classes.specs.Records.{field_open}
use Rattle.rows.specs.Rows.{Sizes}
use Rattle.rows.specs.RowLaws.{class_rises, own_hit, own_before}

-- what a class declares and sees has the name
pub declared_is : (P : Program) (L : List Field) (c f : ℕ) (r : Field) → declared_in P L c f ≡ some r → (r.owner ≡ c) × (r.name ≡ f)
unfolding declared_in
declared_is P [] c f r e = absurd (let z : ◌≡◌ {A = ℕ} 0 1 = cc in omega arith)
declared_is P (x ∷ L) c f r e = go (eqb x.owner c && eqb x.name f) refl e (λ q. declared_is P L c f r q)
  where
    go : (t : Bool) → (eqb x.owner c && eqb x.name f) ≡ t → cond t (some x) (declared_in P L c f) ≡ some r
        → (declared_in P L c f ≡ some r → (r.owner ≡ c) × (r.name ≡ f)) → (r.owner ≡ c) × (r.name ≡ f)
    go true q e ih =
        let z : x ≡ r = cc in
        rw (← z)
        (eqb-true _ _ (and_left (eqb x.owner c) (eqb x.name f) q), eqb-true _ _ (and_right (eqb x.owner c) (eqb x.name f) q))
    go false q e ih = ih e

sees_name : (P : Program) (cs : List ℕ) (f : ℕ) (r : Field) → sees_field_in P cs f ≡ some r → r.name ≡ f
unfolding sees_field_in
sees_name P [] f r e = absurd (let z : ◌≡◌ {A = ℕ} 0 1 = cc in omega arith)
sees_name P (c ∷ cs) f r e = go (declared_in P P.fields c f) refl e (λ q. sees_name P cs f r q)
  where
    go : (o : Option Field) → declared_in P P.fields c f ≡ o → or_else o (sees_field_in P cs f) ≡ some r
        → (sees_field_in P cs f ≡ some r → r.name ≡ f) → r.name ≡ f
    go none q e ih = ih e
    go (some x) q e ih = (declared_is P P.fields c f r (q ∙ e)).1

-- Fields of another class are passed.
module _ (P : Program) (d f : ℕ) where
  skip_own : (c : ℕ) → (c ≡ d → ⊥) → (L B : List Field) (i : ℕ)
      → index_from (own P L c ++ B) d f i ≡ index_from B d f (length (own P L c) + i)
  unfolding own index_from
  skip_own c n [] B i = let z : 0 + i ≡ i = omega arith in rw z
  skip_own c n (r ∷ L) B i = go (eqb r.owner c) refl (λ k. skip_own c n L B k)
    where
      go : (t : Bool) → eqb r.owner c ≡ t
          → ((k : ℕ) → index_from (own P L c ++ B) d f k ≡ index_from B d f (length (own P L c) + k))
          → index_from (cond t (r ∷ own P L c) (own P L c) ++ B) d f i
          ≡ index_from B d f (length (cond t (r ∷ own P L c) (own P L c)) + i)
      go true e ih =
          let q : r.owner ≡ d → ⊥ = λ z. n (sym (eqb-true _ _ e) ∙ z) in
          let z : suc (length (own P L c)) + i ≡ length (own P L c) + suc i = omega arith in
          rw (ne_eqb r.owner d q, z) (ih (suc i))
      go false e ih = ih i

  skip_above : Lower P → (c : ℕ) → c < d → (B : List Field) (i : ℕ)
      → index_from (has_fields P c ++ B) d f i ≡ index_from B d f (length (has_fields P c) + i)
  skip_above low =
      class_ind P low
      (λ c. c < d → (B : List Field) (i : ℕ) → index_from (has_fields P c ++ B) d f i ≡ index_from B d f (length (has_fields P c) + i))
      (λ h B i. rw (has_fields_zero P) (skip_own 0 (λ z. omega arith) P.fields B i))
      (λ c ih h B i.
      let A = has_fields P (super P (suc c)) in
      let O = own P P.fields (suc c) in
      let s = low c in
      let z : length O + (length A + i) ≡ length (A ++ O) + i = rw (length-append A O) (omega arith) in
      rw (has_fields_suc P low c, append_assoc A O B, ih (omega arith) (O ++ B) i, skip_own (suc c) (λ z. omega arith) P.fields B (length A + i), z))

  -- among a class's own fields
  own_found : (n : ℕ) (g : ℕ → Field) (j i : ℕ) → j < n → (g j).owner ≡ d → (g j).name ≡ f
      → ((k : ℕ) → k < j → (g k).owner ≡ d → (g k).name ≡ f → ⊥)
      → index_from (own P (tabulate n g) d) d f i ≡ some (length (own P (tabulate j g) d) + i)
  unfolding own index_from tabulate
  own_found zero g j i h o m b = absurd (omega arith)
  own_found (suc n) g zero i h o m b =
      let z : 0 + i ≡ i = omega arith in rw (eq-eqb (g 0).owner d o, eq-eqb (g 0).owner d o, eq-eqb (g 0).name f m, z)
  own_found (suc n) g (suc j) i h o m b =
      go (eqb (g 0).owner d) refl
      (λ k. own_found n (λ x. g (suc x)) j k (omega arith) o m (λ x l. b (suc x) (omega arith)))
    where
      R : List Field
      R = own P (tabulate n (λ x. g (suc x))) d

      S : List Field
      S = own P (tabulate j (λ x. g (suc x))) d

      go : (t : Bool) → eqb (g 0).owner d ≡ t → ((k : ℕ) → index_from R d f k ≡ some (length S + k))
          → index_from (cond t (g 0 ∷ R) R) d f i ≡ some (length (cond t (g 0 ∷ S) S) + i)
      go true e ih =
          let z : suc (length S) + i ≡ length S + suc i = omega arith in
          rw (e, ne_eqb (g 0).name f (b 0 (omega arith) (eqb-true _ _ e)), z) (ih (suc i))
      go false e ih = ih i

  own_missing : (L : List Field) (i : ℕ) → declared_in P L d f ≡ none → index_from (own P L d) d f i ≡ none
  unfolding own index_from declared_in
  own_missing [] i e = refl
  own_missing (r ∷ L) i e = go (eqb r.owner d) refl (eqb r.name f) refl e (λ k q. own_missing L k q)
    where
      go : (t : Bool) → eqb r.owner d ≡ t → (u : Bool) → eqb r.name f ≡ u → cond (t && u) (some r) (declared_in P L d f) ≡ none
          → ((k : ℕ) → declared_in P L d f ≡ none → index_from (own P L d) d f k ≡ none)
          → index_from (cond t (r ∷ own P L d) (own P L d)) d f i ≡ none
      go true p true q e ih = absurd (let z : ◌≡◌ {A = ℕ} 0 1 = cc in omega arith)
      go true p false q e ih = rw (p, q) (ih (suc i) e)
      go false p u q e ih = ih i e

module _ (ws : List ℕ) (l : Layout) (g : Good ws l) (d f : ℕ) (h : d < class_count ws) where
  -- a class that declares the name
  index_found : (i : ℕ) → FieldAt ws d f d i
      → field_index (has_fields (program ws) d) d f
      ≡ some (length (has_fields (program ws) (superclass ws d)) + length (own (program ws) (tabulate i (field_at ws)) d))
  unfolding field_index program field_at sees_field key_of size_of
  index_found i s =
      let m : field_word ws i 1 ≡ f = sees_name (program ws) (above (program ws) d) f (field_at ws i) s.sees in
      let p : 0 < d = omega (arith, (field_open ws i (g.fields i s.within)).user, s.owner) in
      let b = super_below ws l g d h p in
      let A = has_fields (program ws) (superclass ws d) in
      let only = rising (key_of ws Fields) (field_count ws) (keys_rise ws l g Fields (field_count ws) (sym g.lay.field_count_lem)) in
      rw (has_fields_on (program ws) (low ws l g) d p, super_is ws d h, skip_above (program ws) d f (low ws l g) (superclass ws d) b (own (program ws) (program ws).fields d) 0)
      (own_found (program ws) d f (field_count ws) (field_at ws) i (length A + 0) s.within s.owner m
      (λ k q o n. omega (arith, only k i q s.within, s.owner))
      ∙ ap some (omega arith))

  -- a class that does not
  index_missing : declared_in (program ws) (program ws).fields d f ≡ none → field_index (has_fields (program ws) d) d f ≡ none
  unfolding field_index
  index_missing e = go d refl
    where
      O : List Field
      O = own (program ws) (program ws).fields d

      go : (c : ℕ) → d ≡ c → index_from (has_fields (program ws) d) d f 0 ≡ none
      go zero z =
          ap (λ (fs : List Field). index_from fs d f 0)
          (ap (has_fields (program ws)) z ∙ has_fields_zero (program ws) ∙ ap (own (program ws) (program ws).fields) (sym z))
          ∙ own_missing (program ws) d f (program ws).fields 0 e
      go (suc c) z =
          let p : 0 < d = omega arith in
          rw (has_fields_on (program ws) (low ws l g) d p, super_is ws d h)
          (skip_above (program ws) d f (low ws l g) (superclass ws d) (super_below ws l g d h p) O 0
          ∙ own_missing (program ws) d f (program ws).fields _ e)

  pub index_unseen : sees_field (program ws) d f ≡ none → field_index (has_fields (program ws) d) d f ≡ none
  index_unseen s = index_missing (go (declared_in (program ws) (program ws).fields d f) refl)
    where
      go : (o : Option Field) → declared_in (program ws) (program ws).fields d f ≡ o → o ≡ none
      go none e = refl
      go (some r) e =
          let q = sees_field_here (program ws) d f r e in
          absurd (let z : ◌≡◌ {A = ℕ} 0 1 = cc in omega arith)

  pub index_above : (c i : ℕ) → FieldAt ws d f c i → (c ≡ d → ⊥) → field_index (has_fields (program ws) d) d f ≡ none
  unfolding field_at
  index_above c i s n = index_missing (go (declared_in (program ws) (program ws).fields d f) refl)
    where
      go : (o : Option Field) → declared_in (program ws) (program ws).fields d f ≡ o → o ≡ none
      go none e = refl
      go (some r) e =
          let q = sees_field_here (program ws) d f r e in
          let y = s.sees in
          let z : r ≡ field_at ws i = cc in
          let w : r.owner ≡ field_word ws i 0 = ap (λ (r : Field). r.owner) z in
          absurd (n (sym s.owner ∙ sym w ∙ (declared_is (program ws) (program ws).fields d f r e).0))

  -- the class above is one of the image, and the sum of the counts is small
  pub above_known : (c i k : ℕ) → FieldAt ws d f c i → c ≡ d → k ≡ superclass ws d → k < class_count ws
  above_known c i k w e q =
      let p : 0 < d = omega (arith, (field_open ws i (g.fields i w.within)).user, w.owner) in
      let b = super_below ws l g d h p in
      omega arith

  pub index_small : (i k : ℕ) {counts : List ℕ} → Sizes ws counts → k < class_count ws → i < field_count ws
      → (rank : ℕ) → rank ≡ length (own (program ws) (tabulate i (field_at ws)) d) → get_or counts k 0 + rank ≤ most_fields_above + most_fields
  unfolding own_count
  index_small i k s m n rank r =
      omega (arith, s.count k m, s.few k m, count_le ws i d, g.small.fields, g.lay.field_count_lem)

  -- the index that is counted, from the rows and the rank among the class's own
  pub index_counted : (c i k : ℕ) {counts : List ℕ} → Sizes ws counts → FieldAt ws d f c i → c ≡ d → k ≡ superclass ws d
      → (rank : ℕ) → rank ≡ length (own (program ws) (tabulate i (field_at ws)) d)
      → some (get_or counts k 0 + rank) ≡ field_index (has_fields (program ws) d) d f
  index_counted c i k s w e q rank r =
      let v : FieldAt ws d f d i = rw e at w in
      let p : 0 < d = omega (arith, (field_open ws i (g.fields i v.within)).user, v.owner) in
      let b = super_below ws l g d h p in
      let m : k < class_count ws = omega arith in
      rw (s.count k m, q, r) (sym (index_found i v))

-- How many of a class's own records stand before record i: walking back, those passed and those still before.
pub record Rank (ws : List ℕ) (d i k : ℕ) : Type 0 where
  pub within : k ≤ i
  pub sum : length (own (program ws) (tabulate i (field_at ws)) d) + k ≡ i + length (own (program ws) (tabulate k (field_at ws)) d)

pub rank_start : (ws : List ℕ) (d i : ℕ) → Rank ws d i i
rank_start ws d i = record { within = omega arith; sum = omega arith }

pub rank_back : {ws : List ℕ} {d i k : ℕ} → Rank ws d i k → 0 < k → field_word ws (k - 1) 0 ≡ d → Rank ws d i (k - 1)
rank_back {ws} {d} {i} {k} s p e =
    let z : k ≡ suc (k - 1) = omega arith in
    let n = ap length (own_hit ws d (k - 1) e) ∙ length-append (own (program ws) (tabulate (k - 1) (field_at ws)) d) (field_at ws (k - 1) ∷ []) in
    let m : length (own (program ws) (tabulate k (field_at ws)) d) ≡ length (own (program ws) (tabulate (k - 1) (field_at ws)) d) + 1 =
    ap (λ (x : ℕ). length (own (program ws) (tabulate x (field_at ws)) d)) z ∙ n in
    record { within = omega (arith, s.within); sum = omega (arith, s.sum) }

module _ (ws : List ℕ) (l : Layout) (g : Good ws l) {d i k : ℕ} (s : Rank ws d i k) where
  -- nothing of the class stands before another class's record,
  pub rank_other : i < field_count ws → field_word ws i 0 ≡ d → 0 < k → (field_word ws (k - 1) 0 ≡ d → ⊥)
      → i - k ≡ length (own (program ws) (tabulate i (field_at ws)) d)
  rank_other h o p n =
      let w = s.within in
      let none = ap length (own_before ws d k (λ j q. below j q)) in
      omega (arith, s.sum)
    where
      up : (a b : ℕ) → a ≤ b → b < field_count ws → field_word ws a 0 ≤ field_word ws b 0
      up a b q r = let e : a + (b - a) ≡ b = omega arith in rw e at (class_rises ws l g a (b - a) (omega arith))

      below : (j : ℕ) → j < k → field_word ws j 0 < d
      below j q =
          let w = s.within in
          let a = up j (k - 1) (omega arith) (omega arith) in
          let b = up (k - 1) i (omega arith) h in
          omega arith

  -- and nothing stands before the first record
  pub rank_first : k ≤ 0 → i ≡ length (own (program ws) (tabulate i (field_at ws)) d)
  rank_first p =
      let z : k ≡ 0 = omega arith in
      let none = ap length (own_before ws d k (λ j q. absurd (omega arith))) in
      omega (arith, s.sum)
