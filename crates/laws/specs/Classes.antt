-- Laws of classes, where a superclass has a lower number: the chain upwards, subclass, fields and methods by one step upwards,
-- and the index of a field in a class and below it.
use Rattle.std.proofs.Math.Path.{◌≡◌, refl, ap}
use Rattle.std.proofs.Common.{sym, ◌∙◌, append_assoc, append-nil, inl, inr, ⊎_elim, arith}
use Rattle.std.specs.Prelude.{Bool, cond, ◌&&◌, ◌||◌, List, [], ◌∷◌, ◌++◌, ◌⊎◌, ltb, length, get_or}
use Rattle.std.proofs.Math.Bool.{true, false}
use Rattle.std.proofs.Math.Option.{none, some}
use Prim.Native.Nat.{ℕ, zero, suc, ◌+◌, ◌≤◌, ◌<◌}
use Rattle.std.proofs.Math.Dec.{eqb}
use Rattle.std.proofs.Math.ListN.{get_or-eq_default}
use borrow.Author.Tests.{eqb-true, eq-eqb, ne_eqb, ltb-true, ltb-false}
use Rattle.image.specs.Numbers.{first_user_class}
use Rattle.image.specs.Laws.{and_left, and_right}
use Rattle.image.specs.Trailer.{class_count}
use Rattle.image.specs.Records.{superclass, super_holds, class_holds}
use Rattle.rules.specs.Maps.{tabulate}
use Rattle.rules.specs.Program.{Field, Method, Program, program}
use Rattle.rules.specs.Classes.{among, or_else, super, chain, above, subclass, declared_in, sees_field_in, sees_field, method_in, sees_method_in, sees_method, own, fields_of, has_fields, index_from, field_index}
use Rattle.laws.specs.Maps.{length_tabulate, get_d_tabulate}

-- a superclass has a lower number
abbrev pub Lower : Program → Type 0
Lower P = (c : ℕ) → super P (suc c) < suc c

-- 4 gives it
super_lower : (c s : ℕ) → super_holds (suc c) s ≡ true → s < suc c
unfolding super_holds
super_lower c s h = go (ltb (suc c) first_user_class) h
  where
    go : (t : Bool) → cond t (eqb s 0) (ltb s (suc c)) ≡ true → s < suc c
    go true q = omega (arith, eqb-true s 0 q)
    go false q = ltb-true s (suc c) q

pub lower : (ws : List ℕ) → ((c : ℕ) → c < class_count ws → class_holds ws c ≡ true) → Lower (program ws)
unfolding program class_holds
lower ws h c = go (ltb (suc c) (class_count ws)) refl
  where
    go : (t : Bool) → ltb (suc c) (class_count ws) ≡ t → get_or (tabulate (class_count ws) (superclass ws)) (suc c) 0 < suc c
    go true e =
        let l = ltb-true (suc c) (class_count ws) e in
        rw (get_d_tabulate (class_count ws) (superclass ws) (suc c) 0 l)
        (super_lower c (superclass ws (suc c)) (rw e at (h (suc c) l)))
    go false e =
        let l : length (tabulate (class_count ws) (superclass ws)) ≤ suc c = rw length_tabulate (ltb-false _ _ e) in
        rw (get_or-eq_default (tabulate (class_count ws) (superclass ws)) 0 l) (omega arith)

-- a class's superclass is its word
pub super_word : (ws : List ℕ) (c : ℕ) → c < class_count ws → super (program ws) c ≡ superclass ws c
unfolding program
super_word ws c l = get_d_tabulate (class_count ws) (superclass ws) c 0 l

module _ (P : Program) where
  pub above_zero : above P 0 ≡ 0 ∷ []
  unfolding above chain
  above_zero = refl

  pub subclass_refl : (c : ℕ) → subclass P c c ≡ true
  unfolding subclass above chain among
  subclass_refl zero = refl
  subclass_refl (suc c) = rw (eq-eqb (suc c) (suc c) refl)

  -- class 0 has no other above it
  pub subclass_zero : (d : ℕ) → subclass P 0 d ≡ true → 0 ≡ d
  unfolding subclass above chain among
  subclass_zero d h = go (eqb 0 d) refl h
    where
      go : (t : Bool) → eqb 0 d ≡ t → (t || false) ≡ true → 0 ≡ d
      go true e q = eqb-true 0 d e
      go false e q = absurd (let z : ◌≡◌ {A = ℕ} 0 1 = cc in omega arith)

  pub sees_field_zero : (f : ℕ) → sees_field P 0 f ≡ or_else (declared_in P P.fields 0 f) none
  unfolding sees_field sees_field_in
  sees_field_zero f = rw above_zero

  pub sees_method_zero : (m : ℕ) → sees_method P 0 m ≡ or_else (method_in P P.methods 0 m) none
  unfolding sees_method sees_method_in
  sees_method_zero m = rw above_zero

  pub has_fields_zero : has_fields P 0 ≡ own P P.fields 0
  unfolding has_fields fields_of
  has_fields_zero = rw above_zero

  module _ (low : Lower P) where
    -- more steps than c change nothing
    pub chain_same : (n m c : ℕ) → c ≤ n → c ≤ m → chain P n c ≡ chain P m c
    unfolding chain
    chain_same zero zero c i j = refl
    chain_same zero (suc m) zero i j = refl
    chain_same zero (suc m) (suc c) i j = absurd (omega arith)
    chain_same (suc n) zero zero i j = refl
    chain_same (suc n) zero (suc c) i j = absurd (omega arith)
    chain_same (suc n) (suc m) zero i j = refl
    chain_same (suc n) (suc m) (suc c) i j =
        let s = low c in ap (suc c ∷◌) (chain_same n m (super P (suc c)) (omega arith) (omega arith))

    pub chain_above : (n c : ℕ) → c ≤ n → chain P n c ≡ above P c
    unfolding above
    chain_above n c h = chain_same n c c h (omega arith)

    pub above_suc : (c : ℕ) → above P (suc c) ≡ suc c ∷ above P (super P (suc c))
    unfolding above chain
    above_suc c = let s = low c in ap (suc c ∷◌) (chain_above c (super P (suc c)) (omega arith))

    pub class_ind : (Q : ℕ → Type 0) → Q 0 → ((c : ℕ) → Q (super P (suc c)) → Q (suc c)) → (c : ℕ) → Q c
    class_ind Q z s c = go c c (omega arith)
      where
        go : (n c : ℕ) → c ≤ n → Q c
        go zero zero i = z
        go zero (suc c) i = absurd (omega arith)
        go (suc n) zero i = z
        go (suc n) (suc c) i = let k = low c in s c (go n (super P (suc c)) (omega arith))

    -- itself, or a subclass through its superclass
    pub subclass_suc : (c d : ℕ) → subclass P (suc c) d ≡ (eqb (suc c) d || subclass P (super P (suc c)) d)
    unfolding subclass among
    subclass_suc c d = rw above_suc

    pub subclass_up : (c d : ℕ) → subclass P (super P (suc c)) d ≡ true → subclass P (suc c) d ≡ true
    subclass_up c d h = rw (subclass_suc, h) (go (eqb (suc c) d))
      where
        go : (t : Bool) → (t || true) ≡ true
        go true = refl
        go false = refl

    pub subclass_cases : (c d : ℕ) → subclass P (suc c) d ≡ true → (suc c ≡ d) ⊎ (subclass P (super P (suc c)) d ≡ true)
    subclass_cases c d h = go (eqb (suc c) d) refl (rw subclass_suc at h)
      where
        go : (t : Bool) → eqb (suc c) d ≡ t → (t || subclass P (super P (suc c)) d) ≡ true
            → (suc c ≡ d) ⊎ (subclass P (super P (suc c)) d ≡ true)
        go true e q = inl (eqb-true _ _ e)
        go false e q = inr q

    pub subclass_top : (c : ℕ) → subclass P c 0 ≡ true
    subclass_top = class_ind (λ c. subclass P c 0 ≡ true) (subclass_refl 0) (λ c ih. subclass_up c 0 ih)

    pub subclass_trans : (c d e : ℕ) → subclass P c d ≡ true → subclass P d e ≡ true → subclass P c e ≡ true
    subclass_trans c d e =
        class_ind (λ c. subclass P c d ≡ true → subclass P d e ≡ true → subclass P c e ≡ true)
        (λ h k. rw (subclass_zero d h) k)
        (λ c ih h k. ⊎_elim (λ q. rw q k) (λ q. subclass_up c e (ih q k)) (subclass_cases c d h))
        c

    pub subclass_le : (c d : ℕ) → subclass P c d ≡ true → d ≤ c
    subclass_le c d =
        class_ind (λ c. subclass P c d ≡ true → d ≤ c)
        (λ h. omega (arith, subclass_zero d h))
        (λ c ih h. ⊎_elim (λ q. omega arith) (λ q. omega (arith, ih q, low c)) (subclass_cases c d h))
        c

    -- a class's own declaration first, else its superclass's
    pub sees_field_suc : (c f : ℕ)
        → sees_field P (suc c) f ≡ or_else (declared_in P P.fields (suc c) f) (sees_field P (super P (suc c)) f)
    unfolding sees_field sees_field_in
    sees_field_suc c f = rw above_suc

    pub sees_method_suc : (c m : ℕ)
        → sees_method P (suc c) m ≡ or_else (method_in P P.methods (suc c) m) (sees_method P (super P (suc c)) m)
    unfolding sees_method sees_method_in
    sees_method_suc c m = rw above_suc

    -- the superclass's fields, and then the class's own
    pub has_fields_suc : (c : ℕ) → has_fields P (suc c) ≡ has_fields P (super P (suc c)) ++ own P P.fields (suc c)
    unfolding has_fields fields_of
    has_fields_suc c = rw above_suc

    -- a subclass has the fields of the class, and then more
    pub has_fields_prefix : (c d : ℕ) → subclass P d c ≡ true → (more : List Field) × (has_fields P d ≡ has_fields P c ++ more)
    has_fields_prefix c =
        class_ind (λ d. subclass P d c ≡ true → (more : List Field) × (has_fields P d ≡ has_fields P c ++ more))
        (λ h. ([], rw (subclass_zero c h, append-nil)))
        (λ d ih h.
        ⊎_elim (λ (q : suc d ≡ c). ([], ap (has_fields P) q ∙ sym (append-nil (has_fields P c))))
        (λ q.
        let r = ih q in
        (r.0 ++ own P P.fields (suc d), rw (has_fields_suc, r.1, append_assoc)))
        (subclass_cases d c h))

-- The same for a loop that goes up from c: it stops at c, at class 0, or goes on with the superclass.
module _ (P : Program) where
  pub subclass_here : (c d : ℕ) → c ≡ d → subclass P c d ≡ true
  subclass_here c d e = rw (← e) (subclass_refl P c)

  pub subclass_end : (c d : ℕ) → c ≡ 0 → (c ≡ d → ⊥) → subclass P c d ≡ false
  subclass_end c d z n = go (subclass P 0 d) refl
    where
      go : (t : Bool) → subclass P 0 d ≡ t → subclass P c d ≡ false
      go true e = absurd (n (z ∙ subclass_zero P d e))
      go false e = rw z e

  pub sees_field_here : (c f : ℕ) (r : Field) → declared_in P P.fields c f ≡ some r → sees_field P c f ≡ some r
  unfolding sees_field sees_field_in above chain
  sees_field_here zero f r e = rw e
  sees_field_here (suc c) f r e = rw e

  pub sees_field_end : (c f : ℕ) → c ≡ 0 → declared_in P P.fields c f ≡ none → sees_field P c f ≡ none
  sees_field_end c f z e = rw (z, sees_field_zero P f, rw z at e)

  pub sees_method_here : (c m : ℕ) (r : Method) → method_in P P.methods c m ≡ some r → sees_method P c m ≡ some r
  unfolding sees_method sees_method_in above chain
  sees_method_here zero m r e = rw e
  sees_method_here (suc c) m r e = rw e

  pub sees_method_end : (c m : ℕ) → c ≡ 0 → method_in P P.methods c m ≡ none → sees_method P c m ≡ none
  sees_method_end c m z e = rw (z, sees_method_zero P m, rw z at e)

  module _ (low : Lower P) where
    pub subclass_on : (c d : ℕ) → 0 < c → (c ≡ d → ⊥) → subclass P c d ≡ subclass P (super P c) d
    subclass_on zero d h n = absurd (omega arith)
    subclass_on (suc c) d h n = subclass_suc P low c d ∙ rw (ne_eqb (suc c) d n)

    pub sees_field_on : (c f : ℕ) → 0 < c → declared_in P P.fields c f ≡ none → sees_field P c f ≡ sees_field P (super P c) f
    sees_field_on zero f h e = absurd (omega arith)
    sees_field_on (suc c) f h e = sees_field_suc P low c f ∙ rw e

    pub sees_method_on : (c m : ℕ) → 0 < c → method_in P P.methods c m ≡ none → sees_method P c m ≡ sees_method P (super P c) m
    sees_method_on zero m h e = absurd (omega arith)
    sees_method_on (suc c) m h e = sees_method_suc P low c m ∙ rw e

    pub has_fields_on : (c : ℕ) → 0 < c → has_fields P c ≡ has_fields P (super P c) ++ own P P.fields c
    has_fields_on zero h = absurd (omega arith)
    has_fields_on (suc c) h = has_fields_suc P low c

-- Fields that follow do not change an index.
pub index_from_left : (L R : List Field) (d f i k : ℕ) → index_from L d f i ≡ some k → index_from (L ++ R) d f i ≡ some k
unfolding index_from
index_from_left [] R d f i k h = absurd (let z : ◌≡◌ {A = ℕ} 0 1 = cc in omega arith)
index_from_left (r ∷ L) R d f i k h = go (eqb r.owner d && eqb r.name f) h (λ q. index_from_left L R d f (suc i) k q)
  where
    go : (t : Bool) → cond t (some i) (index_from L d f (suc i)) ≡ some k
        → (index_from L d f (suc i) ≡ some k → index_from (L ++ R) d f (suc i) ≡ some k)
        → cond t (some i) (index_from (L ++ R) d f (suc i)) ≡ some k
    go true q ih = q
    go false q ih = ih q

-- the index of a field in a class is its index in each subclass
pub field_index_subclass : (P : Program) → Lower P → (c d o f i : ℕ) → subclass P d c ≡ true
    → field_index (has_fields P c) o f ≡ some i → field_index (has_fields P d) o f ≡ some i
unfolding field_index
field_index_subclass P low c d o f i s h =
    let r = has_fields_prefix P low c d s in
    rw r.1 (index_from_left (has_fields P c) r.0 o f 0 i h)

-- what stands at an index that was found
pub record Indexed (L : List Field) (d f j : ℕ) : Type 0 where
  pub within : j < length L
  pub owner : (z : Field) → (get_or L j z).owner ≡ d
  pub name : (z : Field) → (get_or L j z).name ≡ f

index_from_found : (L : List Field) (d f i k : ℕ) → index_from L d f i ≡ some k → (j : ℕ) × (k ≡ i + j) × Indexed L d f j
unfolding index_from
index_from_found [] d f i k h = absurd (let z : ◌≡◌ {A = ℕ} 0 1 = cc in omega arith)
index_from_found (r ∷ L) d f i k h = go (eqb r.owner d && eqb r.name f) refl h (λ q. index_from_found L d f (suc i) k q)
  where
    go : (t : Bool) → (eqb r.owner d && eqb r.name f) ≡ t → cond t (some i) (index_from L d f (suc i)) ≡ some k
        → (index_from L d f (suc i) ≡ some k → (j : ℕ) × (k ≡ suc i + j) × Indexed L d f j)
        → (j : ℕ) × (k ≡ i + j) × Indexed (r ∷ L) d f j
    go true e q ih =
        let z : i ≡ k = cc in (
          0,
          omega arith,
          record {
            within = omega arith;
            owner = λ z. eqb-true _ _ (and_left (eqb r.owner d) (eqb r.name f) e);
            name = λ z. eqb-true _ _ (and_right (eqb r.owner d) (eqb r.name f) e);
          },
        )
    go false e q ih =
        let s = ih q in
        (suc s.0, omega (arith, s.1), record { within = omega (arith, s.2.within); owner = s.2.owner; name = s.2.name })

pub field_index_found : (L : List Field) (d f i : ℕ) → field_index L d f ≡ some i → Indexed L d f i
unfolding field_index
field_index_found L d f i h =
    let s = index_from_found L d f 0 i h in
    let e : i ≡ s.0 = omega (arith, s.1) in
    rw e s.2
