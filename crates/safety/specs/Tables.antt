-- What the tables give: a field that a class sees has its index and type in every object below it; a method seen above is seen
-- below, with arguments and result that fit.
use Prim.Native.Nat.{ℕ, suc, ◌+◌, ◌≤◌, ◌<◌}
use Rattle.std.specs.Prelude.{◌≡◌, Bool, ◌&&◌, length}
use Rattle.std.proofs.Math.Path.{refl, ap}
use Rattle.std.proofs.Common.{◌∙◌, ⊎_elim, length-append}
use Rattle.std.proofs.Math.Bool.{true, false, cond}
use Rattle.std.proofs.Math.Option.{Option, none, some}
use mathlib.Core.List.{List, [], ◌∷◌, ◌++◌, map, map-append}
use native.Mathlib.Omega.{arith}
use Rattle.std.proofs.Math.Dec.{eqb}
use Rattle.std.proofs.lemmas.List.{length-map}
use Rattle.std.proofs.Math.ListN.{get_or-append}
use borrow.Author.Tests.{eqb-true}
use Rattle.words.specs.declared.Ty.{Ty}
use Rattle.words.specs.declared.Ty.TheVariants.{Void}
use Rattle.image.specs.Laws.{and_left, and_right}
use Rattle.rules.specs.Program.{Field, Method, Program}
use Rattle.rules.specs.Classes.{or_else, super, subclass, subtype, subtypes, declared_in, sees_field, method_in, sees_method, own, has_fields, overrides, override_holds, index_from, field_index}
use Rattle.rules.specs.Numbers.{field_type}
use Rattle.laws.specs.Classes.{Lower, class_ind, subclass_refl, subclass_zero, subclass_up, subclass_cases, sees_field_zero, sees_field_suc, sees_method_zero, sees_method_suc, has_fields_zero, has_fields_suc, has_fields_prefix, index_from_left, field_index_subclass}
use Rattle.figures.proofs.Agreement.{never}
use Rattle.safety.specs.Sets.{no_one}
use Rattle.safety.specs.Conform.{Le, le_refl, le_trans}
use Rattle.safety.specs.Safe.{Has}

-- FIELDS
-- a list holds field (d, f), of type u
record Found (L : List Field) (d f : ℕ) (u : Ty) : Type 0 where
  k : ℕ
  at : (i : ℕ) → index_from L d f i ≡ some (i + k)
  within : k < length L
  typed : field_type L k ≡ u

-- no field in it is of class d
abbrev Lacks : List Field → (d : ℕ) → Type 0
Lacks [] d = Unit {0}
Lacks (r ∷ L) d = (r.owner ≡ d → ⊥) × Lacks L d

type_left : (L R : List Field) (k : ℕ) → k < length L → field_type (L ++ R) k ≡ field_type L k
type_left L R k l = rw map-append (get_or-append (map (λ f. f.type) L) _ Void k (rw length-map l))

module _ (d f : ℕ) (u : Ty) where
  found_left : (L R : List Field) → Found L d f u → Found (L ++ R) d f u
  found_left L R m =
      record {
        k = m.k;
        at = λ i. index_from_left L R d f i (i + m.k) (m.at i);
        within = rw length-append (omega (arith, m.within));
        typed = type_left L R m.k m.within ∙ m.typed;
      }

  found_cons : (r : Field) (L : List Field) → (eqb r.owner d && eqb r.name f) ≡ false → Found L d f u → Found (r ∷ L) d f u
  unfolding index_from
  found_cons r L n m =
      record {
        k = suc m.k;
        at = λ i. let e : suc i + m.k ≡ i + suc m.k = omega arith in rw (n, m.at (suc i), e);
        within = omega (arith, m.within);
        typed = m.typed;
      }

  found_right : (L R : List Field) → Lacks L d → Found R d f u → Found (L ++ R) d f u
  found_right [] R n m = m
  found_right (r ∷ L) R n m = found_cons r (L ++ R) (go (eqb r.owner d) refl) (found_right L R n.1 m)
    where
      go : (b : Bool) → eqb r.owner d ≡ b → (b && eqb r.name f) ≡ false
      go true e = absurd (n.0 (eqb-true _ _ e))
      go false e = refl

module _ (P : Program) where
  lacks_append : (L R : List Field) (d : ℕ) → Lacks L d → Lacks R d → Lacks (L ++ R) d
  lacks_append [] R d m n = n
  lacks_append (r ∷ L) R d m n = (m.0, lacks_append L R d m.1 n)

  own_lacks : (fs : List Field) (c d : ℕ) → c < d → Lacks (own P fs c) d
  unfolding own
  own_lacks [] c d n = tt
  own_lacks (r ∷ fs) c d n = go (eqb r.owner c) refl (own_lacks fs c d n)
    where
      go : (b : Bool) → eqb r.owner c ≡ b → Lacks (own P fs c) d → Lacks (cond b (r ∷ own P fs c) (own P fs c)) d
      go true e ih = (λ q. let z = eqb-true r.owner c e in omega arith, ih)
      go false e ih = ih

  own_found : (fs : List Field) (d f : ℕ) (r : Field) → declared_in P fs d f ≡ some r → (r.owner ≡ d) × Found (own P fs d) d f r.type
  unfolding own declared_in index_from
  own_found [] d f r e = no_one e
  own_found (x ∷ fs) d f r e = go (eqb x.owner d) (eqb x.name f) refl refl e (λ q. own_found fs d f r q)
    where
      go : (a b : Bool) → eqb x.owner d ≡ a → eqb x.name f ≡ b → cond (a && b) (some x) (declared_in P fs d f) ≡ some r
          → (declared_in P fs d f ≡ some r → (r.owner ≡ d) × Found (own P fs d) d f r.type)
          → (r.owner ≡ d) × Found (cond a (x ∷ own P fs d) (own P fs d)) d f r.type
      go true true p q k ih =
          let z : x ≡ r = cc in (
            rw (← z) (eqb-true x.owner d p),
            record {
              k = 0;
              at = λ i. let e : i ≡ i + 0 = omega arith in rw (p, q) (ap some e);
              within = omega arith;
              typed = rw z;
            },
          )
      go true false p q k ih = let m = ih k in (m.0, found_cons d f r.type x (own P fs d) (rw (p, q)) m.1)
      go false b p q k ih = ih k

  module _ (low : Lower P) where
    has_lacks : (d c : ℕ) → c < d → Lacks (has_fields P c) d
    has_lacks d =
        class_ind P low (λ c. c < d → Lacks (has_fields P c) d) (λ l. rw (has_fields_zero P) (own_lacks P.fields 0 d l))
        (λ c ih l.
        rw (has_fields_suc P low c)
        (lacks_append (has_fields P (super P (suc c))) (own P P.fields (suc c)) d (ih (omega (arith, low c)))
        (own_lacks P.fields (suc c) d l)))

    found_has : {c d f : ℕ} {u : Ty} → Found (has_fields P c) d f u → Has P c d f u
    unfolding field_index
    found_has m =
        let e : 0 + m.k ≡ m.k = omega arith in
        record { index = m.k; found = m.at 0 ∙ ap some e; within = m.within; typed = m.typed }

    -- a class has the field that it sees
    sees_found : (f : ℕ) (r : Field) (c : ℕ) → sees_field P c f ≡ some r → (r.owner ≤ c) × Found (has_fields P c) r.owner f r.type
    sees_found f r =
        class_ind P low (λ c. sees_field P c f ≡ some r → (r.owner ≤ c) × Found (has_fields P c) r.owner f r.type)
        (λ e. first (declared_in P P.fields 0 f) refl (rw (sees_field_zero P f) at e))
        (λ c ih e. next c (declared_in P P.fields (suc c) f) refl ih (rw (sees_field_suc P low c f) at e))
      where
        first : (o : Option Field) → declared_in P P.fields 0 f ≡ o → or_else o none ≡ some r
            → (r.owner ≤ 0) × Found (has_fields P 0) r.owner f r.type
        first none q e = no_one e
        first (some x) q e =
            let m = own_found P.fields 0 f r (q ∙ e) in (omega (arith, m.0), rw (m.0, has_fields_zero P) m.1)

        next : (c : ℕ) (o : Option Field) → declared_in P P.fields (suc c) f ≡ o
            → (sees_field P (super P (suc c)) f ≡ some r
            → (r.owner ≤ super P (suc c)) × Found (has_fields P (super P (suc c))) r.owner f r.type)
            → or_else o (sees_field P (super P (suc c)) f) ≡ some r
            → (r.owner ≤ suc c) × Found (has_fields P (suc c)) r.owner f r.type
        next c none q ih e =
            let m = ih e in (
              omega (arith, m.0, low c),
              rw (has_fields_suc P low c)
                  (found_left r.owner f r.type (has_fields P (super P (suc c))) (own P P.fields (suc c)) m.1),
            )
        next c (some x) q ih e =
            let m = own_found P.fields (suc c) f r (q ∙ e) in (
              omega (arith, m.0),
              rw (m.0, has_fields_suc P low c)
                  (found_right (suc c) f r.type (has_fields P (super P (suc c))) (own P P.fields (suc c))
                  (has_lacks (suc c) (super P (suc c)) (low c)) m.1),
            )

    pub sees_has : (c f : ℕ) (r : Field) → sees_field P c f ≡ some r → Has P c r.owner f r.type
    sees_has c f r e = found_has (sees_found f r c e).1

    -- and so has each subclass
    pub has_below : {c d f : ℕ} {u : Ty} (b : ℕ) → subclass P b c ≡ true → Has P c d f u → Has P b d f u
    has_below {c} {d} {f} b s m =
        let r = has_fields_prefix P low c b s in
        record {
          index = m.index;
          found = field_index_subclass P low c b d f m.index s m.found;
          within = rw (r.1, length-append) (omega (arith, m.within));
          typed = rw r.1 (type_left (has_fields P c) r.0 m.index m.within ∙ m.typed);
        }

    -- METHODS
    and_of : (a b : Bool) → a ≡ true → b ≡ true → (a && b) ≡ true
    and_of a b p q = rw (p, q)

    all_refl : (ts : List Ty) → subtypes P ts ts ≡ true
    unfolding subtypes
    all_refl [] = refl
    all_refl (t ∷ ts) = and_of (subtype P t t) (subtypes P ts ts) (le_refl P low {t = t}).ok (all_refl ts)

    all_trans : (ts us ws : List Ty) → subtypes P ts us ≡ true → subtypes P us ws ≡ true → subtypes P ts ws ≡ true
    unfolding subtypes
    all_trans [] [] ws p q = q
    all_trans [] (u ∷ us) ws p q = absurd (never p)
    all_trans (t ∷ ts) [] ws p q = absurd (never p)
    all_trans (t ∷ ts) (u ∷ us) [] p q = q
    all_trans (t ∷ ts) (u ∷ us) (w ∷ ws) p q =
        let a : Le P t u = record { ok = and_left (subtype P t u) (subtypes P ts us) p } in
        let b : Le P u w = record { ok = and_left (subtype P u w) (subtypes P us ws) q } in
        and_of (subtype P t w) (subtypes P ts ws) (le_trans P low a b).ok
        (all_trans ts us ws (and_right (subtype P t u) (subtypes P ts us) p) (and_right (subtype P u w) (subtypes P us ws) q))

  -- method q may stand for method r
  pub record Fits (q r : Method) : Type 0 where
    pub params : subtypes P r.params q.params ≡ true
    pub result : Le P q.result r.result

  method_row : (ms : List Method) (c m : ℕ) (r : Method) → method_in P ms c m ≡ some r → (r.owner ≡ c) × (r.name ≡ m)
  unfolding method_in
  method_row [] c m r e = no_one e
  method_row (x ∷ ms) c m r e = go (eqb x.owner c && eqb x.name m) refl e (λ q. method_row ms c m r q)
    where
      go : (b : Bool) → (eqb x.owner c && eqb x.name m) ≡ b → cond b (some x) (method_in P ms c m) ≡ some r
          → (method_in P ms c m ≡ some r → (r.owner ≡ c) × (r.name ≡ m)) → (r.owner ≡ c) × (r.name ≡ m)
      go true q k ih =
          let z : x ≡ r = cc in (
            rw (← z) (eqb-true _ _ (and_left (eqb x.owner c) (eqb x.name m) q)),
            rw (← z) (eqb-true _ _ (and_right (eqb x.owner c) (eqb x.name m) q)),
          )
      go false q k ih = ih k

  module _ (low : Lower P) where
    -- a method that is seen is declared by a class above
    pub declared : (m : ℕ) (r : Method) (c : ℕ) → sees_method P c m ≡ some r
        → (d : ℕ) × (subclass P c d ≡ true) × (method_in P P.methods d m ≡ some r)
    declared m r =
        class_ind P low (λ c. sees_method P c m ≡ some r → (d : ℕ) × (subclass P c d ≡ true) × (method_in P P.methods d m ≡ some r))
        (λ e. first (method_in P P.methods 0 m) refl (rw (sees_method_zero P m) at e))
        (λ c ih e. next c (method_in P P.methods (suc c) m) refl ih (rw (sees_method_suc P low c m) at e))
      where
        first : (o : Option Method) → method_in P P.methods 0 m ≡ o → or_else o none ≡ some r
            → (d : ℕ) × (subclass P 0 d ≡ true) × (method_in P P.methods d m ≡ some r)
        first none q e = no_one e
        first (some x) q e = (0, subclass_refl P 0, q ∙ e)

        next : (c : ℕ) (o : Option Method) → method_in P P.methods (suc c) m ≡ o
            → (sees_method P (super P (suc c)) m ≡ some r
            → (d : ℕ) × (subclass P (super P (suc c)) d ≡ true) × (method_in P P.methods d m ≡ some r))
            → or_else o (sees_method P (super P (suc c)) m) ≡ some r
            → (d : ℕ) × (subclass P (suc c) d ≡ true) × (method_in P P.methods d m ≡ some r)
        next c none q ih e = let k = ih e in (k.0, subclass_up P low c k.0 k.1, k.2)
        next c (some x) q ih e = (suc c, subclass_refl P (suc c), q ∙ e)

    pub owner_above : (c m : ℕ) (r : Method) → sees_method P c m ≡ some r → subclass P c r.owner ≡ true
    owner_above c m r e = let k = declared m r c e in rw (method_row P.methods k.0 m r k.2).0 k.1

    -- 11, for every method of the table
    module _ (held : (c m : ℕ) (r : Method) → method_in P P.methods c m ≡ some r → override_holds P r ≡ true) where
      over : (c m : ℕ) (q r : Method) → method_in P P.methods (suc c) m ≡ some q → sees_method P (super P (suc c)) m ≡ some r
          → Fits q r
      unfolding override_holds overrides
      over c m q r e k =
          let s = method_row P.methods (suc c) m q e in
          let z : sees_method P (super P q.owner) q.name ≡ some r = rw (s.0, s.1) k in
          let b : (subtypes P r.params q.params && subtype P q.result r.result) ≡ true = rw z at (held (suc c) m q e) in
          record {
            params = and_left (subtypes P r.params q.params) (subtype P q.result r.result) b;
            result = record { ok = and_right (subtypes P r.params q.params) (subtype P q.result r.result) b };
          }

      itself : (r : Method) → Fits r r
      itself r = record { params = all_refl low r.params; result = le_refl P low }

      pub inherits : (d m : ℕ) (r : Method) → sees_method P d m ≡ some r → (c : ℕ) → subclass P c d ≡ true
          → (q : Method) × (sees_method P c m ≡ some q) × Fits q r
      inherits d m r e =
          class_ind P low (λ c. subclass P c d ≡ true → (q : Method) × (sees_method P c m ≡ some q) × Fits q r)
          (λ t. (r, rw (subclass_zero P d t) e, itself r))
          (λ c ih t.
          ⊎_elim (λ (z : suc c ≡ d). (r, rw z e, itself r)) (λ s. more c (method_in P P.methods (suc c) m) refl (ih s))
          (subclass_cases P low c d t))
        where
          more : (c : ℕ) (o : Option Method) → method_in P P.methods (suc c) m ≡ o
              → (q : Method) × (sees_method P (super P (suc c)) m ≡ some q) × Fits q r
              → (q : Method) × (sees_method P (suc c) m ≡ some q) × Fits q r
          more c none q ih = (ih.0, rw (sees_method_suc P low c m, q) ih.1, ih.2)
          more c (some x) q ih =
              let o = over c m x ih.0 q ih.1 in (
                x,
                rw (sees_method_suc P low c m, q),
                record {
                  params = all_trans low r.params ih.0.params x.params ih.2.params o.params;
                  result = le_trans P low o.result ih.2.result;
                },
              )
