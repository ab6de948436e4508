-- What the two checks accept is safe, once it is made ready to run.
use Rattle.std.specs.Prelude.{ℕ, ◌<◌, ◌≡◌, true, false, not, ◌&&◌, ◌||◌, eqb, length}
use Rattle.std.proofs.Math.Path.{refl}
use Rattle.std.proofs.Common.{sym, eqb-true}
use Rattle.std.proofs.Math.Option.{none, some}
use mathlib.Core.List.{List, [], ◌∷◌}
use Rattle.words.specs.declared.Value.{Value}
use Rattle.words.specs.declared.Value.TheVariants.{Null, Intg, Addr}
use Rattle.words.specs.declared.Ty.{Ty}
use Rattle.words.specs.declared.Ty.TheVariants.{Void, Boolean, Integer, Class}
use Rattle.words.specs.Value.{Proper}
use Rattle.image.specs.Laws.{and_left, and_right}
use Rattle.rules.specs.Maps.{upd}
use Rattle.rules.specs.Trees.{Expr, Exprs, new, cast, val, var, add, eq, assign, get, put, call, block, seq, ite, while, throw, try, nil, cons}
use Rattle.rules.specs.Program.{Program, Env}
use Rattle.rules.specs.Classes.{subclass, subtype, subtypes, sees_field, sees_method, same_type}
use Rattle.rules.specs.Typing.{ok, found, literal, class, unremembered, typing, typings}
use Rattle.rules.specs.Setting.{Vars, setting, settings}
use Rattle.rules.specs.Heap.{Heap}
use Rattle.rules.specs.Step.{load, loads}
use Rattle.laws.specs.Classes.{Lower, subclass_top}
use Rattle.figures.proofs.Agreement.{clash, ok_inj, bind_inv, need_inv, class_inv, found_inv, never}
use Rattle.safety.specs.Sets.{◌⊆◌, ⊆_refl, ⊆_trans, ⊆_same, meet_left, meet_right, ◌∪◌, ∪_left, ∪_right, ∪_join}
use Rattle.safety.specs.Conform.{≼_refl, ⊑_refl, same_type_lem, Le, Conf, le_refl, le_trans, le_same, le_class}
use Rattle.safety.specs.Safe.{both_of, Safe, Safes, move, mono}
use Rattle.safety.specs.Remember.{blocked_safe}
use Rattle.safety.specs.Tables.{sees_has}

-- a tree names classes below n and values in range, as layout rule 8 asks
unfoldable mutual
  pub Known : (n : ℕ) → Expr → Type 0
  Known n (new p c) = c < n
  Known n (cast p c e) = Known n e
  Known n (val p v) = Proper v
  Known n (var p x) = Unit {0}
  Known n (add p a b) = Known n a × Known n b
  Known n (eq p a b) = Known n a × Known n b
  Known n (assign p x e) = Known n e
  Known n (get p f d e) = Known n e
  Known n (put p f d a b) = Known n a × Known n b
  Known n (call p m e es) = Known n e × KnownAll n es
  Known n (block p x t mv e) = Known n e
  Known n (seq p a b) = Known n a × Known n b
  Known n (ite p c a b) = Known n c × Known n a × Known n b
  Known n (while p c e) = Known n c × Known n e
  Known n (throw p t e) = Known n e
  Known n (try p c x a b) = Known n a × Known n b

  pub KnownAll : (n : ℕ) → Exprs → Type 0
  KnownAll n nil = Unit {0}
  KnownAll n (cons e es) = Known n e × KnownAll n es

module _ (P : Program) (low : Lower P) where
  -- types that the premises compare
  is_le : {t u : Ty} → same_type t u ≡ true → Le P t u
  is_le {t} {u} e = le_same P low (same_type_lem t u e)

  is_ge : {t u : Ty} → same_type t u ≡ true → Le P u t
  is_ge {t} {u} e = le_same P low (sym (same_type_lem t u e))

  object : {t : Ty} {c : ℕ} → t ≡ Class c → Le P t (Class 0)
  object {c = c} e = le_trans P low (le_same P low e) (le_class P low c 0 (subclass_top P low c))

  -- a set found is the set
  is_set : {J K : Vars} → ok J ≡ ok K → K ⊆ J
  is_set e = ⊆_same (sym (ok_inj e))

  literal_fits : (p : ℕ) (v : Value) (h : Heap) (t : Ty) → Proper v → literal p v ≡ ok t → Conf P h v t
  unfolding literal
  literal_fits p Value.Unit h t k e = record { proper = tt; below = le_same P low (ok_inj e) }
  literal_fits p Null h t k e = record { proper = tt; below = le_same P low (ok_inj e) }
  literal_fits p (Value.Bool b) h t k e = record { proper = tt; below = le_same P low (ok_inj e) }
  literal_fits p (Intg n) h t k e = record { proper = k; below = le_same P low (ok_inj e) }
  literal_fits p (Addr a) h t k e = absurd (clash p t e)

  -- the types of arguments, one by one
  no_types : (us : List Ty) → subtypes P [] us ≡ true → us ≡ []
  unfolding subtypes
  no_types [] s = refl
  no_types (u ∷ us) s = absurd (never s)

  more_types : (t : Ty) (ts us : List Ty) → subtypes P (t ∷ ts) us ≡ true
      → (w : Ty) × (ws : List Ty) × (us ≡ w ∷ ws) × Le P t w × (subtypes P ts ws ≡ true)
  unfolding subtypes
  more_types t ts [] s = absurd (never s)
  more_types t ts (w ∷ ws) s =
      (w, ws, refl, record { ok = and_left (subtype P t w) (subtypes P ts ws) s }, and_right (subtype P t w) (subtypes P ts ws) s)

  mutual
    unfolding Safe Known typing setting load unremembered

    pub typed_safe : (e : Expr) (Γ : Env) (I : Vars) (h : Heap) (t : Ty) (J : Vars) → Known (length P.supers) e → typing P e Γ ≡ ok t
        → setting e I ≡ ok J
        → Safe P (load e) Γ I h t J
    typed_safe (new p c) Γ I h t J k q d = record { known = k; le = le_same P low (ok_inj q); after = is_set d }
    typed_safe (cast p c e) Γ I h t J k q d =
        let a = bind_inv (typing P e Γ) _ t q in
        let b = bind_inv (class p a.0) _ t a.2 in
        record {
          operand =
              mono P low (load e) ⊑_refl ⊆_refl ≼_refl (object (class_inv p a.0 b.0 b.1)) ⊆_refl
              (typed_safe e Γ I h a.0 J k a.1 d);
          le = le_same P low (need_inv (subclass P b.0 c || subclass P c b.0) p (Class c) t b.2).1;
        }
    typed_safe (val p v) Γ I h t J k q d = record { fits = literal_fits p v h t k q; after = is_set d }
    typed_safe (var p x) Γ I h t J k q d =
        let n = need_inv (I x) p I J d in
        record { type = t; bound = found_inv p (Γ x) t q; le = le_refl P low; known = n.0; after = ⊆_same (sym n.1) }
    typed_safe (add p a b) Γ I h t J k q d =
        let i = bind_inv (typing P a Γ) _ t q in
        let j = bind_inv (typing P b Γ) _ t i.2 in
        let n = need_inv (same_type i.0 Integer && same_type j.0 Integer) p Integer t j.2 in
        let m = bind_inv (setting a I) _ J d in
        both_of m.0 i.0 j.0 (typed_safe a Γ I h i.0 m.0 k.0 i.1 m.1)
        (typed_safe b Γ m.0 h j.0 J k.1 j.1 m.2)
        (record {
          first = is_le (and_left (same_type i.0 Integer) (same_type j.0 Integer) n.0);
          second = is_le (and_right (same_type i.0 Integer) (same_type j.0 Integer) n.0);
          le = le_same P low n.1;
        })
    typed_safe (eq p a b) Γ I h t J k q d =
        let i = bind_inv (typing P a Γ) _ t q in
        let j = bind_inv (typing P b Γ) _ t i.2 in
        let n = need_inv (subtype P i.0 j.0 || subtype P j.0 i.0) p Boolean t j.2 in
        let m = bind_inv (setting a I) _ J d in
        both_of m.0 i.0 j.0 (typed_safe a Γ I h i.0 m.0 k.0 i.1 m.1)
        (typed_safe b Γ m.0 h j.0 J k.1 j.1 m.2)
        (record { le = le_same P low n.1 })
    typed_safe (assign p x e) Γ I h t J k q d =
        let i = bind_inv (typing P e Γ) _ t q in
        let u = bind_inv (found p (Γ x)) _ t i.2 in
        let n = need_inv (not (eqb x 0) && subtype P i.0 u.0) p i.0 t u.2 in
        let m = bind_inv (setting e I) _ J d in
        record {
          mid = m.0;
          slot = u.0;
          type = i.0;
          bound = found_inv p (Γ x) u.0 u.1;
          operand = typed_safe e Γ I h i.0 m.0 k i.1 m.1;
          fits = record { ok = and_right (not (eqb x 0)) (subtype P i.0 u.0) n.0 };
          le = le_same P low n.1;
          after = is_set m.2;
        }
    typed_safe (get p f c e) Γ I h t J k q d =
        let i = bind_inv (typing P e Γ) _ t q in
        let b = bind_inv (class p i.0) _ t i.2 in
        let r = bind_inv (found p (sees_field P b.0 f)) _ t b.2 in
        let n = need_inv (eqb r.0.owner c) p r.0.type t r.2 in
        let s = found_inv p (sees_field P b.0 f) r.0 r.1 in
        record {
          class = b.0;
          type = r.0.type;
          operand =
              mono P low (load e) ⊑_refl ⊆_refl ≼_refl (le_same P low (class_inv p i.0 b.0 b.1)) ⊆_refl
              (typed_safe e Γ I h i.0 J k i.1 d);
          has = rw (eqb-true r.0.owner c n.0) at (sees_has P low b.0 f r.0 s);
          le = le_same P low n.1;
        }
    typed_safe (put p f c a b) Γ I h t J k q d =
        let i = bind_inv (typing P a Γ) _ t q in
        let w = bind_inv (typing P b Γ) _ t i.2 in
        let o = bind_inv (class p i.0) _ t w.2 in
        let r = bind_inv (found p (sees_field P o.0 f)) _ t o.2 in
        let n = need_inv (eqb r.0.owner c && subtype P w.0 r.0.type) p w.0 t r.2 in
        let s = found_inv p (sees_field P o.0 f) r.0 r.1 in
        let m = bind_inv (setting a I) _ J d in
        let y = eqb r.0.owner c in
        let z = subtype P w.0 r.0.type in
        both_of m.0 i.0 w.0 (typed_safe a Γ I h i.0 m.0 k.0 i.1 m.1)
        (typed_safe b Γ m.0 h w.0 J k.1 w.1 m.2)
        (record {
          class = o.0;
          slot = r.0.type;
          object = le_same P low (class_inv p i.0 o.0 o.1);
          has = rw (eqb-true r.0.owner c (and_left y z n.0)) at (sees_has P low o.0 f r.0 s);
          fits = record { ok = and_right y z n.0 };
          le = le_same P low n.1;
        })
    typed_safe (call p m e es) Γ I h t J k q d =
        let i = bind_inv (typing P e Γ) _ t q in
        let w = bind_inv (typings P es Γ) _ t i.2 in
        let o = bind_inv (class p i.0) _ t w.2 in
        let r = bind_inv (found p (sees_method P o.0 m)) _ t o.2 in
        let n = need_inv (subtypes P w.0 r.0.params) p r.0.result t r.2 in
        let y = bind_inv (setting e I) _ J d in
        record {
          mid = y.0;
          class = o.0;
          method = r.0;
          receiver =
              mono P low (load e) ⊑_refl ⊆_refl ≼_refl (le_same P low (class_inv p i.0 o.0 o.1)) ⊆_refl
              (typed_safe e Γ I h i.0 y.0 k.0 i.1 y.1);
          sees = found_inv p (sees_method P o.0 m) r.0 r.1;
          args = typed_safes es Γ y.0 h w.0 r.0.params J k.1 w.1 n.0 y.2;
          le = le_same P low n.1;
        }
    typed_safe (block p x u none e) Γ I h t J k q d =
        let m = bind_inv (setting e (upd I x false)) _ J d in
        blocked_safe P low p x u Γ I h t J none (load e)
        (record {
          mid = m.0;
          held = tt;
          body = typed_safe e (upd Γ x (some u)) (upd I x false) h t m.0 k q m.1;
          after = is_set m.2;
        })
    typed_safe (block p x u (some v) e) Γ I h t J k q d = absurd (clash p t q)
    typed_safe (seq p a b) Γ I h t J k q d =
        let i = bind_inv (typing P a Γ) _ t q in
        let m = bind_inv (setting a I) _ J d in
        both_of m.0 i.0 t (typed_safe a Γ I h i.0 m.0 k.0 i.1 m.1)
        (typed_safe b Γ m.0 h t J k.1 i.2 m.2)
        (record { le = le_refl P low })
    typed_safe (ite p c a b) Γ I h t J k q d =
        let w = bind_inv (typing P c Γ) _ t q in
        let i = bind_inv (typing P a Γ) _ t w.2 in
        let j = bind_inv (typing P b Γ) _ t i.2 in
        let n = need_inv (same_type w.0 Boolean && same_type i.0 j.0) p i.0 t j.2 in
        let m = bind_inv (setting c I) _ J d in
        let A = bind_inv (setting a m.0) _ J m.2 in
        let B = bind_inv (setting b m.0) _ J A.2 in
        let y = same_type w.0 Boolean in
        let z = same_type i.0 j.0 in
        record {
          mid = m.0;
          cond =
              mono P low (load c) ⊑_refl ⊆_refl ≼_refl (is_le (and_left y z n.0)) ⊆_refl
              (typed_safe c Γ I h w.0 m.0 k.0 w.1 m.1);
          yes_arm =
              mono P low (load a) ⊑_refl ⊆_refl ≼_refl (le_same P low n.1) (⊆_trans (is_set B.2) (meet_left A.0 B.0))
              (typed_safe a Γ m.0 h i.0 A.0 k.1 i.1 A.1);
          no_arm =
              mono P low (load b) ⊑_refl ⊆_refl ≼_refl (le_trans P low (is_ge (and_right y z n.0)) (le_same P low n.1))
              (⊆_trans (is_set B.2) (meet_right A.0 B.0))
              (typed_safe b Γ m.0 h j.0 B.0 k.2 j.1 B.1);
        }
    -- before each turn is set what was set before the first
    typed_safe (while p c e) Γ I h t J k q d =
        let w = bind_inv (typing P c Γ) _ t q in
        let i = bind_inv (typing P e Γ) _ t w.2 in
        let n = need_inv (same_type w.0 Boolean) p Void t i.2 in
        let m = bind_inv (setting c I) _ J d in
        let r = bind_inv (setting e m.0) _ J m.2 in
        record {
          start = I;
          mid = m.0 ∪ I;
          type = i.0;
          before = ⊆_refl;
          cond =
              move P low (load c) I I m.0 ⊑_refl (∪_join ⊆_refl ⊆_refl) ≼_refl (is_le n.0) ⊆_refl
              (typed_safe c Γ I h w.0 m.0 k.0 w.1 m.1);
          body =
              move P low (load e) I m.0 r.0 ⊑_refl ⊆_refl ≼_refl (le_refl P low) (∪_right r.0 I)
              (typed_safe e Γ m.0 h i.0 r.0 k.1 i.1 r.1);
          after = ⊆_trans (is_set r.2) (∪_left m.0 I);
          le = le_same P low n.1;
        }
    typed_safe (throw p u e) Γ I h t J k q d =
        let i = bind_inv (typing P e Γ) _ t q in
        let b = bind_inv (class p i.0) _ t i.2 in
        let m = bind_inv (setting e I) _ J d in
        record {
          mid = m.0;
          operand =
              mono P low (load e) ⊑_refl ⊆_refl ≼_refl (object (class_inv p i.0 b.0 b.1)) ⊆_refl
              (typed_safe e Γ I h i.0 m.0 k i.1 m.1);
        }
    typed_safe (try p c x a b) Γ I h t J k q d =
        let i = bind_inv (typing P a Γ) _ t q in
        let j = bind_inv (typing P b (upd Γ x (some (Class c)))) _ t i.2 in
        let n = need_inv (same_type i.0 j.0) p i.0 t j.2 in
        let A = bind_inv (setting a I) _ J d in
        let B = bind_inv (setting b (upd I x true)) _ J A.2 in
        record {
          mid = B.0;
          body =
              mono P low (load a) ⊑_refl ⊆_refl ≼_refl (le_same P low n.1)
              (⊆_trans (is_set B.2) (meet_left A.0 (upd B.0 x (I x))))
              (typed_safe a Γ I h i.0 A.0 k.0 i.1 A.1);
          handler =
              mono P low (load b) ⊑_refl ⊆_refl ≼_refl (le_trans P low (is_ge n.0) (le_same P low n.1)) ⊆_refl
              (typed_safe b (upd Γ x (some (Class c))) (upd I x true) h j.0 B.0 k.1 j.1 B.1);
          after = ⊆_trans (is_set B.2) (meet_right A.0 (upd B.0 x (I x)));
        }

    typed_safes : (es : Exprs) (Γ : Env) (I : Vars) (h : Heap) (ts us : List Ty) (J : Vars) → KnownAll (length P.supers) es
        → typings P es Γ ≡ ok ts
        → subtypes P ts us ≡ true → settings es I ≡ ok J → Safes P (loads es) Γ I h us J
    typed_safes nil Γ I h ts us J k q s d = record { none_left = no_types us (rw (← ok_inj q) at s); after = is_set d }
    typed_safes (cons e es) Γ I h ts us J k q s d =
        let i = bind_inv (typing P e Γ) _ ts q in
        let j = bind_inv (typings P es Γ) _ ts i.2 in
        let a = more_types i.0 j.0 us (rw (← ok_inj j.2) at s) in
        let m = bind_inv (setting e I) _ J d in
        record {
          mid = m.0;
          type = a.0;
          types = a.1;
          split = a.2;
          head = mono P low (load e) ⊑_refl ⊆_refl ≼_refl a.3 ⊆_refl (typed_safe e Γ I h i.0 m.0 k.0 i.1 m.1);
          rest = typed_safes es Γ m.0 h j.0 a.1 J k.1 j.1 a.4 m.2;
        }
