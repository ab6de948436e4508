-- Subtypes as a record, and conformity as the proofs use it: of values, stores and heaps, and what a heap keeps when it changes.
use Prim.Native.Nat.{ℕ, zero, suc, ◌+◌, ◌≤◌, ◌<◌}
use Rattle.std.specs.Prelude.{◌≡◌, ◌≢◌, eqb, length, get_or, set}
use Rattle.std.proofs.Math.Path.{refl, subst}
use Rattle.std.proofs.Common.{sym, ap, ◌∙◌, arith, length-set, get_or-set_same, get_or-set_other}
use Rattle.std.proofs.Math.Bool.{true}
use Rattle.std.proofs.Math.Option.{Option, none, some}
use mathlib.Core.List.{List, [], ◌∷◌}
use Rattle.std.proofs.Math.Decide.{ℕ_discrete}
use borrow.Author.Tests.{eqb-true, le-leb}
use Rattle.words.specs.declared.Value.{Value}
use Rattle.words.specs.declared.Value.TheVariants.{Null, Intg, Addr}
use Rattle.words.specs.declared.Ty.{Ty}
use Rattle.words.specs.declared.Ty.TheVariants.{Void, Boolean, Integer, NT, Class}
use Rattle.words.specs.Types.{type_of, type_word}
use Rattle.words.specs.TypeLaws.{type_of_word}
use Rattle.words.specs.Value.{Proper}
use Rattle.rules.specs.Maps.{upd}
use Rattle.rules.specs.Program.{Field, Program, Env}
use Rattle.rules.specs.Classes.{subclass, subtype, has_fields}
use Rattle.rules.specs.Heap.{Slot, free, obj, Heap, look, default, defaults}
use Rattle.rules.specs.Conform.{slot_conforms, conforms}
use Rattle.rules.specs.Numbers.{most_slots, fewest_slots, field_type}
use Rattle.rules.specs.Step.{Store}
use Rattle.laws.specs.Maps.{upd_rel, upd_keep, restore_rel}
use Rattle.laws.specs.Classes.{Lower, subclass_refl, subclass_trans, subclass_top}
use Rattle.laws.specs.Heap.{length_defaults, defaults_proper}
use Rattle.figures.proofs.Agreement.{never}
use Rattle.safety.specs.Sets.{no_one}

abbrev pub class_in : Slot → Option ℕ
class_in free = none
class_in (obj c vs) = some c

infix 20 ◌≼◌ ◌⊑◌
-- every object stays, with its class
pub record ◌≼◌ (h h' : Heap) : Type 0 where
  pub at : (a c : ℕ) → class_in (look h a) ≡ some c → class_in (look h' a) ≡ some c

-- one environment says what another says, and maybe more
pub record ◌⊑◌ (Γ Δ : Env) : Type 0 where
  pub at : (x : ℕ) (t : Ty) → Γ x ≡ some t → Δ x ≡ some t

pub ≼_refl : {h : Heap} → h ≼ h
≼_refl = record { at = λ a c e. e }

pub ⊑_refl : {Γ : Env} → Γ ⊑ Γ
⊑_refl = record { at = λ x t e. e }

pub ⊑_upd : {Γ Δ : Env} (x : ℕ) (o : Option Ty) → Γ ⊑ Δ → upd Γ x o ⊑ upd Δ x o
⊑_upd {Γ} {Δ} x o s = record { at = λ y t. upd_rel (λ a b. a ≡ some t → b ≡ some t) Γ Δ x y (λ e. e) (s.at y t) }

-- types that have the same word
pub same_type_lem : (t u : Ty) → eqb (type_word t) (type_word u) ≡ true → t ≡ u
same_type_lem t u e = sym (type_of_word t) ∙ ap type_of (eqb-true _ _ e) ∙ type_of_word u

-- where an object stands
pub in_range : (h : Heap) (a c : ℕ) → class_in (look h a) ≡ some c → a < length h
in_range [] a c e = no_one e
in_range (s ∷ h) zero c e = omega arith
in_range (s ∷ h) (suc a) c e = omega (arith, in_range h a c e)

pub class_slot : (s : Slot) (c : ℕ) → class_in s ≡ some c → (vs : List Value) × (s ≡ obj c vs)
class_slot free c e = no_one e
class_slot (obj d vs) c e = (vs, let z : d ≡ c = cc in rw z)

module _ (P : Program) where
  pub record Le (t u : Ty) : Type 0 where
    pub ok : subtype P t u ≡ true

  -- the type of what stands at a slot, and of a value
  abbrev pub type_at : Slot → Option Ty
  type_at free = none
  type_at (obj c vs) = some (Class c)

  abbrev pub type_in : Heap → Value → Option Ty
  type_in h Value.Unit = some Void
  type_in h Null = some NT
  type_in h (Value.Bool b) = some Boolean
  type_in h (Intg n) = some Integer
  type_in h (Addr a) = type_at (look h a)

  abbrev pub Below : Option Ty → Ty → Type 0
  Below none t = ⊥
  Below (some u) t = Le u t

  pub record Conf (h : Heap) (v : Value) (t : Ty) : Type 0 where
    pub proper : Proper v
    pub below : Below (type_in h v) t

  -- a variable's value, if it is set
  abbrev pub Holds : Heap → Option Value → Option Ty → Type 0
  Holds h none g = Unit {0}
  Holds h (some v) none = ⊥
  Holds h (some v) (some t) = Conf h v t

  pub record StoreOk (h : Heap) (l : Store) (Γ : Env) : Type 0 where
    pub at : (x : ℕ) → Holds h (l x) (Γ x)

  abbrev pub AllConf : Heap → List Value → List Ty → Type 0
  AllConf h [] [] = Unit {0}
  AllConf h [] (t ∷ ts) = ⊥
  AllConf h (v ∷ vs) [] = ⊥
  AllConf h (v ∷ vs) (t ∷ ts) = Conf h v t × AllConf h vs ts

  -- an object: a class of the program, and a conforming value for each field
  pub record ObjectOk (h : Heap) (c : ℕ) (vs : List Value) : Type 0 where
    pub known : c < length P.supers
    pub count : length vs ≡ length (has_fields P c)
    pub field : (i : ℕ) → i < length vs → Conf h (get_or vs i Value.Unit) (field_type (has_fields P c) i)

  pub record HeapOk (h : Heap) : Type 0 where
    pub object : (a c : ℕ) (vs : List Value) → look h a ≡ obj c vs → ObjectOk h c vs
    pub system : (a : ℕ) → a < fewest_slots → class_in (look h a) ≡ some (suc a)
    pub most : length h ≤ most_slots

  module _ (low : Lower P) where
    pub le_refl : {t : Ty} → Le t t
    unfolding subtype type_word
    le_refl {t} = record { ok = go t }
      where
        go : (t : Ty) → subtype P t t ≡ true
        go Void = refl
        go Boolean = refl
        go Integer = refl
        go NT = refl
        go (Class c) = subclass_refl P c

    -- what is above a class is a class
    above_class : (c : ℕ) (u : Ty) → subtype P (Class c) u ≡ true → (d : ℕ) × (u ≡ Class d) × (subclass P c d ≡ true)
    unfolding subtype
    above_class c Void e = absurd (never e)
    above_class c Boolean e = absurd (never e)
    above_class c Integer e = absurd (never e)
    above_class c NT e = absurd (never e)
    above_class c (Class d) e = (d, refl, e)

    trans : (t u w : Ty) → subtype P t u ≡ true → subtype P u w ≡ true → subtype P t w ≡ true
    unfolding subtype type_word
    trans Void u w p q = subst (λ (z : Ty). subtype P z w ≡ true) (sym (same_type_lem Void u p)) q
    trans Boolean u w p q = subst (λ (z : Ty). subtype P z w ≡ true) (sym (same_type_lem Boolean u p)) q
    trans Integer u w p q = subst (λ (z : Ty). subtype P z w ≡ true) (sym (same_type_lem Integer u p)) q
    trans NT Void w p q = absurd (never p)
    trans NT Boolean w p q = absurd (never p)
    trans NT Integer w p q = absurd (never p)
    trans NT NT w p q = q
    trans NT (Class d) w p q = let k = above_class d w q in rw k.1 (le-leb 3 (4 + k.0) (omega arith))
    trans (Class c) u w p q =
        let k = above_class c u p in
        let m = above_class k.0 w (rw k.1 at q) in
        rw m.1 (subclass_trans P low c k.0 m.0 k.2 m.2)

    pub le_trans : {t u w : Ty} → Le t u → Le u w → Le t w
    le_trans {t} {u} {w} p q = record { ok = trans t u w p.ok q.ok }

    pub le_same : {t u : Ty} → t ≡ u → Le t u
    le_same e = rw (← e) le_refl

    pub le_class : (c d : ℕ) → subclass P c d ≡ true → Le (Class c) (Class d)
    unfolding subtype
    le_class c d e = record { ok = e }

    pub class_le : {c d : ℕ} → Le (Class c) (Class d) → subclass P c d ≡ true
    unfolding subtype
    class_le s = s.ok

    -- WHAT STAYS, where a heap grows and a type is weakened
    below_le : (o : Option Ty) {t u : Ty} → Le t u → Below o t → Below o u
    below_le none p b = b
    below_le (some w) p b = le_trans b p

    slot_grows : (s s' : Slot) (t : Ty) → ((c : ℕ) → class_in s ≡ some c → class_in s' ≡ some c) → Below (type_at s) t
        → Below (type_at s') t
    slot_grows free s' t e b = absurd b
    slot_grows (obj c vs) s' t e b = let k = class_slot s' c (e c refl) in rw k.1 b

    pub conf_mono : {h h' : Heap} {v : Value} {t u : Ty} → h ≼ h' → Le t u → Conf h v t → Conf h' v u
    conf_mono {h} {h'} {v} {t} {u} x p b = record { proper = b.proper; below = go v b.below }
      where
        go : (v : Value) → Below (type_in h v) t → Below (type_in h' v) u
        go Value.Unit c = le_trans c p
        go Null c = le_trans c p
        go (Value.Bool b) c = le_trans c p
        go (Intg n) c = le_trans c p
        go (Addr a) c = below_le (type_at (look h' a)) p (slot_grows (look h a) (look h' a) t (x.at a) c)

    pub conf_le : {h : Heap} {v : Value} {t u : Ty} → Le t u → Conf h v t → Conf h v u
    conf_le = conf_mono ≼_refl

    pub holds_mono : {h h' : Heap} (o : Option Value) (g : Option Ty) → h ≼ h' → Holds h o g → Holds h' o g
    holds_mono none g x b = tt
    holds_mono (some v) none x b = b
    holds_mono (some v) (some t) x b = conf_mono x le_refl b

    pub store_mono : {h h' : Heap} {l : Store} {Γ : Env} → h ≼ h' → StoreOk h l Γ → StoreOk h' l Γ
    store_mono {l = l} {Γ = Γ} x s = record { at = λ y. holds_mono (l y) (Γ y) x (s.at y) }

    pub object_mono : {h h' : Heap} {c : ℕ} {vs : List Value} → h ≼ h' → ObjectOk h c vs → ObjectOk h' c vs
    object_mono x o = record { known = o.known; count = o.count; field = λ i l. conf_mono x le_refl (o.field i l) }

    -- STORES
    pub store_upd : {h : Heap} {l : Store} {Γ : Env} (x : ℕ) (o : Option Value) (g : Option Ty) → StoreOk h l Γ → Holds h o g
        → StoreOk h (upd l x o) (upd Γ x g)
    store_upd {h} {l} {Γ} x o g s b = record { at = λ y. upd_rel (Holds h) l Γ x y b (s.at y) }

    pub store_set : {h : Heap} {l : Store} {Γ : Env} (x : ℕ) (v : Value) → StoreOk h l Γ → Holds h (some v) (Γ x)
        → StoreOk h (upd l x (some v)) Γ
    store_set {h} {l} {Γ} x v s b = record { at = λ y. upd_keep (Holds h) l Γ x y b (s.at y) }

    -- out of a block, with its variable as before
    pub store_leave : {h : Heap} {l l' : Store} {Γ : Env} (x : ℕ) (g : Option Ty) → StoreOk h l Γ → StoreOk h l' (upd Γ x g)
        → StoreOk h (upd l' x (l x)) Γ
    store_leave {h} {l} {l'} {Γ} x g s s' = record { at = λ y. restore_rel (Holds h) l l' Γ x y g (s'.at y) (s.at y) }

    -- ADDRESSES
    slot_below : (s : Slot) (c d : ℕ) → class_in s ≡ some c → subclass P c d ≡ true → Below (type_at s) (Class d)
    slot_below s c d e u = let k = class_slot s c e in rw k.1 (le_class c d u)

    pub addr_conf : {h : Heap} (a c d : ℕ) → HeapOk h → class_in (look h a) ≡ some c → subclass P c d ≡ true → Conf h (Addr a) (Class d)
    addr_conf {h} a c d hk e u =
        record { proper = omega (arith, in_range h a c e, hk.most); below = slot_below (look h a) c d e u }

    -- an address of a class type has an object
    slot_object : (s : Slot) (t : Ty) → Below (type_at s) t → (c : ℕ) × (vs : List Value) × (s ≡ obj c vs) × Le (Class c) t
    slot_object free t b = absurd b
    slot_object (obj c vs) t b = (c, vs, refl, b)

    pub conf_object : {h : Heap} {a : ℕ} {t : Ty} → Conf h (Addr a) t
        → (c : ℕ) × (vs : List Value) × (look h a ≡ obj c vs) × Le (Class c) t
    conf_object {h} {a} {t} b = slot_object (look h a) t b.below

    -- the objects that a run throws by itself
    pub system_conf : {h : Heap} (a : ℕ) → a < fewest_slots → HeapOk h → Conf h (Addr a) (Class 0)
    system_conf a l hk = addr_conf a (suc a) 0 hk (hk.system a l) (subclass_top P low (suc a))

    -- WRITING A SLOT keeps every class if it was free or had that class.
    module _ (h : Heap) (a c : ℕ) (vs : List Value) (within : a < length h) (same : (d : ℕ) → class_in (look h a) ≡ some d → c ≡ d) where
      look_set : (Q : ℕ → Slot → Type 0) (b : ℕ) → Q a (obj c vs) → (b ≢ a → Q b (look h b)) → Q b (look (set h a (obj c vs)) b)
      look_set Q b p q = go (ℕ_discrete b a)
        where
          go : Dec (b ≡ a) → Q b (look (set h a (obj c vs)) b)
          go (yes e) = rw (e, get_or-set_same h a (obj c vs) free within) p
          go (no n) = rw (get_or-set_other h a b (obj c vs) free n) (q n)

      pub write_keeps : h ≼ set h a (obj c vs)
      write_keeps =
          record {
            at = λ b d. look_set (λ b s. class_in (look h b) ≡ some d → class_in s ≡ some d) b (λ e. ap some (same d e)) (λ n e. e);
          }

      pub write_class : class_in (look (set h a (obj c vs)) a) ≡ some c
      write_class = rw (get_or-set_same h a (obj c vs) free within)

      pub write_ok : HeapOk h → ObjectOk (set h a (obj c vs)) c vs → HeapOk (set h a (obj c vs))
      write_ok hk o =
          record {
            object =
                λ b d ws.
                look_set (λ b s. s ≡ obj d ws → ObjectOk (set h a (obj c vs)) d ws) b
                (λ e. let p : c ≡ d = cc in let q : vs ≡ ws = cc in rw (← p, ← q) o)
                (λ n e. object_mono write_keeps (hk.object b d ws e));
            system = λ b l. write_keeps.at b (suc b) (hk.system b l);
            most = rw (length-set h a (obj c vs)) hk.most;
          }

    -- DEFAULTS
    default_below : (h : Heap) (t : Ty) → Below (type_in h (default t)) t
    unfolding default subtype type_word
    default_below h Void = le_refl
    default_below h Boolean = le_refl
    default_below h Integer = le_refl
    default_below h NT = le_refl
    default_below h (Class c) = record { ok = le-leb 3 (4 + c) (omega arith) }

    default_at : (fs : List Field) (i : ℕ) → get_or (defaults fs) i Value.Unit ≡ default (field_type fs i)
    unfolding defaults default
    default_at [] i = refl
    default_at (f ∷ fs) zero = refl
    default_at (f ∷ fs) (suc i) = default_at fs i

    pub defaults_ok : (h : Heap) (c : ℕ) → c < length P.supers → ObjectOk h c (defaults (has_fields P c))
    defaults_ok h c k =
        let fs = has_fields P c in
        record {
          known = k;
          count = length_defaults fs;
          field = λ i l. record { proper = defaults_proper fs i; below = rw (default_at fs i) (default_below h (field_type fs i)) };
        }

    -- a field written
    pub put_ok : {h : Heap} {c : ℕ} {vs : List Value} (i : ℕ) (w : Value) → ObjectOk h c vs → Conf h w (field_type (has_fields P c) i)
        → ObjectOk h c (set vs i w)
    put_ok {h} {c} {vs} i w o k =
        record { known = o.known; count = length-set vs i w ∙ o.count; field = λ j l. go j (rw length-set at l) (ℕ_discrete j i) }
      where
        go : (j : ℕ) → j < length vs → Dec (j ≡ i) → Conf h (get_or (set vs i w) j Value.Unit) (field_type (has_fields P c) j)
        go j l (yes e) = let m : i < length vs = omega arith in rw (e, get_or-set_same vs i w Value.Unit m) k
        go j l (no n) = rw (get_or-set_other vs i j w Value.Unit n) (o.field j l)

    -- The same as the test of `rules`.
    pub below_test : (h : Heap) (v : Value) (t : Ty) → Below (type_in h v) t → conforms P h v t ≡ true
    unfolding conforms subtype type_word slot_conforms
    below_test h Value.Unit t b = rw (← same_type_lem Void t b.ok)
    below_test h Null t b = b.ok
    below_test h (Value.Bool c) t b = rw (← same_type_lem Boolean t b.ok)
    below_test h (Intg n) t b = rw (← same_type_lem Integer t b.ok)
    below_test h (Addr a) t b = go (look h a) b
      where
        go : (s : Slot) → Below (type_at s) t → slot_conforms P s t ≡ true
        go free b = absurd b
        go (obj c vs) b = b.ok

    pub test_below : (h : Heap) (v : Value) (t : Ty) → conforms P h v t ≡ true → Below (type_in h v) t
    unfolding conforms slot_conforms type_word
    test_below h Value.Unit t e = le_same (sym (same_type_lem t Void e))
    test_below h Null t e = record { ok = e }
    test_below h (Value.Bool c) t e = le_same (sym (same_type_lem t Boolean e))
    test_below h (Intg n) t e = le_same (sym (same_type_lem t Integer e))
    test_below h (Addr a) t e = go (look h a) e
      where
        go : (s : Slot) → slot_conforms P s t ≡ true → Below (type_at s) t
        go free e = absurd (never e)
        go (obj c vs) e = record { ok = e }
