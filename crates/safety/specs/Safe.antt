-- The invariant: typing and definite initialization of a running expression in one statement, computed from the expression.
--   Safe e Γ I h t J: where the variables of I are set, e runs safely in heap h under Γ; a value that it ends in conforms to t, and
--   then the variables of J are set.
-- Every form allows a supertype and a smaller set after, so that a step keeps t and J as they are.
use Rattle.std.specs.Prelude.{ℕ, ◌<◌, ◌≡◌, true, false, List, [], ◌∷◌, length}
use Rattle.std.proofs.Math.Option.{some}
use Rattle.words.specs.declared.Ty.{Ty}
use Rattle.words.specs.declared.Ty.TheVariants.{Void, Boolean, Integer, Class}
use Rattle.rules.specs.Maps.{upd}
use Rattle.rules.specs.Trees.{Expr, Exprs, new, cast, val, var, add, eq, assign, get, put, call, block, seq, ite, while, throw, try, nil, cons}
use Rattle.rules.specs.Program.{Method, Program, Env}
use Rattle.rules.specs.Classes.{sees_method, has_fields, field_index}
use Rattle.rules.specs.Setting.{Vars}
use Rattle.rules.specs.Heap.{Heap}
use Rattle.rules.specs.Numbers.{field_type}
use Rattle.laws.specs.Classes.{Lower}
use Rattle.figures.proofs.Agreement.{never}
use Rattle.safety.specs.Sets.{◌⊆◌, ⊆_refl, ⊆_trans, ◌∪◌, ∪_left, ∪_join, ∪_map, or_left, enter, leave, assigned, is_some}
use Rattle.safety.specs.Conform.{◌≼◌, ◌⊑◌, ⊑_upd, Le, Conf, Holds, le_refl, le_trans, conf_mono, holds_mono}

-- two operands, the first before the second, and what the node asks of their types
pub record Both (L : Ty → Vars → Type 0) (R : Vars → Ty → Type 0) (S : Ty → Ty → Type 0) : Type 0 where
  pub mid : Vars
  pub type_l : Ty
  pub type_r : Ty
  pub left : L type_l mid
  pub right : R mid type_r
  pub rule : S type_l type_r

pub both_of : {L : Ty → Vars → Type 0} {R : Vars → Ty → Type 0} {S : Ty → Ty → Type 0} (K : Vars) (u w : Ty) → L u K → R K w → S u w
    → Both L R S
both_of K u w l r s = record { mid = K; type_l = u; type_r = w; left = l; right = r; rule = s }

pub both_map : {L L' : Ty → Vars → Type 0} {R R' : Vars → Ty → Type 0} {S S' : Ty → Ty → Type 0} (m : Vars → Vars)
    → ((u : Ty) (K : Vars) → L u K → L' u (m K))
    → ((K : Vars) (w : Ty) → R K w → R' (m K) w)
    → ((u w : Ty) → S u w → S' u w)
    → Both L R S → Both L' R' S'
both_map m f g k s =
    both_of (m s.mid) s.type_l s.type_r (f s.type_l s.mid s.left) (g s.mid s.type_r s.right)
    (k s.type_l s.type_r s.rule)

module _ (P : Program) where
  -- objects of class c have field f of class d, of type u
  pub record Has (c d f : ℕ) (u : Ty) : Type 0 where
    pub index : ℕ
    pub found : field_index (has_fields P c) d f ≡ some index
    pub within : index < length (has_fields P c)
    pub typed : field_type (has_fields P c) index ≡ u

  -- what Add, Eq, Set and Seq ask of their operands' types, for a result of type t
  pub record Adds (t u w : Ty) : Type 0 where
    pub first : Le P u Integer
    pub second : Le P w Integer
    pub le : Le P Integer t

  pub record Compares (t u w : Ty) : Type 0 where
    pub le : Le P Boolean t

  pub record Puts (f d : ℕ) (t u w : Ty) : Type 0 where
    pub class : ℕ
    pub slot : Ty
    pub object : Le P u (Class class)
    pub has : Has class d f slot
    pub fits : Le P w slot
    pub le : Le P w t

  pub record Follows (t u w : Ty) : Type 0 where
    pub le : Le P w t

  unfoldable mutual
    pub Safe : Expr → Env → Vars → Heap → Ty → Vars → Type 0
    Safe (new p c) Γ I h t J = record { known : c < length P.supers; le : Le P (Class c) t; after : J ⊆ I }
    Safe (cast p c e) Γ I h t J = record { operand : Safe e Γ I h (Class 0) J; le : Le P (Class c) t }
    Safe (val p v) Γ I h t J = record { fits : Conf P h v t; after : J ⊆ I }
    Safe (var p x) Γ I h t J =
        record { type : Ty; bound : Γ x ≡ some type; le : Le P type t; known : I x ≡ true; after : J ⊆ I }
    Safe (add p a b) Γ I h t J = Both (λ u K. Safe a Γ I h u K) (λ K w. Safe b Γ K h w J) (Adds t)
    Safe (eq p a b) Γ I h t J = Both (λ u K. Safe a Γ I h u K) (λ K w. Safe b Γ K h w J) (Compares t)
    Safe (assign p x e) Γ I h t J =
        record {
          mid : Vars;
          slot : Ty;
          type : Ty;
          bound : Γ x ≡ some slot;
          operand : Safe e Γ I h type mid;
          fits : Le P type slot;
          le : Le P type t;
          after : J ⊆ upd mid x true;
        }
    Safe (get p f d e) Γ I h t J =
        record { class : ℕ; type : Ty; operand : Safe e Γ I h (Class class) J; has : Has class d f type; le : Le P type t }
    Safe (put p f d a b) Γ I h t J = Both (λ u K. Safe a Γ I h u K) (λ K w. Safe b Γ K h w J) (Puts f d t)
    Safe (call p m e es) Γ I h t J =
        record {
          mid : Vars;
          class : ℕ;
          method : Method;
          receiver : Safe e Γ I h (Class class) mid;
          sees : sees_method P class m ≡ some method;
          args : Safes es Γ mid h method.params J;
          le : Le P method.result t;
        }
    Safe (block p x u mv e) Γ I h t J =
        record {
          mid : Vars;
          held : Holds P h mv (some u);
          body : Safe e (upd Γ x (some u)) (upd I x (is_some mv)) h t mid;
          after : J ⊆ upd mid x (I x);
        }
    Safe (seq p a b) Γ I h t J = Both (λ u K. Safe a Γ I h u K) (λ K w. Safe b Γ K h w J) (Follows t)
    Safe (ite p c a b) Γ I h t J =
        record { mid : Vars; cond : Safe c Γ I h Boolean mid; yes_arm : Safe a Γ mid h t J; no_arm : Safe b Γ mid h t J }
    -- `start` is set before each turn
    Safe (while p c e) Γ I h t J =
        record {
          start : Vars;
          mid : Vars;
          type : Ty;
          before : start ⊆ I;
          cond : Safe c Γ start h Boolean mid;
          body : Safe e Γ mid h type start;
          after : J ⊆ mid;
          le : Le P Void t;
        }
    Safe (throw p u e) Γ I h t J = record { mid : Vars; operand : Safe e Γ I h (Class 0) mid }
    Safe (try p c x a b) Γ I h t J =
        record {
          mid : Vars;
          body : Safe a Γ I h t J;
          handler : Safe b (upd Γ x (some (Class c))) (upd I x true) h t mid;
          after : J ⊆ upd mid x (I x);
        }

    pub Safes : Exprs → Env → Vars → Heap → List Ty → Vars → Type 0
    Safes nil Γ I h ts J = record { none_left : ts ≡ []; after : J ⊆ I }
    Safes (cons e es) Γ I h ts J =
        record {
          mid : Vars;
          type : Ty;
          types : List Ty;
          split : ts ≡ type ∷ types;
          head : Safe e Γ I h type mid;
          rest : Safes es Γ mid h types J;
        }

  module _ (low : Lower P) where
    -- The frame rule and every weakening in one induction: what is set besides beforehand, F, is set besides afterwards; environment,
    -- set before and heap may say more, and type and set after may say less.
    through : {J J' I I' : Vars} (F : Vars) → J' ⊆ J ∪ F → J ⊆ I → I ∪ F ⊆ I' → J' ⊆ I'
    through F j a i = ⊆_trans j (⊆_trans (∪_map F a) i)

    mutual
      unfolding Safe

      pub move : (e : Expr) {Γ Δ : Env} {I' J' : Vars} {h h' : Heap} {t t' : Ty} (F I J : Vars) → Γ ⊑ Δ → I ∪ F ⊆ I' → h ≼ h'
          → Le P t t'
          → J' ⊆ J ∪ F → Safe e Γ I h t J → Safe e Δ I' h' t' J'
      move (new p c) F I J g i x w j s = record { known = s.known; le = le_trans P low s.le w; after = through F j s.after i }
      move (cast p c e) F I J g i x w j s =
          record { operand = move e F I J g i x (le_refl P low) j s.operand; le = le_trans P low s.le w }
      move (val p v) F I J g i x w j s = record { fits = conf_mono P low x w s.fits; after = through F j s.after i }
      move (var p y) F I J g i x w j s =
          record {
            type = s.type;
            bound = g.at y s.type s.bound;
            le = le_trans P low s.le w;
            known = i.at y (or_left (I y) (F y) s.known);
            after = through F j s.after i;
          }
      move (add p a b) F I J g i x w j s =
          both_map (λ K. K ∪ F) (λ u K k. move a F I K g i x (le_refl P low) ⊆_refl k)
          (λ K u k. move b F K J g ⊆_refl x (le_refl P low) j k)
          (λ u v k. record { first = k.first; second = k.second; le = le_trans P low k.le w })
          s
      move (eq p a b) F I J g i x w j s =
          both_map (λ K. K ∪ F) (λ u K k. move a F I K g i x (le_refl P low) ⊆_refl k)
          (λ K u k. move b F K J g ⊆_refl x (le_refl P low) j k)
          (λ u v k. record { le = le_trans P low k.le w })
          s
      move (assign p y e) F I J g i x w j s =
          record {
            mid = s.mid ∪ F;
            slot = s.slot;
            type = s.type;
            bound = g.at y s.slot s.bound;
            operand = move e F I s.mid g i x (le_refl P low) ⊆_refl s.operand;
            fits = s.fits;
            le = le_trans P low s.le w;
            after = assigned F s.mid y j s.after;
          }
      move (get p f d e) F I J g i x w j s =
          record {
            class = s.class;
            type = s.type;
            operand = move e F I J g i x (le_refl P low) j s.operand;
            has = s.has;
            le = le_trans P low s.le w;
          }
      move (put p f d a b) F I J g i x w j s =
          both_map (λ K. K ∪ F) (λ u K k. move a F I K g i x (le_refl P low) ⊆_refl k)
          (λ K u k. move b F K J g ⊆_refl x (le_refl P low) j k)
          (λ u v k.
          record { class = k.class; slot = k.slot; object = k.object; has = k.has; fits = k.fits; le = le_trans P low k.le w })
          s
      move (call p m e es) F I J g i x w j s =
          record {
            mid = s.mid ∪ F;
            class = s.class;
            method = s.method;
            receiver = move e F I s.mid g i x (le_refl P low) ⊆_refl s.receiver;
            sees = s.sees;
            args = moves es F s.mid J s.method.params g ⊆_refl x j s.args;
            le = le_trans P low s.le w;
          }
      move (block p y u mv e) F I J g i x w j s =
          record {
            mid = s.mid ∪ upd F y false;
            held = holds_mono P low mv (some u) x s.held;
            body =
                move e (upd F y false) (upd I y (is_some mv)) s.mid (⊑_upd y (some u) g) (enter I F y (is_some mv) i) x w ⊆_refl
                s.body;
            after = leave F s.mid I y j s.after i;
          }
      move (seq p a b) F I J g i x w j s =
          both_map (λ K. K ∪ F) (λ u K k. move a F I K g i x (le_refl P low) ⊆_refl k)
          (λ K u k. move b F K J g ⊆_refl x (le_refl P low) j k)
          (λ u v k. record { le = le_trans P low k.le w })
          s
      move (ite p c a b) F I J g i x w j s =
          record {
            mid = s.mid ∪ F;
            cond = move c F I s.mid g i x (le_refl P low) ⊆_refl s.cond;
            yes_arm = move a F s.mid J g ⊆_refl x w j s.yes_arm;
            no_arm = move b F s.mid J g ⊆_refl x w j s.no_arm;
          }
      move (while p c e) F I J g i x w j s =
          record {
            start = s.start ∪ F;
            mid = s.mid ∪ F;
            type = s.type;
            before = ⊆_trans (∪_map F s.before) i;
            cond = move c F s.start s.mid g ⊆_refl x (le_refl P low) ⊆_refl s.cond;
            body = move e F s.mid s.start g ⊆_refl x (le_refl P low) ⊆_refl s.body;
            after = through F j s.after ⊆_refl;
            le = le_trans P low s.le w;
          }
      move (throw p u e) F I J g i x w j s =
          record { mid = s.mid ∪ F; operand = move e F I s.mid g i x (le_refl P low) ⊆_refl s.operand }
      move (try p c y a b) F I J g i x w j s =
          record {
            mid = s.mid ∪ upd F y false;
            body = move a F I J g i x w j s.body;
            handler =
                move b (upd F y false) (upd I y true) s.mid (⊑_upd y (some (Class c)) g) (enter I F y true i) x w ⊆_refl
                s.handler;
            after = leave F s.mid I y j s.after i;
          }

      pub moves : (es : Exprs) {Γ Δ : Env} {I' J' : Vars} {h h' : Heap} (F I J : Vars) (ts : List Ty) → Γ ⊑ Δ → I ∪ F ⊆ I' → h ≼ h'
          → J' ⊆ J ∪ F → Safes es Γ I h ts J → Safes es Δ I' h' ts J'
      moves nil F I J ts g i x j s = record { none_left = s.none_left; after = through F j s.after i }
      moves (cons e es) F I J ts g i x j s =
          record {
            mid = s.mid ∪ F;
            type = s.type;
            types = s.types;
            split = s.split;
            head = move e F I s.mid g i x (le_refl P low) ⊆_refl s.head;
            rest = moves es F s.mid J s.types g ⊆_refl x j s.rest;
          }

    -- without a frame
    none_in : {I : Vars} → (λ x. false) ⊆ I
    none_in = record { at = λ x t. absurd (never t) }

    pub mono : (e : Expr) {Γ Δ : Env} {I I' J J' : Vars} {h h' : Heap} {t t' : Ty} → Γ ⊑ Δ → I ⊆ I' → h ≼ h' → Le P t t' → J' ⊆ J
        → Safe e Γ I h t J → Safe e Δ I' h' t' J'
    mono e {I = I} {J = J} g i x w j s = move e (λ x. false) I J g (∪_join i none_in) x w (⊆_trans j (∪_left J (λ x. false))) s

    pub monos : (es : Exprs) {Γ Δ : Env} {I I' J J' : Vars} {h h' : Heap} (ts : List Ty) → Γ ⊑ Δ → I ⊆ I' → h ≼ h' → J' ⊆ J
        → Safes es Γ I h ts J → Safes es Δ I' h' ts J'
    monos es {I = I} {J = J} ts g i x j s = moves es (λ x. false) I J ts g (∪_join i none_in) x (⊆_trans j (∪_left J (λ x. false))) s
