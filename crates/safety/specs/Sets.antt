-- Sets of variables: inclusion, union, and a variable that enters a block and comes back out of it.
use Rattle.std.specs.Prelude.{ℕ, ◌≡◌, refl, Bool, true, false, cond, ◌||◌, eqb}
use Rattle.std.proofs.Common.{sym, arith, eqb-true}
use Rattle.std.proofs.Math.Path.{fun_ext}
use Rattle.std.proofs.Math.Option.{Option, none, some}
use Rattle.image.specs.Laws.{and_left, and_right}
use Rattle.words.specs.declared.Value.{Value}
use Rattle.rules.specs.Maps.{upd}
use Rattle.rules.specs.Setting.{Vars, meet}
use Rattle.rules.specs.Step.{Store}
use Rattle.laws.specs.Maps.{upd_same, upd_rel, upd_keep, upd_restore}
use Rattle.figures.proofs.Agreement.{never}

-- nothing is not something
pub no_one : {A Q : Type 0} {a : A} → none ≡ some a → Q
no_one e = absurd (let z : ◌≡◌ {A = ℕ} 0 1 = cc in omega arith)

infix 20 ◌⊆◌
pub record ◌⊆◌ (I J : Vars) : Type 0 where
  pub at : (x : ℕ) → I x ≡ true → J x ≡ true

pub ⊆_refl : {I : Vars} → I ⊆ I
⊆_refl = record { at = λ x t. t }

pub ⊆_trans : {I J K : Vars} → I ⊆ J → J ⊆ K → I ⊆ K
⊆_trans p q = record { at = λ x t. q.at x (p.at x t) }

pub ⊆_same : {I J : Vars} → I ≡ J → I ⊆ J
⊆_same {I} e = rw (← e) ⊆_refl

pub ⊆_upd : {I J : Vars} (x : ℕ) (b c : Bool) → (b ≡ true → c ≡ true) → I ⊆ J → upd I x b ⊆ upd J x c
⊆_upd {I} {J} x b c f s = record { at = λ y. upd_rel (λ a a'. a ≡ true → a' ≡ true) I J x y f (s.at y) }

pub meet_left : (A B : Vars) → meet A B ⊆ A
unfolding meet
meet_left A B = record { at = λ x. and_left (A x) (B x) }

pub meet_right : (A B : Vars) → meet A B ⊆ B
unfolding meet
meet_right A B = record { at = λ x. and_right (A x) (B x) }

-- UNION
pub or_left : (a b : Bool) → a ≡ true → (a || b) ≡ true
or_left a b e = rw e

pub or_right : (a b : Bool) → b ≡ true → (a || b) ≡ true
or_right true b e = refl
or_right false b e = e

or_cases : (a b c : Bool) → (a ≡ true → c ≡ true) → (b ≡ true → c ≡ true) → (a || b) ≡ true → c ≡ true
or_cases true b c f g t = f refl
or_cases false b c f g t = g t

infixl 30 ◌∪◌
abbrev pub ◌∪◌ : Vars → Vars → Vars
(I ∪ F) = λ x. I x || F x

pub ∪_left : (I F : Vars) → I ⊆ I ∪ F
∪_left I F = record { at = λ x. or_left (I x) (F x) }

pub ∪_right : (I F : Vars) → F ⊆ I ∪ F
∪_right I F = record { at = λ x. or_right (I x) (F x) }

pub ∪_join : {I F J : Vars} → I ⊆ J → F ⊆ J → I ∪ F ⊆ J
∪_join {I} {F} {J} s r = record { at = λ x. or_cases (I x) (F x) (J x) (s.at x) (r.at x) }

pub ∪_map : {I J : Vars} (F : Vars) → I ⊆ J → I ∪ F ⊆ J ∪ F
∪_map {I} {J} F s = ∪_join (⊆_trans s (∪_left J F)) (∪_right J F)

-- A frame F goes along: it loses a block's variable inside the block,
pub enter : {I' : Vars} (I F : Vars) (x : ℕ) (b : Bool) → I ∪ F ⊆ I' → upd I x b ∪ upd F x false ⊆ upd I' x b
unfolding upd
enter {I'} I F x b s = record { at = λ y. go (eqb x y) (I y) (F y) (I' y) (s.at y) }
  where
    go : (e i f i' : Bool) → ((i || f) ≡ true → i' ≡ true) → (cond e b i || cond e false f) ≡ true → cond e b i' ≡ true
    go true i f i' r t = or_cases b false b (λ u. u) (λ u. absurd (never u)) t
    go false i f i' r t = r t

-- and outside the variable stands as before;
pub leave : {J' J I' : Vars} (F K I : Vars) (x : ℕ) → J' ⊆ J ∪ F → J ⊆ upd K x (I x) → I ∪ F ⊆ I'
    → J' ⊆ upd (K ∪ upd F x false) x (I' x)
unfolding upd
leave {J'} {J} {I'} F K I x j s i = record { at = λ y t. go y (eqb x y) refl (s.at y) (j.at y t) }
  where
    go : (y : ℕ) (e : Bool) → eqb x y ≡ e → (J y ≡ true → cond e (I x) (K y) ≡ true) → (J y || F y) ≡ true
        → cond e (I' x) (K y || cond e false (F y)) ≡ true
    go y true q r t =
        or_cases (J y) (F y) (I' x) (λ u. i.at x (or_left (I x) (F x) (r u)))
        (λ u. i.at x (or_right (I x) (F x) (rw (eqb-true x y q) u)))
        t
    go y false q r t = or_cases (J y) (F y) (K y || F y) (λ u. or_left (K y) (F y) (r u)) (λ u. or_right (K y) (F y) u) t

-- an assigned variable is set.
pub assigned : {J' J : Vars} (F K : Vars) (x : ℕ) → J' ⊆ J ∪ F → J ⊆ upd K x true → J' ⊆ upd (K ∪ F) x true
unfolding upd
assigned {J'} {J} F K x j s = record { at = λ y t. go y (eqb x y) (s.at y) (j.at y t) }
  where
    go : (y : ℕ) (e : Bool) → (J y ≡ true → cond e true (K y) ≡ true) → (J y || F y) ≡ true → cond e true (K y || F y) ≡ true
    go y true r t = refl
    go y false r t = or_cases (J y) (F y) (K y || F y) (λ u. or_left (K y) (F y) (r u)) (λ u. or_right (K y) (F y) u) t

-- THE VARIABLES THAT A STORE HAS
abbrev pub is_some {ℓ} : {A : Type ℓ} → Option A → Bool
is_some none = false
is_some (some a) = true

abbrev pub dom : Store → Vars
dom l = λ x. is_some (l x)

pub dom_upd : (l : Store) (x : ℕ) (mv : Option Value) → dom (upd l x mv) ≡ upd (dom l) x (is_some mv)
unfolding upd
dom_upd l x mv = fun_ext (λ y. go (eqb x y) (l y))
  where
    go : (e : Bool) (o : Option Value) → is_some (cond e mv o) ≡ cond e (is_some mv) (is_some o)
    go true o = refl
    go false o = refl

-- out of a block: what its body has set, with x as before, is set outside
pub dom_leave : {J K : Vars} (l : Store) (x : ℕ) (mv : Option Value) → J ⊆ upd K x (dom l x) → K ⊆ dom (upd l x mv) → J ⊆ dom l
dom_leave {J} {K} l x mv s k =
    ⊆_trans s
    (⊆_trans (⊆_upd x (dom l x) (dom l x) (λ t. t) (⊆_trans k (⊆_same (dom_upd l x mv))))
    (⊆_same (upd_restore (dom l) x (is_some mv))))

-- within a block: the store outside after a step, with x as the body left it
pub dom_stay : (l l' : Store) (x : ℕ) → dom l' ⊆ upd (dom (upd l' x (l x))) x (is_some (l' x))
dom_stay l l' x = rw (dom_upd l' x (l x)) (⊆_same (sym (upd_restore (dom l') x (is_some (l x)))))

pub stay_upd : {J : Vars} (K : Vars) (l l' : Store) (x : ℕ) → J ⊆ upd K x (dom l x) → J ⊆ upd K x (dom (upd l' x (l x)) x)
stay_upd K l l' x s = rw (upd_same l' x (l x)) s

pub dom_grow : (l l' : Store) (x : ℕ) (mv : Option Value) → dom (upd l x mv) ⊆ dom l' → dom l ⊆ dom (upd l' x (l x))
dom_grow l l' x mv s =
    rw (dom_upd l' x (l x))
    (⊆_trans (⊆_same (sym (upd_restore (dom l) x (is_some mv))))
    (⊆_upd x (dom l x) (dom l x) (λ t. t) (⊆_trans (⊆_same (sym (dom_upd l x mv))) s)))

-- what is set stays set
pub set_more : (I : Vars) (x : ℕ) → I ⊆ upd I x true
set_more I x = record { at = λ y. upd_keep (λ a b. b ≡ true → a ≡ true) I I x y (λ t. refl) (λ t. t) }
