-- A block that comes to remember a value stays safe.
use Rattle.std.specs.Prelude.{ℕ, Bool, cond, eqb}
use Rattle.std.proofs.Math.Path.{◌≡◌, refl}
use Rattle.std.proofs.Math.Bool.{true, false}
use Rattle.std.proofs.Math.Option.{Option, none, some}
use Rattle.std.proofs.Common.{eqb-true}
use Rattle.words.specs.declared.Value.{Value}
use Rattle.words.specs.declared.Ty.{Ty}
use Rattle.rules.specs.Trees.{Expr, new, cast, val, var, add, eq, assign, get, put, call, block, seq, ite, while, throw, try}
use Rattle.rules.specs.Program.{Program, Env}
use Rattle.rules.specs.Setting.{Vars}
use Rattle.rules.specs.Heap.{Heap}
use Rattle.rules.specs.Step.{View, is_seq, is_assign, is_val, other, view, value_in, assigned, remember, settle, blocked}
use Rattle.laws.specs.Maps.{upd_same, upd_twice}
use Rattle.laws.specs.Classes.{Lower}
use Rattle.safety.specs.Sets.{no_one, ⊆_refl, ⊆_trans, ⊆_upd, ⊆_same}
use Rattle.safety.specs.Conform.{≼_refl, ⊑_refl, conf_le}
use Rattle.safety.specs.Safe.{Safe, mono}

-- what `view` sees
abbrev Viewed : Expr → View → Type 0
Viewed e (is_seq a b) = (q : ℕ) × (e ≡ seq q a b)
Viewed e (is_assign y a) = (q : ℕ) × (e ≡ assign q y a)
Viewed e (is_val v) = (q : ℕ) × (e ≡ val q v)
Viewed e other = Unit {0}

viewed : (e : Expr) → Viewed e (view e)
unfolding view
viewed (new p c) = tt
viewed (cast p c e) = tt
viewed (val p v) = (p, refl)
viewed (var p x) = tt
viewed (add p a b) = tt
viewed (eq p a b) = tt
viewed (assign p x e) = (p, refl)
viewed (get p f d e) = tt
viewed (put p f d a b) = tt
viewed (call p m e es) = tt
viewed (block p x t mv e) = tt
viewed (seq p a b) = (p, refl)
viewed (ite p c a b) = tt
viewed (while p c e) = tt
viewed (throw p t e) = tt
viewed (try p c x a b) = tt

-- a value is remembered only where `x := v` stands
value_in_lem : (e : Expr) (w : View) (v : Value) → Viewed e w → value_in w ≡ some v → (k : ℕ) × (e ≡ val k v)
unfolding value_in
value_in_lem e (is_seq a b) v s h = no_one h
value_in_lem e (is_assign y a) v s h = no_one h
value_in_lem e (is_val u) v s h = (s.0, let z : u ≡ v = cc in rw (← z) s.1)
value_in_lem e other v s h = no_one h

assigned_in : (x : ℕ) (e : Expr) (w : View) (v : Value) → Viewed e w → assigned x w ≡ some v
    → (r : ℕ) × (k : ℕ) × (e ≡ assign r x (val k v))
unfolding assigned
assigned_in x e (is_seq a b) v s h = no_one h
assigned_in x e (is_assign y a) v s h = go (eqb x y) refl h
  where
    go : (t : Bool) → eqb x y ≡ t → cond t (value_in (view a)) none ≡ some v → (r : ℕ) × (k : ℕ) × (e ≡ assign r x (val k v))
    go true q h = let k = value_in_lem a (view a) v (viewed a) h in (s.0, k.0, rw (eqb-true x y q, ← k.1) s.1)
    go false q h = no_one h
assigned_in x e (is_val u) v s h = no_one h
assigned_in x e other v s h = no_one h

module _ (P : Program) (low : Lower P) (p x : ℕ) (u : Ty) (Γ : Env) (I : Vars) (h : Heap) (t : Ty) (J : Vars) where
  remembers : (q r k : ℕ) (v : Value) (b : Expr) → Safe P (block p x u none (seq q (assign r x (val k v)) b)) Γ I h t J
      → Safe P (block p x u (some v) b) Γ I h t J
  unfolding Safe
  remembers q r k v b s =
      let d = s.body in
      let a = d.left in
      let same : ◌≡◌ {A = Option Ty} (some u) (some a.slot) = cc (upd_same Γ x (some u), a.bound) in
      let fits : u ≡ a.slot = cc in
      record {
        mid = s.mid;
        held = rw fits (conf_le P low a.fits a.operand.fits);
        body =
            mono P low b ⊑_refl
            (⊆_trans a.after (⊆_trans (⊆_upd x true true (λ w. w) a.operand.after) (⊆_same (upd_twice I x false true))))
            ≼_refl d.rule.le ⊆_refl d.right;
        after = s.after;
      }

  remember_safe : (q : ℕ) (a b e : Expr) (o : Option Value) → assigned x (view a) ≡ o → e ≡ seq q a b
      → Safe P (block p x u none e) Γ I h t J
      → Safe P (remember p x u e b o) Γ I h t J
  unfolding remember
  remember_safe q a b e none z i s = s
  remember_safe q a b e (some v) z i s =
      let k = assigned_in x a (view a) v (viewed a) z in remembers q k.0 k.1 v b (rw (i, k.2) at s)

  settle_safe : (e : Expr) (w : View) → Viewed e w → Safe P (block p x u none e) Γ I h t J → Safe P (settle p x u e w) Γ I h t J
  unfolding settle
  settle_safe e (is_seq a b) k s = remember_safe k.0 a b e (assigned x (view a)) refl k.1 s
  settle_safe e (is_assign y c) k s = s
  settle_safe e (is_val v) k s = s
  settle_safe e other k s = s

  pub blocked_safe : (mv : Option Value) (e : Expr) → Safe P (block p x u mv e) Γ I h t J → Safe P (blocked p x u mv e) Γ I h t J
  unfolding blocked
  blocked_safe none e s = settle_safe e (view e) (viewed e) s
  blocked_safe (some v) e s = s
