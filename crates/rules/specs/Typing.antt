-- Typing, as a check that finds the type of a tree or the place of the first node that has none. Figure 1 with the paper's readings.
use Rattle.std.specs.Prelude.{ℕ, Bool, true, false, not, ◌&&◌, ◌||◌, List, [], ◌∷◌, eqb}
use Rattle.std.proofs.Math.Option.{Option, none, some}
use Rattle.words.specs.declared.Value.{Value}
use Rattle.words.specs.declared.Value.TheVariants.{Null, Intg, Addr}
use Rattle.words.specs.declared.Ty.{Ty}
use Rattle.words.specs.declared.Ty.TheVariants.{Void, Boolean, Integer, NT, Class}
use Rattle.rules.specs.Maps.{upd}
use Rattle.rules.specs.Trees.{Expr, Exprs, new, cast, val, var, add, eq, assign, get, put, call, block, seq, ite, while, throw, try, nil, cons}
use Rattle.rules.specs.Program.{Program, Env}
use Rattle.rules.specs.Classes.{subclass, subtype, subtypes, sees_field, sees_method, same_type}

-- what a check finds: something, or the place of the first breach
pub data Res (A : Type 0) : Type 0 where
  ok : A → Res A
  bad : (place : ℕ) → Res A

infixl 20 ◌>>=◌
unfoldable pub ◌>>=◌ : {A B : Type 0} → Res A → (A → Res B) → Res B
◌>>=◌ (ok a) f = f a
◌>>=◌ (bad p) f = bad p

-- a premise of the node at p
unfoldable pub need : {A : Type 0} → Bool → (p : ℕ) → A → Res A
need true p a = ok a
need false p a = bad p

-- a premise that something was found
unfoldable pub found : {A : Type 0} → (p : ℕ) → Option A → Res A
found p none = bad p
found p (some a) = ok a

-- the type of a written value: no address is written
unfoldable pub literal : (p : ℕ) → Value → Res Ty
literal p Value.Unit = ok Void
literal p Null = ok NT
literal p (Value.Bool b) = ok Boolean
literal p (Intg n) = ok Integer
literal p (Addr a) = bad p

-- a premise that a type is a class
unfoldable pub class : (p : ℕ) → Ty → Res ℕ
class p Void = bad p
class p Boolean = bad p
class p Integer = bad p
class p NT = bad p
class p (Class c) = ok c

-- a block that already remembers is not written
unfoldable pub unremembered : (p : ℕ) → Option Value → Res Ty → Res Ty
unremembered p none r = r
unremembered p (some v) r = bad p

module _ (P : Program) where
  -- All operands are asked before the node's own premises.
  unfoldable mutual
    pub typing : Expr → Env → Res Ty
    typing (new p c) Γ = ok (Class c)
    typing (cast p c e) Γ = do
      t ← typing e Γ
      d ← class p t
      need (subclass P d c || subclass P c d) p (Class c)
    typing (val p v) Γ = literal p v
    typing (var p x) Γ = found p (Γ x)
    typing (add p a b) Γ = do
      t ← typing a Γ
      u ← typing b Γ
      need (same_type t Integer && same_type u Integer) p Integer
    typing (eq p a b) Γ = do
      t ← typing a Γ
      u ← typing b Γ
      need (subtype P t u || subtype P u t) p Boolean
    typing (assign p x e) Γ = do
      t ← typing e Γ
      u ← found p (Γ x)
      need (not (eqb x 0) && subtype P t u) p t
    typing (get p f d e) Γ = do
      t ← typing e Γ
      c ← class p t
      r ← found p (sees_field P c f)
      need (eqb r.owner d) p r.type
    typing (put p f d a b) Γ = do
      t ← typing a Γ
      u ← typing b Γ
      c ← class p t
      r ← found p (sees_field P c f)
      need (eqb r.owner d && subtype P u r.type) p u
    typing (call p m e es) Γ = do
      t ← typing e Γ
      ts ← typings es Γ
      c ← class p t
      r ← found p (sees_method P c m)
      need (subtypes P ts r.params) p r.result
    typing (block p x t mv e) Γ = unremembered p mv (typing e (upd Γ x (some t)))
    typing (seq p a b) Γ = do
      t ← typing a Γ
      typing b Γ
    typing (ite p c a b) Γ = do
      w ← typing c Γ
      t ← typing a Γ
      u ← typing b Γ
      need (same_type w Boolean && same_type t u) p t
    typing (while p c e) Γ = do
      w ← typing c Γ
      t ← typing e Γ
      need (same_type w Boolean) p Void
    typing (throw p t e) Γ = do
      u ← typing e Γ
      c ← class p u
      ok t
    typing (try p c x a b) Γ = do
      t ← typing a Γ
      u ← typing b (upd Γ x (some (Class c)))
      need (same_type t u) p t

    pub typings : Exprs → Env → Res (List Ty)
    typings nil Γ = ok []
    typings (cons e es) Γ = do
      t ← typing e Γ
      ts ← typings es Γ
      ok (t ∷ ts)
