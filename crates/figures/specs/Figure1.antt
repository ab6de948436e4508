-- Figure 1 of the report, "well-typing of input expressions", rule by rule and in its order, with the paper's readings.
-- That New and Cast name a class is the layout's, so no rule asks it.
use Rattle.std.specs.Prelude.{ℕ, ◌≡◌, ◌⊎◌, true, List, [], ◌∷◌}
use Rattle.std.proofs.Math.Option.{Option, none, some}
use Rattle.words.specs.declared.Value.{Value}
use Rattle.words.specs.declared.Value.TheVariants.{Null, Intg, Addr}
use Rattle.words.specs.declared.Ty.{Ty}
use Rattle.words.specs.declared.Ty.TheVariants.{Void, Boolean, Integer, NT, Class}
use Rattle.rules.specs.Maps.{upd}
use Rattle.rules.specs.Trees.{Expr, Exprs, new, cast, val, var, add, eq, assign, get, put, call, block, seq, ite, while, throw, try, nil, cons}
use Rattle.rules.specs.Program.{Field, Method, Program, Env}
use Rattle.rules.specs.Classes.{subclass, subtype, subtypes, sees_field, sees_method}

-- the type of a written value: an address is none
unfoldable pub typeof_lit : Value → Option Ty
typeof_lit Value.Unit = some Void
typeof_lit Null = some NT
typeof_lit (Value.Bool b) = some Boolean
typeof_lit (Intg n) = some Integer
typeof_lit (Addr a) = none

module _ (P : Program) where
  -- c is below d, t is below u, and so for two lists of equal length
  abbrev pub Subclass : (c d : ℕ) → Type 0
  Subclass c d = subclass P c d ≡ true

  abbrev pub Subtype : (t u : Ty) → Type 0
  Subtype t u = subtype P t u ≡ true

  abbrev pub Subtypes : (ts us : List Ty) → Type 0
  Subtypes ts us = subtypes P ts us ≡ true

  -- class c sees field f, of type t, in class d
  pub record SeesField (c f : ℕ) (t : Ty) (d : ℕ) : Type 0 where
    pub field : Field
    pub seen : sees_field P c f ≡ some field
    pub type : field.type ≡ t
    pub owner : field.owner ≡ d

  -- class c sees method m, from types ts to type t
  pub record SeesMethod (c m : ℕ) (ts : List Ty) (t : Ty) : Type 0 where
    pub method : Method
    pub seen : sees_method P c m ≡ some method
    pub params : method.params ≡ ts
    pub result : method.result ≡ t

  mutual
    -- tree e has type t in environment Γ
    pub data Typed : Expr → Env → Ty → Type 0 where
      New : {p c : ℕ} {Γ : Env} → Typed (new p c) Γ (Class c)
      -- the operand's class is above or below the target
      Cast : {p c d : ℕ} {e : Expr} {Γ : Env} → Typed e Γ (Class d) → Subclass c d ⊎ Subclass d c → Typed (cast p c e) Γ (Class c)
      Val : {p : ℕ} {v : Value} {Γ : Env} {t : Ty} → typeof_lit v ≡ some t → Typed (val p v) Γ t
      Var : {p x : ℕ} {Γ : Env} {t : Ty} → Γ x ≡ some t → Typed (var p x) Γ t
      -- one type is a subtype of the other, so equal types too
      Eq : {p : ℕ} {a b : Expr} {Γ : Env} {t u : Ty}
          → Typed a Γ t
          → Typed b Γ u
          → Subtype t u ⊎ Subtype u t
          → Typed (eq p a b) Γ Boolean
      Add : {p : ℕ} {a b : Expr} {Γ : Env} → Typed a Γ Integer → Typed b Γ Integer → Typed (add p a b) Γ Integer
      -- not to 0, which is `this`; the type is the operand's
      LAss : {p x : ℕ} {e : Expr} {Γ : Env} {t u : Ty}
          → Γ x ≡ some t
          → Typed e Γ u
          → Subtype u t
          → (x ≡ 0 → ⊥)
          → Typed (assign p x e) Γ u
      FAcc : {p f d c : ℕ} {e : Expr} {Γ : Env} {t : Ty} → Typed e Γ (Class c) → SeesField c f t d → Typed (get p f d e) Γ t
      -- the type is the value's, v
      FAss : {p f d c : ℕ} {a b : Expr} {Γ : Env} {t v : Ty}
          → Typed a Γ (Class c)
          → SeesField c f t d
          → Typed b Γ v
          → Subtype v t
          → Typed (put p f d a b) Γ v
      -- the innermost variable of a number holds
      Block : {p x : ℕ} {e : Expr} {Γ : Env} {t u : Ty} → Typed e (upd Γ x (some t)) u → Typed (block p x t none e) Γ u
      Call : {p m c : ℕ} {e : Expr} {es : Exprs} {Γ : Env} {ts us : List Ty} {t : Ty}
          → Typed e Γ (Class c)
          → SeesMethod c m us t
          → TypedAll es Γ ts
          → Subtypes ts us
          → Typed (call p m e es) Γ t
      Seq : {p : ℕ} {a b : Expr} {Γ : Env} {t u : Ty} → Typed a Γ t → Typed b Γ u → Typed (seq p a b) Γ u
      -- both arms have equal types
      Cond : {p : ℕ} {c a b : Expr} {Γ : Env} {t : Ty} → Typed c Γ Boolean → Typed a Γ t → Typed b Γ t → Typed (ite p c a b) Γ t
      While : {p : ℕ} {c e : Expr} {Γ : Env} {t : Ty} → Typed c Γ Boolean → Typed e Γ t → Typed (while p c e) Γ Void
      -- the figure gives every type; here it is the one that is written
      Throw : {p c : ℕ} {t : Ty} {e : Expr} {Γ : Env} → Typed e Γ (Class c) → Typed (throw p t e) Γ t
      -- both parts have equal types
      Try : {p c x : ℕ} {a b : Expr} {Γ : Env} {t : Ty}
          → Typed a Γ t
          → Typed b (upd Γ x (some (Class c))) t
          → Typed (try p c x a b) Γ t

    -- and so for the operands of a call
    pub data TypedAll : Exprs → Env → List Ty → Type 0 where
      Nil : {Γ : Env} → TypedAll nil Γ []
      Cons : {e : Expr} {es : Exprs} {Γ : Env} {t : Ty} {ts : List Ty}
          → Typed e Γ t
          → TypedAll es Γ ts
          → TypedAll (cons e es) Γ (t ∷ ts)
