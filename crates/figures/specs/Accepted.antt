-- What 12 and 13 say of a laid out image, in terms of the figures: each is unbroken exactly when every body passes its figure.
use Rattle.std.specs.Prelude.{ℕ, ◌<◌, ◌≡◌, true, length}
use Rattle.std.proofs.Math.Option.{Option}
use mathlib.Core.List.{List}
use Rattle.words.specs.declared.Ty.{Ty}
use Rattle.image.specs.Trailer.{method_count, input_count}
use Rattle.rules.specs.Trees.{Expr, place}
use Rattle.rules.specs.Program.{Program, Env, method_at, program, main, method_env, main_env}
use Rattle.rules.specs.Classes.{subtype}
use Rattle.rules.specs.Typing.{ok, typing}
use Rattle.rules.specs.Setting.{Vars, between}
use Rattle.figures.specs.Figure1.{Typed}
use Rattle.figures.specs.Figure2.{Sets}
use Rattle.figures.specs.FirstBreach.{bounded}

-- WHAT IS SAID
-- the body of method i has a type, and it is a subtype of the result's
pub record BodyTyped (ws : List ℕ) (i : ℕ) : Type 0 where
  pub type : Ty
  pub typed : Typed (program ws) (method_at ws i).body (method_env (method_at ws i)) type
  pub within : subtype (program ws) type (method_at ws i).result ≡ true

-- every body passes figure 1
pub record Figure1Holds (ws : List ℕ) : Type 0 where
  pub methods : (i : ℕ) → i < method_count ws → BodyTyped ws i
  pub main_typed : (t : Ty) × Typed (program ws) (main ws) (main_env ws) t

-- every body passes figure 2: a method starts with 0 to n, main with 1 to n
pub record Figure2Holds (ws : List ℕ) : Type 0 where
  pub methods : (i : ℕ) → i < method_count ws
      → (K : Vars) × Sets (between 0 (length (method_at ws i).params)) (method_at ws i).body K
  pub main_set : (K : Vars) × Sets (between 1 (input_count ws)) (main ws) K

module _ (P : Program) (e : Expr) (Γ : Env) where
  pub record Found (limit : Option Ty) : Type 0 where
    pub type : Ty
    pub is : bounded P limit (place e) (typing P e Γ) ≡ ok type
