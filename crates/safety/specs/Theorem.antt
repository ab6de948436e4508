-- Demand 3 over trees: for a program with accepted tables, a main that types and sets, a heap that conforms and a store that
-- conforms to main's environment, no run gets stuck, whatever its limits; a value conforms to main's type, a thrown address is an
-- object's, and the heap conforms at every end.
use Rattle.std.specs.Prelude.{ℕ, ◌≡◌, true, length}
use Rattle.std.proofs.Math.Option.{some}
use Rattle.words.specs.declared.Ty.{Ty}
use Rattle.rules.specs.Trees.{Expr}
use Rattle.rules.specs.Program.{Method, Program, Env, method_env}
use Rattle.rules.specs.Classes.{subtype, method_in, override_holds}
use Rattle.rules.specs.Typing.{ok, typing}
use Rattle.rules.specs.Setting.{Vars, between, setting}
use Rattle.laws.specs.Classes.{Lower}
use Rattle.safety.specs.Typed.{Known}

module _ (P : Program) where
  -- a tree that names what there is, types, and sets what it reads
  pub record Checked (e : Expr) (Γ : Env) (I : Vars) (t : Ty) : Type 0 where
    pub known : Known (length P.supers) e
    pub typed : typing P e Γ ≡ ok t
    pub after : Vars
    pub sets : setting e I ≡ ok after

  -- a method's body, whose type is below the result type
  pub record BodyOk (r : Method) : Type 0 where
    pub type : Ty
    pub checked : Checked r.body (method_env r) (between 0 (length r.params)) type
    pub result : subtype P type r.result ≡ true

  -- the tables of an accepted program
  pub record Accepted : Type 0 where
    pub low : Lower P
    pub overrides : (c m : ℕ) (r : Method) → method_in P P.methods c m ≡ some r → override_holds P r ≡ true
    pub bodies : (c m : ℕ) (r : Method) → method_in P P.methods c m ≡ some r → BodyOk r
