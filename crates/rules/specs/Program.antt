-- A program: classes, fields, methods with their bodies; and main with its inputs. All from the words of a laid out image.
use Rattle.std.specs.Prelude.{ℕ, ◌+◌, ◌-◌, List, ◌∷◌}
use Rattle.std.proofs.Math.Option.{Option}
use Rattle.words.specs.declared.Ty.{Ty}
use Rattle.words.specs.declared.Ty.TheVariants.{Class}
use Rattle.words.specs.Types.{type_of}
use Rattle.image.specs.Trailer.{class_count, field_count, method_count, type_count, main_node, input_count}
use Rattle.image.specs.Records.{superclass, field_word, method_word, type_at}
use Rattle.rules.specs.Maps.{tabulate, from}
use Rattle.rules.specs.Trees.{Expr, tree}

pub record Field : Type 0 where
  pub owner : ℕ
  pub name : ℕ
  pub type : Ty

pub record Method : Type 0 where
  pub owner : ℕ
  pub name : ℕ
  pub result : Ty
  pub params : List Ty
  pub body : Expr

-- class c's superclass stands at c
pub record Program : Type 0 where
  pub supers : List ℕ
  pub fields : List Field
  pub methods : List Method

unfoldable pub field_at : List ℕ → ℕ → Field
field_at ws i = record { owner = field_word ws i 0; name = field_word ws i 1; type = type_of (field_word ws i 2) }

-- n types from type word i on
unfoldable pub types_from : List ℕ → (i n : ℕ) → List Ty
types_from ws i n = tabulate n (λ k. type_of (type_at ws (i + k)))

unfoldable pub method_at : List ℕ → ℕ → Method
method_at ws i =
    record {
      owner = method_word ws i 0;
      name = method_word ws i 1;
      result = type_of (method_word ws i 2);
      params = types_from ws (method_word ws i 3) (method_word ws i 4);
      body = tree ws (method_word ws i 5);
    }

unfoldable pub program : List ℕ → Program
program ws =
    record {
      supers = tabulate (class_count ws) (superclass ws);
      fields = tabulate (field_count ws) (field_at ws);
      methods = tabulate (method_count ws) (method_at ws);
    }

unfoldable pub main : List ℕ → Expr
main ws = tree ws (main_node ws)

-- main's inputs take the last type words
unfoldable pub input_types : List ℕ → List Ty
input_types ws = types_from ws (type_count ws - input_count ws) (input_count ws)

-- A type environment: the types of the variables in scope.
abbrev pub Env : Type 0
Env = ℕ → Option Ty

-- a method's: `this`, which is variable 0, and the parameters from 1 on
unfoldable pub method_env : Method → Env
method_env r = from 0 (Class r.owner ∷ r.params)

-- main's: the inputs from 1 on
unfoldable pub main_env : List ℕ → Env
main_env ws = from 1 (input_types ws)
