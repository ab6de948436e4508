-- The types of the 64 variables, what the typing of a node and of an operand list answers, and what a node binds.
use Rattle.std.specs.Prelude.{ℕ, zero, suc, ◌≡◌, Bool, true, false, List, [], ◌∷◌, length, get_or, set}
use Rattle.std.proofs.Math.Option.{Option, none, some}
use Rattle.std.specs.declared.option.Option.{Option as Maybe}
use Rattle.std.specs.declared.option.Option.TheVariants.{Some, None}
use Rattle.std.specs.declared.result.Result.{Result}
use Rattle.std.specs.declared.result.Result.TheVariants.{Ok, Err}
use Rattle.words.specs.declared.Ty.{Ty}
use Rattle.words.specs.declared.Ty.TheVariants.{Void, Boolean, Integer, NT, Class}
use Rattle.words.specs.Types.{type_of, known}
use Rattle.image.specs.declared.Kind.{Kind}
use Rattle.image.specs.declared.Kind.TheVariants.{New, Cast, Value as Literal, Var, Add, Eq, Assign, Get, Set, Call, Block, Seq, If, While, Throw, Try, Unknown}
use Rattle.image.specs.Numbers.{variables}
use Rattle.image.specs.Trailer.{class_count}
use Rattle.image.specs.Nodes.{node_word, kind_of}
use Rattle.rules.specs.Maps.{tabulate}
use Rattle.rules.specs.Program.{Env, Program, program, method_at, method_env, main, main_env}
use Rattle.figures.specs.FirstBreach.{bounded}
use Rattle.rules.specs.Typing.{Res, ok, bad, ◌>>=◌, typing}
use Rattle.rules.specs.Trees.{tree, operand, place}
use Rattle.laws.specs.Trees.{operand_count}
use Rattle.node_rules.specs.Node.{node_rule, operand_types}

-- the type that a variable has, if it has one; a number that is no variable has none
unfoldable pub entry : Maybe Ty → Option Ty
entry None = none
entry (Some t) = some t

unfoldable pub env_of : List (Maybe Ty) → Env
env_of env x = entry (get_or env x None)

-- no variable has a type: for premises that ask none
abbrev pub nowhere : Env
nowhere x = none

-- the image has the type: a class is one of its own
abbrev pub Has : List ℕ → Ty → Type 0
Has ws t = known t (class_count ws) ≡ true

abbrev pub MayHave : List ℕ → Maybe Ty → Type 0
MayHave ws (Some t) = Has ws t
MayHave ws None = Unit {0}

pub record EnvOk (ws : List ℕ) (env : List (Maybe Ty)) : Type 0 where
  pub size : length env ≡ variables
  pub types : (x : ℕ) → MayHave ws (get_or env x None)

-- what an answer says, and that a type is one of the image
abbrev pub res_ty : Result Ty ℕ → Res Ty
res_ty (Ok t) = ok t
res_ty (Err p) = bad p

abbrev pub Known : List ℕ → Result Ty ℕ → Type 0
Known ws (Ok t) = Has ws t
Known ws (Err p) = Unit {0}

pub record Answers (ws : List ℕ) (r : Result Ty ℕ) (s : Res Ty) : Type 0 where
  pub says : res_ty r ≡ s
  pub known : Known ws r

-- the type of a written value, by its tag
unfoldable pub literal_type : ℕ → Ty
literal_type x = get_or (Void ∷ NT ∷ Boolean ∷ Integer ∷ []) x Void

-- whether a type is one of objects, which is a class
abbrev pub is_object : Ty → Bool
is_object Void = false
is_object Boolean = false
is_object Integer = false
is_object NT = false
is_object (Class c) = true

-- the first k types
unfoldable pub types_of : (k : ℕ) → List Ty → List Ty
types_of k types = tabulate k (λ i. get_or types i Void)

-- the image has them all
abbrev pub AllHave : List ℕ → List Ty → Type 0
AllHave ws types = (i : ℕ) → Has ws (get_or types i Void)

-- the same for a list of k operands
abbrev pub res_tys : (k : ℕ) → Result (List Ty) ℕ → Res (List Ty)
res_tys k (Ok types) = ok (types_of k types)
res_tys k (Err p) = bad p

abbrev pub Listed : List ℕ → Result (List Ty) ℕ → Type 0
Listed ws (Ok types) = AllHave ws types
Listed ws (Err p) = Unit {0}

pub record Lists (ws : List ℕ) (k : ℕ) (r : Result (List Ty) ℕ) (s : Res (List Ty)) : Type 0 where
  pub says : res_tys k r ≡ s
  pub known : Listed ws r

-- WHAT A NODE BINDS
-- The variable that a node binds for its last operand; where it binds none, a number that no variable has.
unfoldable pub bound_var : Kind → (x y : ℕ) → ℕ
bound_var New x y = variables
bound_var Cast x y = variables
bound_var Literal x y = variables
bound_var Var x y = variables
bound_var Add x y = variables
bound_var Eq x y = variables
bound_var Assign x y = variables
bound_var Get x y = variables
bound_var Set x y = variables
bound_var Call x y = variables
bound_var Block x y = x
bound_var Seq x y = variables
bound_var If x y = variables
bound_var While x y = variables
bound_var Throw x y = variables
bound_var Try x y = y
bound_var Unknown x y = variables

-- and its type, which is Void where nothing is bound
unfoldable pub bound_type : Kind → (x y : ℕ) → Ty
bound_type New x y = Void
bound_type Cast x y = Void
bound_type Literal x y = Void
bound_type Var x y = Void
bound_type Add x y = Void
bound_type Eq x y = Void
bound_type Assign x y = Void
bound_type Get x y = Void
bound_type Set x y = Void
bound_type Call x y = Void
bound_type Block x y = type_of y
bound_type Seq x y = Void
bound_type If x y = Void
bound_type While x y = Void
bound_type Throw x y = Void
bound_type Try x y = Class x
bound_type Unknown x y = Void

-- an operand's variable: that of the node for the last operand, and none for the others
unfoldable pub operand_var : List ℕ → (n j : ℕ) → ℕ
operand_var ws n zero = bound_var (kind_of (node_word ws n 0)) (node_word ws n 2) (node_word ws n 3)
operand_var ws n (suc j) = variables

unfoldable pub operand_type : List ℕ → (n : ℕ) → Ty
operand_type ws n = bound_type (kind_of (node_word ws n 0)) (node_word ws n 2) (node_word ws n 3)

-- the environment of operand j
unfoldable pub operand_env : List ℕ → (n j : ℕ) → List (Maybe Ty) → List (Maybe Ty)
operand_env ws n j env = set env (operand_var ws n j) (Some (operand_type ws n))

-- WHAT THE FUNCTIONS FIND
-- the typing of operand j, of all operands, and what a node makes of them
unfoldable pub operand_typing : List ℕ → (n j : ℕ) → List (Maybe Ty) → Res Ty
operand_typing ws n j env = typing (program ws) (tree ws (operand ws n j)) (env_of (operand_env ws n j env))

unfoldable pub operands_typing : List ℕ → (n : ℕ) → List (Maybe Ty) → Res (List Ty)
operands_typing ws n env =
    operand_types (program ws) (env_of env) (env_of (operand_env ws n 0 env)) (λ j. tree ws (operand ws n j)) (operand_count ws n)

unfoldable pub rule_of : List ℕ → (n : ℕ) → List (Maybe Ty) → Res (List Ty) → Res Ty
rule_of ws n env r =
    r >>= node_rule (program ws) (env_of env) (kind_of (node_word ws n 0)) n (node_word ws n 2) (node_word ws n 3)

-- a body's type, below the result of its method; main has no result to be below
unfoldable pub within : Program → (n : ℕ) → (u : Ty) → Res Ty → Res Ty
within P n u r = bounded P (some u) n r

unfoldable pub method_typing : List ℕ → ℕ → Res Ty
method_typing ws i =
    let m = method_at ws i in
    bounded (program ws) (some m.result) (place m.body) (typing (program ws) m.body (method_env m))

unfoldable pub main_typing : List ℕ → Res Ty
main_typing ws = bounded (program ws) none (place (main ws)) (typing (program ws) (main ws) (main_env ws))
