-- What a node binds for an operand.
use Rattle.std.specs.Prelude.{◌≡◌, refl, List, ℕ, ◌<◌}
use Rattle.std.proofs.Common.{arith}
use Rattle.std.proofs.Math.Seq.{set_out}
use Rattle.std.specs.declared.option.Option.{Option}
use Rattle.std.specs.declared.option.Option.TheVariants.{Some, None}
use Rattle.words.specs.declared.Ty.{Ty}
use Rattle.words.specs.declared.Ty.TheVariants.{Class}
use Rattle.words.specs.Types.{type_of}
use Rattle.image.specs.declared.Kind.{Kind}
use Rattle.image.specs.declared.Kind.TheVariants.{New, Cast, Value as Literal, Var, Add, Eq, Assign, Get, Set, Call, Block, Seq, If, While, Throw, Try, Unknown}
use Rattle.image.specs.declared.Layout.{Layout}
use Rattle.image.specs.Numbers.{variables}
use Rattle.image.specs.Trailer.{class_count}
use Rattle.image.specs.Nodes.{node_word, kind_of}
use Rattle.image.specs.Layout.{Good}
use Rattle.node_rules.specs.Env.{EnvOk, bound_var, bound_type, operand_var, operand_type, operand_env}
use Rattle.node_rules.specs.EnvLaws.{node_names}
use Rattle.node_rules.specs.RuleLaws.{names_block, names_try}
use Rattle.node_types.specs.declared.Bound.{Bound}

-- a variable v and its type t, or nothing: v is then no variable
abbrev pub Binds : (v : ℕ) → (t : Ty) → Option Bound → Type 0
Binds v t (Some b) = (b.variable ≡ v) × (b.ty ≡ t) × (v < variables)
Binds v t None = v ≡ variables

-- a variable x and a type t, as a node binds them for its last operand
pub record Last (ws : List ℕ) (n x : ℕ) (t : Ty) : Type 0 where
  pub variable : x ≡ operand_var ws n 0
  pub type : t ≡ operand_type ws n
  pub local : x < variables

-- no other kind binds any
other : (k : Kind) (x y : ℕ) → (k ≡ Block → ⊥) → (k ≡ Try → ⊥) → bound_var k x y ≡ variables
unfolding bound_var
other New x y b t = refl
other Cast x y b t = refl
other Literal x y b t = refl
other Var x y b t = refl
other Add x y b t = refl
other Eq x y b t = refl
other Assign x y b t = refl
other Get x y b t = refl
other Set x y b t = refl
other Call x y b t = refl
other Block x y b t = absurd (b refl)
other Seq x y b t = refl
other If x y b t = refl
other While x y b t = refl
other Throw x y b t = refl
other Try x y b t = absurd (t refl)
other Unknown x y b t = refl

pub last_none : (ws : List ℕ) (n : ℕ) {k : Kind} → k ≡ kind_of (node_word ws n 0) → (k ≡ Block → ⊥) → (k ≡ Try → ⊥) → operand_var ws n 0 ≡ variables
unfolding operand_var
last_none ws n {k} e b t = rw (← e) (other k (node_word ws n 2) (node_word ws n 3) b t)

module _ (ws : List ℕ) (l : Layout) (g : Good ws l) (n : ℕ) (h : n < l.node_count) where
  pub last_block : Block ≡ kind_of (node_word ws n 0) → Last ws n (node_word ws n 2) (type_of (node_word ws n 3))
  unfolding operand_var operand_type bound_var bound_type
  last_block e =
      record {
        variable = rw (← e);
        type = rw (← e);
        local = names_block (class_count ws) (node_word ws n 2) (node_word ws n 3) (rw (← e) at (node_names ws l g n h));
      }

  pub last_try : Try ≡ kind_of (node_word ws n 0) → Last ws n (node_word ws n 3) (Class (node_word ws n 2))
  unfolding operand_var operand_type bound_var bound_type
  last_try e =
      record {
        variable = rw (← e);
        type = rw (← e);
        local = names_try (class_count ws) (node_word ws n 2) (node_word ws n 3) (rw (← e) at (node_names ws l g n h));
      }

-- where nothing is bound the environment is the node's own
pub free_env : (ws : List ℕ) (env : List (Option Ty)) (n j : ℕ) → EnvOk ws env → operand_var ws n j ≡ variables → operand_env ws n j env ≡ env
unfolding operand_env
free_env ws env n j e h = rw h (set_out env variables (Some (operand_type ws n)) (omega (arith, e.size)))
