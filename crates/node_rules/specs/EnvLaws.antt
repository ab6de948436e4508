-- Laws of environments, and of what a node binds.
use Rattle.std.specs.Prelude.{ℕ, zero, suc, ◌≤◌, ◌<◌, ◌≡◌, refl, Bool, true, false, cond, List, ltb, leb, eqb, length, get_or, set}
use Rattle.std.proofs.Common.{sym, ◌∙◌, ap, arith, length-set, set-set, get_or-set_same, get_or-set_other, eqb-true, ltb-true, ltb-false, leb-true}
use Rattle.std.proofs.Math.Path.{fun_ext}
use Rattle.std.proofs.Math.Option.{some}
use Rattle.std.proofs.Math.Seq.{set_out}
use Rattle.std.proofs.lemmas.List.{set-get_or}
use Rattle.std.proofs.lemmas.Bool.{eqb-false}
use Rattle.std.specs.declared.option.Option.{Option}
use Rattle.std.specs.declared.option.Option.TheVariants.{Some, None}
use Rattle.words.specs.declared.Ty.{Ty}
use Rattle.words.specs.declared.Ty.TheVariants.{Void, Class}
use Rattle.words.specs.Types.{type_of, is_type, is_declared, known}
use Rattle.classes.specs.Records.{declared_type}
use Rattle.image.specs.declared.Kind.{Kind}
use Rattle.image.specs.declared.Kind.TheVariants.{New, Cast, Value as Literal, Var, Add, Eq, Assign, Get, Set, Call, Block, Seq, If, While, Throw, Try, Unknown}
use Rattle.image.specs.declared.Layout.{Layout}
use Rattle.image.specs.Numbers.{variables, most_arguments}
use Rattle.image.specs.Trailer.{class_count}
use Rattle.image.specs.Laws.{and_left, and_right}
use Rattle.image.specs.Records.{is_name}
use Rattle.image.specs.Nodes.{node_word, kind_of, names_hold, node_holds, is_local, is_class, operands}
use Rattle.image.specs.Layout.{Good}
use Rattle.rules.specs.Maps.{upd}
use Rattle.node_rules.specs.Env.{entry, env_of, Has, MayHave, EnvOk, bound_var, bound_type, operand_var, operand_type, operand_env}
use Rattle.node_rules.specs.Node.{inner}

-- TYPES
-- the type of a word that says one, and of a word that may be declared
pub type_had : (t classes : ℕ) → is_type t classes ≡ true → known (type_of t) classes ≡ true
unfolding is_type
type_had t classes h = h

pub declared_had : (t classes : ℕ) → is_declared t classes ≡ true → known (type_of t) classes ≡ true
declared_had t classes h = type_had t classes (declared_type t classes h)

-- ENVIRONMENTS
-- a type set within the environment binds its variable
pub env_set : (env : List (Option Ty)) (x : ℕ) (t : Ty) → x < length env → env_of (set env x (Some t)) ≡ upd (env_of env) x (some t)
unfolding env_of entry upd
env_set env x t h = fun_ext (λ y. go y (eqb x y) refl)
  where
    go : (y : ℕ) (b : Bool) → eqb x y ≡ b → entry (get_or (set env x (Some t)) y None) ≡ cond b (some t) (entry (get_or env y None))
    go y true e = let q = eqb-true x y e in rw (← q, get_or-set_same env x (Some t) None h)
    go y false e = ap entry (get_or-set_other env x y (Some t) None (λ q. eqb-false x y e (sym q)))

-- and one given back leaves the environment as it was
pub set_back : (env : List (Option Ty)) (x : ℕ) (w : Option Ty) → set (set env x w) x (get_or env x None) ≡ env
set_back env x w = set-set env x w (get_or env x None) ∙ set-get_or env x None

-- bound, kept, and given back
pub given_back : (a b d e : List (Option Ty)) (v : ℕ) (w o : Option Ty) → e ≡ set d v o → d ≡ b → b ≡ set a v w → o ≡ get_or a v None → e ≡ a
given_back a b d e v w o p q r s = rw (p, q, r, s) (set_back a v w)

pub ok_set : (ws : List ℕ) (env : List (Option Ty)) (x : ℕ) (w : Option Ty) → EnvOk ws env → MayHave ws w → EnvOk ws (set env x w)
ok_set ws env x w e h =
    record { size = length-set env x w ∙ e.size; types = λ y. go y (eqb y x) refl }
  where
    within : (y : ℕ) (b : Bool) → ltb x (length env) ≡ b → eqb y x ≡ true → MayHave ws (get_or (set env x w) y None)
    within y true l q = rw (eqb-true y x q, get_or-set_same env x w None (ltb-true x (length env) l)) h
    within y false l q = rw (set_out env x w (ltb-false x (length env) l)) (e.types y)

    go : (y : ℕ) (b : Bool) → eqb y x ≡ b → MayHave ws (get_or (set env x w) y None)
    go y true q = within y (ltb x (length env)) refl q
    go y false q = rw (get_or-set_other env x y w None (eqb-false y x q)) (e.types y)

-- WHAT A NODE BINDS
pub names_hold_lem : (ws : List ℕ) (n : ℕ) → node_holds ws n ≡ true → names_hold (class_count ws) (kind_of (node_word ws n 0)) (node_word ws n 2) (node_word ws n 3) ≡ true
unfolding node_holds
names_hold_lem ws n h = and_left _ _ h

local_below : (x : ℕ) → is_local x ≡ true → x < variables
unfolding is_local
local_below x h = ltb-true x variables (and_right (leb 1 x) (ltb x variables) h)

pub class_had : (classes x : ℕ) → is_class classes x ≡ true → known (Class x) classes ≡ true
unfolding is_class
class_had classes x h = h

-- the environment of a node's last operand
pub bound_inner : (classes : ℕ) (k : Kind) (x y : ℕ) (env : List (Option Ty))
    → length env ≡ variables
    → names_hold classes k x y ≡ true
    → env_of (set env (bound_var k x y) (Some (bound_type k x y))) ≡ inner k x y (env_of env)
unfolding bound_var bound_type inner names_hold
bound_inner classes New x y env s h = ap env_of (set_out env variables (Some Void) (omega arith))
bound_inner classes Cast x y env s h = ap env_of (set_out env variables (Some Void) (omega arith))
bound_inner classes Literal x y env s h = ap env_of (set_out env variables (Some Void) (omega arith))
bound_inner classes Var x y env s h = ap env_of (set_out env variables (Some Void) (omega arith))
bound_inner classes Add x y env s h = ap env_of (set_out env variables (Some Void) (omega arith))
bound_inner classes Eq x y env s h = ap env_of (set_out env variables (Some Void) (omega arith))
bound_inner classes Assign x y env s h = ap env_of (set_out env variables (Some Void) (omega arith))
bound_inner classes Get x y env s h = ap env_of (set_out env variables (Some Void) (omega arith))
bound_inner classes Set x y env s h = ap env_of (set_out env variables (Some Void) (omega arith))
bound_inner classes Call x y env s h = ap env_of (set_out env variables (Some Void) (omega arith))
bound_inner classes Block x y env s h =
    let l = local_below x (and_left (is_local x) (is_declared y classes) h) in
    env_set env x (type_of y) (omega arith)
bound_inner classes Seq x y env s h = ap env_of (set_out env variables (Some Void) (omega arith))
bound_inner classes If x y env s h = ap env_of (set_out env variables (Some Void) (omega arith))
bound_inner classes While x y env s h = ap env_of (set_out env variables (Some Void) (omega arith))
bound_inner classes Throw x y env s h = ap env_of (set_out env variables (Some Void) (omega arith))
bound_inner classes Try x y env s h =
    let l = local_below y (and_right (is_class classes x) (is_local y) h) in
    env_set env y (Class x) (omega arith)
bound_inner classes Unknown x y env s h = absurd (let z : ◌≡◌ {A = ℕ} 0 1 = cc in omega arith)

pub bound_known : (classes : ℕ) (k : Kind) (x y : ℕ) → names_hold classes k x y ≡ true → known (bound_type k x y) classes ≡ true
unfolding bound_type names_hold
bound_known classes New x y h = refl
bound_known classes Cast x y h = refl
bound_known classes Literal x y h = refl
bound_known classes Var x y h = refl
bound_known classes Add x y h = refl
bound_known classes Eq x y h = refl
bound_known classes Assign x y h = refl
bound_known classes Get x y h = refl
bound_known classes Set x y h = refl
bound_known classes Call x y h = refl
bound_known classes Block x y h = declared_had y classes (and_right (is_local x) (is_declared y classes) h)
bound_known classes Seq x y h = refl
bound_known classes If x y h = refl
bound_known classes While x y h = refl
bound_known classes Throw x y h = refl
bound_known classes Try x y h = class_had classes x (and_left (is_class classes x) (is_local y) h)
bound_known classes Unknown x y h = refl

module _ (ws : List ℕ) (n : ℕ) (h : node_holds ws n ≡ true) (env : List (Option Ty)) (e : EnvOk ws env) where
  -- the last operand's environment, and the others'
  pub operand_last : env_of (operand_env ws n 0 env) ≡ inner (kind_of (node_word ws n 0)) (node_word ws n 2) (node_word ws n 3) (env_of env)
  unfolding operand_env operand_var operand_type
  operand_last = bound_inner (class_count ws) _ _ _ env e.size (names_hold_lem ws n h)

  pub operand_other : (j : ℕ) → operand_env ws n (suc j) env ≡ env
  unfolding operand_env operand_var
  operand_other j = set_out env variables (Some (operand_type ws n)) (omega (arith, e.size))

  pub operand_known : Has ws (operand_type ws n)
  unfolding operand_type
  operand_known = bound_known (class_count ws) _ _ _ (names_hold_lem ws n h)

  pub operand_ok : (j : ℕ) → EnvOk ws (operand_env ws n j env)
  unfolding operand_env
  operand_ok j = ok_set ws env (operand_var ws n j) (Some (operand_type ws n)) e operand_known

-- a node has at most nine operands
few : (classes : ℕ) (k : Kind) (x y : ℕ) → names_hold classes k x y ≡ true → operands k y ≤ 9
unfolding operands names_hold
few classes New x y h = omega arith
few classes Cast x y h = omega arith
few classes Literal x y h = omega arith
few classes Var x y h = omega arith
few classes Add x y h = omega arith
few classes Eq x y h = omega arith
few classes Assign x y h = omega arith
few classes Get x y h = omega arith
few classes Set x y h = omega arith
few classes Call x y h = let l = leb-true y most_arguments (and_right (is_name x) (leb y most_arguments) h) in omega arith
few classes Block x y h = omega arith
few classes Seq x y h = omega arith
few classes If x y h = omega arith
few classes While x y h = omega arith
few classes Throw x y h = omega arith
few classes Try x y h = omega arith
few classes Unknown x y h = omega arith

-- what the functions read of a node
module _ (ws : List ℕ) (l : Layout) (g : Good ws l) (n : ℕ) (h : n < l.node_count) where
  pub node_holds_lem : node_holds ws n ≡ true
  node_holds_lem = g.nodes n (rw (← g.lay.node_count_lem) h)

  pub node_names : names_hold (class_count ws) (kind_of (node_word ws n 0)) (node_word ws n 2) (node_word ws n 3) ≡ true
  node_names = names_hold_lem ws n node_holds_lem

  pub few_operands : operands (kind_of (node_word ws n 0)) (node_word ws n 3) ≤ 9
  few_operands = few (class_count ws) (kind_of (node_word ws n 0)) (node_word ws n 2) (node_word ws n 3) node_names

pub operand_var_other : (ws : List ℕ) (n j : ℕ) → (j ≡ 0 → ⊥) → operand_var ws n j ≡ variables
unfolding operand_var
operand_var_other ws n zero h = absurd (h refl)
operand_var_other ws n (suc j) h = refl
