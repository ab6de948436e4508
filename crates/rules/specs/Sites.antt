-- Every node of a tree in its own environment, and in its own set of variables: the places that 12 and 13 speak of.
-- Operands stand before their node, so the order is that of the node numbers.
use Rattle.std.specs.Prelude.{Bool, true, false, List, [], ◌∷◌, ◌++◌}
use Rattle.std.proofs.Math.Option.{Option, none, some}
use Rattle.words.specs.declared.Ty.{Ty}
use Rattle.words.specs.declared.Ty.TheVariants.{Class}
use Rattle.rules.specs.Maps.{upd}
use Rattle.rules.specs.Trees.{Expr, Exprs, new, cast, val, var, add, eq, assign, get, put, call, block, seq, ite, while, throw, try, nil, cons}
use Rattle.rules.specs.Program.{Program, Env}
use Rattle.rules.specs.Classes.{subtype}
use Rattle.rules.specs.Typing.{Res, ok, bad, typing}
use Rattle.rules.specs.Setting.{Vars, every_var, meet}

-- a tree in its environment; the last node of a body has a type that its own must be a subtype of
pub record Site : Type 0 where
  pub tree : Expr
  pub env : Env
  pub limit : Option Ty

-- the operands of a tree, each with its environment, and then the tree itself
unfoldable mutual
  pub sites : Expr → Env → Option Ty → List Site
  sites (new p c) Γ r = record { tree = new p c; env = Γ; limit = r } ∷ []
  sites (cast p c e) Γ r = sites e Γ none ++ (record { tree = cast p c e; env = Γ; limit = r } ∷ [])
  sites (val p v) Γ r = record { tree = val p v; env = Γ; limit = r } ∷ []
  sites (var p x) Γ r = record { tree = var p x; env = Γ; limit = r } ∷ []
  sites (add p a b) Γ r = sites a Γ none ++ (sites b Γ none ++ (record { tree = add p a b; env = Γ; limit = r } ∷ []))
  sites (eq p a b) Γ r = sites a Γ none ++ (sites b Γ none ++ (record { tree = eq p a b; env = Γ; limit = r } ∷ []))
  sites (assign p x e) Γ r = sites e Γ none ++ (record { tree = assign p x e; env = Γ; limit = r } ∷ [])
  sites (get p f d e) Γ r = sites e Γ none ++ (record { tree = get p f d e; env = Γ; limit = r } ∷ [])
  sites (put p f d a b) Γ r =
      sites a Γ none ++ (sites b Γ none ++ (record { tree = put p f d a b; env = Γ; limit = r } ∷ []))
  sites (call p m e es) Γ r = sites e Γ none ++ (sites_all es Γ ++ (record { tree = call p m e es; env = Γ; limit = r } ∷ []))
  sites (block p x t mv e) Γ r =
      sites e (upd Γ x (some t)) none ++ (record { tree = block p x t mv e; env = Γ; limit = r } ∷ [])
  sites (seq p a b) Γ r = sites a Γ none ++ (sites b Γ none ++ (record { tree = seq p a b; env = Γ; limit = r } ∷ []))
  sites (ite p c a b) Γ r =
      sites c Γ none
      ++ (sites a Γ none ++ (sites b Γ none ++ (record { tree = ite p c a b; env = Γ; limit = r } ∷ [])))
  sites (while p c e) Γ r = sites c Γ none ++ (sites e Γ none ++ (record { tree = while p c e; env = Γ; limit = r } ∷ []))
  sites (throw p t e) Γ r = sites e Γ none ++ (record { tree = throw p t e; env = Γ; limit = r } ∷ [])
  sites (try p c x a b) Γ r =
      sites a Γ none
      ++ (sites b (upd Γ x (some (Class c))) none ++ (record { tree = try p c x a b; env = Γ; limit = r } ∷ []))

  pub sites_all : Exprs → Env → List Site
  sites_all nil Γ = []
  sites_all (cons e es) Γ = sites e Γ none ++ sites_all es Γ

-- a type was found, and it is below the limit where there is one
unfoldable pub typed_within : Program → Option Ty → Res Ty → Bool
typed_within P none (ok t) = true
typed_within P (some r) (ok t) = subtype P t r
typed_within P r (bad p) = false

unfoldable pub site_typed : Program → Site → Bool
site_typed P s = typed_within P s.limit (typing P s.tree s.env)

-- The set of variables after a tree, whatever it reads: figure 2's sets without its one condition.
unfoldable mutual
  pub after : Expr → Vars → Vars
  after (new p c) I = I
  after (cast p c e) I = after e I
  after (val p v) I = I
  after (var p x) I = I
  after (add p a b) I = after b (after a I)
  after (eq p a b) I = after b (after a I)
  after (assign p x e) I = upd (after e I) x true
  after (get p f d e) I = after e I
  after (put p f d a b) I = after b (after a I)
  after (call p m e es) I = after_all es (after e I)
  after (block p x t mv e) I = upd (after e (upd I x false)) x (I x)
  after (seq p a b) I = after b (after a I)
  after (ite p c a b) I = meet (after a (after c I)) (after b (after c I))
  after (while p c e) I = after c I
  after (throw p t e) I = every_var
  after (try p c x a b) I = meet (after a I) (upd (after b (upd I x true)) x (I x))

  pub after_all : Exprs → Vars → Vars
  after_all nil I = I
  after_all (cons e es) I = after_all es (after e I)

-- for each node in the order of the numbers: it reads no variable that is unset where it stands
unfoldable mutual
  pub reads : Expr → Vars → List Bool
  reads (new p c) I = true ∷ []
  reads (cast p c e) I = reads e I ++ (true ∷ [])
  reads (val p v) I = true ∷ []
  reads (var p x) I = I x ∷ []
  reads (add p a b) I = reads a I ++ (reads b (after a I) ++ (true ∷ []))
  reads (eq p a b) I = reads a I ++ (reads b (after a I) ++ (true ∷ []))
  reads (assign p x e) I = reads e I ++ (true ∷ [])
  reads (get p f d e) I = reads e I ++ (true ∷ [])
  reads (put p f d a b) I = reads a I ++ (reads b (after a I) ++ (true ∷ []))
  reads (call p m e es) I = reads e I ++ (reads_all es (after e I) ++ (true ∷ []))
  reads (block p x t mv e) I = reads e (upd I x false) ++ (true ∷ [])
  reads (seq p a b) I = reads a I ++ (reads b (after a I) ++ (true ∷ []))
  reads (ite p c a b) I =
      reads c I ++ (reads a (after c I) ++ (reads b (after c I) ++ (true ∷ [])))
  reads (while p c e) I = reads c I ++ (reads e (after c I) ++ (true ∷ []))
  reads (throw p t e) I = reads e I ++ (true ∷ [])
  reads (try p c x a b) I = reads a I ++ (reads b (upd I x true) ++ (true ∷ []))

  pub reads_all : Exprs → Vars → List Bool
  reads_all nil I = []
  reads_all (cons e es) I = reads e I ++ reads_all es (after e I)
