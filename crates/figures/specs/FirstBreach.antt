-- Laws: the place that a check tells is that of the first node in the order of the numbers, operands before their node, at which
-- the rule is broken: 12 and 13 are at the lowest such node.
use Rattle.std.specs.Prelude.{ℕ, ◌+◌, ◌≤◌, ◌<◌, ◌≡◌, Bool, List, length, get_or}
use Rattle.std.proofs.Math.Bool.{true, false}
use Rattle.std.proofs.Math.Option.{Option, none, some}
use Rattle.words.specs.declared.Ty.{Ty}
use Rattle.rules.specs.Maps.{tabulate}
use Rattle.rules.specs.Trees.{Expr, Exprs, new, cast, val, var, add, eq, assign, get, put, call, block, seq, ite, while, throw, try, nil, cons}
use Rattle.rules.specs.Program.{Program}
use Rattle.rules.specs.Classes.{subtype}
use Rattle.rules.specs.Typing.{Res, ◌>>=◌, need}
use Rattle.rules.specs.Trees.{place}
use Rattle.rules.specs.Sites.{Site}

-- WHAT IS SAID
-- no block remembers yet: a tree as it is written
unfoldable mutual
  pub Written : Expr → Type 0
  Written (new p c) = Unit {0}
  Written (cast p c e) = Written e
  Written (val p v) = Unit {0}
  Written (var p x) = Unit {0}
  Written (add p a b) = Written a × Written b
  Written (eq p a b) = Written a × Written b
  Written (assign p x e) = Written e
  Written (get p f d e) = Written e
  Written (put p f d a b) = Written a × Written b
  Written (call p m e es) = Written e × WrittenAll es
  Written (block p x t mv e) = (mv ≡ none) × Written e
  Written (seq p a b) = Written a × Written b
  Written (ite p c a b) = Written c × Written a × Written b
  Written (while p c e) = Written c × Written e
  Written (throw p t e) = Written e
  Written (try p c x a b) = Written a × Written b

  pub WrittenAll : Exprs → Type 0
  WrittenAll nil = Unit {0}
  WrittenAll (cons e es) = Written e × WrittenAll es

-- all tests hold
abbrev pub AllHold : List Bool → Type 0
AllHold bs = (i : ℕ) → get_or bs i true ≡ true

-- test i is the first that fails
pub record FirstAt (bs : List Bool) (i : ℕ) : Type 0 where
  pub fails : get_or bs i true ≡ false
  pub lower : (j : ℕ) → j < i → get_or bs j true ≡ true

-- p is the place of the first test that fails
pub record FirstBreach (bs : List Bool) (ps : List ℕ) (p : ℕ) : Type 0 where
  pub index : ℕ
  pub within : index < length ps
  pub first : FirstAt bs index
  pub at : get_or ps index 0 ≡ p

-- a body's check: its type, and that it is below the limit where there is one
unfoldable pub bounded : Program → Option Ty → (p : ℕ) → Res Ty → Res Ty
bounded P none p r = r
bounded P (some u) p r = r >>= λ t. need (subtype P t u) p t

-- THE SITES OF A TREE HAVE ITS PLACES
abbrev pub site_place : Site → ℕ
site_place s = place s.tree

-- LOWEST
-- numbers one after the other, as the nodes of a body have them in a laid out image
abbrev pub Consecutive : (n : ℕ) → List ℕ → Type 0
Consecutive n ps = ps ≡ tabulate (length ps) (λ i. n + i)

-- p is the lowest place at which a test fails, where they stand at n, n + 1, ..
pub record Lowest (n : ℕ) (bs : List Bool) (p : ℕ) : Type 0 where
  pub index : ℕ
  pub at : p ≡ n + index
  pub fails : get_or bs index true ≡ false
  pub lowest : (j : ℕ) → get_or bs j true ≡ false → p ≤ n + j
