-- Laws: the checks of `rules` find a type, or a set, exactly where figure 1, or figure 2, gives it.
use Rattle.std.specs.Prelude.{ℕ, ◌<◌, ◌≡◌, true}
use Rattle.image.specs.Numbers.{variables}
use Rattle.rules.specs.Trees.{Expr, Exprs, new, cast, val, var, add, eq, assign, get, put, call, block, seq, ite, while, throw, try, nil, cons}
use Rattle.rules.specs.Setting.{Vars}

-- A set holds what another holds of the 64 variables.
pub record Within (I K : Vars) : Type 0 where
  pub at : (y : ℕ) → y < variables → I y ≡ true → K y ≡ true

-- every variable that a Try binds is one of the 64, as in a laid out image
unfoldable mutual
  pub InRange : Expr → Type 0
  InRange (new p c) = Unit {0}
  InRange (cast p c e) = InRange e
  InRange (val p v) = Unit {0}
  InRange (var p x) = Unit {0}
  InRange (add p a b) = InRange a × InRange b
  InRange (eq p a b) = InRange a × InRange b
  InRange (assign p x e) = InRange e
  InRange (get p f d e) = InRange e
  InRange (put p f d a b) = InRange a × InRange b
  InRange (call p m e es) = InRange e × InRangeAll es
  InRange (block p x t mv e) = InRange e
  InRange (seq p a b) = InRange a × InRange b
  InRange (ite p c a b) = InRange c × InRange a × InRange b
  InRange (while p c e) = InRange c × InRange e
  InRange (throw p t e) = InRange e
  InRange (try p c x a b) = (x < variables) × InRange a × InRange b

  pub InRangeAll : Exprs → Type 0
  InRangeAll nil = Unit {0}
  InRangeAll (cons e es) = InRange e × InRangeAll es
