-- Definite initialization, as a check that finds the set of variables after a tree or the place of the first variable read unset.
-- Figure 2 with the paper's readings.
use Rattle.std.specs.Prelude.{ℕ, Bool, true, false, ◌&&◌, ltb, leb}
use Rattle.image.specs.Numbers.{variables}
use Rattle.rules.specs.Maps.{upd}
use Rattle.rules.specs.Trees.{Expr, Exprs, new, cast, val, var, add, eq, assign, get, put, call, block, seq, ite, while, throw, try, nil, cons}
use Rattle.rules.specs.Typing.{Res, ok, ◌>>=◌, need}

-- a set of variables
abbrev pub Vars : Type 0
Vars = ℕ → Bool

-- all 64
unfoldable pub every_var : Vars
every_var x = ltb x variables

-- the variables from one number to another
unfoldable pub between : (from to : ℕ) → Vars
between from to x = leb from x && leb x to

unfoldable pub meet : Vars → Vars → Vars
meet A B x = A x && B x

unfoldable mutual
  pub setting : Expr → Vars → Res Vars
  setting (new p c) I = ok I
  setting (cast p c e) I = setting e I
  setting (val p v) I = ok I
  setting (var p x) I = need (I x) p I
  setting (add p a b) I = do
    K ← setting a I
    setting b K
  setting (eq p a b) I = do
    K ← setting a I
    setting b K
  setting (assign p x e) I = do
    K ← setting e I
    ok (upd K x true)
  setting (get p f d e) I = setting e I
  setting (put p f d a b) I = do
    K ← setting a I
    setting b K
  setting (call p m e es) I = do
    K ← setting e I
    settings es K
  -- leaving the block gives x back the standing that it had before
  setting (block p x t mv e) I = do
    K ← setting e (upd I x false)
    ok (upd K x (I x))
  setting (seq p a b) I = do
    K ← setting a I
    setting b K
  setting (ite p c a b) I = do
    K ← setting c I
    A ← setting a K
    B ← setting b K
    ok (meet A B)
  setting (while p c e) I = do
    K ← setting c I
    M ← setting e K
    ok K
  setting (throw p t e) I = do
    K ← setting e I
    ok every_var
  setting (try p c x a b) I = do
    A ← setting a I
    B ← setting b (upd I x true)
    ok (meet A (upd B x (I x)))

  pub settings : Exprs → Vars → Res Vars
  settings nil I = ok I
  settings (cons e es) I = do
    K ← setting e I
    settings es K
