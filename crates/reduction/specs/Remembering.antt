-- Laws: in a run no block that does not remember has a body `x := v; e` for its own x. The report asks this in its block rules
-- ("not assigned"); here it holds of every tree made ready to run, and each step keeps it.
use Rattle.std.specs.Prelude.{ℕ}
use Rattle.std.proofs.Math.Option.{Option, none, some}
use Rattle.words.specs.declared.Value.{Value}
use Rattle.rules.specs.Trees.{Expr, Exprs, new, cast, val, var, add, eq, assign, get, put, call, block, seq, ite, while, throw, try, nil, cons}

-- the report's `assigned`
pub data Assigned (x : ℕ) : Expr → Type 0 where
  Sets : {p q r : ℕ} {v : Value} {e : Expr} → Assigned x (seq p (assign q x (val r v)) e)

abbrev pub Waits : (x : ℕ) → Option Value → Expr → Type 0
Waits x none e = ¬ Assigned x e
Waits x (some v) e = Unit {0}

unfoldable mutual
  pub Settled : Expr → Type 0
  Settled (new p c) = Unit {0}
  Settled (cast p c e) = Settled e
  Settled (val p v) = Unit {0}
  Settled (var p x) = Unit {0}
  Settled (add p a b) = Settled a × Settled b
  Settled (eq p a b) = Settled a × Settled b
  Settled (assign p x e) = Settled e
  Settled (get p f d e) = Settled e
  Settled (put p f d a b) = Settled a × Settled b
  Settled (call p m e es) = Settled e × AllSettled es
  Settled (block p x t mv e) = Waits x mv e × Settled e
  Settled (seq p a b) = Settled a × Settled b
  Settled (ite p c a b) = Settled c × Settled a × Settled b
  Settled (while p c e) = Settled c × Settled e
  Settled (throw p t e) = Settled e
  Settled (try p c x a b) = Settled a × Settled b

  pub AllSettled : Exprs → Type 0
  AllSettled nil = Unit {0}
  AllSettled (cons e es) = Settled e × AllSettled es
