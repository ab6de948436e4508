-- The active place, found from the root: go into the operand that the rules let step, until none is unfinished.
use Rattle.std.specs.Prelude.{ℕ, suc, ◌≡◌}
use Rattle.std.proofs.Math.Option.{Option}
use Rattle.words.specs.declared.Value.{Value}
use Rattle.words.specs.declared.Ty.{Ty}
use Rattle.rules.specs.Trees.{Expr, Exprs, cast, val, add, eq, assign, get, put, call, block, seq, ite, throw, try, cons, place}
use Rattle.reduction.specs.AppendixB.{Final}

-- an element of a list with only values before it
pub data FirstOf : Exprs → Expr → Type 0 where
  First : {e : Expr} {es : Exprs} → FirstOf (cons e es) e
  After : {q : ℕ} {v : Value} {e : Expr} {es : Exprs} → FirstOf es e → FirstOf (cons (val q v) es) e

-- `Turn e s`: s is an operand of e that the rules let step, or would if it were not final; those before it are values.
pub data Turn : Expr → Expr → Type 0 where
  OfCast : {p c : ℕ} {e : Expr} → Turn (cast p c e) e
  OfAdd : {p : ℕ} {a b : Expr} → Turn (add p a b) a
  OfAddSecond : {p q : ℕ} {v : Value} {b : Expr} → Turn (add p (val q v) b) b
  OfEq : {p : ℕ} {a b : Expr} → Turn (eq p a b) a
  OfEqSecond : {p q : ℕ} {v : Value} {b : Expr} → Turn (eq p (val q v) b) b
  OfAssign : {p x : ℕ} {e : Expr} → Turn (assign p x e) e
  OfGet : {p f d : ℕ} {e : Expr} → Turn (get p f d e) e
  OfSet : {p f d : ℕ} {a b : Expr} → Turn (put p f d a b) a
  OfSetSecond : {p f d q : ℕ} {v : Value} {b : Expr} → Turn (put p f d (val q v) b) b
  OfCall : {p m : ℕ} {e : Expr} {es : Exprs} → Turn (call p m e es) e
  OfCallArguments : {p m q : ℕ} {v : Value} {e : Expr} {es : Exprs} → FirstOf es e → Turn (call p m (val q v) es) e
  OfBlock : {p x : ℕ} {t : Ty} {mv : Option Value} {e : Expr} → Turn (block p x t mv e) e
  OfSeq : {p : ℕ} {a b : Expr} → Turn (seq p a b) a
  OfIf : {p : ℕ} {c a b : Expr} → Turn (ite p c a b) c
  OfThrow : {p : ℕ} {t : Ty} {e : Expr} → Turn (throw p t e) e
  OfTry : {p c x : ℕ} {a b : Expr} → Turn (try p c x a b) a

-- `Active e d p`: the active place of e, which is not final, is the node p, and d constructors stand above it.
pub data Active : Expr → (depth place : ℕ) → Type 0 where
  Here : {e : Expr} {p : ℕ} → ¬ Final e → ((s : Expr) → Turn e s → Final s) → place e ≡ p → Active e 0 p
  Below : {e s : Expr} {d p : ℕ} → Turn e s → Active s d p → Active e (suc d) p
