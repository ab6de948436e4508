-- The run as a relation: reduction steps in a row, and the four tests before each step.
use Rattle.std.specs.Prelude.{ℕ, zero, suc, ◌≤◌, ◌<◌}
use Rattle.words.specs.declared.Value.{Value}
use Rattle.words.specs.declared.Value.TheVariants.{Addr}
use Rattle.words.specs.declared.Ty.{Ty}
use Rattle.rules.specs.declared.End.{End}
use Rattle.rules.specs.declared.End.TheVariants.{Returned, Threw, OutOfSteps, TooDeep, Stuck}
use Rattle.rules.specs.Trees.{Expr, val, throw}
use Rattle.rules.specs.Program.{Program}
use Rattle.rules.specs.Heap.{Heap}
use Rattle.rules.specs.Step.{Store}
use Rattle.rules.specs.Run.{Ended}
use Rattle.reduction.specs.AppendixB.{Reduces}
use Rattle.reduction.specs.ActivePlace.{Active}

module _ (P : Program) where
  -- `Reduction k e h l e' h' l'`: k steps in a row lead from e, h, l to e', h', l'.
  pub data Reduction : (k : ℕ) → Expr → Heap → Store → Expr → Heap → Store → Type 0 where
    Rest : {e : Expr} {h : Heap} {l : Store} → Reduction zero e h l e h l
    Step : {k : ℕ} {e e₁ e' : Expr} {h h₁ h' : Heap} {l l₁ l' : Store}
        → Reduces P e h l e₁ h₁ l₁
        → Reduction k e₁ h₁ l₁ e' h' l'
        → Reduction (suc k) e h l e' h' l'

  -- some rule fits
  abbrev pub Fits : Expr → Heap → Store → Type 0
  Fits e h l = (e' : Expr) × (h' : Heap) × (l' : Store) × Reduces P e h l e' h' l'

  module _ (limit depth : ℕ) where
    -- `EndsAt k e h l x`: after k steps, at e, h, l, the first test that applies is the one that ends the run with x. The tests, in
    -- order: final expression; depth above the limit; no rule; limit reached. What has an active place is not final.
    pub data EndsAt : (k : ℕ) → Expr → Heap → Store → End → Type 0 where
      IsValue : {k p : ℕ} {v : Value} {h : Heap} {l : Store} → EndsAt k (val p v) h l (Returned v)
      IsException : {k p q a : ℕ} {t : Ty} {h : Heap} {l : Store} → EndsAt k (throw p t (val q (Addr a))) h l (Threw a)
      IsDeep : {k d q : ℕ} {e : Expr} {h : Heap} {l : Store} → Active e d q → depth < d → EndsAt k e h l TooDeep
      NoRule : {k d q : ℕ} {e : Expr} {h : Heap} {l : Store} → Active e d q → d ≤ depth → ¬ Fits e h l → EndsAt k e h l (Stuck q)
      AtLimit : {k d q : ℕ} {e : Expr} {h : Heap} {l : Store} → Active e d q → d ≤ depth → Fits e h l → limit ≤ k → EndsAt k e h l OutOfSteps

    -- none of the tests applies
    pub data GoesOn : (k : ℕ) → Expr → Heap → Store → Type 0 where
      NoTest : {k d q : ℕ} {e : Expr} {h : Heap} {l : Store} → Active e d q → d ≤ depth → Fits e h l → k < limit → GoesOn k e h l

    -- `RunsTo e h l w`: from e, h, l the run takes `count` steps; none of the tests applies before that, and there one ends it.
    pub record RunsTo (e : Expr) (h : Heap) (l : Store) (w : Ended) : Type 0 where
      pub last : Expr
      pub store : Store
      pub path : Reduction w.count e h l last w.heap store
      pub before : {k : ℕ} {e' : Expr} {h' : Heap} {l' : Store} → Reduction k e h l e' h' l' → k < w.count → GoesOn k e' h' l'
      pub ends : EndsAt w.count last w.heap store w.end
