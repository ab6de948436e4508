-- Programs that answer runs wrongly, each in its own way, and that none of them keeps the run's promise.
use Rattle.std.specs.Prelude.{ℕ, suc}
use Rattle.std.proofs.Math.Path.{◌≡◌}
use mathlib.Core.List.{List}
use Rattle.rules.specs.declared.End.{End}
use Rattle.rules.specs.declared.End.TheVariants.{OutOfSteps}
use Rattle.run.specs.Answers.{Ran, Over, Answers}

-- what a call of a program gives: an answer, and the heap and the room that it leaves
pub record Left : Type 0 where
  pub answer : Ran
  pub heap : List ℕ
  pub room : List ℕ

abbrev pub Runner : Type 0
Runner = (ws hs is room : List ℕ) (steps depth : ℕ) → Left

abbrev pub Keeps : Runner → Type 0
Keeps p =
    (ws hs is room : List ℕ) (steps depth : ℕ)
    → Answers ws hs is room steps depth (p ws hs is room steps depth).answer (p ws hs is room steps depth).heap
    (p ws hs is room steps depth).room

-- whatever it does not refuse ends out of steps
abbrev pub AlwaysOutOfSteps : Runner → Type 0
AlwaysOutOfSteps p =
    (ws hs is room : List ℕ) (steps depth : ℕ) (e : End) (k : ℕ) → (p ws hs is room steps depth).answer ≡ Over e k → e ≡ OutOfSteps

-- the heap that it leaves is the one that it was lent
abbrev pub NeverTouchesTheHeap : Runner → Type 0
NeverTouchesTheHeap p = (ws hs is room : List ℕ) (steps depth : ℕ) → (p ws hs is room steps depth).heap ≡ hs

-- all that is done to the heap is done by the first step, whatever the limit is
abbrev pub FinishesAtTheFirstStep : Runner → Type 0
FinishesAtTheFirstStep p =
    (ws hs is room : List ℕ) (steps depth : ℕ) → (p ws hs is room (suc steps) depth).heap ≡ (p ws hs is room 1 depth).heap

-- the count is made up from the limits, by whatever rule
abbrev pub InventsTheCount : Runner → Type 0
InventsTheCount p =
    (count : ℕ → ℕ → ℕ)
    × ((ws hs is room : List ℕ) (steps depth : ℕ) (e : End) (k : ℕ) → (p ws hs is room steps depth).answer ≡ Over e k → k ≡ count steps depth)
