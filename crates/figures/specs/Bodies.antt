-- Laws: the first test that fails, where the tests of the bodies stand one after the other and main's after them.
-- They speak of lists of tests alone, so 12 and 13 share them.
use Rattle.std.specs.Prelude.{◌≡◌, Bool, List, ℕ, suc, ◌+◌, ◌<◌, length}
use Rattle.figures.specs.FirstBreach.{FirstAt}

-- BODIES
-- m bodies with their tests, each body beginning at the node where the one before it ends
pub record Bodies (f : ℕ → List Bool) (m : ℕ) (s : ℕ → ℕ) : Type 0 where
  pub zeroth : s 0 ≡ 0
  pub next : (j : ℕ) → j < m → s j + length (f j) ≡ s (suc j)

-- p is the node of the first test that fails, of tests for the nodes from b on
pub record Told (b : ℕ) (bs : List Bool) (p : ℕ) : Type 0 where
  pub index : ℕ
  pub at : p ≡ b + index
  pub first : FirstAt bs index
