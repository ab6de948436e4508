-- Maps from variables, and lists of the first few values of a function.
use Rattle.std.specs.Prelude.{cond, List, [], ◌∷◌, ℕ, zero, suc, eqb}
use Rattle.std.proofs.Math.Option.{Option, none, some}

-- the map f, but a at x
unfoldable pub upd {ℓ} : {A : Type ℓ} → (ℕ → A) → ℕ → A → ℕ → A
upd f x a y = cond (eqb x y) a (f y)

-- f 0, f 1, .., n of them
unfoldable pub tabulate {ℓ} : {A : Type ℓ} → (n : ℕ) → (ℕ → A) → List A
tabulate zero f = []
tabulate (suc n) f = f 0 ∷ tabulate n (λ i. f (suc i))

-- the map that has a list's elements from x on, and nothing elsewhere
unfoldable pub from {ℓ} : {A : Type ℓ} → (x : ℕ) → List A → ℕ → Option A
from x [] = λ y. none
from x (a ∷ rest) = upd (from (suc x) rest) x (some a)
