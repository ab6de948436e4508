-- Rules, and the first of them that is broken: lowest number first, then lowest place. Said once, for every question.
use Rattle.std.specs.Prelude.{◌≡◌, Bool, false, cond, List, [], ◌∷◌, ◌⊎◌, ℕ, zero, suc, ◌≤◌, ◌<◌}
use Rattle.std.specs.declared.option.Option.{Option}
use Rattle.std.specs.declared.option.Option.TheVariants.{Some, None}
use Rattle.order.specs.declared.Answer.{Answer}

-- A rule of the table: its number, how many places it is asked at (0, 1, ..), and whether it holds at a place.
pub record Rule : Type 0 where
  pub number : ℕ
  pub places : ℕ
  pub holds : ℕ → Bool

-- of k places from i on, the lowest at which the test fails
unfoldable pub scan : (ℕ → Bool) → (k i : ℕ) → Option ℕ
scan test zero i = None
scan test (suc k) i = let above = scan test k (suc i) in cond (test i) above (Some i)

-- a test of places below n, asked by code whose answers are as `post` says
abbrev pub Asks : (post : ℕ → Bool → Type 0) (n : ℕ) (test : ℕ → Bool) → Type 0
Asks post n test = (i : ℕ) (b : Bool) → i < n → post i b → b ≡ test i

-- the lowest place at which a rule is broken
unfoldable pub first_place : Rule → Option ℕ
first_place r = scan r.holds r.places 0

-- nothing is broken
abbrev pub accepted : Answer
accepted = record { number = 0; place = 0 }

-- a breach of rule n at a place; where there is none, what the later rules say
abbrev pub or_else : ℕ → Option ℕ → Answer → Answer
or_else n (Some p) later = record { number = n; place = p }
or_else n None later = later

-- the rules are asked in the order in which they are listed, each at its places from 0 up
unfoldable pub answer_of : List Rule → Answer
answer_of [] = accepted
answer_of (r ∷ rs) = or_else r.number (first_place r) (answer_of rs)

-- The same without the walk. A rule is broken at a place:
pub record Broken (r : Rule) (p : ℕ) : Type 0 where
  pub within : p < r.places
  pub fails : r.holds p ≡ false

-- number n is broken at place p
abbrev pub Breach : List Rule → ℕ → ℕ → Type 0
Breach [] n p = ⊥
Breach (r ∷ rs) n p = ((r.number ≡ n) × Broken r p) ⊎ Breach rs n p

-- it is broken there, and whatever else is broken has a higher number, or the same number and no lower place
pub record Lowest (rs : List Rule) (n p : ℕ) : Type 0 where
  pub breach : Breach rs n p
  pub first : (m q : ℕ) → Breach rs m q → (n < m) ⊎ ((n ≡ m) × (p ≤ q))

-- no number is broken anywhere
pub record Sound (rs : List Rule) : Type 0 where
  pub none : (n p : ℕ) → Breach rs n p → ⊥

-- The answer that the rules call for: 0 where nothing is broken, else the lowest number at its lowest place.
abbrev pub Tells : List Rule → Answer → Type 0
Tells rs a = (Sound rs × (a ≡ accepted)) ⊎ Lowest rs a.number a.place
