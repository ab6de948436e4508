-- The premises of demand 3 for programs can be met, the run's answer too: by computation, for a bench program, and for one with a class
-- hierarchy, an override and a caught exception.
use Rattle.std.specs.Prelude.{ℕ, List, ◌∷◌, ◌++◌, replicate}
use Rattle.words.specs.declared.Ty.TheVariants.{Integer}
use Rattle.rules.specs.Bench.{heap}
use Rattle.run.specs.Answers.{Ran, Answers}
use Rattle.promises.specs.Demand3.{SafeAnswer}

-- the words of room that depth limit 8 asks for
abbrev pub lent : List ℕ
lent = replicate 288 0

-- an answer to a run of at most 100 steps in that room, and what demand 3 says of it when main is an Integer
abbrev pub Given : (ws hs is : List ℕ) → Ran → (left : List ℕ) → Type 0
Given ws hs is r left = Answers ws hs is lent 100 8 r left lent

abbrev pub Safe : (ws : List ℕ) → Ran → (left : List ℕ) → Type 0
Safe ws r left = SafeAnswer ws lent Integer 100 r left lent

-- The bench program ends with the value 0 after 5 steps; the free slot has the new object.
unfoldable pub bench_left : List ℕ
bench_left = heap 0 ++ (5 ∷ 12884901888 ∷ replicate 14 0)

-- The other ends with 42 after 11 steps, what the handler makes of the object caught; the free slot has the argument.
unfoldable pub objects_left : List ℕ
objects_left =
    heap 0 ++ ((6 ∷ 12884901929 ∷ replicate 14 0) ++ (6 ∷ 12884901888 ∷ replicate 14 0))
