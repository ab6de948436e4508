-- The premises of demand 3 can be met: by computation, for a bench program and for one with a class hierarchy, an override and a
-- caught exception.
use Rattle.std.specs.Prelude.{ℕ, ◌≡◌, List, [], ◌∷◌, ◌++◌, replicate}
use Rattle.order.specs.Rules.{answer_of, accepted}
use Rattle.rules.specs.Numbers.{check_rules, conform_rules}
use Rattle.rules.specs.Bench.{image}

-- an image, a heap and inputs that the two questions accept
pub record Accepts (ws hs is : List ℕ) : Type 0 where
  pub check : answer_of (check_rules ws) ≡ accepted
  pub conform : answer_of (conform_rules ws hs is) ≡ accepted

-- (New 4).9()
unfoldable pub bench_image : List ℕ
bench_image = image [] (0 ∷ 1 ∷ 4 ∷ 0 ∷ 9 ∷ 2 ∷ 9 ∷ 0 ∷ [])

-- Class 4 extends 0: field 7 of type Integer; method 9 of a Class 5 returns `this.7`.
-- Class 5 extends 4: its method 9, of a Class 4, throws `this`.
-- main has a Class 4, variable 1: Try 1.9(New 5) Catch (5 V) V.7 + 1.
unfoldable pub orders : List ℕ
orders =
    (0 ∷ 0 ∷ 0 ∷ 0 ∷ 0 ∷ 4 ∷ [])
    ++ ((4 ∷ 7 ∷ 2 ∷ [])
    ++ ((4 ∷ 9 ∷ 2 ∷ 0 ∷ 1 ∷ 1 ∷ 5 ∷ 9 ∷ 2 ∷ 1 ∷ 1 ∷ 3 ∷ [])
    ++ ((9 ∷ 8 ∷ 8 ∷ [])
    ++ ((3 ∷ 1 ∷ 0 ∷ 0 ∷ 7 ∷ 2 ∷ 7 ∷ 4 ∷ [])
    ++ ((3 ∷ 1 ∷ 0 ∷ 0 ∷ 14 ∷ 2 ∷ 2 ∷ 0 ∷ [])
    ++ ((3 ∷ 1 ∷ 1 ∷ 0 ∷ 0 ∷ 1 ∷ 5 ∷ 0 ∷ 9 ∷ 3 ∷ 9 ∷ 1 ∷ [])
    ++ ((3 ∷ 1 ∷ 2 ∷ 0 ∷ 7 ∷ 2 ∷ 7 ∷ 4 ∷ 2 ∷ 1 ∷ 3 ∷ 1 ∷ 4 ∷ 4 ∷ 0 ∷ 0 ∷ 15 ∷ 8 ∷ 5 ∷ 2 ∷ [])
    ++ (80 ∷ 74 ∷ 71 ∷ 59 ∷ 56 ∷ 11 ∷ 1 ∷ 1 ∷ []))))))))

-- the system's three objects, an object of class 5 whose field holds 41, and a free slot
unfoldable pub objects : List ℕ
objects =
    (2 ∷ replicate 15 0)
    ++ ((3 ∷ replicate 15 0)
    ++ ((4 ∷ replicate 15 0)
    ++ ((6 ∷ 12884901929 ∷ replicate 14 0)
    ++ replicate 16 0)))

-- the address of that object
unfoldable pub inputs : List ℕ
inputs = 17179869187 ∷ []
