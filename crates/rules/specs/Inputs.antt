-- The inputs of main take the last type words, shown by computation on an image that has more type words than inputs.
use Rattle.std.specs.Prelude.{ℕ, ◌≡◌, refl, List, [], ◌∷◌}
use Rattle.words.specs.declared.Ty.TheVariants.{Integer}
use Rattle.rules.specs.Program.{input_types}
use Rattle.rules.specs.Computing.{computing}

-- four classes; the type words Boolean and Integer; main is 5 and has one input
unfoldable pub one_input : List ℕ
one_input =
    0 ∷ 0 ∷ 0 ∷ 0 ∷ 1 ∷ 2 ∷ 2 ∷ 1 ∷ 3 ∷ 5 ∷ 18 ∷ 14 ∷ 14 ∷ 14 ∷ 12 ∷ 0 ∷ 1 ∷ 1 ∷ []

pub last_type_word : input_types one_input ≡ Integer ∷ []
unfolding computing one_input
last_type_word = refl
