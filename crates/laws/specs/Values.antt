-- Values by their words, as code keeps them.
use Rattle.std.specs.Prelude.{◌≡◌, true, ℕ, is_some}
use Rattle.words.specs.declared.Value.{Value}
use Rattle.words.specs.Value.{value_of}
use Rattle.rules.specs.Trees.{written}

-- the value that a word stands for
abbrev pub value_at : ℕ → Value
value_at w = written (value_of w)

-- a word that stands for one
abbrev pub IsValue : ℕ → Type 0
IsValue w = is_some (value_of w) ≡ true
