-- The bytes between the words of a line. Assumes nothing.
use Rattle.std.specs.Prelude.{ℕ, Bool, ◌||◌, eqb}

-- space, tab and carriage return
abbrev pub is_blank : ℕ → Bool
is_blank b = eqb b 32 || eqb b 9 || eqb b 13
