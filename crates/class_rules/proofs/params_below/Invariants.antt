-- The invariant: each type passed is below the one at its place.
use Rattle.std.specs.Prelude.{◌≡◌, true, ℕ, ◌+◌, ◌<◌}
use Rattle.image.specs.Records.{type_at}
use Rattle.rules.specs.Classes.{subtype}
use Rattle.rules.specs.Program.{program}
use Rattle.words.specs.Types.{type_of}
use Rattle.class_rules.proofs.params_below.Given as goal

abbrev pub invariant-loop-k : goal.invariant-loop-k
invariant-loop-k l =
    (j : ℕ) → j < l.k
    → subtype (program l.image.words.now) (type_of (type_at l.image.words.now (l.a + j))) (type_of (type_at l.image.words.now (l.b + j))) ≡ true
