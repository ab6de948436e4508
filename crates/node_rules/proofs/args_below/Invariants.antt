-- The invariant: each argument's type passed is below its parameter's.
use Rattle.std.specs.Prelude.{◌≡◌, true, ℕ, suc, ◌+◌, ◌<◌, get_or}
use Rattle.image.specs.Records.{type_at}
use Rattle.rules.specs.Classes.{subtype}
use Rattle.rules.specs.Program.{program}
use Rattle.words.specs.Types.{type_of}
use Rattle.words.specs.declared.Ty.TheVariants.{Void}
use Rattle.node_rules.proofs.args_below.Given as goal

abbrev pub invariant-loop-i : goal.invariant-loop-i
invariant-loop-i l =
    (j : ℕ) → j < l.i
    → subtype (program l.image.words.now) (get_or l.types (suc j) Void) (type_of (type_at l.image.words.now (l.first + j))) ≡ true
