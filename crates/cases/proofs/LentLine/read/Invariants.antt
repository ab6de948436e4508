-- The invariant: the line holds as much memory as at the start.
use Rattle.cases.specs.Kept.{Keeps}
use Rattle.cases.proofs.LentLine.read.Given as goal

abbrev pub invariant-loop-i : goal.invariant-loop-i
invariant-loop-i l = Keeps l.fn.self l.self
