-- The invariant: the row has the types of the fields above, and of the class's own up to record j.
use Rattle.rows.specs.Rows.{Part}
use Rattle.std.proofs.Common.{◌+◌, ◌-◌}
use Rattle.rows.proofs.fill_row.Given as goal

abbrev pub invariant-loop-j : goal.invariant-loop-j
invariant-loop-j l = Part l.image.words.now l.types l.c l.j (l.above + (l.j - l.i))
