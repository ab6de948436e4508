-- The invariant: the rows of the classes below c are filled.
use Rattle.rows.specs.Rows.{Upto}
use Rattle.rows.proofs.fill_rows.Given as goal

abbrev pub invariant-loop-c : goal.invariant-loop-c
invariant-loop-c l = Upto l.image.words.now l.counts l.types l.c l.i
