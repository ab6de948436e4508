-- The invariant: the records from i up to j are class c's.
use Rattle.rows.specs.Rows.{Owned}
use Rattle.rows.proofs.own_end.Given as goal

abbrev pub invariant-loop-j : goal.invariant-loop-j
invariant-loop-j l = Owned l.image.words.now l.c l.i l.j
