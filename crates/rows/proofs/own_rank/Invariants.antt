-- The invariant: the records from k up to i are of the class.
use Rattle.rows.specs.IndexLaws.{Rank}
use Rattle.rows.proofs.own_rank.Given as goal

abbrev pub invariant-loop-k : goal.invariant-loop-k
invariant-loop-k l = Rank l.image.words.now l.d l.i l.k
