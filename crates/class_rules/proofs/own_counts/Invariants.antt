-- The invariant: the counts are those of the fields passed.
use Rattle.class_rules.specs.Counts.{Counted}
use Rattle.class_rules.proofs.own_counts.Given as goal

abbrev pub invariant-loop-i : goal.invariant-loop-i
invariant-loop-i l = Counted l.image.words.now l.i l.counts
