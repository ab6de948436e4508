-- The invariant: below c the table has all fields of each class, from c on its own; and scanning on from c gives the answer.
use Rattle.class_rules.specs.Totals.{Totals}
use Rattle.image.specs.Trailer.{class_count}
use Rattle.order.specs.Scan.{Still}
use Rattle.rules.specs.Numbers.{fields_rule}
use Rattle.class_rules.proofs.fields_place.Given as goal

abbrev pub invariant-loop-c : goal.invariant-loop-c
invariant-loop-c l = Totals l.image.words.now l.c l.counts × Still (fields_rule l.image.words.now).holds (class_count l.image.words.now) l.c
