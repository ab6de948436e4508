-- On the way up, the class reached sees what c sees.
use Prim.Native.Nat.{◌<◌}
use Rattle.classes.specs.Tables.{Same}
use Rattle.image.specs.Trailer.{class_count}
use Rattle.classes.proofs.look_up.Given as goal

abbrev pub invariant-up : goal.invariant-up
invariant-up l = (l.at < class_count l.image.words.now) × Same l.image.words.now l.m l.at l.c l.name

abbrev pub decreases-up : goal.decreases-up
decreases-up l = l.at
