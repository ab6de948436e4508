-- The invariant: whether the class reached is a subclass of d is whether c is.
use Prim.Native.Nat.{◌<◌}
use Rattle.image.specs.Trailer.{class_count}
use Rattle.rules.specs.Classes.{subclass}
use Rattle.rules.specs.Program.{program}
use mathlib.Core.Path.{◌≡◌}
use Rattle.classes.proofs.is_subclass.Given as goal

abbrev pub invariant-loop-at : goal.invariant-loop-at
invariant-loop-at l = (l.at < class_count l.image.words.now) × (subclass (program l.image.words.now) l.at l.d ≡ subclass (program l.image.words.now) l.c l.d)

abbrev pub decreases-loop-at : goal.decreases-loop-at
decreases-loop-at l = l.at
