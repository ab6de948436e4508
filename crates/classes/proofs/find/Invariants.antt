-- What is left to search lies between lo and hi.
use Prim.Native.Nat.{◌-◌}
use Rattle.std.specs.Prelude.{[], length, get_or}
use Rattle.classes.specs.Chunks.{chunk_key}
use Rattle.classes.specs.Search.{Between}
use Rattle.classes.proofs.find.Given as goal

abbrev pub invariant-loop-lo : goal.invariant-loop-lo
invariant-loop-lo g l = Between (λ i. chunk_key (get_or l.records i [])) (length l.records) l.wanted l.lo l.hi

abbrev pub decreases-loop-lo : goal.decreases-loop-lo
decreases-loop-lo g l = l.hi - l.lo
