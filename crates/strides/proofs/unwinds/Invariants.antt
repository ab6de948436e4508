use Rattle.room.specs.declared.Focus.TheVariants.{Thrown}
use Rattle.strides.specs.ReachLaws.{Onward, fuel}
use Rattle.strides.proofs.unwinds.Given as goal

abbrev pub invariant-loop-l : goal.invariant-loop-l
invariant-loop-l l = Onward l.image.words.now l.depth l.steps l.heap l.initial.room l.from (Thrown l.address l.place) l.heap l.room l.l (Thrown l.a l.p) l.left

abbrev pub decreases-loop-l : goal.decreases-loop-l
decreases-loop-l l = fuel l.image.words.now l.depth l.left l.room l.l (Thrown l.a l.p)
