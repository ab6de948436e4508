use Rattle.room.specs.declared.Focus.TheVariants.{Node}
use Rattle.strides.specs.ReachLaws.{Onward, fuel}
use mathlib.Core.Path.{◌≡◌}
use lib.ListN.{length}
use Rattle.strides.proofs.strides.Given as goal

abbrev pub invariant-loop-l : goal.invariant-loop-l
invariant-loop-l l = Onward l.table.image.words.now l.depth l.steps l.initial.heap l.initial.room l.from (Node l.node) l.heap l.room l.l (Node l.n) l.left × (length l.heap ≡ length l.initial.heap)

abbrev pub decreases-loop-l : goal.decreases-loop-l
decreases-loop-l l = fuel l.table.image.words.now l.depth l.left l.room l.l (Node l.n)
