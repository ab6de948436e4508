use mathlib.Core.Path.{◌≡◌}
use lib.ListN.{length}
use Rattle.room.specs.declared.Focus.TheVariants.{Value}
use Rattle.strides.specs.ReachLaws.{Onward, fuel}
use mathlib.Core.Path.{◌≡◌}
use Prim.Native.Nat.{◌≤◌}
use Rattle.strides.proofs.backs.Given as goal

abbrev pub invariant-loop-l : goal.invariant-loop-l
invariant-loop-l l = Onward l.image.words.now l.depth l.steps l.initial.heap l.initial.room l.from (Value l.word) l.heap l.room l.l (Value l.w) l.left × (l.l ≤ l.depth) × (length l.heap ≡ length l.initial.heap)

abbrev pub decreases-loop-l : goal.decreases-loop-l
decreases-loop-l l = fuel l.image.words.now l.depth l.left l.room l.l (Value l.w)
