-- The invariant: what is left to scan gives the answer.
use Prim.Native.Nat.{◌/◌}
use Rattle.heap.specs.SlotLaws.{Since}
use Rattle.heap.specs.Slots.{taken_at}
use Rattle.rules.specs.Heap.{slot_words}
use lib.ListN.{length}
use Rattle.heap.proofs.lowest_free.Given as goal

abbrev pub invariant-loop-a : goal.invariant-loop-a
invariant-loop-a l = Since (taken_at l.heap) (length l.heap / slot_words) l.from l.a
