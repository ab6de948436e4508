-- The invariant: every word of the slots passed holds.
use Prim.Native.Nat.{◌*◌}
use Rattle.heap.specs.Slots.{Clean}
use Rattle.rules.specs.Heap.{slot_words}
use Rattle.rules.specs.Numbers.{heap_word_rule}
use lib.ListN.{length}
use Rattle.heap.proofs.heap_word_place.Given as goal

abbrev pub invariant-loop-a : goal.invariant-loop-a
invariant-loop-a l = Clean (heap_word_rule l.table.image.words.now l.heap).holds (length l.heap) (slot_words * l.a)
