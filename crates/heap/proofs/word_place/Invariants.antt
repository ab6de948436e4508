-- The invariant: every word passed holds.
use Rattle.heap.specs.Slots.{Clean}
use Rattle.rules.specs.Numbers.{heap_word_rule}
use lib.ListN.{length}
use Rattle.heap.proofs.word_place.Given as goal

abbrev pub invariant-loop-i : goal.invariant-loop-i
invariant-loop-i l = Clean (heap_word_rule l.table.image.words.now l.heap).holds (length l.heap) l.i
