-- A slot that holds takes the scan sixteen words on.
use Prim.Native.Nat.{◌*◌, ◌+◌}
use Rattle.heap.specs.WordLaws.{clean_far}
use Rattle.rules.specs.Heap.{slot_words}
use mathlib.Core.Path.{◌≡◌}
use native.Mathlib.Omega.{arith}
use Rattle.heap.proofs.heap_word_place.Goals as goal

pub loop-a-preserved : goal.loop-a-preserved
loop-a-preserved c = let y : slot_words * (c.loop-a.a + 1) ≡ slot_words * c.loop-a.a + slot_words = omega arith in rw y (clean_far slot_words c.loop-a.invariant (omega arith) (c.slot_holds.ensures c.if-not-slot_holds.false))
