use mathlib.Core.Path.{◌≡◌}
use lib.ListN.{length}
use Rattle.rules.specs.Run.{run}
use Rattle.rules.specs.Program.{program}
use Rattle.rules.specs.Heap.{heap_of}
use Rattle.room.specs.Turn.{outside, whole}
use Rattle.memo.specs.Memo.{Memo}
use Rattle.machine.specs.Runs.{Running, left}
use Prim.Native.Nat.{◌-◌}
use Rattle.machine.proofs.run_with.Given as goal

abbrev pub invariant-loop-next : goal.invariant-loop-next
invariant-loop-next l = Running l.table.image.words.now l.depth l.limit (run l.depth (program l.table.image.words.now) (l.limit - l.taken) l.taken (heap_of (program l.table.image.words.now) l.initial.heap) (outside l.table.image.words.now l.initial.room l.from) (whole l.table.image.words.now l.initial.room l.from l.initial.focus)) l.initial.heap l.initial.room l.heap l.room l.level l.focus l.count × Memo l.table.image.words.now l.memo × (length l.memo ≡ length l.initial.memo)

abbrev pub decreases-loop-next : goal.decreases-loop-next
decreases-loop-next l = left l.table.image.words.now l.depth l.limit l.count l.room l.level l.focus
