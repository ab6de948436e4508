-- `calls::push_blocks` meets its contract.
use Prim.Native.Nat.{◌≤◌, suc, ℕ}
use Rattle.calls.specs.Blocks.{Callable, Pushed}
use mathlib.Core.List.{List}
use Rattle.calls.proofs.push_blocks.Given as goal

abbrev pub invariant-loop-k : goal.invariant-loop-k
invariant-loop-k l = (l.k ≤ l.y) × ((old : List ℕ) → Callable l.image.words.now old l.i l.j l.y → Pushed l.image.words.now old l.i l.p l.j l.y l.initial.room 1 → Pushed l.image.words.now old l.i l.p l.j l.y l.room (suc l.k))
