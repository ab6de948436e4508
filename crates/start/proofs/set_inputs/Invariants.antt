-- `start::set_inputs` meets its contract.
use Prim.Native.Nat.{◌≤◌}
use Rattle.start.specs.Start.{Filled}
use lib.ListN.{length}
use mathlib.Core.Path.{◌≡◌}
use Rattle.start.proofs.set_inputs.Given as goal

abbrev pub invariant-loop-i : goal.invariant-loop-i
invariant-loop-i l = Filled l.inputs l.room l.i × (length l.room ≡ length l.initial.room) × (l.i ≤ length l.inputs)
