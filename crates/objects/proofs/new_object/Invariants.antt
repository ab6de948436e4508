-- `objects::new_object` meets its contract.
use Prim.Native.Nat.{◌≤◌}
use Rattle.objects.specs.MadeLaws.{Making}
use Rattle.objects.proofs.new_object.Given as goal

abbrev pub invariant-loop-k : goal.invariant-loop-k
invariant-loop-k l = (l.k ≤ l.n) × Making l.table.image.words.now l.initial.heap l.heap l.a l.c l.k
