-- `enter_leaps::enters::gather` meets its contract.
use Rattle.enter_leaps.specs.Enters.{Gathers}
use Rattle.enter_leaps.proofs.enters.gather.Given as goal

abbrev pub invariant-loop-k : goal.invariant-loop-k
invariant-loop-k l = Gathers l.ws l.heap l.initial.room l.l l.n l.y l.room l.end l.k l.steps
