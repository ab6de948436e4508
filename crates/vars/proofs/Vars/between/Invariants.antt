-- The invariant: the variables from `from` on and below i are set, and i passes the end by one at most.
use Rattle.std.proofs.Common.{◌≡◌, ◌+◌, ◌≤◌, max}
use Rattle.vars.specs.Vars.{below, vars_of}
use Rattle.vars.proofs.Vars.between.Given as goal

abbrev pub invariant-loop-i : goal.invariant-loop-i
invariant-loop-i l = record {
  ends : l.i ≤ max l.from (l.to + 1);
  set : vars_of l.set ≡ below l.from l.i;
}
