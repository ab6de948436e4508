-- The invariant: the words passed, joined, are 0 where each is.
use Rattle.std.proofs.Common.{◌≡◌, eqb, take}
use Rattle.std.specs.List.{list_all}
use Rattle.heap.proofs.zeros.Given as goal

abbrev pub invariant-loop-w : goal.invariant-loop-w
invariant-loop-w l = eqb l.digits 0 ≡ list_all (λ w. eqb w 0) (take l.w-index l.words)
