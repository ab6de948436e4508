-- The invariant: for a test that the code asks, scanning on from i gives what scanning from 0 gives.
use Rattle.std.proofs.Common.{Bool, ℕ}
use Rattle.order.specs.Rules.{Asks}
use Rattle.order.specs.Scan.{Still}
use Rattle.order.proofs.first_broken.Given as goal

abbrev pub invariant-loop-i : goal.invariant-loop-i
invariant-loop-i g l = (test : ℕ → Bool) → Asks (goal.F-post g l.holds) l.places test → Still test l.places l.i
