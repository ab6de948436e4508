-- The invariant: every node of the bodies passed has a type.
use Prim.Native.Nat.{◌<◌, ℕ}
use Rattle.figures.specs.FirstBreach.{AllHold}
use Rattle.typing.specs.Untyped.{method_tests}
use Rattle.typing.proofs.untyped_place.Given as goal

abbrev pub invariant-loop-i : goal.invariant-loop-i
invariant-loop-i l = (j : ℕ) → j < l.i → AllHold (method_tests l.image.words.now j)
