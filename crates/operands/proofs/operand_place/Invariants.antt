-- The invariant: the place reached is that of the operand that has as many others behind it as were passed.
use Prim.Native.Nat.{◌<◌}
use Rattle.rules.specs.Trees.{operand}
use mathlib.Core.Path.{◌≡◌}
use Rattle.operands.proofs.operand_place.Given as goal

abbrev pub invariant-loop : goal.invariant-loop
invariant-loop l = (l.at ≡ operand l.image.words.now l.n l.counter) × (l.at < l.n)
