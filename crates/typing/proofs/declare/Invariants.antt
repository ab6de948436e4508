-- The invariant: the variables from j + 1 on have their types.
use Rattle.typing.specs.Untyped.{Declaring}
use Rattle.typing.proofs.declare.Given as goal

abbrev pub invariant-loop-j : goal.invariant-loop-j
invariant-loop-j l = Declaring l.image.words.now l.first l.count l.env l.j
