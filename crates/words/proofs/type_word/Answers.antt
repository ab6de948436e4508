-- Each arm is the word of its type, and a class number is small enough for its sum.
use Rattle.std.proofs.Common.{arith}
use Rattle.words.specs.Types.{type_word}
use Rattle.words.proofs.type_word.Goals as goal

pub overflow_add-result : goal.overflow_add-result
overflow_add-result c = omega (arith, rw c.in-Class.is at c.requires)
