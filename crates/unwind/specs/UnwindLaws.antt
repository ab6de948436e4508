-- Laws of the frames that a thrown address comes to.
use Rattle.std.specs.Prelude.{◌≡◌, List, true, ℕ, ◌<◌}
use Rattle.std.proofs.Common.{arith}
use Rattle.image.specs.Nodes.{node_word, kind_of, operands, node_holds}
use Rattle.laws.specs.Trees.{operand_count, operand_below}

-- a Try has an operand, so it is not the table's first node
pub try_after : (ws : List ℕ) (p : ℕ) → node_holds ws p ≡ true → node_word ws p 0 ≡ 15 → 0 < p
unfolding operands kind_of
try_after ws p h e = let o : 0 < operand_count ws p = rw e (omega arith) in omega (arith, operand_below ws p h 0 o)
