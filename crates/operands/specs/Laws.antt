-- Laws: going back over a node's operands stays in the table.
use Rattle.std.specs.Prelude.{◌≡◌, true, List, ℕ, suc, ◌≤◌, ◌<◌}
use Rattle.std.proofs.Common.{arith}
use Rattle.image.specs.Nodes.{node_word, node_holds}
use Rattle.image.specs.Layout.{Good}
use Rattle.image.specs.declared.Layout.{Layout}
use Rattle.rules.specs.Trees.{operand}
use Rattle.laws.specs.Trees.{operand_count, operand_below, operand_after}

-- an operand with another before it is no longer than its own number
pub operand_fits : (ws : List ℕ) (n : ℕ) → node_holds ws n ≡ true → (j : ℕ) → suc j < operand_count ws n
    → node_word ws (operand ws n j) 1 ≤ operand ws n j
operand_fits ws n h j w = omega (arith, operand_after ws n h j w)

-- an operand is before its node
pub before : (ws : List ℕ) (l : Layout) → Good ws l → (n : ℕ) → n < l.node_count → (j : ℕ) → j < operand_count ws n → operand ws n j < n
before ws l g n h j w = operand_below ws n (g.nodes n (rw (← g.lay.node_count_lem) h)) j w
