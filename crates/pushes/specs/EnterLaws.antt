-- Laws of nodes that are gone into: which operands they have, and turns as the functions promise them.
use Rattle.std.specs.Prelude.{◌≡◌, List, true, ℕ, suc, ◌<◌}
use Rattle.std.proofs.Common.{arith}
use Rattle.image.specs.declared.Layout.{Layout}
use Rattle.image.specs.Trailer.{node_count}
use Rattle.image.specs.Nodes.{node_word, kind_of, operands, node_holds}
use Rattle.image.specs.Layout.{Good}
use Rattle.laws.specs.Trees.{operand_count, operand_below}

-- a number below the layout's count is a node
pub in_table : {ws : List ℕ} {lay : Layout} {n : ℕ} → Good ws lay → n < lay.node_count → n < node_count ws
in_table {ws} {lay} {n} g h = rw g.lay.node_count_lem at h

pub holds_at : {ws : List ℕ} {lay : Layout} {n : ℕ} → Good ws lay → n < lay.node_count → node_holds ws n ≡ true
holds_at {ws} {lay} {n} g h = g.nodes n (in_table g h)

-- operands by the kind's number
module _ (ws : List ℕ) (n : ℕ) where
  pub first_operand : {k r : ℕ} → node_word ws n 0 ≡ k → ((y : ℕ) → suc r ≡ operands (kind_of k) y) → suc r ≡ operand_count ws n
  first_operand e h = rw e (h (node_word ws n 3))

  pub assign_operand : node_word ws n 0 ≡ 6 → 0 < operand_count ws n
  unfolding operands kind_of
  assign_operand e = rw e (omega arith)

  pub call_operand : node_word ws n 0 ≡ 9 → node_word ws n 3 < operand_count ws n
  unfolding operands kind_of
  call_operand e = rw e (omega arith)

  pub block_operand : node_word ws n 0 ≡ 10 → 0 < operand_count ws n
  unfolding operands kind_of
  block_operand e = rw e (omega arith)

  pub seq_operand : node_word ws n 0 ≡ 11 → 1 < operand_count ws n
  unfolding operands kind_of
  seq_operand e = rw e (omega arith)

  pub while_operand : node_word ws n 0 ≡ 13 → 1 < operand_count ws n
  unfolding operands kind_of
  while_operand e = rw e (omega arith)

  -- a node with an operand is not the table's first
  pub not_first : node_holds ws n ≡ true → 0 < operand_count ws n → 0 < n
  not_first h o = omega (arith, operand_below ws n h 0 o)
