-- A node's typing comes back to its operands, whose numbers are lower.
use Prim.Native.Nat.{◌*◌, suc}
use Rattle.node_types.specs.ListLaws.{Listing}
use mathlib.Core.Path.{◌≡◌}
use Rattle.typing.proofs.+type_list_type_node_type_operand.Given as goal

abbrev pub decreases-type_list : goal.decreases-type_list
decreases-type_list l = suc (3 * l.n)

abbrev pub decreases-type_node : goal.decreases-type_node
decreases-type_node l = suc (suc (3 * l.n))

abbrev pub decreases-type_operand : goal.decreases-type_operand
decreases-type_operand l = 3 * l.n

abbrev pub invariant-type_list-loop-i : goal.invariant-type_list-loop-i
invariant-type_list-loop-i l = (l.env ≡ l.initial.env) × Listing l.image.words.now l.n l.initial.env l.types l.i
