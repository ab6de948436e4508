-- Main starts with its inputs.
use Rattle.node_types.specs.ListLaws.{same_at}
use Rattle.typing.specs.Untyped.{main_env_lem, main_typing_lem, main_within, untyped_ok}
use mathlib.Core.Path.{◌∙◌}
use native.Mathlib.Omega.{arith}
use Rattle.typing.proofs.type_main.Goals as goal

pub declare-requires : goal.declare-requires
declare-requires c = (untyped_ok _, same_at _ 64, omega (arith, c.args.image.now.good.lay.inputs_within), c.args.image.now.good.small.inputs)

pub type_node-requires : goal.type_node-requires
type_node-requires c = (c.declare.ensures.0, main_within _ _ c.args.image.now.good)

pub returns : goal.returns
returns c = c.type_node.ensures.0.says ∙ rw c.args.image.now.good.lay.main (main_typing_lem _ _ (main_env_lem _ _ (rw (c.args.image.now.good.lay.type_count_lem, c.args.image.now.good.lay.inputs) at c.declare.ensures.1)))
