-- A node has at most nine operands.
use Rattle.node_rules.specs.EnvLaws.{few_operands}
use mathlib.Core.Path.{refl}
use Rattle.node_types.proofs.operand_total.Goals as goal

pub returns : goal.returns
returns c = rw (c.operand_count.ensures, c.from-k.ensures, c.node_word.ensures, c.node_word-2.ensures) (refl, few_operands _ _ c.args.image.now.good c.args.n c.requires)
