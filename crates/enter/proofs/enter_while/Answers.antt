-- `enter::enter_while` meets its contract.
use Rattle.pushes.specs.EnterLaws.{while_operand}
use Rattle.room.specs.Nodes.{while_steps}
use mathlib.Core.Path.{refl}
use native.Mathlib.Numerals.{add-one}
use Rattle.enter.proofs.enter_while.Goals as goal

pub operand_place-m-requires : goal.operand_place-m-requires
operand_place-m-requires c = (c.requires.0, while_operand _ _ c.requires.2)

pub returns : goal.returns
returns c = λ D hs may inv low h. (rw (c.push.ensures, c.operand_place-m.ensures.0, add-one) (while_steps _ c.args.image.now.good.nodes D hs _ _ _ inv low c.requires.2 h), λ e. refl)
