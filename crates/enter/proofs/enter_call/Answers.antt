-- `enter::enter_call` meets its contract.
use Rattle.pushes.specs.EnterLaws.{call_operand}
use Rattle.room.specs.Enter.{enter_call}
use mathlib.Core.Path.{refl}
use native.Mathlib.Numerals.{add-one}
use Rattle.enter.proofs.enter_call.Goals as goal

pub operand_place-m-requires : goal.operand_place-m-requires
operand_place-m-requires c = (c.requires.0, rw c.node_word-y.ensures (call_operand _ _ c.requires.2))

pub returns : goal.returns
returns c = λ D hs may inv low h. (rw (c.push3.ensures, c.operand_place-m.ensures.0, c.node_word-y.ensures, add-one) (enter_call _ c.args.image.now.good.nodes D _ _ _ inv low c.requires.2), refl)
