-- `enter::enter_first` meets its contract.
use Rattle.pushes.specs.EnterLaws.{first_operand}
use Rattle.room.specs.Enter.{enter_first}
use mathlib.Core.Path.{refl}
use native.Mathlib.Numerals.{add-one}
use Rattle.enter.proofs.enter_first.Goals as goal

pub returns : goal.returns
returns c = λ D hs may inv low h. (rw (c.push.ensures, ← c.requires.2, c.operand_place-m.ensures.0, add-one) (enter_first _ c.args.image.now.good.nodes D _ _ _ inv low _ (rw c.requires.2 c.requires.3) (first_operand _ _ c.requires.2 c.behind_first.ensures)), refl)
