-- `memo::learn_value` meets its contract.
use Rattle.room.specs.TagLaws.{numbered}
use Rattle.room.specs.declared.Tag.TheVariants.{Get, SetSecond, Call}
use mathlib.Core.Path.{◌∙◌, refl, sym}
use Rattle.room.specs.Room.{shape_of}
use Rattle.room.specs.RoomLaws.{fit_first, fit_second}
use mathlib.Core.Logic.{inl, inr}
use Rattle.memo.proofs.learn_value.Goals as goal

pub learn_field-requires : goal.learn_field-requires
unfolding shape_of
learn_field-requires c = let n = fit_first _ c.requires.1 7 refl (numbered _ Get (sym c.in-Get.is ∙ c.from.ensures)) in (c.requires.0, (n.0, inl n.1), c.requires.2, c.requires.3)

pub learn_field-requires-in-SetSecond : goal.learn_field-requires-in-SetSecond
unfolding shape_of
learn_field-requires-in-SetSecond c = let n = fit_second _ c.requires.1 24 refl (numbered _ SetSecond (sym c.in-SetSecond.is ∙ c.from.ensures)) in (c.requires.0, (n.0.0, inr n.0.1), n.1, c.requires.3)

pub learn_call-requires : goal.learn_call-requires
learn_call-requires c = (c.requires.0, c.requires.1, numbered _ Call (sym c.in-Call.is ∙ c.from.ensures), refl, c.requires.2, c.requires.3)
