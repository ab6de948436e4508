-- `memo::learn_thrown` meets its contract.
use Rattle.room.specs.TagLaws.{numbered}
use Rattle.room.specs.declared.Tag.TheVariants.{Try}
use mathlib.Core.Path.{◌∙◌, refl, sym}
use Rattle.room.specs.Room.{shape_of}
use Rattle.room.specs.RoomLaws.{fit_first}
use Rattle.memo.proofs.learn_thrown.Goals as goal

pub learn_try-requires : goal.learn_try-requires
unfolding shape_of
learn_try-requires c = let n = fit_first _ c.requires.1 15 refl (numbered _ Try (sym c.in-Try.is ∙ c.from.ensures)) in (c.requires.0, n, c.requires.2, c.requires.3)
