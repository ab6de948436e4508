-- `unwind::unwind` meets its contract.
use Rattle.room.specs.TagLaws.{numbered, other_tag}
use Rattle.room.specs.Tags.{tag_in, tag_of}
use Rattle.room.specs.declared.Tag.TheVariants.{Block, Try}
use mathlib.Core.Path.{◌∙◌, refl, sym}
use Rattle.room.specs.RoomLaws.{fit_variable}
use Rattle.room.specs.Unwind.{leave_steps, pass_steps}
use native.Mathlib.Omega.{arith}
use Rattle.unwind.proofs.unwind.Goals as goal

pub offset_bounds-room-x : goal.offset_bounds-room-x
offset_bounds-room-x c = let v = fit_variable c.requires.0.fit (numbered _ Block (sym c.in-Block.is ∙ c.from.ensures)) in omega (arith, v)

pub bounds-room-x : goal.bounds-room-x
bounds-room-x c = let v = fit_variable c.requires.0.fit (numbered _ Block (sym c.in-Block.is ∙ c.from.ensures)) in omega (arith, v, c.requires.0.long)

pub returns-in-Block : goal.returns-in-Block
returns-in-Block c = λ may. (leave_steps _ c.args.image.now.good.nodes _ _ _ _ _ _ c.requires.0 c.requires.1 (numbered _ Block (sym c.in-Block.is ∙ c.from.ensures)), λ e. refl)

pub returns-in_default : goal.returns-in_default
unfolding tag_of tag_in
returns-in_default c = λ may. (pass_steps _ c.args.image.now.good.nodes _ _ _ _ _ _ c.requires.0 c.requires.1 (other_tag _ 10 Block _ c.from.ensures refl c.in_default.not-Block) (other_tag _ 15 Try _ c.from.ensures refl c.in_default.not-Try), λ e. refl)

pub unwind_try-requires : goal.unwind_try-requires
unwind_try-requires c = (c.requires.0, c.requires.1, numbered _ Try (sym c.in-Try.is ∙ c.from.ensures), refl)
