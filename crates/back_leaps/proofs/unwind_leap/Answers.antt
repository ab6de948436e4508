-- `back_leaps::unwind_leap` meets its contract.
use Rattle.room.specs.TagLaws.{numbered, other_tag}
use Rattle.room.specs.Tags.{tag_in, tag_of}
use Rattle.room.specs.declared.Tag.TheVariants.{Block, Try}
use Rattle.back_leaps.specs.BackLaps.{unwound}
use Rattle.memo.specs.MemoLaws.{node_small}
use Rattle.quick.specs.KnownLaws.{tabled}
use Rattle.room.specs.RoomLaws.{fit_variable}
use Rattle.room.specs.Unwind.{is_try, leave_steps, pass_steps}
use mathlib.Core.Path.{◌∙◌, refl, sym}
use native.Mathlib.Omega.{arith}
use Rattle.back_leaps.proofs.unwind_leap.Goals as goal

pub offset_bounds-room-x : goal.offset_bounds-room-x
offset_bounds-room-x c = let v = fit_variable c.requires.0.fit (numbered _ Block (sym c.in-Block.is ∙ c.from.ensures)) in omega (arith, v)

pub bounds-room-x : goal.bounds-room-x
bounds-room-x c = let v = fit_variable c.requires.0.fit (numbered _ Block (sym c.in-Block.is ∙ c.from.ensures)) in omega (arith, v, c.requires.0.long)

pub unwind_try-requires : goal.unwind_try-requires
unwind_try-requires c = let n = is_try _ c.args.image.now.good.nodes _ _ _ _ _ _ c.requires.0 c.requires.1 (numbered _ Try (sym c.in-Try.is ∙ c.from.ensures)) in (tabled c.args.image.now.good, c.requires.2, c.requires.1.words, n, node_small _ _ c.args.image.now.good _ n.0, c.requires.0.here, c.requires.0.fit.long)

pub returns-in-Block : goal.returns-in-Block
returns-in-Block c = rw c.at_thrown.ensures (unwound _ _ _ _ _ _ _ _ _ (leave_steps _ c.args.image.now.good.nodes _ _ _ _ _ _ c.requires.0 c.requires.1 (numbered _ Block (sym c.in-Block.is ∙ c.from.ensures))))

pub returns-in-Try : goal.returns-in-Try
returns-in-Try c = c.unwind_try.ensures _ _ (record { nodes = c.args.image.now.good.nodes; inv = c.requires.0; heap = c.requires.1; tagged = (numbered _ Try (sym c.in-Try.is ∙ c.from.ensures)); placed = refl })

pub returns-in_default : goal.returns-in_default
unfolding tag_of tag_in
returns-in_default c = rw c.at_thrown-in_default.ensures (unwound _ _ _ _ _ _ _ _ _ (pass_steps _ c.args.image.now.good.nodes _ _ _ _ _ _ c.requires.0 c.requires.1 (other_tag _ 10 Block _ c.from.ensures refl c.in_default.not-Block) (other_tag _ 15 Try _ c.from.ensures refl c.in_default.not-Try)))
