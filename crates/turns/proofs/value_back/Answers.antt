-- `turns::value_back` meets its contract.
use Rattle.room.specs.TagLaws.{numbered, other_tag}
use Rattle.room.specs.Tags.{tag_in, tag_of}
use Rattle.room.specs.declared.Tag.TheVariants.{Call}
use mathlib.Core.Path.{◌∙◌, refl, sym}
use Rattle.turns.proofs.value_back.Goals as goal

pub returns-in-Call : goal.returns-in-Call
returns-in-Call c = c.back_call.ensures c.args.may

pub returns-in_default : goal.returns-in_default
returns-in_default c = c.back.ensures c.args.depth c.requires.0

pub back_call-requires : goal.back_call-requires
back_call-requires c = (c.requires.0, c.requires.1, (numbered _ Call (sym c.in-Call.is ∙ c.from.ensures)))

pub back-requires : goal.back-requires
unfolding tag_of tag_in
back-requires c = (c.requires.0.fit, c.requires.0.here, c.requires.1, (other_tag _ 9 Call _ c.from.ensures refl c.in_default.not-Call))
