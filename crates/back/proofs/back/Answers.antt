-- `back::back` meets its contract.
use Rattle.room.specs.TagLaws.{numbered, other_tag}
use Rattle.room.specs.Tags.{tag_in, tag_of}
use Rattle.room.specs.declared.Tag.TheVariants.{Cast, Get, SetSecond}
use mathlib.Core.Path.{◌∙◌, refl, sym}
use Rattle.comes.specs.FrameLaws.{node_first, node_second}
use Rattle.room.specs.Room.{shape_of}
use Rattle.back.proofs.back.Goals as goal

pub back_cast-requires : goal.back_cast-requires
unfolding shape_of
back_cast-requires c = let n = node_first _ _ _ c.requires.0 1 _ refl (numbered _ Cast (sym c.in-Cast.is ∙ c.from.ensures)) refl in (c.requires.2.words, rw c.args.table.now.image.good.lay.node_count_lem n.0, c.requires.1)

pub back_get-requires : goal.back_get-requires
unfolding shape_of
back_get-requires c = let n = node_first _ _ _ c.requires.0 7 _ refl (numbered _ Get (sym c.in-Get.is ∙ c.from.ensures)) refl in (c.requires.2.words, rw c.args.table.now.image.good.lay.node_count_lem n.0, n.1, c.requires.1)

pub back_set-requires : goal.back_set-requires
unfolding shape_of
back_set-requires c = let m = node_second _ _ _ c.requires.0 24 _ refl (numbered _ SetSecond (sym c.in-SetSecond.is ∙ c.from.ensures)) refl in let n = m.0 in (c.requires.2.words, rw c.args.table.now.image.good.lay.node_count_lem n.0, n.1, m.1)

pub back_plain-requires : goal.back_plain-requires
unfolding tag_of tag_in
back_plain-requires c = (((other_tag _ 1 Cast _ c.from.ensures refl c.in_default.not-Cast), (other_tag _ 7 Get _ c.from.ensures refl c.in_default.not-Get), (other_tag _ 24 SetSecond _ c.from.ensures refl c.in_default.not-SetSecond), c.requires.3), c.requires.0, c.requires.1, refl, refl)

pub returns-in-Cast : goal.returns-in-Cast
returns-in-Cast c = λ D v. c.back_cast.ensures D _ _ (record { nodes = c.args.table.now.image.good.nodes; inv = v; heap = c.requires.2; tagged = (numbered _ Cast (sym c.in-Cast.is ∙ c.from.ensures)); placed = refl })

pub returns-in-Get : goal.returns-in-Get
returns-in-Get c = λ D v. c.back_get.ensures D _ _ (record { nodes = c.args.table.now.image.good.nodes; inv = v; heap = c.requires.2; tagged = (numbered _ Get (sym c.in-Get.is ∙ c.from.ensures)); placed = refl })

pub returns-in-SetSecond : goal.returns-in-SetSecond
returns-in-SetSecond c = λ D v. c.back_set.ensures D _ (record { nodes = c.args.table.now.image.good.nodes; inv = v; heap = c.requires.2; tagged = (numbered _ SetSecond (sym c.in-SetSecond.is ∙ c.from.ensures)); placed = refl }) refl

pub returns-in_default : goal.returns-in_default
returns-in_default c = λ D v. c.back_plain.ensures D _ _ (record { nodes = c.args.table.now.image.good.nodes; inv = v; heap = c.requires.2; tagged = refl; placed = refl })
