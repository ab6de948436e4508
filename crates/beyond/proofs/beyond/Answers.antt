-- `beyond::beyond` meets its contract.
use Rattle.beyond.specs.Beyond.{deep_other}
use Rattle.pushes.specs.Kinds.{kind_number, other_kind}
use Rattle.image.specs.Nodes.{kind_of}
use Rattle.image.specs.declared.Kind.TheVariants.{Assign, Seq, Value as Literal}
use mathlib.Core.Path.{◌∙◌, refl, sym}
use Rattle.beyond.proofs.beyond.Goals as goal

pub beyond_assign-requires : goal.beyond_assign-requires
beyond_assign-requires c = (c.requires.0, c.requires.1, kind_number _ Assign (sym c.in-Assign.is ∙ c.requires.2))

pub beyond_seq-requires : goal.beyond_seq-requires
beyond_seq-requires c = (c.requires.0, c.requires.1, kind_number _ Seq (sym c.in-Seq.is ∙ c.requires.2))

pub returns-in_default : goal.returns-in_default
unfolding kind_of
returns-in_default c = λ D hs may inv past h. (deep_other _ c.args.image.now.good.nodes D hs _ _ _ inv past (other_kind _ 2 Literal _ c.requires.2 refl c.requires.3) (other_kind _ 6 Assign _ c.requires.2 refl c.in_default.not-Assign) (other_kind _ 11 Seq _ c.requires.2 refl c.in_default.not-Seq), refl)
