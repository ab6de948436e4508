-- `enter::behind_first` meets its contract.
use Rattle.pushes.specs.Kinds.{first_one, other_kind}
use Rattle.image.specs.Nodes.{kind_of}
use Rattle.image.specs.declared.Kind.TheVariants.{Add, Eq, Set, Seq, If, Try}
use mathlib.Core.Path.{refl}
use Rattle.enter.proofs.behind_first.Goals as goal

pub returns-in_default : goal.returns-in_default
unfolding kind_of
returns-in_default c = λ y. first_one _ y c.requires (other_kind _ 12 If _ c.from.ensures refl c.in_default.not-If) (other_kind _ 4 Add _ c.from.ensures refl c.in_default.not-Add) (other_kind _ 5 Eq _ c.from.ensures refl c.in_default.not-Eq) (other_kind _ 8 Set _ c.from.ensures refl c.in_default.not-Set) (other_kind _ 11 Seq _ c.from.ensures refl c.in_default.not-Seq) (other_kind _ 15 Try _ c.from.ensures refl c.in_default.not-Try)
