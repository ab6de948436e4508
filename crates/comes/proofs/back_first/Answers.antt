-- `comes::back_first` meets its contract.
use Rattle.comes.specs.ComesLaws.{first_moves}
use native.Mathlib.Numerals.{add-one}
use Rattle.comes.proofs.back_first.Goals as goal

pub returns : goal.returns
returns c = λ ws D hs may k. rw (add-one) (first_moves ws D hs _ _ _ _ may _ c.requires.0 k)
