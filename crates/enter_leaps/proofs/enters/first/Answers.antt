-- `enter_leaps::enters::first` meets its contract.
use Rattle.enter_leaps.specs.EnterLaps.{first_leaps}
use Rattle.landings.specs.LandsLaws.{lands_node}
use native.Mathlib.Numerals.{add-one}
use native.Mathlib.Omega.{arith}
use Rattle.enter_leaps.proofs.enters.first.Goals as goal

pub returns : goal.returns
returns c = λ ws hs g f D inv h low. rw (c.push.ensures, c.at_node.ensures, add-one) (lands_node (first_leaps g inv h low f) (omega arith))
