-- `enter_leaps::enters::repeat` meets its contract.
use Rattle.enter_leaps.specs.EnterLaps.{again_lands, over_lands, while_leaps}
use Rattle.landings.specs.LandsLaws.{lands_node}
use native.Mathlib.Numerals.{add-one}
use native.Mathlib.Omega.{arith}
use Rattle.enter_leaps.proofs.enters.repeat.Goals as goal

pub returns-in-Some : goal.returns-in-Some
returns-in-Some c = λ ws hs g e m k D inv h low. rw (c.push.ensures, c.at_node.ensures, add-one) (again_lands g inv h low e (rw (c.in-Some.is, m) at k) c.if-v-eq-TRUE.true)

pub returns-in-Some-2 : goal.returns-in-Some-2
returns-in-Some-2 c = λ ws hs g e m k D inv h low. rw c.at_value.ensures (over_lands g inv h low e (rw (c.in-Some-2.is, m) at k) c.if-v-eq-FALSE.true)

pub returns-in_default : goal.returns-in_default
returns-in_default c = λ ws hs g e m k D inv h low. rw (c.push-in_default.ensures, c.at_node-in_default.ensures, add-one, m) (lands_node (while_leaps g inv h low e) (omega arith))
