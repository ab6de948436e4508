-- `back_leaps::backs::first` meets its contract.
use Rattle.back_leaps.specs.BackLaps.{begun_small, first_lands}
use lib.ListN.{length-set}
use native.Mathlib.Numerals.{add-one}
use native.Mathlib.Omega.{arith}
use Rattle.back_leaps.proofs.backs.first.Goals as goal

pub overflow_add-room : goal.overflow_add-room
overflow_add-room c = omega (arith, begun_small _ c.requires.0)

pub bounds-room-at-2 : goal.bounds-room-at-2
bounds-room-at-2 c = rw length-set (omega (arith, c.requires.2))

pub returns : goal.returns
returns c = λ ws D hs k. rw (c.at_node.ensures, add-one) (first_lands ws D hs _ _ _ _ _ c.requires.0 k)
