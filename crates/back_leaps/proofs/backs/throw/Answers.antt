-- `back_leaps::backs::throw` meets its contract.
use Rattle.back_leaps.specs.BackLaps.{throw_lands}
use Rattle.back_leaps.proofs.backs.throw.Goals as goal

pub returns : goal.returns
returns c = λ ws room D hs k. rw c.at_thrown.ensures (throw_lands ws D hs room _ _ _ k _ (rw c.in-Gives.is at c.throw_redex.ensures))
