use Rattle.strides.specs.ReachLaws.{onward_start}
use Rattle.strides.proofs.returned.Goals as goal

pub backs-requires : goal.backs-requires
backs-requires c = (rw c.in-Value.is at c.requires.0, c.requires.1, c.requires.2, rw c.in-Value.is at c.requires.3)

pub returns-in-Value : goal.returns-in-Value
returns-in-Value c = rw c.in-Value.is c.backs.ensures

pub returns-in_default : goal.returns-in_default
returns-in_default c = let o = onward_start _ _ _ c.requires.0 c.requires.1 in rw c.at.ensures (record { low = o.low; leads = o.leads })
