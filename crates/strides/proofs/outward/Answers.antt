use Rattle.strides.specs.ReachLaws.{reaches_on}
use Rattle.strides.proofs.outward.Goals as goal

pub unwinds-requires : goal.unwinds-requires
unwinds-requires c = let b = c.returned-r.ensures in (rw c.in-Thrown.is at b.leads.inv, b.leads.heap, c.requires.2)

pub returns-in-Thrown : goal.returns-in-Thrown
returns-in-Thrown c = reaches_on _ _ c.returned-r.ensures (rw c.in-Thrown.is c.unwinds.ensures)
