-- `quick::shallow` meets its contract.
use Rattle.quick.specs.KnownLaws.{known_deeper}
use native.Mathlib.Omega.{arith}
use Rattle.quick.proofs.shallow.Goals as goal

pub returns-then-kind : goal.returns-then-kind
returns-then-kind c = c.pair_at.ensures _

pub returns-then-kind-eq-GET : goal.returns-then-kind-eq-GET
returns-then-kind-eq-GET c = c.get_at.ensures

pub returns : goal.returns
returns c = let p = c.requires in known_deeper _ p.0.holds _ _ _ 0 1 _ (omega arith) (c.leaf.ensures _)
