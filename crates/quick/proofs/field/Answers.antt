-- `quick::field` meets its contract.
use Rattle.quick.specs.KnownLaws.{field_at}
use mathlib.Core.Logic.{inl}
use Rattle.quick.proofs.field.Goals as goal

pub returns : goal.returns
returns c = let p = c.requires in field_at _ _ _ _ _ _ c.in_ok-v.was (rw c.in_ok-j.was at (c.spot.ensures _ p.3 p.2 (p.0.0, inl p.0.1)))
