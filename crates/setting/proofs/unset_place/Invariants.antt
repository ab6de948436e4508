-- The invariant: each body before method i's passes.
use Rattle.setting.specs.Unset.{Held}
use Rattle.setting.proofs.unset_place.Given as goal

abbrev pub invariant-loop-i : goal.invariant-loop-i
invariant-loop-i l = Held l.image l.i
