-- `paused::is_fresh` meets its contract.
use mathlib.Core.Path.{◌∙◌}
use Rattle.paused.specs.EveryLaws.{list_blank, fresh_all, fresh_not}
use Rattle.paused.proofs.is_fresh.Goals as goal

pub returns-then-r : goal.returns-then-r
returns-then-r c = c.zeros.ensures ∙ list_blank _ ∙ fresh_all _ _ c.if-r.true

pub returns-else-r : goal.returns-else-r
returns-else-r c = fresh_not _ _ c.if-r.false
