-- `muthaveri::muthaveri_conform` meets its contract.
use Rattle.muthaveri.specs.Answers.{of_answer}
use mathlib.Core.Path.{◌∙◌, ap}
use Rattle.muthaveri.proofs.muthaveri_conform.Goals as goal

pub returns : goal.returns
returns c = c.from.ensures ∙ ap of_answer c.conformity.ensures
