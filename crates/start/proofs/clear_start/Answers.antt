-- `start::clear_start` meets its contract.
use Rattle.start.specs.StartLaws.{zeros_front}
use Rattle.start.proofs.clear_start.Goals as goal

pub returns : goal.returns
returns c = zeros_front _ 65 c.requires (c.fill.ensures.after (λ y h. h))
