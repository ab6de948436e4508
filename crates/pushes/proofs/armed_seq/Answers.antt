-- `pushes::armed_seq` meets its contract.
use Rattle.pushes.specs.ArmedLaws.{armed_seq_top}
use mathlib.Core.Path.{◌∙◌}
use Rattle.pushes.proofs.armed_seq.Goals as goal

pub returns-then-tag : goal.returns-then-tag
returns-then-tag c = λ ws. c.armed.ensures ws ∙ armed_seq_top ws _ _ _ c.if-l-eq0.false c.if-tag.true
