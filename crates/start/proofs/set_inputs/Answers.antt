-- `start::set_inputs` meets its contract.
use Rattle.laws.specs.Tags.{word_low}
use Rattle.start.specs.StartLaws.{filled_on, filled_start, filled_whole}
use borrow.Author.Rules.{rules}
use lib.ListN.{length-set}
use mathlib.Core.Path.{refl}
use native.Mathlib.Omega.{arith}
use Rattle.start.proofs.set_inputs.Goals as goal

pub loop-i-init : goal.loop-i-init
loop-i-init c = (filled_start c.requires.1 (omega arith), refl, omega arith)

pub overflow_add-room : goal.overflow_add-room
overflow_add-room c = omega (arith, word_low _ (c.requires.3 c.loop-i.i (search rules)))

pub loop-i-preserved : goal.loop-i-preserved
loop-i-preserved c = (filled_on c.loop-i.invariant.0 (search rules), simp length-set c.loop-i.invariant.1, omega arith)

pub returns : goal.returns
returns c = (filled_whole c.loop-i.invariant.0 c.loop-i.invariant.2 (search rules), c.loop-i.invariant.1)
