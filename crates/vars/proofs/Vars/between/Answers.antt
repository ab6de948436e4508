-- Each round sets one more variable, and the last round sets the last.
use Rattle.std.proofs.Common.{arith, ◌+◌}
use Rattle.vars.specs.Vars.{below_end, below_on, below_start}
use Rattle.vars.proofs.Vars.between.Goals as goal

pub loop-i-init : goal.loop-i-init
loop-i-init c = record { ends = omega arith; set = cc (below_start c.args.from) }

pub loop-i-preserved : goal.loop-i-preserved
loop-i-preserved c = record { ends = omega arith; set = cc (below_on c.args.from c.loop-i.i (omega arith)) }

pub returns : goal.returns
returns c = cc (below_end c.args.from c.args.to c.loop-i.i (omega arith) c.loop-i.invariant.ends)

pub returns-2 : goal.returns-2
returns-2 c =
    cc
    (below_on c.args.from c.loop-i.i (omega arith), below_end c.args.from c.args.to (c.loop-i.i + 1) (omega arith) (omega arith))
