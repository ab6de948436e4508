use native.Mathlib.Omega.{arith}
use Rattle.machine.specs.LedLaws.{blank_memo, reaches_run}
use borrow.Author.Rules.{rules}
use Rattle.machine.proofs.run_on.Goals as goal

pub strides-r-requires : goal.strides-r-requires
strides-r-requires c = (c.requires.0, c.requires.1, blank_memo _)

pub run_with-requires : goal.run_with-requires
run_with-requires c = let a = c.strides-r.ensures in (a.leads.inv, a.leads.heap, blank_memo _, omega (arith, a.low))

pub returns : goal.returns
returns c = (rw (reaches_run _ _ c.strides-r.ensures) c.run_with.ensures.0, search rules)
