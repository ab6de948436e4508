-- What is left to search lies between lo and hi.
use Rattle.classes.specs.Search.{lower, missed, upper, whole}
use mathlib.Core.Path.{◌∙◌, sym}
use native.Mathlib.Omega.{arith}
use Rattle.classes.proofs.find.Goals as goal

pub loop-lo-init : goal.loop-lo-init
loop-lo-init g c = whole _ _ _

pub loop-lo-preserved-then-k-wanted-2 : goal.loop-lo-preserved-then-k-wanted-2
loop-lo-preserved-then-k-wanted-2 g c =
    upper c.requires.1 c.loop-lo.invariant _ (omega arith) (rw c.key-k.ensures at c.if-k-wanted-2.true)

pub loop-lo-preserved : goal.loop-lo-preserved
loop-lo-preserved g c =
    lower c.requires.1 c.loop-lo.invariant _ (omega arith) (omega arith) (let e = c.key-k.ensures in omega arith)

pub returns-then-k-wanted : goal.returns-then-k-wanted
returns-then-k-wanted g c = (omega (arith, c.loop-lo.invariant.within), sym c.key-k.ensures ∙ c.if-k-wanted.true)

pub returns : goal.returns
returns g c = missed c.loop-lo.invariant c.loop-lo-test.false
