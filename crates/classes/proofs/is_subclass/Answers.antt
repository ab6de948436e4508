-- The invariant: whether the class reached is a subclass of d is whether c is.
use Rattle.classes.specs.Types.{subclass_end, subclass_step, super_below}
use borrow.Author.Rules.{rules}
use mathlib.Core.Path.{◌∙◌, refl}
use native.Mathlib.Omega.{arith}
use Rattle.classes.proofs.is_subclass.Goals as goal

pub loop-at-init : goal.loop-at-init
loop-at-init c = (search rules, refl)

pub loop-at-smaller : goal.loop-at-smaller
loop-at-smaller c =
    let i = c.loop-at.invariant in rw c.class_word-at.ensures (super_below _ _ c.args.image.now.good _ i.0 (omega arith))

pub loop-at-preserved : goal.loop-at-preserved
loop-at-preserved c =
    let i = c.loop-at.invariant in
    let b = super_below _ _ c.args.image.now.good _ i.0 (omega arith) in
    rw c.class_word-at.ensures (omega arith, subclass_step _ _ c.args.image.now.good _ _ i.0 c.loop-at-test.true ∙ i.1)

pub returns : goal.returns
returns c = subclass_end _ _ c.args.image.now.good _ _ (omega arith) ∙ c.loop-at.invariant.1
