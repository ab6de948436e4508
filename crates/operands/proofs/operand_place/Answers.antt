-- Each operand passed fits before the one after it.
use Rattle.operands.specs.Laws.{before, operand_fits}
use Rattle.rules.specs.Trees.{operand}
use mathlib.Core.Path.{◌≡◌, refl}
use native.Mathlib.Numerals.{add-one}
use native.Mathlib.Omega.{arith}
use Rattle.operands.proofs.operand_place.Goals as goal

pub overflow_sub-at : goal.overflow_sub-at
overflow_sub-at c = omega (arith, before _ _ c.args.image.now.good _ c.requires.0 0 (omega (arith, c.requires.1)))

pub loop-init : goal.loop-init
unfolding operand
loop-init c = (refl, before _ _ c.args.image.now.good _ c.requires.0 0 (omega (arith, c.requires.1)))

pub overflow_sub-at-in-loop : goal.overflow_sub-at-in-loop
overflow_sub-at-in-loop c =
    let g = c.args.image.now.good in
    let f = operand_fits _ _ (g.nodes c.args.n (rw (← g.lay.node_count_lem) c.requires.0)) c.loop.counter (omega (arith, c.requires.1)) in
    omega (arith, rw (← c.loop.invariant.0, ← c.node_word.ensures) at f)

pub loop-preserved : goal.loop-preserved
unfolding operand
loop-preserved c = (rw (add-one c.loop.counter, ← c.loop.invariant.0, ← c.node_word.ensures), omega (arith, c.loop.invariant.1))

pub returns : goal.returns
returns c = let e : c.loop.counter ≡ c.args.j = omega arith in rw (← e) c.loop.invariant
