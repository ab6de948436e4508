-- Going back, the records of the class are counted until another class stands there.
use Rattle.rows.specs.IndexLaws.{rank_first, rank_other}
use Prim.Native.Nat.{◌-◌}
use mathlib.Core.Path.{◌≡◌, ◌∙◌}
use native.Mathlib.Omega.{arith}
use Rattle.rows.proofs.own_rank.Goals as goal

pub returns-then-field_word-d : goal.returns-then-field_word-d
returns-then-field_word-d c =
    let z : c.args.i - (c.loop-k.k - 1) - 1 ≡ c.args.i - c.loop-k.k = omega (arith, c.loop-k.invariant.within) in
    let h = c.requires.0 in
    rw z (rank_other _ _ c.args.image.now.good c.loop-k.invariant (omega (arith, c.args.image.now.good.lay.field_count_lem)) c.requires.1 c.loop-k-test.true (λ e. c.if-field_word-d.true (c.field_word.ensures ∙ e)))

pub returns : goal.returns
returns c = rank_first _ _ c.args.image.now.good c.loop-k.invariant (omega arith)
