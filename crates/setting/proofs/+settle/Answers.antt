-- Each function hands back what its operands found: at a `?` the first place, and else the set that its shape makes of theirs.
use Rattle.image.specs.Nodes.{kind_of, node_word}
use Rattle.rules.specs.Typing.{◌>>=◌}
use Rattle.setting.specs.Settle.{Plain, handed, after_plain, below, give_back, in_block, in_if, in_try, in_while, list_end, list_next, meet_both, then_own}
use Rattle.vars.specs.Vars.{vars_of}
use mathlib.Core.Path.{◌∙◌, ◌≡◌}
use native.Mathlib.Omega.{arith}
use Rattle.setting.proofs.+settle.Goals as goal

pub settle-returns-in_err-set-in_default : goal.settle-returns-in_err-set-in_default
unfolding then_own ◌>>=◌
settle-returns-in_err-set-in_default t c =
    let k : Plain (kind_of (node_word c.args.image.now.words.now c.args.n 0)) = rw (← c.node_word.ensures, ← c.from-k.ensures) (record { block = c.in_default.not-Block; ite = c.in_default.not-If; while = c.in_default.not-While; try = c.in_default.not-Try }) in
    let s = rw (c.operand_count.ensures, c.from-k.ensures, c.node_word.ensures, c.node_word-y.ensures) at c.in_err-set-in_default.ensures in
    let a = rw (← s) at (after_plain c.args.image.now c.args.n c.requires (vars_of c.args.vars) k) in
    handed _ _ c.from_residual.ensures.1 ∙ a

pub settle-returns-in_ok-set-in_default : goal.settle-returns-in_ok-set-in_default
unfolding then_own ◌>>=◌
settle-returns-in_ok-set-in_default t c =
    let k : Plain (kind_of (node_word c.args.image.now.words.now c.args.n 0)) = rw (← c.node_word.ensures, ← c.from-k.ensures) (record { block = c.in_default.not-Block; ite = c.in_default.not-If; while = c.in_default.not-While; try = c.in_default.not-Try }) in
    let s = rw (c.operand_count.ensures, c.from-k.ensures, c.node_word.ensures, c.node_word-y.ensures) at c.in_ok-set-in_default.ensures in
    let a = rw (← s) at (after_plain c.args.image.now c.args.n c.requires (vars_of c.args.vars) k) in
    c.own.ensures ∙ rw (c.from-k.ensures, c.node_word.ensures, c.node_word-x.ensures) a

pub settle_block-returns-in_err-e : goal.settle_block-returns-in_err-e
unfolding in_block give_back ◌>>=◌
settle_block-returns-in_err-e t c = handed _ _ c.from_residual.ensures.1 ∙ rw (← c.without.ensures, ← c.in_err-e.ensures)

pub settle_block-returns : goal.settle_block-returns
unfolding in_block give_back ◌>>=◌
settle_block-returns t c = rw (← c.without.ensures, ← c.in_ok-e.ensures, c.put.ensures, c.has.ensures)

pub settle_if-returns-in_err-c : goal.settle_if-returns-in_err-c
unfolding in_if meet_both ◌>>=◌
settle_if-returns-in_err-c t c = handed _ _ c.from_residual.ensures.1 ∙ rw (← c.in_err-c.ensures)

pub settle_if-returns-in_err-a : goal.settle_if-returns-in_err-a
unfolding in_if meet_both ◌>>=◌
settle_if-returns-in_err-a t c = handed _ _ c.from_residual-in_err-a.ensures.1 ∙ rw (← c.in_ok-c.ensures, ← c.in_err-a.ensures)

pub settle_if-returns-in_err-b : goal.settle_if-returns-in_err-b
unfolding in_if meet_both ◌>>=◌
settle_if-returns-in_err-b t c = handed _ _ c.from_residual-in_err-b.ensures.1 ∙ rw (← c.in_ok-c.ensures, ← c.in_ok-a.ensures, ← c.in_err-b.ensures)

pub settle_if-returns : goal.settle_if-returns
unfolding in_if meet_both ◌>>=◌
settle_if-returns t c = rw (← c.in_ok-c.ensures, ← c.in_ok-a.ensures, ← c.in_ok-b.ensures, c.meet.ensures)

pub settle_try-returns-in_err-a : goal.settle_try-returns-in_err-a
unfolding in_try meet_both give_back ◌>>=◌
settle_try-returns-in_err-a t c = handed _ _ c.from_residual.ensures.1 ∙ rw (← c.in_err-a.ensures)

pub settle_try-returns-in_err-b : goal.settle_try-returns-in_err-b
unfolding in_try meet_both give_back ◌>>=◌
settle_try-returns-in_err-b t c = handed _ _ c.from_residual-in_err-b.ensures.1 ∙ rw (← c.with.ensures, ← c.in_ok-a.ensures, ← c.in_err-b.ensures)

pub settle_try-returns : goal.settle_try-returns
unfolding in_try meet_both give_back ◌>>=◌
settle_try-returns t c = rw (← c.with.ensures, ← c.in_ok-a.ensures, ← c.in_ok-b.ensures, c.meet.ensures, c.put.ensures, c.has.ensures)

pub settle_while-returns-in_err-c : goal.settle_while-returns-in_err-c
unfolding in_while ◌>>=◌
settle_while-returns-in_err-c t c = handed _ _ c.from_residual.ensures.1 ∙ rw (← c.in_err-c.ensures)

pub settle_while-returns-in_err-settle_one : goal.settle_while-returns-in_err-settle_one
unfolding in_while ◌>>=◌
settle_while-returns-in_err-settle_one t c = handed _ _ c.from_residual-in_err-settle_one.ensures.1 ∙ rw (← c.in_ok-c.ensures, ← c.in_err-settle_one.ensures)

pub settle_while-returns : goal.settle_while-returns
unfolding in_while ◌>>=◌
settle_while-returns t c = rw (← c.in_ok-c.ensures, ← c.in_ok-settle_one.ensures)

pub settle_list-returns-in_err-set : goal.settle_list-returns-in_err-set
unfolding ◌>>=◌
settle_list-returns-in_err-set t c =
    handed _ _ c.from_residual.ensures.1 ∙ rw (list_next (below c.args.image.now.words.now c.args.n) (vars_of c.loop-i.set) c.loop-i.i (omega arith), ← c.in_err-set.ensures) at c.loop-i.invariant

pub settle_list-loop-i-preserved : goal.settle_list-loop-i-preserved
unfolding ◌>>=◌
settle_list-loop-i-preserved t c = rw (list_next (below c.args.image.now.words.now c.args.n) (vars_of c.loop-i.set) c.loop-i.i (omega arith), ← c.in_ok-set.ensures) at c.loop-i.invariant

pub settle_list-returns : goal.settle_list-returns
settle_list-returns t c =
    let e : c.loop-i.i ≡ 0 = omega arith in
    list_end _ _ ∙ rw e at c.loop-i.invariant
