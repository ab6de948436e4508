-- A Block and a Try bind a variable for their last operand.
use Rattle.node_rules.specs.EnvLaws.{operand_var_other}
use Rattle.node_types.specs.Bound.{last_block, last_none, last_try}
use mathlib.Core.Path.{refl}
use Rattle.node_types.proofs.operand_bound.Goals as goal

pub returns-then-j-ne0 : goal.returns-then-j-ne0
returns-then-j-ne0 c = operand_var_other _ _ _ c.if-j-ne0.true

pub returns-in-Block : goal.returns-in-Block
returns-in-Block c =
    let b = last_block _ _ c.args.image.now.good c.args.n c.requires (rw c.node_word.ensures at c.in-Block.ensures) in
    rw (c.if-j-ne0.false, c.type_of.ensures, c.node_word-x.ensures, c.node_word-y.ensures, ← b.variable) (refl, b.type, b.local)

pub returns-in-Try : goal.returns-in-Try
returns-in-Try c =
    let b = last_try _ _ c.args.image.now.good c.args.n c.requires (rw c.node_word.ensures at c.in-Try.ensures) in
    rw (c.if-j-ne0.false, c.node_word-x.ensures, c.node_word-y.ensures, ← b.variable) (refl, b.type, b.local)

pub returns-in_default : goal.returns-in_default
returns-in_default c =
    rw c.if-j-ne0.false
    (last_none c.args.image.now.words.now c.args.n (rw c.node_word.ensures at c.from.ensures) c.in_default.not-Block c.in_default.not-Try)
