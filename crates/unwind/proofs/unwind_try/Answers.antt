-- `unwind::unwind_try` meets its contract.
use Prim.Native.Nat.{◌*◌, ◌+◌, ◌^◌}
use Rattle.laws.specs.Tags.{address_word}
use Rattle.room.specs.Nodes.{try_local}
use Rattle.room.specs.Unwind.{catch_steps, halt_try, is_try, pass_try}
use Rattle.rules.specs.Trees.{operand}
use Rattle.unwind.specs.UnwindLaws.{try_after}
use mathlib.Core.Path.{refl}
use native.Mathlib.Numerals.{add-one}
use native.Mathlib.Omega.{arith}
use Rattle.unwind.proofs.unwind_try.Goals as goal

pub node_word-c-requires : goal.node_word-c-requires
node_word-c-requires c = (rw (c.requires.3, c.args.image.now.good.lay.node_count_lem) (is_try _ c.args.image.now.good.nodes _ _ _ _ _ _ c.requires.0 c.requires.1 c.requires.2).0, omega arith)

pub node_word-x-requires : goal.node_word-x-requires
node_word-x-requires c = (rw (c.requires.3, c.args.image.now.good.lay.node_count_lem) (is_try _ c.args.image.now.good.nodes _ _ _ _ _ _ c.requires.0 c.requires.1 c.requires.2).0, omega arith)

pub push_block-requires : goal.push_block-requires
push_block-requires c = let n = is_try _ c.args.image.now.good.nodes _ _ _ _ _ _ c.requires.0 c.requires.1 c.requires.2 in (omega (arith, c.requires.0.long, c.requires.0.level), rw (c.node_word-x.ensures, c.requires.3) (try_local _ _ (c.args.image.now.good.nodes _ n.0) n.1))

pub overflow_sub-result : goal.overflow_sub-result
overflow_sub-result c = let n = is_try _ c.args.image.now.good.nodes _ _ _ _ _ _ c.requires.0 c.requires.1 c.requires.2 in rw c.requires.3 (try_after _ _ (c.args.image.now.good.nodes _ n.0) n.1)

pub returns-in-Some-true : goal.returns-in-Some-true
unfolding operand
returns-in-Some-true c = let k = rw (c.in-Some-true.is, c.in-Some-true.field-0-test, c.node_word-c.ensures, c.requires.3) at c.catch_redex.ensures in λ may. (rw (c.push_block.ensures, c.node_word-x.ensures, c.node_word-c.ensures, c.requires.3, add-one c.args.i, add-one (4 * 2 ^ 32 + c.args.a)) (catch_steps _ c.args.image.now.good.nodes _ _ _ _ _ _ c.requires.0 c.requires.1 c.requires.2 _ (address_word _ c.requires.0.here).1 (address_word _ c.requires.0.here).0 (k _ _ _ _)), λ e. refl)

pub returns-in-Some-false : goal.returns-in-Some-false
returns-in-Some-false c = let k = rw (c.in-Some-false.is, c.in-Some-false.field-0-test, c.node_word-c.ensures, c.requires.3) at c.catch_redex.ensures in λ may. (rw c.requires.3 (pass_try _ c.args.image.now.good.nodes _ _ _ _ _ _ c.requires.0 c.requires.1 c.requires.2 (k _ _ _ _)), λ e. refl)

pub returns-in-None : goal.returns-in-None
returns-in-None c = let k = rw (c.in-None.is, c.node_word-c.ensures, c.requires.3) at c.catch_redex.ensures in λ may. (rw c.requires.3 (halt_try _ c.args.image.now.good.nodes _ _ _ _ _ _ c.requires.0 c.requires.1 c.requires.2 (k _ _ _ _)), refl)
