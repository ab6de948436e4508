-- `calls::push_blocks` meets its contract.
use Rattle.calls.specs.CallLaws.{arguments_in, pushed_as, pushed_first, pushed_low, pushed_next, pushed_size}
use Rattle.laws.specs.Tags.{word_low}
use native.Mathlib.Omega.{arith}
use Rattle.calls.proofs.push_blocks.Goals as goal

pub overflow_add-receiver-2 : goal.overflow_add-receiver-2
overflow_add-receiver-2 c = omega (arith, word_low _ (c.requires.values 0 (omega arith)))

pub type_word-t-requires : goal.type_word-t-requires
type_word-t-requires c = let a = arguments_in c.args.image.now.good c.requires in (rw (c.method_word-first.ensures, c.args.image.now.good.lay.type_count_lem) (omega (arith, a.within)))

pub overflow_add-w-in-loop-k-2 : goal.overflow_add-w-in-loop-k-2
overflow_add-w-in-loop-k-2 c = let a = arguments_in c.args.image.now.good c.requires in let s = c.loop-k.invariant.1 _ c.requires (rw (c.push_block.ensures, c.method_word-owner.ensures) (pushed_first c.args.image.now.good c.requires _)) in omega (arith, pushed_low c.args.image.now.good c.requires _ s (omega arith))

pub push_block-requires-in-loop-k : goal.push_block-requires-in-loop-k
push_block-requires-in-loop-k c = let a = arguments_in c.args.image.now.good c.requires in let s = c.loop-k.invariant.1 _ c.requires (rw (c.push_block.ensures, c.method_word-owner.ensures) (pushed_first c.args.image.now.good c.requires _)) in (omega (arith, a.few, c.requires.long, pushed_size c.args.image.now.good c.requires s), omega (arith, a.few))

pub loop-k-preserved : goal.loop-k-preserved
loop-k-preserved c = let a = arguments_in c.args.image.now.good c.requires in let s = c.loop-k.invariant.1 _ c.requires (rw (c.push_block.ensures, c.method_word-owner.ensures) (pushed_first c.args.image.now.good c.requires _)) in (omega arith, λ old k s. rw (c.push_block-in-loop-k.ensures, c.type_word-t.ensures, c.method_word-first.ensures) (pushed_next c.args.image.now.good k _ _ _ (c.loop-k.invariant.1 old k s) (omega arith)))

pub returns : goal.returns
returns c = let a = arguments_in c.args.image.now.good c.requires in let s = c.loop-k.invariant.1 _ c.requires (rw (c.push_block.ensures, c.method_word-owner.ensures) (pushed_first c.args.image.now.good c.requires _)) in pushed_as c.args.image.now.good c.requires c.loop-k.k c.args.y (omega arith) s
