-- `memo::learn_method` meets its contract.
use Rattle.memo.specs.MemoLaws.{class_small, keeps_method, node_small}
use Rattle.redexes.specs.RedexLaws.{object_class}
use Rattle.room.specs.Nodes.{call_name}
use mathlib.Core.Path.{◌∙◌, sym}
use native.Mathlib.Omega.{arith}
use Rattle.memo.proofs.learn_method.Goals as goal

pub look_up-requires : goal.look_up-requires
look_up-requires c = let n = c.requires.1 in let h = c.args.image.now.good.nodes _ n.0 in let w = (rw c.in-Some.is at c.receiver_class.ensures.0) in (object_class _ _ _ c.args.image.now.good c.requires.0 _ _ w.1, omega (arith, c.node_word-name.ensures, call_name _ _ h n.1))

pub keep-requires : goal.keep-requires
keep-requires c = let n = c.requires.1 in let w = (rw c.in-Some.is at c.receiver_class.ensures.0) in let s = rw c.in-Some-look_up.is at c.look_up.ensures in (c.requires.3.size, node_small _ _ c.args.image.now.good _ n.0, class_small _ _ c.args.image.now.good _ c.requires.0 _ _ w.1, omega (arith, s.within, c.args.image.now.good.lay.method_count_lem, c.args.image.now.good.small.methods))

pub returns-then-method_word-node_word : goal.returns-then-method_word-node_word
returns-then-method_word-node_word c = let s = rw c.in-Some-look_up.is at c.look_up.ensures in c.keep.ensures _ c.requires.3 (keeps_method _ _ _ c.requires.1 _ _ _ c.node_word-name.ensures s (sym c.method_word.ensures ∙ c.if-method_word-node_word.true ∙ c.node_word.ensures))
