-- `memo::learn_try` meets its contract.
use Rattle.memo.specs.MemoLaws.{class_small, keeps_catch, keeps_pass, node_small}
use Rattle.redexes.specs.RedexLaws.{object_class}
use mathlib.Core.Path.{◌∙◌, sym}
use native.Mathlib.Omega.{arith}
use Rattle.memo.proofs.learn_try.Goals as goal

pub is_subclass-requires : goal.is_subclass-requires
is_subclass-requires c = (object_class _ _ _ c.args.image.now.good c.requires.0 _ _ (sym c.class_at.ensures.0 ∙ c.in-Some.is))

pub keep-requires : goal.keep-requires
keep-requires c = (c.requires.3.size, node_small _ _ c.args.image.now.good _ c.requires.1.0, class_small _ _ c.args.image.now.good _ c.requires.0 _ _ (sym c.class_at.ensures.0 ∙ c.in-Some.is), omega arith)

pub keep-requires-else-is_subclass : goal.keep-requires-else-is_subclass
keep-requires-else-is_subclass c = (c.requires.3.size, node_small _ _ c.args.image.now.good _ c.requires.1.0, class_small _ _ c.args.image.now.good _ c.requires.0 _ _ (sym c.class_at.ensures.0 ∙ c.in-Some.is), omega arith)

pub returns-then-is_subclass : goal.returns-then-is_subclass
returns-then-is_subclass c = c.keep.ensures _ c.requires.3 (keeps_catch _ _ _ c.requires.1 _ c.node_word-c.ensures (sym c.is_subclass.ensures ∙ c.if-is_subclass.true))

pub returns-else-is_subclass : goal.returns-else-is_subclass
returns-else-is_subclass c = c.keep-else-is_subclass.ensures _ c.requires.3 (keeps_pass _ _ _ c.requires.1 _ c.node_word-c.ensures (sym c.is_subclass.ensures ∙ c.if-is_subclass.false))
