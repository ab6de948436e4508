-- `memo::learn_field` meets its contract.
use Rattle.classes.specs.Types.{low}
use Rattle.memo.specs.MemoLaws.{class_small, field_class, field_name, keeps_field, node_small}
use Rattle.objects.specs.SpotLaws.{index_few}
use Rattle.redexes.specs.RedexLaws.{object_class}
use mathlib.Core.Path.{◌∙◌, sym}
use native.Mathlib.Omega.{arith}
use Rattle.memo.proofs.learn_field.Goals as goal

pub is_subclass-requires : goal.is_subclass-requires
is_subclass-requires c = let w = (rw c.in-Some.is at c.receiver_class.ensures.0) in (object_class _ _ _ c.args.table.now.image.good c.requires.0 _ _ w.1)

pub field_index-requires : goal.field_index-requires
field_index-requires c = let n = c.requires.1 in let h = c.args.table.now.image.good.nodes _ n.0 in (omega (arith, c.node_word-d.ensures, field_class _ _ h n, c.args.table.now.image.good.lay.class_count_lem), omega (arith, c.node_word-name.ensures, field_name _ _ h n))

pub overflow_add-i : goal.overflow_add-i
overflow_add-i c = let n = c.requires.1 in let h = c.args.table.now.image.good.nodes _ n.0 in let f = index_few c.requires.0 _ _ _ (omega (arith, c.node_word-d.ensures, field_class _ _ h n)) (rw c.in-Some-field_index.is at c.field_index.ensures) in omega arith

pub keep-requires : goal.keep-requires
keep-requires c = let n = c.requires.1 in let h = c.args.table.now.image.good.nodes _ n.0 in let w = (rw c.in-Some.is at c.receiver_class.ensures.0) in let f = index_few c.requires.0 _ _ _ (omega (arith, c.node_word-d.ensures, field_class _ _ h n)) (rw c.in-Some-field_index.is at c.field_index.ensures) in (c.requires.3.size, node_small _ _ c.args.table.now.image.good _ n.0, class_small _ _ c.args.table.now.image.good _ c.requires.0 _ _ w.1, omega arith)

pub returns : goal.returns
returns c = c.keep.ensures _ c.requires.3 (keeps_field _ _ _ c.requires.1 (low _ _ c.args.table.now.image.good) _ _ _ c.node_word-name.ensures c.node_word-d.ensures (rw c.in-Some-field_index.is at c.field_index.ensures) (sym c.is_subclass.ensures ∙ c.if-not-is_subclass.false))
