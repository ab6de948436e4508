-- 10, 14 and 15 make the words a heap's.
use Rattle.conform.specs.Laws.{heap_words}
use Rattle.rows.specs.RowLaws.{fields_kept}
use mathlib.Core.Path.{◌∙◌, sym}
use Rattle.conform.proofs.data_answer.Goals as goal

pub invariant_of-heap : goal.invariant_of-heap
invariant_of-heap c =
    record {
      sound =
          heap_words _ _ (fields_kept c.args.table.now.rows.sizes) (sym c.heap_length_holds.ensures ∙ c.if-not-heap_length_holds.false) (sym c.heap_word_place.ensures ∙ c.in_default.is);
    }
