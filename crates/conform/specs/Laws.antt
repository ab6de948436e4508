-- Laws: how the rules of the question follow each other.
use Rattle.std.specs.Prelude.{◌≡◌, true, false, List, ℕ, length}
use Rattle.std.specs.declared.option.Option.TheVariants.{Some, None}
use Rattle.order.specs.Rules.{scan, first_place, accepted, answer_of}
use Rattle.order.specs.Lowest.{held, after_broken, after_sound}
use Rattle.image.specs.Trailer.{class_count}
use Rattle.image.specs.declared.Breach.{Breach}
use Rattle.image.specs.Layout.{breach_numbers, tested, layout_rules}
use Rattle.layout.specs.Promise.{breach_told, layout_rising}
use Rattle.rules.specs.Program.{program}
use Rattle.rules.specs.Numbers.{heap_length_holds, heap_length_rule, heap_word_rule, fields_rule, conform_rules}
use Rattle.laws.specs.Heap.{Words, words}
use Rattle.conform.specs.Answers.{data_rules, loaded_rules}

module _ (ws hs is : List ℕ) where
  pub layout_broken : (b : Breach) → breach_numbers b ≡ answer_of (layout_rules ws) → breach_numbers b ≡ answer_of (conform_rules ws hs is)
  unfolding conform_rules
  layout_broken b e = after_broken (layout_rules ws) _ (breach_numbers b) e (breach_told b)

  pub layout_sound : accepted ≡ answer_of (layout_rules ws) → answer_of (loaded_rules ws hs is) ≡ answer_of (conform_rules ws hs is)
  unfolding conform_rules loaded_rules data_rules
  layout_sound e = after_sound 0 (layout_rules ws) _ (layout_rising ws) e

-- the one test of number 14
module _ (hs : List ℕ) where
  pub length_broken : heap_length_holds (length hs) ≡ false → first_place (heap_length_rule hs) ≡ Some 0
  unfolding first_place scan heap_length_rule tested
  length_broken e = rw e

  pub length_passed : heap_length_holds (length hs) ≡ true → first_place (heap_length_rule hs) ≡ None
  unfolding first_place scan heap_length_rule tested
  length_passed e = rw e

-- 10, 14 and 15 make the words a heap's
pub heap_words : (ws hs : List ℕ) → first_place (fields_rule ws) ≡ None → heap_length_holds (length hs) ≡ true
    → first_place (heap_word_rule ws hs) ≡ None → Words (program ws) (class_count ws) hs
unfolding fields_rule heap_word_rule
heap_words ws hs few long hold = words ws hs (held (fields_rule ws) few) long (held (heap_word_rule ws hs) hold)
