-- The answers of the conformity check: the number and place of each.
use Rattle.std.specs.Prelude.{List, [], ◌∷◌, ℕ}
use Rattle.order.specs.Rules.{Rule, accepted}
use Rattle.order.specs.declared.Answer.{Answer}
use Rattle.image.specs.Layout.{breach_numbers}
use Rattle.rules.specs.Numbers.{fields_rule, heap_length_rule, heap_word_rule, input_rule, heap_rule, input_type_rule}
use Rattle.std.specs.declared.result.Result.{Result}
use Rattle.std.specs.declared.result.Result.TheVariants.{Ok, Err}
use Rattle.conform.specs.declared.Unfit.{Unfit}
use Rattle.conform.specs.declared.Unfit.TheVariants.{Layout, Fields, HeapLength, HeapWord, Input, HeapValue, InputValue}

abbrev pub unfit_numbers : Unfit → Answer
unfit_numbers (Layout b) = breach_numbers b
unfit_numbers (Fields p) = record { number = 10; place = p }
unfit_numbers HeapLength = record { number = 14; place = 0 }
unfit_numbers (HeapWord p) = record { number = 15; place = p }
unfit_numbers (Input p) = record { number = 16; place = p }
unfit_numbers (HeapValue p) = record { number = 17; place = p }
unfit_numbers (InputValue p) = record { number = 18; place = p }

abbrev pub conformed_numbers : Result Unit Unfit → Answer
conformed_numbers (Ok u) = accepted
conformed_numbers (Err u) = unfit_numbers u

-- the rules that are asked of heap and inputs, in their order
unfoldable pub data_rules : (ws hs is : List ℕ) → List Rule
data_rules ws hs is =
    heap_length_rule hs ∷ heap_word_rule ws hs ∷ input_rule ws is ∷ heap_rule ws hs ∷ input_type_rule ws hs is ∷ []

-- and those that are asked of a laid out image
unfoldable pub loaded_rules : (ws hs is : List ℕ) → List Rule
loaded_rules ws hs is = fields_rule ws ∷ data_rules ws hs is
