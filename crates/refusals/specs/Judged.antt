-- What stands against a run, when layout and fields are in order.
use Rattle.std.specs.Prelude.{◌≡◌, true, List, [], ◌∷◌, ℕ, ◌≤◌, length}
use Rattle.order.specs.Rules.{Rule, accepted, answer_of, first_place}
use Rattle.std.specs.declared.option.Option.TheVariants.{None}
use Rattle.rules.specs.Numbers.{most_depth, room_words, heap_length_holds, heap_length_rule, heap_word_rule, input_rule, depth_rule, room_rule}
use Rattle.std.specs.declared.result.Result.{Result}
use Rattle.std.specs.declared.result.Result.TheVariants.{Ok, Err}
use Rattle.refusals.specs.declared.Refusal.{Refusal}
use Rattle.refusals.specs.Refusals.{refusal_numbers}

-- the rules that are asked then
unfoldable pub lent_rules : (ws hs is : List ℕ) → (room depth : ℕ) → List Rule
lent_rules ws hs is room depth =
    heap_length_rule hs ∷ heap_word_rule ws hs ∷ input_rule ws is ∷ depth_rule depth ∷ room_rule depth room ∷ []

-- nothing stands against it
pub record Free (ws hs is : List ℕ) (room depth : ℕ) : Type 0 where
  pub answer : answer_of (lent_rules ws hs is room depth) ≡ accepted
  pub heap_length : heap_length_holds (length hs) ≡ true
  pub heap_words : first_place (heap_word_rule ws hs) ≡ None
  pub inputs : first_place (input_rule ws is) ≡ None
  pub depth_low : depth ≤ most_depth
  pub enough : room_words depth ≤ room

abbrev pub Judges : (ws hs is : List ℕ) → (room depth : ℕ) → Result Unit Refusal → Type 0
Judges ws hs is room depth (Err f) = refusal_numbers f ≡ answer_of (lent_rules ws hs is room depth)
Judges ws hs is room depth (Ok u) = Free ws hs is room depth
