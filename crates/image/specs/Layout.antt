-- The rules of the layout, numbers 1 to 9, and the number and place of each answer.
use Rattle.std.specs.Prelude.{◌≡◌, Bool, true, List, [], ◌∷◌, ℕ, suc, ◌+◌, ◌*◌, ◌≤◌, ◌<◌, length, get_or}
use Rattle.order.specs.Rules.{Rule, accepted}
use Rattle.order.specs.declared.Answer.{Answer}
use Rattle.image.specs.declared.Breach.{Breach}
use Rattle.image.specs.declared.Breach.TheVariants.{Format, Trailer, Ceiling, ClassRecord, FieldRecord, MethodRecord, TypeWord, NodeRecord, Bodies}
use Rattle.std.specs.declared.result.Result.{Result}
use Rattle.std.specs.declared.result.Result.TheVariants.{Ok, Err}
use Rattle.image.specs.declared.Layout.{Layout}
use Rattle.image.specs.Numbers.{trailer_words, most_classes, most_fields, most_methods, most_type_words, most_nodes, most_inputs}
use Rattle.image.specs.Trailer.{trailer, class_count, field_count, method_count, type_count, node_count, main_node, input_count, format_holds, trailer_tests, ceiling_tests}
use Rattle.image.specs.Records.{class_holds, field_holds, method_holds, type_holds}
use Rattle.image.specs.Nodes.{node_holds, filled_holds}

-- a rule that is one test for each of a few places
unfoldable pub tested : ℕ → List Bool → Rule
tested n tests = record { number = n; places = length tests; holds = λ p. get_or tests p true }

unfoldable pub format_rule : List ℕ → Rule
format_rule ws = tested 1 (format_holds ws ∷ [])

unfoldable pub trailer_rule : List ℕ → Rule
trailer_rule ws = tested 2 (trailer_tests ws)

unfoldable pub ceiling_rule : List ℕ → Rule
ceiling_rule ws =
    tested 3 (ceiling_tests (class_count ws) (field_count ws) (method_count ws) (type_count ws) (node_count ws) (input_count ws))

unfoldable pub class_rule : List ℕ → Rule
class_rule ws = record { number = 4; places = suc (class_count ws); holds = class_holds ws }

unfoldable pub field_rule : List ℕ → Rule
field_rule ws = record { number = 5; places = field_count ws; holds = field_holds ws }

unfoldable pub method_rule : List ℕ → Rule
method_rule ws = record { number = 6; places = method_count ws; holds = method_holds ws }

unfoldable pub type_rule : List ℕ → Rule
type_rule ws = record { number = 7; places = type_count ws; holds = type_holds ws }

unfoldable pub node_rule : List ℕ → Rule
node_rule ws = record { number = 8; places = node_count ws; holds = node_holds ws }

unfoldable pub body_rule : List ℕ → Rule
body_rule ws = record { number = 9; places = suc (method_count ws); holds = filled_holds ws }

-- the rules of records, and all of the layout's, in the order in which they are asked
unfoldable pub record_rules : List ℕ → List Rule
record_rules ws = class_rule ws ∷ field_rule ws ∷ method_rule ws ∷ type_rule ws ∷ node_rule ws ∷ body_rule ws ∷ []

unfoldable pub layout_rules : List ℕ → List Rule
layout_rules ws = format_rule ws ∷ trailer_rule ws ∷ ceiling_rule ws ∷ record_rules ws

-- the paper's number and place for each breach
abbrev pub breach_numbers : Breach → Answer
breach_numbers Format = record { number = 1; place = 0 }
breach_numbers (Trailer p) = record { number = 2; place = p }
breach_numbers (Ceiling p) = record { number = 3; place = p }
breach_numbers (ClassRecord p) = record { number = 4; place = p }
breach_numbers (FieldRecord p) = record { number = 5; place = p }
breach_numbers (MethodRecord p) = record { number = 6; place = p }
breach_numbers (TypeWord p) = record { number = 7; place = p }
breach_numbers (NodeRecord p) = record { number = 8; place = p }
breach_numbers (Bodies p) = record { number = 9; place = p }

abbrev pub laid_numbers : Result Layout Breach → Answer
laid_numbers (Ok l) = accepted
laid_numbers (Err b) = breach_numbers b

-- Where the sections stand and how many records each has, as the trailer says. The sums follow from 1 and 2.
pub record Lay (ws : List ℕ) (l : Layout) : Type 0 where
  pub class_count_lem : l.class_count ≡ class_count ws
  pub field_count_lem : l.field_count ≡ field_count ws
  pub method_count_lem : l.method_count ≡ method_count ws
  pub type_count_lem : l.type_count ≡ type_count ws
  pub node_count_lem : l.node_count ≡ node_count ws
  pub main : l.main ≡ main_node ws
  pub inputs : l.inputs ≡ input_count ws
  pub classes_at : trailer ws 0 ≡ length ws
  pub fields_at : l.fields + trailer ws 1 ≡ length ws
  pub methods_at : l.methods + trailer ws 2 ≡ length ws
  pub types_at : l.types + trailer ws 3 ≡ length ws
  pub nodes_at : l.nodes + trailer ws 4 ≡ length ws
  pub fields : l.fields ≡ l.class_count
  pub methods : l.methods ≡ l.fields + 3 * l.field_count
  pub types : l.types ≡ l.methods + 6 * l.method_count
  pub nodes : l.nodes ≡ l.types + l.type_count
  pub whole : l.nodes + 4 * l.node_count + trailer_words ≡ length ws
  pub inputs_within : l.inputs ≤ l.type_count

-- no section is over its ceiling
pub record Small (l : Layout) : Type 0 where
  pub classes : l.class_count ≤ most_classes
  pub fields : l.field_count ≤ most_fields
  pub methods : l.method_count ≤ most_methods
  pub types : l.type_count ≤ most_type_words
  pub nodes : l.node_count ≤ most_nodes
  pub inputs : l.inputs ≤ most_inputs

-- An accepted layout: what the layers above may assume of an image, and nothing is tested twice.
pub record Good (ws : List ℕ) (l : Layout) : Type 0 where
  pub lay : Lay ws l
  pub small : Small l
  pub classes : (c : ℕ) → c < suc (class_count ws) → class_holds ws c ≡ true
  pub fields : (i : ℕ) → i < field_count ws → field_holds ws i ≡ true
  pub methods : (i : ℕ) → i < method_count ws → method_holds ws i ≡ true
  pub types : (i : ℕ) → i < type_count ws → type_holds ws i ≡ true
  pub nodes : (n : ℕ) → n < node_count ws → node_holds ws n ≡ true
  pub bodies : (i : ℕ) → i < suc (method_count ws) → filled_holds ws i ≡ true

-- what an answer brings besides its number and place
abbrev pub Brings : List ℕ → Result Layout Breach → Type 0
Brings ws (Ok l) = Good ws l
Brings ws (Err b) = Unit
