-- The numbers a caller gets, 10 to 20, and the rules of the three public questions. 1 to 9 are the layout's.
use Rattle.std.specs.Prelude.{ℕ, zero, suc, ◌+◌, ◌*◌, ◌/◌, ◌%◌, max, Bool, true, cond, ◌&&◌, List, [], ◌∷◌, ◌++◌, map, ltb, leb, eqb, length, get_or, is_some}
use Rattle.std.proofs.Math.Option.{Option, none, some}
use Rattle.order.specs.Rules.{Rule}
use Rattle.order.specs.declared.Answer.{Answer}
use Rattle.rules.specs.declared.End.{End}
use Rattle.rules.specs.declared.End.TheVariants.{Returned, Threw, OutOfSteps, TooDeep, Stuck}
use Rattle.words.specs.declared.Value.{Value}
use Rattle.words.specs.declared.Value.TheVariants.{Addr}
use Rattle.words.specs.declared.Ty.{Ty}
use Rattle.words.specs.declared.Ty.TheVariants.{Void}
use Rattle.words.specs.Value.{value_of, addresses}
use Rattle.image.specs.Trailer.{class_count, method_count, input_count}
use Rattle.image.specs.Layout.{tested, layout_rules}
use Rattle.rules.specs.Maps.{tabulate}
use Rattle.rules.specs.Trees.{written}
use Rattle.rules.specs.Program.{Field, Program, method_at, program, main, input_types, method_env, main_env}
use Rattle.rules.specs.Classes.{has_fields, override_holds}
use Rattle.rules.specs.Setting.{between}
use Rattle.rules.specs.Sites.{Site, sites, site_typed, reads}
use Rattle.rules.specs.Heap.{slot_words, heap_of}
use Rattle.rules.specs.Conform.{conforms}

-- fields in and above a class
abbrev pub most_fields_above : ℕ
most_fields_above = 15

-- slots of a heap; the first ones hold the system's objects
abbrev pub fewest_slots : ℕ
fewest_slots = 3

abbrev pub most_slots : ℕ
most_slots = addresses

abbrev pub most_depth : ℕ
most_depth = 1024

-- words of room for a depth limit
abbrev pub room_words : ℕ → ℕ
room_words depth = 16 * depth + 160

-- lists one after the other
unfoldable pub joined {ℓ} : {A : Type ℓ} → List (List A) → List A
joined [] = []
joined (l ∷ ls) = l ++ joined ls

module _ (ws : List ℕ) where
  -- 10
  unfoldable pub fields_rule : Rule
  fields_rule =
      record {
        number = 10;
        places = class_count ws;
        holds = λ c. leb (length (has_fields (program ws) c)) most_fields_above;
      }

  -- 11
  unfoldable pub override_rule : Rule
  override_rule =
      record {
        number = 11;
        places = method_count ws;
        holds = λ i. override_holds (program ws) (method_at ws i);
      }

  -- 12: every node of every body, in its own environment
  unfoldable pub method_sites : ℕ → List Site
  method_sites i = sites (method_at ws i).body (method_env (method_at ws i)) (some (method_at ws i).result)

  unfoldable pub all_sites : List Site
  all_sites = joined (tabulate (method_count ws) method_sites) ++ sites (main ws) (main_env ws) none

  unfoldable pub typing_rule : Rule
  typing_rule = tested 12 (map (site_typed (program ws)) all_sites)

  -- 13: every node of every body, in its own set of variables. A method starts with 0 to n, main with 1 to n.
  unfoldable pub method_reads : ℕ → List Bool
  method_reads i = reads (method_at ws i).body (between 0 (length (method_at ws i).params))

  unfoldable pub all_reads : List Bool
  all_reads = joined (tabulate (method_count ws) method_reads) ++ reads (main ws) (between 1 (input_count ws))

  unfoldable pub setting_rule : Rule
  setting_rule = tested 13 all_reads

-- 14
unfoldable pub heap_length_holds : (words : ℕ) → Bool
heap_length_holds n = eqb (n % slot_words) 0 && leb fewest_slots (n / slot_words) && leb (n / slot_words) most_slots

unfoldable pub heap_length_rule : List ℕ → Rule
heap_length_rule hs = tested 14 (heap_length_holds (length hs) ∷ [])

-- 15: word k of a slot that begins with `first`
unfoldable pub slot_word_holds : Program → (classes first k word : ℕ) → Bool
slot_word_holds P classes first zero word = leb first classes
slot_word_holds P classes zero (suc j) word = eqb word 0
slot_word_holds P classes (suc c) (suc j) word = cond (ltb j (length (has_fields P c))) (is_some (value_of word)) (eqb word 0)

-- the first word of the slot of word i
abbrev pub slot_first : List ℕ → ℕ → ℕ
slot_first hs i = get_or hs (slot_words * (i / slot_words)) 0

unfoldable pub heap_word_rule : (ws hs : List ℕ) → Rule
heap_word_rule ws hs =
    record {
      number = 15;
      places = length hs;
      holds = λ i. slot_word_holds (program ws) (class_count ws) (slot_first hs i) (i % slot_words) (get_or hs i 0);
    }

-- 16: at main's count, that there are as many; at an input, that it is a value
unfoldable pub input_holds : (count : ℕ) → List ℕ → ℕ → Bool
input_holds count is i =
    cond (eqb i count) (eqb (length is) count) true && cond (ltb i (length is)) (is_some (value_of (get_or is i 0))) true

unfoldable pub input_rule : (ws is : List ℕ) → Rule
input_rule ws is =
    record { number = 16; places = suc (max (length is) (input_count ws)); holds = input_holds (input_count ws) is }

-- 17: slots 0, 1, .. of the system hold classes 1, 2, ..; field j of an object conforms to its type
abbrev pub field_type : List Field → ℕ → Ty
field_type fs j = get_or (map (λ f. f.type) fs) j Void

unfoldable pub slot_word_conforms : Program → (hs : List ℕ) → (a first k word : ℕ) → Bool
slot_word_conforms P hs a first zero word = cond (ltb a fewest_slots) (eqb first (suc (suc a))) true
slot_word_conforms P hs a zero (suc j) word = true
slot_word_conforms P hs a (suc c) (suc j) word =
    cond (ltb j (length (has_fields P c)))
    (conforms P (heap_of P hs) (written (value_of word)) (field_type (has_fields P c) j))
    true

unfoldable pub heap_rule : (ws hs : List ℕ) → Rule
heap_rule ws hs =
    record {
      number = 17;
      places = length hs;
      holds = λ i. slot_word_conforms (program ws) hs (i / slot_words) (slot_first hs i) (i % slot_words) (get_or hs i 0);
    }

-- 18
unfoldable pub input_type_rule : (ws hs is : List ℕ) → Rule
input_type_rule ws hs is =
    record {
      number = 18;
      places = length is;
      holds =
          λ i.
          conforms (program ws) (heap_of (program ws) hs) (written (value_of (get_or is i 0))) (get_or (input_types ws) i Void);
    }

-- 19, 20
unfoldable pub depth_rule : (depth : ℕ) → Rule
depth_rule depth = tested 19 ((leb 1 depth && leb depth most_depth) ∷ [])

unfoldable pub room_rule : (depth room : ℕ) → Rule
room_rule depth room = tested 20 (leb (room_words depth) room ∷ [])

-- The three questions: the rules of each, in the order in which they are asked.
unfoldable pub check_rules : (ws : List ℕ) → List Rule
check_rules ws = layout_rules ws ++ (fields_rule ws ∷ override_rule ws ∷ typing_rule ws ∷ setting_rule ws ∷ [])

unfoldable pub conform_rules : (ws hs is : List ℕ) → List Rule
conform_rules ws hs is =
    layout_rules ws
    ++ (fields_rule ws
    ∷ heap_length_rule hs
    ∷ heap_word_rule ws hs
    ∷ input_rule ws is
    ∷ heap_rule ws hs
    ∷ input_type_rule ws hs is
    ∷ [])

unfoldable pub run_rules : (ws hs is : List ℕ) → (room depth : ℕ) → List Rule
run_rules ws hs is room depth =
    layout_rules ws
    ++ (fields_rule ws
    ∷ heap_length_rule hs
    ∷ heap_word_rule ws hs
    ∷ input_rule ws is
    ∷ depth_rule depth
    ∷ room_rule depth room
    ∷ [])

-- the number and place of an end, and the value that it carries
unfoldable pub end_numbers : End → Answer
end_numbers (Returned v) = record { number = 30; place = 0 }
end_numbers (Threw a) = record { number = 31; place = 0 }
end_numbers OutOfSteps = record { number = 32; place = 0 }
end_numbers TooDeep = record { number = 33; place = 0 }
end_numbers (Stuck q) = record { number = 34; place = q }

unfoldable pub end_value : End → Option Value
end_value (Returned v) = some v
end_value (Threw a) = some (Addr a)
end_value OutOfSteps = none
end_value TooDeep = none
end_value (Stuck q) = none
