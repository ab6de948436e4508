-- The trailer, and where it says that the sections stand.
use Rattle.std.specs.Prelude.{Bool, true, ◌&&◌, List, [], ◌∷◌, ℕ, ◌+◌, ◌-◌, ◌/◌, ◌%◌, length, get_or, leb, eqb}
use Rattle.image.specs.Numbers.{trailer_words, format_number, most_classes, most_fields, most_methods, most_type_words, most_nodes, most_inputs}

-- trailer word j, of those at the image's end
unfoldable pub trailer : List ℕ → ℕ → ℕ
trailer ws j = get_or ws (length ws - trailer_words + j) 0

-- Words 0 to 4 are the distances from the image's end to the first class, field, method, type word and node.
-- A class is 1 word, a field 3, a method 6, a type 1, a node 4.
unfoldable pub class_count : List ℕ → ℕ
class_count ws = trailer ws 0 - trailer ws 1

unfoldable pub field_count : List ℕ → ℕ
field_count ws = (trailer ws 1 - trailer ws 2) / 3

unfoldable pub method_count : List ℕ → ℕ
method_count ws = (trailer ws 2 - trailer ws 3) / 6

unfoldable pub type_count : List ℕ → ℕ
type_count ws = trailer ws 3 - trailer ws 4

unfoldable pub node_count : List ℕ → ℕ
node_count ws = (trailer ws 4 - trailer_words) / 4

-- word 5 is the main node, word 6 the number of main's inputs
unfoldable pub main_node : List ℕ → ℕ
main_node ws = trailer ws 5

unfoldable pub input_count : List ℕ → ℕ
input_count ws = trailer ws 6

-- 1: at least a trailer, and the format
unfoldable pub format_holds : List ℕ → Bool
format_holds ws = leb trailer_words (length ws) && eqb (trailer ws 7) format_number

-- a section from one distance to the next: not above the one before, not below the trailer, whole records
unfoldable pub section_holds : (from to size : ℕ) → Bool
section_holds from to size = leb to from && leb trailer_words to && eqb ((from - to) % size) 0

-- the last distance ends the type words and, since the trailer follows, the nodes too
unfoldable pub last_holds : (types nodes : ℕ) → Bool
last_holds types nodes = section_holds types nodes 1 && eqb ((nodes - trailer_words) % 4) 0

-- 2: one test for each trailer word. Word 5 is judged by 9, word 7 by 1.
unfoldable pub trailer_tests : List ℕ → List Bool
trailer_tests ws =
    eqb (trailer ws 0) (length ws)
    ∷ section_holds (trailer ws 0) (trailer ws 1) 1
    ∷ section_holds (trailer ws 1) (trailer ws 2) 3
    ∷ section_holds (trailer ws 2) (trailer ws 3) 6
    ∷ last_holds (trailer ws 3) (trailer ws 4)
    ∷ true
    ∷ leb (input_count ws) (type_count ws)
    ∷ []

-- 3: the ceiling of the section that the word points to, and of the inputs
unfoldable pub ceiling_tests : (classes fields methods types nodes inputs : ℕ) → List Bool
ceiling_tests classes fields methods types nodes inputs =
    leb classes most_classes
    ∷ leb fields most_fields
    ∷ leb methods most_methods
    ∷ leb types most_type_words
    ∷ leb nodes most_nodes
    ∷ true
    ∷ leb inputs most_inputs
    ∷ []
