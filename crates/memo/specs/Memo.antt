-- What lookups found, kept by node and class in a table of words. What is kept is said of a class and not of a heap, so that it
-- stays true while the heap changes.
use Rattle.std.specs.Prelude.{◌≡◌, true, false, List, ◌⊎◌, ℕ, ◌+◌, ◌-◌, ◌/◌, ◌%◌, ◌<◌, length, get_or}
use Rattle.std.proofs.Math.Option.{some}
use Rattle.std.specs.declared.option.Option.{Option}
use Rattle.std.specs.declared.option.Option.TheVariants.{Some, None}
use Rattle.image.specs.Trailer.{node_count}
use Rattle.image.specs.Nodes.{node_word}
use Rattle.image.specs.Records.{method_word}
use Rattle.rules.specs.Program.{program}
use Rattle.rules.specs.Classes.{subclass, has_fields, field_index}
use Rattle.classes.specs.Sees.{MethodAt}
use Rattle.room.specs.Room.{IsNode}

-- words of the table
abbrev pub memo_words : ℕ
memo_words = 64

-- an entry's parts: what was found, below 65536, and 0 where nothing is kept; the class word, below 512; and the node
abbrev pub found_of : ℕ → ℕ
found_of e = e % 65536

abbrev pub class_of : ℕ → ℕ
class_of e = e / 65536 % 512

abbrev pub node_of : ℕ → ℕ
node_of e = e / 65536 / 512

-- the class word of an entry: 1 more than the class, or 0 for none
abbrev pub class_word : Option ℕ → ℕ
class_word None = 0
class_word (Some c) = c + 1

-- a Get or a Set
abbrev pub IsField : (ws : List ℕ) (p : ℕ) → Type 0
IsField ws p = (p < node_count ws) × ((node_word ws p 0 ≡ 7) ⊎ (node_word ws p 0 ≡ 8))

module _ (ws : List ℕ) where
  -- an object of class c has the field of node p at index i
  abbrev pub HasField : (p c i : ℕ) → Type 0
  HasField p c i = field_index (has_fields (program ws) c) (node_word ws p 3) (node_word ws p 2) ≡ some i

  -- the Call at node p enters method j on an object of class c
  pub record HasMethod (p c j : ℕ) : Type 0 where
    pub sees : MethodAt ws c (node_word ws p 2) (method_word ws j 0) j
    pub arguments : method_word ws j 4 ≡ node_word ws p 3

  -- the Try at node p lets an object of class c pass, which is 1, or catches it, which is 2
  pub record Judges (p c o : ℕ) : Type 0 where
    pub passes : o ≡ 1 → subclass (program ws) c (node_word ws p 2) ≡ false
    pub catches : o ≡ 2 → subclass (program ws) c (node_word ws p 2) ≡ true

  -- What o says of node p and the class that stands in a slot by the word first. An index and a method are kept as 1 more.
  pub record Learnt (p first o : ℕ) : Type 0 where
    pub taken : first ≡ 0 → ⊥
    pub field : IsField ws p → HasField p (first - 1) (o - 1)
    pub call : IsNode ws p 9 → HasMethod p (first - 1) (o - 1)
    pub catch : IsNode ws p 15 → Judges p (first - 1) o

  -- an entry keeps nothing, or what is true of the image
  abbrev pub Entry : ℕ → Type 0
  Entry e = (found_of e ≡ 0 → ⊥) → Learnt (node_of e) (class_of e) (found_of e)

  pub record Memo (memo : List ℕ) : Type 0 where
    pub size : length memo ≡ memo_words
    pub entries : (k : ℕ) → k < memo_words → Entry (get_or memo k 0)

-- what a table keeps of node p and the class of a slot's word, whatever image it is true of
pub record Recalls (memo : List ℕ) (p first o : ℕ) : Type 0 where
  pub few : o < 65536
  pub some : o ≡ 0 → ⊥
  pub learnt : (ws : List ℕ) → Memo ws memo → Learnt ws p first o
