-- A node whose value is known where it stands: the steps to it change neither heap nor variables.
use Rattle.std.specs.Prelude.{◌≡◌, List, ◌⊎◌, true, ℕ, suc, ◌+◌, ◌*◌, ◌≤◌, ◌<◌, length, get_or}
use Rattle.std.specs.declared.option.Option.{Option}
use Rattle.std.specs.declared.option.Option.TheVariants.{Some}
use Rattle.image.specs.Numbers.{most_nodes, variables}
use Rattle.image.specs.Trailer.{trailer, node_count}
use Rattle.image.specs.Nodes.{node_word, node_holds}
use Rattle.rules.specs.Trees.{operand}
use Rattle.rules.specs.Program.{program}
use Rattle.rules.specs.Heap.{Heap, heap_of}
use Rattle.rules.specs.Step.{gives, add_redex, eq_redex, get_redex}
use Rattle.laws.specs.Values.{value_at, IsValue}
use Rattle.room.specs.declared.Focus.TheVariants.{Node, Value}
use Rattle.room.specs.Room.{search_word, Held}
use Rattle.room.specs.Turn.{HeapOk, Inv}
use Rattle.room.specs.Leads.{Leaps}
use Rattle.quick.specs.declared.Quick.{Quick}

-- where an image's nodes begin
pub record Tabled (ws : List ℕ) (nodes : ℕ) : Type 0 where
  pub nodes_at : nodes + trailer ws 4 ≡ length ws
  pub within : nodes + 4 * node_count ws ≤ length ws
  pub small : node_count ws ≤ most_nodes
  pub holds : (n : ℕ) → n < node_count ws → node_holds ws n ≡ true

-- the variables' words of a room
pub record Stored (ws room : List ℕ) : Type 0 where
  pub long : variables ≤ length room
  pub held_ok : (x : ℕ) → x < variables → Held ws (get_or room x 0)

-- two rooms with the same variables
abbrev pub Locals : (room room' : List ℕ) → Type 0
Locals room room' = (x : ℕ) → x < variables → get_or room' x 0 ≡ get_or room x 0

-- Node n comes to the value of w in k steps, and the frames that it would take are d at most. It does so in every room with these
-- variables, under any frames.
pub record Eval (ws hs room : List ℕ) (n w k d : ℕ) : Type 0 where
  pub is_value_lem : IsValue w
  pub leaps : (D : ℕ) (room' : List ℕ) (l : ℕ) → Locals room room' → Inv ws D room' l (Node n) → HeapOk ws hs (get_or room' search_word 0)
      → l + d ≤ D → Leaps ws D k hs room' l (Node n) hs room' l (Value w)

-- the most steps of such a node
abbrev pub most_quick : ℕ
most_quick = 5

-- What an answer says. Each frame more is one step more, and one leaf.
pub record Known (ws hs room : List ℕ) (n d : ℕ) (q : Quick) : Type 0 where
  pub few : q.steps ≤ most_quick
  pub fewer : q.steps ≤ 2 * d + 1
  pub eval : Eval ws hs room n q.word q.steps d

-- an answer's word is a value's, and its steps are few
abbrev pub Valued : Quick → Type 0
Valued q = IsValue q.word × (q.steps ≤ most_quick)

-- an Add or an Eq, by its number
abbrev pub IsPair : ℕ → Type 0
IsPair kind = (kind ≡ 4) ⊎ (kind ≡ 5)

-- such a node of the values of v and w gives the value of u, and leaves the heap as it is
pub record Gives (kind v w u : ℕ) : Type 0 where
  pub is_value_lem : IsValue u
  pub redex : ((kind ≡ 4) × ((h : Heap) → add_redex h (value_at v) (value_at w) ≡ gives h (value_at u)))
      ⊎ ((kind ≡ 5) × ((h : Heap) → eq_redex h (value_at v) (value_at w) ≡ gives h (value_at u)))

-- the answer for a pair, of its operands' answers
pub record Paired (kind : ℕ) (a b : Option Quick) (r : Quick) : Type 0 where
  pub left : Quick
  pub right : Quick
  pub left_is : a ≡ Some left
  pub right_is : b ≡ Some right
  pub steps : r.steps ≡ left.steps + right.steps + 1
  pub gives : Gives kind left.word right.word r.word

-- the answer for a Get, of its operand's answer
pub record Field (ws hs : List ℕ) (p : ℕ) (q : Option Quick) (r : Quick) : Type 0 where
  pub object : Quick
  pub object_is : q ≡ Some object
  pub is_value_lem : IsValue r.word
  pub steps : r.steps ≡ object.steps + 1
  pub reads : get_redex (program ws) (heap_of (program ws) hs) (node_word ws p 2) (node_word ws p 3) (value_at object.word)
      ≡ gives (heap_of (program ws) hs) (value_at r.word)

-- Node r is n itself, or n is an Add or an Eq and r is an operand of it, the first one where it does not stand right before n.
pub record Deep (ws : List ℕ) (kind n r : ℕ) : Type 0 where
  pub within : r < node_count ws
  pub is : (r ≡ n → ⊥) → IsPair kind
  pub first : (r ≡ n → ⊥) → (suc r ≡ n → ⊥) → r ≡ operand ws n 1
