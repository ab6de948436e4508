-- What a turn of the machine must do. A move leaves the expression as it is; a step is one step of the definition.
use Rattle.std.specs.Prelude.{◌≡◌, Bool, true, false, List, ℕ, zero, suc, ◌+◌, ◌*◌, ◌-◌, ◌/◌, ◌≤◌, ◌<◌, length, get_or}
use Rattle.words.specs.Value.{addresses}
use Rattle.image.specs.Trailer.{class_count, node_count}
use Rattle.image.specs.Nodes.{node_word, kind_of, operands}
use Rattle.rules.specs.Trees.{Expr, operand}
use Rattle.rules.specs.Program.{program}
use Rattle.rules.specs.Heap.{Heap, slot_words, heap_of}
use Rattle.rules.specs.Step.{Store, Out, thrown_at, bare, blocked, step}
use Rattle.laws.specs.Values.{value_at, IsValue}
use Rattle.laws.specs.Frames.{plugs, outers}
use Rattle.laws.specs.Heap.{Words}
use Rattle.heap.specs.Slots.{taken_at}
use Rattle.room.specs.declared.Focus.{Focus}
use Rattle.room.specs.declared.Focus.TheVariants.{Node, Value, Thrown}
use Rattle.room.specs.declared.Go.{Go}
use Rattle.room.specs.declared.Go.TheVariants.{Moved, Stepped, Limit, Sunk, Stuck, Deep, Over}
use Rattle.room.specs.Room.{search_word, store_of, Shape, first, second, operands as calls, block, test, loop, nothing, shape_of, loaded, word, tag, frames, Fit}
use Rattle.room.specs.Stack.{Goes, Halts, Beyond}

-- a heap whose words hold, with no free slot below the one from which New looks
pub record HeapOk (ws hs : List ℕ) (from : ℕ) : Type 0 where
  pub words : Words (program ws) (class_count ws) hs
  pub size : length hs ≤ slot_words * addresses
  pub low : from ≤ length hs / slot_words
  pub taken : (a : ℕ) → a < from → taken_at hs a ≡ true

module _ (ws : List ℕ) where
  -- the expression that the machine looks at
  unfoldable pub focus_of : Focus → Expr
  focus_of (Node n) = loaded ws n
  focus_of (Value w) = bare (value_at w)
  focus_of (Thrown a p) = thrown_at p a

  abbrev pub FocusOk : Focus → Type 0
  FocusOk (Node n) = n < node_count ws
  FocusOk (Value w) = IsValue w
  FocusOk (Thrown a p) = a < addresses

  -- Nodes that moves have still to go through: the focus's own, and those of the operands behind it. A node weighs more than a value.
  unfoldable pub weight : Focus → ℕ
  weight (Node n) = 2 * node_word ws n 1 + 1
  weight (Value w) = 2
  weight (Thrown a p) = 0

  unfoldable pub behind : Shape → (tag p a : ℕ) → ℕ
  behind first tag p a = p - 1 - operand ws p (operands (kind_of tag) (node_word ws p 3) - 1)
  behind second tag p a = 0
  behind calls tag p a = p - 1 - operand ws p (node_word ws p 3 - a)
  behind block tag p a = 0
  behind test tag p a = 0
  behind loop tag p a = node_word ws p 1
  behind nothing tag p a = 0

  unfoldable pub pending : List ℕ → ℕ → ℕ
  pending room zero = 0
  pending room (suc i) = behind (shape_of (tag ws room i)) (tag ws room i) (word ws room i 1) (word ws room i 2) + pending room i

  abbrev pub phi : List ℕ → ℕ → Focus → ℕ
  phi room l f = 2 * pending room l + weight f

  -- the whole expression, and its variables
  abbrev pub whole : List ℕ → ℕ → Focus → Expr
  whole room l f = plugs blocked (frames ws room l) (store_of room) (focus_of f)

  abbrev pub outside : List ℕ → ℕ → Store
  outside room l = outers (frames ws room l) (store_of room)

  -- what the definition's step finds there
  abbrev pub finds : List ℕ → List ℕ → ℕ → Focus → Out
  finds hs room l f = step (program ws) (whole room l f) (heap_of (program ws) hs) (outside room l)

  -- a room, a level and a focus in order, for a depth limit
  pub record Inv (D : ℕ) (room : List ℕ) (l : ℕ) (f : Focus) : Type 0 where
    pub fit : Fit ws room l
    pub level : l ≤ suc D
    pub long : 16 * D + 160 ≤ length room
    pub here : FocusOk f

  pub record Moves (D : ℕ) (room : List ℕ) (l : ℕ) (f : Focus) (room' : List ℕ) (l' : ℕ) (f' : Focus) : Type 0 where
    pub inv : Inv D room' l' f'
    pub size : length room' ≡ length room
    pub search : get_or room' search_word 0 ≡ get_or room search_word 0
    pub same : whole room' l' f' ≡ whole room l f
    pub around : outside room' l' ≡ outside room l
    pub falls : phi room' l' f' < phi room l f

  -- the heap hs becomes hs'
  pub record Steps (D : ℕ) (hs room : List ℕ) (l : ℕ) (f : Focus) (hs' room' : List ℕ) (l' : ℕ) (f' : Focus) : Type 0 where
    pub inv : Inv D room' l' f'
    pub size : length room' ≡ length room
    pub heap : HeapOk ws hs' (get_or room' search_word 0)
    pub goes : Goes D (finds hs room l f) (heap_of (program ws) hs') (outside room' l') (whole room' l' f')

  pub record Could (D : ℕ) (hs room : List ℕ) (l : ℕ) (f : Focus) : Type 0 where
    pub heap : Heap
    pub store : Store
    pub expr : Expr
    pub goes : Goes D (finds hs room l f) heap store expr

  pub record Sinks (D : ℕ) (hs room : List ℕ) (l : ℕ) (f : Focus) : Type 0 where
    pub store : Store
    pub expr : Expr
    pub goes : Goes D (finds hs room l f) (heap_of (program ws) hs) store expr
    pub beyond : Beyond D (step (program ws) expr (heap_of (program ws) hs) store)

  -- the focus is the whole expression, and final
  abbrev pub Final : ℕ → Focus → Type 0
  Final l (Node n) = ⊥
  Final l (Value w) = l ≡ 0
  Final l (Thrown a p) = l ≡ 0

  -- What a turn promises, where `may` says whether a step may be taken. Without leave the heap is left alone.
  abbrev pub Turned : (D : ℕ) (may : Bool) (hs room : List ℕ) (l : ℕ) (f : Focus) (hs' room' : List ℕ) → Go → Type 0
  Turned D may hs room l f hs' room' (Moved g k) = Moves D room l f room' k g × (hs' ≡ hs)
  Turned D may hs room l f hs' room' (Stepped g k) = Steps D hs room l f hs' room' k g × (may ≡ false → hs' ≡ hs)
  Turned D may hs room l f hs' room' Limit = Could D hs room l f × (may ≡ false) × (hs' ≡ hs)
  Turned D may hs room l f hs' room' Sunk = Sinks D hs room l f × (hs' ≡ hs)
  Turned D may hs room l f hs' room' (Stuck q) = Halts D (finds hs room l f) q × (hs' ≡ hs)
  Turned D may hs room l f hs' room' Deep = Beyond D (finds hs room l f) × (hs' ≡ hs)
  Turned D may hs room l f hs' room' Over = Final l f × (hs' ≡ hs)
