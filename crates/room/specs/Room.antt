-- How the lent room holds a running expression. Words 0 to 63 are the variables. Word 64 is the slot from which New goes on to look
-- for a free one. From word 80 on there are frames of 16 words, one for each constructor above the active place, the root's first.
use Rattle.std.specs.Prelude.{◌≡◌, cond, List, [], ◌∷◌, ℕ, zero, suc, ◌+◌, ◌*◌, ◌-◌, ◌≤◌, ◌<◌, ltb, length, get_or}
use Rattle.std.proofs.Math.Option.{Option, none, some}
use Rattle.words.specs.declared.Value.{Value}
use Rattle.words.specs.declared.Ty.TheVariants.{Void}
use Rattle.words.specs.Types.{type_of}
use Rattle.image.specs.declared.Kind.{Kind}
use Rattle.image.specs.declared.Kind.TheVariants.{New, Cast, Value as Literal, Var, Add, Eq, Assign, Get, Set, Call, Block, Seq, If, While, Throw, Try, Unknown}
use Rattle.image.specs.Numbers.{most_arguments, variables}
use Rattle.image.specs.Trailer.{node_count}
use Rattle.image.specs.Nodes.{node_word, kind_of}
use Rattle.rules.specs.Maps.{tabulate}
use Rattle.rules.specs.Trees.{Expr, seq, operand, arguments, tree}
use Rattle.rules.specs.Step.{Store, bare, load}
use Rattle.laws.specs.Values.{value_at, IsValue}
use Rattle.laws.specs.Frames.{Frame, cast_f, add_l, add_r, eqL, eqR, assign_f, get_f, put_l, put_r, call_l, call_r, block_f, seq_f, ite_f, throw_f, try_f}

-- where New's search goes on
abbrev pub search_word : ℕ
search_word = 64

-- a Call's receiver and arguments
abbrev pub most_operands : ℕ
most_operands = suc most_arguments

-- where frame i begins
abbrev pub frame_at : ℕ → ℕ
frame_at i = 80 + 16 * i

-- A variable's word is 0 when it is unset, and else its value's word and 1 more.
unfoldable pub held : ℕ → Option Value
held zero = none
held (suc w) = some (value_at w)

unfoldable pub store_of : List ℕ → Store
store_of room x = cond (ltb x variables) (held (get_or room x 0)) none

-- What a frame is of. Its first word is the node's kind where the first operand is active, 16 more where the second is.
pub data Shape : Type 0 where
  first second operands block test loop nothing : Shape

abbrev pub shapes : List Shape
shapes =
    nothing ∷ first ∷ nothing ∷ nothing ∷ first ∷ first ∷ first ∷ first ∷ first ∷ operands ∷ block ∷ first ∷ first ∷ test ∷ first ∷ first
    ∷ nothing ∷ nothing ∷ nothing ∷ nothing ∷ second ∷ second ∷ nothing ∷ nothing ∷ second ∷ nothing ∷ nothing ∷ nothing ∷ nothing ∷ loop ∷ []

unfoldable pub shape_of : ℕ → Shape
shape_of tag = get_or shapes tag nothing

-- a node whose first operand is active; o gives its operands, counted from the end
unfoldable pub begun : Kind → (p x y : ℕ) → (o : ℕ → Expr) → Frame
begun New p x y o = throw_f p Void
begun Cast p x y o = cast_f p x
begun Literal p x y o = throw_f p Void
begun Var p x y o = throw_f p Void
begun Add p x y o = add_l p (o 0)
begun Eq p x y o = eqL p (o 0)
begun Assign p x y o = assign_f p x
begun Get p x y o = get_f p x y
begun Set p x y o = put_l p x y (o 0)
begun Call p x y o = call_l p x (arguments o y)
begun Block p x y o = throw_f p Void
begun Seq p x y o = seq_f p (o 0)
begun If p x y o = ite_f p (o 1) (o 0)
begun While p x y o = throw_f p Void
begun Throw p x y o = throw_f p Void
begun Try p x y o = try_f p x y (o 0)
begun Unknown p x y o = throw_f p Void

-- a node whose second operand is active, and the value of its first
unfoldable pub halfway : ℕ → (p x y : ℕ) → Value → Frame
halfway tag p x y v = get_or (add_r p 0 v ∷ eqR p 0 v ∷ add_r p 0 v ∷ add_r p 0 v ∷ put_r p x y 0 v ∷ []) (tag - 20) (add_r p 0 v)

-- a Call with k operands that are values, the receiver's first
unfoldable pub calling : (p m y k : ℕ) → (words : ℕ → ℕ) → (o : ℕ → Expr) → Frame
calling p m y zero words o = call_l p m (arguments o y)
calling p m y (suc k) words o =
    call_r p m 0 (value_at (words 0)) (tabulate k (λ i. (0, value_at (words (suc i))))) (arguments o (y - suc k))

module _ (ws : List ℕ) where
  -- the tree of a node, made ready to run
  abbrev pub loaded : ℕ → Expr
  loaded n = load (tree ws n)

  abbrev pub operand_of : (p j : ℕ) → Expr
  operand_of p j = loaded (operand ws p j)

  -- The frame of a shape whose words, from its second on, are p, a, b and c, and the operands' that follow.
  unfoldable pub frame_of : Shape → (tag p a b c : ℕ) → (words : ℕ → ℕ) → Frame
  frame_of first tag p a b c words = begun (kind_of tag) p (node_word ws p 2) (node_word ws p 3) (operand_of p)
  frame_of second tag p a b c words = halfway tag p (node_word ws p 2) (node_word ws p 3) (value_at a)
  frame_of operands tag p a b c words = calling p (node_word ws p 2) (node_word ws p 3) a words (operand_of p)
  frame_of block tag p a b c words = block_f p a (type_of b) (held c)
  frame_of test tag p a b c words = ite_f p (seq p (operand_of p 0) (loaded p)) (bare Value.Unit)
  frame_of loop tag p a b c words = seq_f p (loaded p)
  frame_of nothing tag p a b c words = throw_f p Void

  module _ (room : List ℕ) where
    -- word k of frame i, and the first one
    abbrev pub word : (i k : ℕ) → ℕ
    word i k = get_or room (frame_at i + k) 0

    abbrev pub tag : ℕ → ℕ
    tag i = get_or room (frame_at i) 0

    -- the words of a Call's operands, the receiver's first
    unfoldable pub kept : (i k : ℕ) → ℕ
    kept i k = cond (ltb k most_operands) (word i (5 + k)) 0

    unfoldable pub frame : ℕ → Frame
    frame i = frame_of (shape_of (tag i)) (tag i) (word i 1) (word i 2) (word i 3) (word i 4) (kept i)

    -- the frames below level l, the innermost first
    unfoldable pub frames : ℕ → List Frame
    frames zero = []
    frames (suc i) = frame i ∷ frames i

  -- a node of a kind
  abbrev pub IsNode : (p kind : ℕ) → Type 0
  IsNode p kind = (p < node_count ws) × (node_word ws p 0 ≡ kind)

  -- a variable's word is 0 or has a value
  abbrev pub Held : ℕ → Type 0
  Held zero = Unit {0}
  Held (suc w) = IsValue w

  -- what the words of a frame must be
  abbrev pub FrameOk : Shape → (tag p a c : ℕ) → (words : ℕ → ℕ) → Type 0
  FrameOk first tag p a c words = IsNode p tag
  FrameOk second tag p a c words = IsNode p (tag - 16) × IsValue a
  FrameOk operands tag p a c words = IsNode p tag × (a ≤ node_word ws p 3) × ((k : ℕ) → k < a → IsValue (words k))
  FrameOk block tag p a c words = (a < variables) × Held c
  FrameOk test tag p a c words = IsNode p 13
  FrameOk loop tag p a c words = IsNode p 13
  FrameOk nothing tag p a c words = ⊥

  -- A room that holds an expression with l frames above its active place.
  pub record Fit (room : List ℕ) (l : ℕ) : Type 0 where
    pub long : frame_at l ≤ length room
    pub frame_ok : (i : ℕ) → i < l
        → FrameOk (shape_of (tag room i)) (tag room i) (word room i 1) (word room i 2) (word room i 4) (kept room i)
    pub held_ok : (x : ℕ) → x < variables → Held (get_or room x 0)
