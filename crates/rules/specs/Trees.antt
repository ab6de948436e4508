-- Expressions as trees. Each constructor has its place first: the number of its node.
use Rattle.std.specs.Prelude.{ℕ, zero, suc, ◌-◌, List, [], ◌∷◌, ◌++◌, get_or}
use Rattle.std.proofs.Math.Option.{Option, none}
use Rattle.words.specs.declared.Value.{Value}
use Rattle.std.specs.declared.option.Option.{Option as Maybe}
use Rattle.std.specs.declared.option.Option.TheVariants.{Some, None}
use Rattle.words.specs.declared.Ty.{Ty}
use Rattle.words.specs.Value.{value_with}
use Rattle.words.specs.Types.{type_of}
use Rattle.image.specs.declared.Kind.{Kind}
use Rattle.image.specs.declared.Kind.TheVariants.{New, Cast, Value as Literal, Var, Add, Eq, Assign, Get, Set, Call, Block, Seq, If, While, Throw, Try, Unknown}
use Rattle.image.specs.Nodes.{node_word, kind_of}

mutual
  pub data Expr : Type 0 where
    new : (p c : ℕ) → Expr
    cast : (p c : ℕ) → Expr → Expr
    val : (p : ℕ) → Value → Expr
    var : (p x : ℕ) → Expr
    add : (p : ℕ) → Expr → Expr → Expr
    eq : (p : ℕ) → Expr → Expr → Expr
    assign : (p x : ℕ) → Expr → Expr
    -- a field's name and the class that declares it
    get : (p f d : ℕ) → Expr → Expr
    put : (p f d : ℕ) → Expr → Expr → Expr
    call : (p m : ℕ) → Expr → Exprs → Expr
    -- `some v`: the block remembers v, and its body is what is left to reduce
    block : (p x : ℕ) → Ty → Option Value → Expr → Expr
    seq : (p : ℕ) → Expr → Expr → Expr
    ite : (p : ℕ) → Expr → Expr → Expr → Expr
    while : (p : ℕ) → Expr → Expr → Expr
    throw : (p : ℕ) → Ty → Expr → Expr
    try : (p c x : ℕ) → Expr → Expr → Expr

  pub data Exprs : Type 0 where
    nil : Exprs
    cons : Expr → Exprs → Exprs

-- The tree of a node. A node's j-th operand from the end: the last ends one place before the node, each other one where the tree
-- of the next one begins.
unfoldable pub operand : List ℕ → (n j : ℕ) → ℕ
operand ws n zero = n - 1
operand ws n (suc j) = operand ws n j - node_word ws (operand ws n j) 1

-- what stands where an image has no tree; a laid out image has none of it
abbrev pub nothing : Expr
nothing = val 0 Value.Unit

abbrev pub written : Maybe Value → Value
written (Some v) = v
written None = Value.Unit

-- a Call's last k operands
unfoldable pub arguments : (ℕ → Expr) → (k : ℕ) → Exprs
arguments o zero = nil
arguments o (suc k) = cons (o k) (arguments o k)

-- a node of a kind, from its place, its x and y and its operands, counted from the end
unfoldable pub node_of : Kind → (p x y : ℕ) → (ℕ → Expr) → Expr
node_of New p x y o = new p x
node_of Cast p x y o = cast p x (o 0)
node_of Literal p x y o = val p (written (value_with x y))
node_of Var p x y o = var p x
node_of Add p x y o = add p (o 1) (o 0)
node_of Eq p x y o = eq p (o 1) (o 0)
node_of Assign p x y o = assign p x (o 0)
node_of Get p x y o = get p x y (o 0)
node_of Set p x y o = put p x y (o 1) (o 0)
node_of Call p x y o = call p x (o y) (arguments o y)
node_of Block p x y o = block p x (type_of y) none (o 0)
node_of Seq p x y o = seq p (o 1) (o 0)
node_of If p x y o = ite p (o 2) (o 1) (o 0)
node_of While p x y o = while p (o 1) (o 0)
node_of Throw p x y o = throw p (type_of x) (o 0)
node_of Try p x y o = try p x y (o 1) (o 0)
node_of Unknown p x y o = nothing

-- node n's tree, where `lower` has the trees of the nodes before it
unfoldable pub node_tree : List ℕ → (n : ℕ) → (lower : ℕ → Expr) → Expr
node_tree ws n lower =
    node_of (kind_of (node_word ws n 0)) n (node_word ws n 2) (node_word ws n 3) (λ j. lower (operand ws n j))

-- the trees of the nodes below n, the last node's first
unfoldable pub forest : List ℕ → (n : ℕ) → List Expr
forest ws zero = []
forest ws (suc n) = node_tree ws n (λ m. get_or (forest ws n) (n - suc m) nothing) ∷ forest ws n

unfoldable pub tree : List ℕ → (n : ℕ) → Expr
tree ws n = get_or (forest ws (suc n)) 0 nothing

-- the place of a tree's own node
unfoldable pub place : Expr → ℕ
place (new p c) = p
place (cast p c e) = p
place (val p v) = p
place (var p x) = p
place (add p a b) = p
place (eq p a b) = p
place (assign p x e) = p
place (get p f d e) = p
place (put p f d a b) = p
place (call p m e es) = p
place (block p x t mv e) = p
place (seq p a b) = p
place (ite p c a b) = p
place (while p c e) = p
place (throw p t e) = p
place (try p c x a b) = p

-- something of each node of a tree, operands before their node: the order of the node numbers
module _ {A : Type 0} (at : Expr → A) where
  unfoldable mutual
    pub postorder : Expr → List A
    postorder (new p c) = at (new p c) ∷ []
    postorder (cast p c e) = postorder e ++ (at (cast p c e) ∷ [])
    postorder (val p v) = at (val p v) ∷ []
    postorder (var p x) = at (var p x) ∷ []
    postorder (add p a b) = postorder a ++ (postorder b ++ (at (add p a b) ∷ []))
    postorder (eq p a b) = postorder a ++ (postorder b ++ (at (eq p a b) ∷ []))
    postorder (assign p x e) = postorder e ++ (at (assign p x e) ∷ [])
    postorder (get p f d e) = postorder e ++ (at (get p f d e) ∷ [])
    postorder (put p f d a b) = postorder a ++ (postorder b ++ (at (put p f d a b) ∷ []))
    postorder (call p m e es) = postorder e ++ (postorder_all es ++ (at (call p m e es) ∷ []))
    postorder (block p x t mv e) = postorder e ++ (at (block p x t mv e) ∷ [])
    postorder (seq p a b) = postorder a ++ (postorder b ++ (at (seq p a b) ∷ []))
    postorder (ite p c a b) = postorder c ++ (postorder a ++ (postorder b ++ (at (ite p c a b) ∷ [])))
    postorder (while p c e) = postorder c ++ (postorder e ++ (at (while p c e) ∷ []))
    postorder (throw p t e) = postorder e ++ (at (throw p t e) ∷ [])
    postorder (try p c x a b) = postorder a ++ (postorder b ++ (at (try p c x a b) ∷ []))

    pub postorder_all : Exprs → List A
    postorder_all nil = []
    postorder_all (cons e es) = postorder e ++ postorder_all es

-- the places of all its nodes
abbrev pub places : Expr → List ℕ
places e = postorder place e

abbrev pub places_all : Exprs → List ℕ
places_all es = postorder_all place es
