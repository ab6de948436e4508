-- Node records: kinds, what x and y must be, operands and sizes; and the bodies that fill the table.
use Rattle.std.specs.Prelude.{Bool, false, cond, ◌&&◌, List, [], ◌∷◌, ℕ, zero, suc, ◌+◌, ◌*◌, ◌-◌, length, get_or, ltb, leb, eqb}
use Rattle.std.specs.declared.option.Option.{Option}
use Rattle.std.specs.declared.option.Option.TheVariants.{Some, None}
use Rattle.words.specs.Types.{is_declared, is_type}
use Rattle.words.specs.Value.{is_value}
use Rattle.image.specs.declared.Kind.{Kind}
use Rattle.image.specs.declared.Kind.TheVariants.{New, Cast, Value, Var, Add, Eq, Assign, Get, Set, Call, Block, Seq, If, While, Throw, Try, Unknown}
use Rattle.image.specs.Numbers.{most_arguments, variables, written_tags}
use Rattle.image.specs.Trailer.{trailer, class_count, method_count, node_count, main_node}
use Rattle.image.specs.Records.{is_name, method_word}

-- word k of node n: 0 kind, 1 size, 2 x, 3 y
unfoldable pub node_word : List ℕ → ℕ → ℕ → ℕ
node_word ws n k = get_or ws (length ws - trailer ws 4 + 4 * n + k) 0

-- the kinds by their numbers, from 0
abbrev pub kinds : List Kind
kinds = New ∷ Cast ∷ Value ∷ Var ∷ Add ∷ Eq ∷ Assign ∷ Get ∷ Set ∷ Call ∷ Block ∷ Seq ∷ If ∷ While ∷ Throw ∷ Try ∷ []

unfoldable pub kind_of : ℕ → Kind
kind_of k = get_or kinds k Unknown

-- what x or y may be
unfoldable pub is_class : (classes x : ℕ) → Bool
is_class classes x = ltb x classes

unfoldable pub is_variable : ℕ → Bool
is_variable x = ltb x variables

-- a Block's or a Try's variable: not `this`
unfoldable pub is_local : ℕ → Bool
is_local x = leb 1 x && ltb x variables

unfoldable pub is_unused : ℕ → Bool
is_unused x = eqb x 0

-- what x and y of a node must be, by its kind
unfoldable pub names_hold : (classes : ℕ) → Kind → (x y : ℕ) → Bool
names_hold classes New x y = is_class classes x && is_unused y
names_hold classes Cast x y = is_class classes x && is_unused y
names_hold classes Value x y = ltb x written_tags && is_value x y
names_hold classes Var x y = is_variable x && is_unused y
names_hold classes Add x y = is_unused x && is_unused y
names_hold classes Eq x y = is_unused x && is_unused y
names_hold classes Assign x y = is_variable x && is_unused y
names_hold classes Get x y = is_name x && is_class classes y
names_hold classes Set x y = is_name x && is_class classes y
names_hold classes Call x y = is_name x && leb y most_arguments
names_hold classes Block x y = is_local x && is_declared y classes
names_hold classes Seq x y = is_unused x && is_unused y
names_hold classes If x y = is_unused x && is_unused y
names_hold classes While x y = is_unused x && is_unused y
names_hold classes Throw x y = is_type x classes && is_unused y
names_hold classes Try x y = is_class classes x && is_local y
names_hold classes Unknown x y = false

-- how many operands a node has; a Call has its receiver and y arguments
unfoldable pub operands : Kind → (y : ℕ) → ℕ
operands New y = 0
operands Cast y = 1
operands Value y = 0
operands Var y = 0
operands Add y = 2
operands Eq y = 2
operands Assign y = 1
operands Get y = 1
operands Set y = 2
operands Call y = suc y
operands Block y = 1
operands Seq y = 2
operands If y = 3
operands While y = 2
operands Throw y = 1
operands Try y = 2
operands Unknown y = 0

-- Where the k trees that end just before node e begin, if all of them stand in the table: the last tree ends at e - 1 and
-- has that node's size, and the one before it ends where it begins.
unfoldable pub reach : List ℕ → (k e : ℕ) → Option ℕ
reach ws zero e = Some e
reach ws (suc k) zero = None
reach ws (suc k) (suc e) =
    let r = reach ws k (suc e - node_word ws e 1) in
    cond (leb (node_word ws e 1) (suc e)) r None

-- a tree from node b to node n has that size
unfoldable pub spans : (b n size : ℕ) → Bool
spans b n size = eqb (b + size) (suc n)

-- a node's size is 1 and its operands' sizes, when the operands begin at b
unfoldable pub size_is : (n size : ℕ) → Option ℕ → Bool
size_is n size (Some b) = spans b n size
size_is n size None = false

-- 8
unfoldable pub node_holds : List ℕ → ℕ → Bool
node_holds ws n =
    names_hold (class_count ws) (kind_of (node_word ws n 0)) (node_word ws n 2) (node_word ws n 3)
    && size_is n (node_word ws n 1) (reach ws (operands (kind_of (node_word ws n 0)) (node_word ws n 3)) n)

-- where body i begins: after the body before it
unfoldable pub body_start : List ℕ → ℕ → ℕ
body_start ws zero = 0
body_start ws (suc i) = suc (method_word ws i 5)

-- a body that begins at b and ends at node n, which is in the table
unfoldable pub body_holds : List ℕ → (b n : ℕ) → Bool
body_holds ws b n = ltb n (node_count ws) && spans b n (node_word ws n 1)

-- 9: each method's body; at the method count main's, which ends the table
unfoldable pub filled_holds : List ℕ → ℕ → Bool
filled_holds ws i =
    cond (ltb i (method_count ws)) (body_holds ws (body_start ws i) (method_word ws i 5))
    (body_holds ws (body_start ws i) (main_node ws) && eqb (suc (main_node ws)) (node_count ws))
