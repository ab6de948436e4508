-- Laws of trees: where a node's operands stand, and its tree by its kind.
use Rattle.std.proofs.Math.Path.{◌≡◌, refl, sym}
use Rattle.std.proofs.Common.{◌∙◌}
use Rattle.std.specs.Prelude.{Bool, List}
use Rattle.std.proofs.Math.Bool.{true, false, cond}
use Rattle.std.proofs.Math.Option.{none}
use Prim.Native.Nat.{ℕ, zero, suc, ◌+◌, ◌-◌, ◌≤◌, ◌<◌}
use native.Mathlib.Omega.{arith}
use Rattle.std.proofs.Math.Decide.{ℕ_discrete}
use Rattle.std.proofs.Math.Dec.{leb}
use Rattle.std.proofs.Math.ListN.{get_or}
use borrow.Author.Tests.{leb-true, eqb-true}
use Rattle.words.specs.Types.{type_of}
use Rattle.words.specs.Value.{value_with}
use Rattle.std.specs.declared.option.Option.{Option}
use Rattle.std.specs.declared.option.Option.TheVariants.{Some, None}
use Rattle.image.specs.declared.Kind.{Kind}
use Rattle.image.specs.declared.Kind.TheVariants.{New, Cast, Value as Literal, Var, Add, Eq, Assign, Get, Set, Call, Block, Seq, If, While, Throw, Try, Unknown}
use Rattle.image.specs.Laws.{and_right}
use Rattle.image.specs.Trailer.{class_count}
use Rattle.image.specs.Nodes.{node_word, kind_of, names_hold, operands, reach, spans, size_is, node_holds}
use Rattle.rules.specs.Trees.{Expr, new, cast, val, var, add, eq, assign, get, put, call, block, seq, ite, while, throw, try, operand, nothing, written, arguments, node_of, node_tree, forest, tree}

-- a node takes no more operands than its kind has
pub arguments_same : (o u : ℕ → Expr) (k : ℕ) → ((j : ℕ) → j < k → o j ≡ u j) → arguments o k ≡ arguments u k
unfolding arguments
arguments_same o u zero h = refl
arguments_same o u (suc k) h = rw (h k (omega arith), arguments_same o u k (λ j l. h j (omega arith)))

pub node_same : (k : Kind) (p x y : ℕ) (o u : ℕ → Expr) → ((j : ℕ) → j < operands k y → o j ≡ u j)
    → node_of k p x y o ≡ node_of k p x y u
unfolding node_of operands
node_same New p x y o u h = refl
node_same Cast p x y o u h = rw (h 0 (omega arith))
node_same Literal p x y o u h = refl
node_same Var p x y o u h = refl
node_same Add p x y o u h = rw (h 0 (omega arith), h 1 (omega arith))
node_same Eq p x y o u h = rw (h 0 (omega arith), h 1 (omega arith))
node_same Assign p x y o u h = rw (h 0 (omega arith))
node_same Get p x y o u h = rw (h 0 (omega arith))
node_same Set p x y o u h = rw (h 0 (omega arith), h 1 (omega arith))
node_same Call p x y o u h = rw (h y (omega arith), arguments_same o u y (λ j l. h j (omega arith)))
node_same Block p x y o u h = rw (h 0 (omega arith))
node_same Seq p x y o u h = rw (h 0 (omega arith), h 1 (omega arith))
node_same If p x y o u h = rw (h 0 (omega arith), h 1 (omega arith), h 2 (omega arith))
node_same While p x y o u h = rw (h 0 (omega arith), h 1 (omega arith))
node_same Throw p x y o u h = rw (h 0 (omega arith))
node_same Try p x y o u h = rw (h 0 (omega arith), h 1 (omega arith))
node_same Unknown p x y o u h = refl

module _ (ws : List ℕ) where
  -- the forest below n has the tree of each node
  pub forest_tree : (n m : ℕ) → m < n → get_or (forest ws n) (n - suc m) nothing ≡ tree ws m
  unfolding forest tree
  forest_tree zero m h = absurd (omega arith)
  forest_tree (suc n) m h = go (ℕ_discrete m n) (λ l. forest_tree n m l)
    where
      go : Dec (m ≡ n) → (m < n → get_or (forest ws n) (n - suc m) nothing ≡ tree ws m)
          → get_or (forest ws (suc n)) (suc n - suc m) nothing ≡ tree ws m
      go (yes e) ih = let z : suc n - suc m ≡ 0 = omega arith in rw (z, e)
      go (no d) ih = let z : suc n - suc m ≡ suc (n - suc m) = omega arith in rw z (ih (omega arith))

  -- Where the last j of the trees that end just before node e begin.
  unfoldable pub begins : (e j : ℕ) → ℕ
  begins e zero = e
  begins e (suc j) = begins e j - node_word ws (begins e j - 1) 1

  pub begins_le : (e j : ℕ) → begins e j ≤ e
  unfolding begins
  begins_le e zero = omega arith
  begins_le e (suc j) = omega (arith, begins_le e j)

  pub operand_begins : (n j : ℕ) → operand ws n j ≡ begins n j - 1
  unfolding begins operand
  operand_begins n zero = refl
  operand_begins n (suc j) = rw (operand_begins n j) (omega arith)

  begins_on : (e j : ℕ) → begins (e - node_word ws (e - 1) 1) j ≡ begins e (suc j)
  unfolding begins
  begins_on e zero = refl
  begins_on e (suc j) = rw (begins_on e j)

  -- k trees stand before e, and they begin at b
  pub record Reached (k e b : ℕ) : Type 0 where
    pub first : begins e k ≡ b
    pub spans : (j : ℕ) → j < k → begins e (suc j) + node_word ws (begins e j - 1) 1 ≡ begins e j
    pub there : (j : ℕ) → j < k → 0 < begins e j

  begins_next : (e j : ℕ) → begins (suc e - node_word ws e 1) j ≡ begins (suc e) (suc j)
  begins_next e j = let p : suc e - 1 ≡ e = omega arith in rw p at (begins_on (suc e) j)

  spans_on : (k e b : ℕ) → node_word ws e 1 ≤ suc e → Reached k (suc e - node_word ws e 1) b → (j : ℕ) → j < suc k
      → begins (suc e) (suc j) + node_word ws (begins (suc e) j - 1) 1 ≡ begins (suc e) j
  unfolding begins
  spans_on k e b s r zero l = let p : suc e - 1 ≡ e = omega arith in rw p (omega arith)
  spans_on k e b s r (suc j) l = rw (begins_next e j) at (r.spans j (omega arith))

  there_on : (k e b : ℕ) → Reached k (suc e - node_word ws e 1) b → (j : ℕ) → j < suc k → 0 < begins (suc e) j
  unfolding begins
  there_on k e b r zero l = omega arith
  there_on k e b r (suc j) l = rw begins_next at (r.there j (omega arith))

  pub reached : (k e b : ℕ) → reach ws k e ≡ Some b → Reached k e b
  unfolding reach begins
  reached zero e b h = record { first = cc; spans = λ j l. absurd (omega arith); there = λ j l. absurd (omega arith) }
  reached (suc k) zero b h = absurd (let z : ◌≡◌ {A = ℕ} 0 1 = cc in omega arith)
  reached (suc k) (suc e) b h = go (leb (node_word ws e 1) (suc e)) refl h (λ q. reached k (suc e - node_word ws e 1) b q)
    where
      go : (t : Bool) → leb (node_word ws e 1) (suc e) ≡ t → cond t (reach ws k (suc e - node_word ws e 1)) None ≡ Some b
          → (reach ws k (suc e - node_word ws e 1) ≡ Some b → Reached k (suc e - node_word ws e 1) b)
          → Reached (suc k) (suc e) b
      go true t q ih =
          let r = ih q in
          record {
            first = sym (begins_next e k) ∙ r.first;
            spans = spans_on k e b (leb-true _ _ t) r;
            there = there_on k e b r;
          }
      go false t q ih = absurd (let z : ◌≡◌ {A = ℕ} 0 1 = cc in omega arith)

  -- how many operands a node has
  abbrev pub operand_count : ℕ → ℕ
  operand_count n = operands (kind_of (node_word ws n 0)) (node_word ws n 3)

  -- A node that holds: its operands stand before it one after the other, and its tree begins where the first of them does.
  pub holds_reached : (n : ℕ) → node_holds ws n ≡ true → (b : ℕ) × Reached (operand_count n) n b × (b + node_word ws n 1 ≡ suc n)
  unfolding node_holds size_is spans
  holds_reached n h =
      go (reach ws (operand_count n) n) refl
      (and_right
      (names_hold (class_count ws) (kind_of (node_word ws n 0)) (node_word ws n 2) (node_word ws n 3))
      (size_is n (node_word ws n 1) (reach ws (operand_count n) n))
      h)
    where
      go : (f : Option ℕ) → reach ws (operand_count n) n ≡ f → size_is n (node_word ws n 1) f ≡ true
          → (b : ℕ) × Reached (operand_count n) n b × (b + node_word ws n 1 ≡ suc n)
      go (Some b) e q = (b, reached (operand_count n) n b e, eqb-true _ _ q)
      go None e q = absurd (let z : ◌≡◌ {A = ℕ} 0 1 = cc in omega arith)

  module _ (n : ℕ) (h : node_holds ws n ≡ true) where
    pub operand_end : (j : ℕ) → j < operand_count n → suc (operand ws n j) ≡ begins n j
    operand_end j l = omega (arith, operand_begins n j, (holds_reached n h).1.there j l)

    pub operand_below : (j : ℕ) → j < operand_count n → operand ws n j < n
    operand_below j l = omega (arith, operand_end j l, begins_le n j)

    -- the tree of operand j begins where the next one from the end ends
    pub operand_spans : (j : ℕ) → j < operand_count n → begins n (suc j) + node_word ws (operand ws n j) 1 ≡ suc (operand ws n j)
    operand_spans j l = rw (operand_end j l, operand_begins n j) ((holds_reached n h).1.spans j l)

    pub operand_size : (j : ℕ) → j < operand_count n → node_word ws (operand ws n j) 1 ≤ suc (operand ws n j)
    operand_size j l = omega (arith, operand_spans j l)

    pub node_spans : begins n (operand_count n) + node_word ws n 1 ≡ suc n
    node_spans = let r = holds_reached n h in rw r.1.first r.2

    pub node_size : (1 ≤ node_word ws n 1) × (node_word ws n 1 ≤ suc n)
    node_size = (omega (arith, node_spans, begins_le n (operand_count n)), omega (arith, node_spans))

    -- without `begins`: an operand begins after the one before it, and the first one where the node's tree does
    pub operand_after : (j : ℕ) → suc j < operand_count n
        → suc (operand ws n (suc j)) + node_word ws (operand ws n j) 1 ≡ suc (operand ws n j)
    operand_after j l = rw (operand_end (suc j) l) (operand_spans j (omega arith))

    pub operand_first : (j : ℕ) → suc j ≡ operand_count n
        → suc n - node_word ws n 1 + node_word ws (operand ws n j) 1 ≡ suc (operand ws n j)
    operand_first j e =
        let b : suc n - node_word ws n 1 ≡ begins n (suc j) = rw e (omega (arith, node_spans)) in
        rw b (operand_spans j (omega arith))

    pub operand_none : operand_count n ≡ 0 → node_word ws n 1 ≡ 1
    unfolding begins
    operand_none e = let q : n + node_word ws n 1 ≡ suc n = rw e at node_spans in omega arith

    pub tree_node : tree ws n ≡ node_tree ws n (tree ws)
    unfolding tree forest node_tree
    tree_node =
        node_same (kind_of (node_word ws n 0)) n (node_word ws n 2) (node_word ws n 3)
        (λ j. get_or (forest ws n) (n - suc (operand ws n j)) nothing) (λ j. tree ws (operand ws n j))
        (λ j l. forest_tree n (operand ws n j) (operand_below j l))

    -- the tree of a node by its kind
    pub tree_new : kind_of (node_word ws n 0) ≡ New → tree ws n ≡ new n (node_word ws n 2)
    unfolding node_tree node_of
    tree_new e = tree_node ∙ rw e

    pub tree_cast : kind_of (node_word ws n 0) ≡ Cast → tree ws n ≡ cast n (node_word ws n 2) (tree ws (operand ws n 0))
    unfolding node_tree node_of
    tree_cast e = tree_node ∙ rw e

    pub tree_value : kind_of (node_word ws n 0) ≡ Literal
        → tree ws n ≡ val n (written (value_with (node_word ws n 2) (node_word ws n 3)))
    unfolding node_tree node_of
    tree_value e = tree_node ∙ rw e

    pub tree_var : kind_of (node_word ws n 0) ≡ Var → tree ws n ≡ var n (node_word ws n 2)
    unfolding node_tree node_of
    tree_var e = tree_node ∙ rw e

    pub tree_add : kind_of (node_word ws n 0) ≡ Add → tree ws n ≡ add n (tree ws (operand ws n 1)) (tree ws (operand ws n 0))
    unfolding node_tree node_of
    tree_add e = tree_node ∙ rw e

    pub tree_eq : kind_of (node_word ws n 0) ≡ Eq → tree ws n ≡ eq n (tree ws (operand ws n 1)) (tree ws (operand ws n 0))
    unfolding node_tree node_of
    tree_eq e = tree_node ∙ rw e

    pub tree_assign : kind_of (node_word ws n 0) ≡ Assign → tree ws n ≡ assign n (node_word ws n 2) (tree ws (operand ws n 0))
    unfolding node_tree node_of
    tree_assign e = tree_node ∙ rw e

    pub tree_get : kind_of (node_word ws n 0) ≡ Get → tree ws n ≡ get n (node_word ws n 2) (node_word ws n 3) (tree ws (operand ws n 0))
    unfolding node_tree node_of
    tree_get e = tree_node ∙ rw e

    pub tree_put : kind_of (node_word ws n 0) ≡ Set
        → tree ws n ≡ put n (node_word ws n 2) (node_word ws n 3) (tree ws (operand ws n 1)) (tree ws (operand ws n 0))
    unfolding node_tree node_of
    tree_put e = tree_node ∙ rw e

    pub tree_call : kind_of (node_word ws n 0) ≡ Call
        → tree ws n
        ≡ call n (node_word ws n 2) (tree ws (operand ws n (node_word ws n 3)))
        (arguments (λ j. tree ws (operand ws n j)) (node_word ws n 3))
    unfolding node_tree node_of
    tree_call e = tree_node ∙ rw e

    pub tree_block : kind_of (node_word ws n 0) ≡ Block
        → tree ws n ≡ block n (node_word ws n 2) (type_of (node_word ws n 3)) none (tree ws (operand ws n 0))
    unfolding node_tree node_of
    tree_block e = tree_node ∙ rw e

    pub tree_seq : kind_of (node_word ws n 0) ≡ Seq → tree ws n ≡ seq n (tree ws (operand ws n 1)) (tree ws (operand ws n 0))
    unfolding node_tree node_of
    tree_seq e = tree_node ∙ rw e

    pub tree_if : kind_of (node_word ws n 0) ≡ If
        → tree ws n ≡ ite n (tree ws (operand ws n 2)) (tree ws (operand ws n 1)) (tree ws (operand ws n 0))
    unfolding node_tree node_of
    tree_if e = tree_node ∙ rw e

    pub tree_while : kind_of (node_word ws n 0) ≡ While → tree ws n ≡ while n (tree ws (operand ws n 1)) (tree ws (operand ws n 0))
    unfolding node_tree node_of
    tree_while e = tree_node ∙ rw e

    pub tree_throw : kind_of (node_word ws n 0) ≡ Throw → tree ws n ≡ throw n (type_of (node_word ws n 2)) (tree ws (operand ws n 0))
    unfolding node_tree node_of
    tree_throw e = tree_node ∙ rw e

    pub tree_try : kind_of (node_word ws n 0) ≡ Try
        → tree ws n ≡ try n (node_word ws n 2) (node_word ws n 3) (tree ws (operand ws n 1)) (tree ws (operand ws n 0))
    unfolding node_tree node_of
    tree_try e = tree_node ∙ rw e

    -- its kind is one of the 16
    pub known : kind_of (node_word ws n 0) ≡ Unknown → ⊥
    unfolding node_holds names_hold
    known e = let q : false ≡ true = rw e at h in let z : ◌≡◌ {A = ℕ} 0 1 = cc in omega arith
