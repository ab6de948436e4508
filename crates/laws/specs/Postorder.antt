-- Laws of the order of nodes: a tree's nodes stand one after the other, and the bodies and main fill the table.
use Rattle.std.specs.Prelude.{◌≡◌, ◌&&◌}
use Rattle.std.proofs.Math.Path.{refl, sym, ap}
use Rattle.std.proofs.Common.{◌∙◌, arith}
use Rattle.std.proofs.Math.Bool.{true}
use mathlib.Core.List.{List, [], ◌∷◌, ◌++◌, append_assoc}
use Prim.Native.Nat.{ℕ, zero, suc, ◌+◌, ◌-◌, ◌≤◌, ◌<◌}
use Rattle.std.proofs.Math.Dec.{ltb, eqb}
use borrow.Author.Tests.{eqb-true, lt-ltb, le-ltb, ltb-true}
use Rattle.image.specs.declared.Kind.{Kind}
use Rattle.image.specs.declared.Kind.TheVariants.{New, Cast, Value as Literal, Var, Add, Eq, Assign, Get, Set, Call, Block, Seq, If, While, Throw, Try, Unknown}
use Rattle.image.specs.Laws.{and_left, and_right}
use Rattle.image.specs.Trailer.{method_count, node_count, main_node}
use Rattle.image.specs.Records.{method_word}
use Rattle.image.specs.Nodes.{node_word, kind_of, operands, spans, node_holds, body_start, body_holds, filled_holds}
use Rattle.rules.specs.Maps.{tabulate}
use Rattle.rules.specs.Trees.{Expr, operand, arguments, node_of, node_tree, tree, place, postorder, postorder_all, places}
use Rattle.rules.specs.Program.{method_at, main}
use Rattle.rules.specs.Numbers.{joined}
use Rattle.laws.specs.Maps.{tabulate_same, stretch, stretch_from, stretch_zero, stretch_none, stretch_append, stretch_last, stretch_same, rising_le, joined_stretches}
use Rattle.laws.specs.Trees.{begins, begins_le, operand_count, operand_end, operand_below, operand_spans, node_spans, tree_node, known}

-- 8 and 9: every node holds, and every body
abbrev pub NodesHold : List ℕ → Type 0
NodesHold ws = (n : ℕ) → n < node_count ws → node_holds ws n ≡ true

abbrev pub BodiesHold : List ℕ → Type 0
BodiesHold ws = (i : ℕ) → i ≤ method_count ws → filled_holds ws i ≡ true

-- Something of each node of a tree.
module _ {A : Type 0} (at : Expr → A) where
  -- the same of the last k operands
  unfoldable pub postorder_last : (ℕ → Expr) → (k : ℕ) → List A
  postorder_last o zero = []
  postorder_last o (suc k) = postorder at (o k) ++ postorder_last o k

  postorder_arguments : (o : ℕ → Expr) (k : ℕ) → postorder_all at (arguments o k) ≡ postorder_last o k
  unfolding postorder arguments postorder_last
  postorder_arguments o zero = refl
  postorder_arguments o (suc k) = rw (postorder_arguments o k)

  pub postorder_node : (k : Kind) (p x y : ℕ) (o : ℕ → Expr) → (k ≡ Unknown → ⊥)
      → postorder at (node_of k p x y o) ≡ postorder_last o (operands k y) ++ (at (node_of k p x y o) ∷ [])
  unfolding postorder node_of postorder_last operands
  postorder_node New p x y o h = refl
  postorder_node Cast p x y o h = simp append_assoc
  postorder_node Literal p x y o h = refl
  postorder_node Var p x y o h = refl
  postorder_node Add p x y o h = simp append_assoc
  postorder_node Eq p x y o h = simp append_assoc
  postorder_node Assign p x y o h = simp append_assoc
  postorder_node Get p x y o h = simp append_assoc
  postorder_node Set p x y o h = simp append_assoc
  postorder_node Call p x y o h = simp (append_assoc, postorder_arguments)
  postorder_node Block p x y o h = simp append_assoc
  postorder_node Seq p x y o h = simp append_assoc
  postorder_node If p x y o h = simp append_assoc
  postorder_node While p x y o h = simp append_assoc
  postorder_node Throw p x y o h = simp append_assoc
  postorder_node Try p x y o h = simp append_assoc
  postorder_node Unknown p x y o h = absurd (h refl)

-- the trees of all its nodes
abbrev pub parts : Expr → List Expr
parts e = postorder (λ t. t) e

pub root_node : (k : Kind) (p x y : ℕ) (o : ℕ → Expr) → (k ≡ Unknown → ⊥) → place (node_of k p x y o) ≡ p
unfolding place node_of
root_node New p x y o h = refl
root_node Cast p x y o h = refl
root_node Literal p x y o h = refl
root_node Var p x y o h = refl
root_node Add p x y o h = refl
root_node Eq p x y o h = refl
root_node Assign p x y o h = refl
root_node Get p x y o h = refl
root_node Set p x y o h = refl
root_node Call p x y o h = refl
root_node Block p x y o h = refl
root_node Seq p x y o h = refl
root_node If p x y o h = refl
root_node While p x y o h = refl
root_node Throw p x y o h = refl
root_node Try p x y o h = refl
root_node Unknown p x y o h = absurd (h refl)

pub root_tree : (ws : List ℕ) (n : ℕ) → node_holds ws n ≡ true → place (tree ws n) ≡ n
unfolding node_tree
root_tree ws n h = ap place (tree_node ws n h) ∙ root_node (kind_of (node_word ws n 0)) n _ _ _ (known ws n h)

module _ (ws : List ℕ) where
  module _ {A : Type 0} (at : Expr → A) where
    -- from a node's first operand to its last
    last_stretch : (n k : ℕ) (o : ℕ → Expr)
        → ((j : ℕ) → j < k → postorder at (o j) ≡ stretch (λ i. at (tree ws i)) (begins ws n (suc j)) (begins ws n j))
        → postorder_last at o k ≡ stretch (λ i. at (tree ws i)) (begins ws n k) n
    unfolding postorder_last begins
    last_stretch n zero o h = sym (stretch_none _ n)
    last_stretch n (suc k) o h =
        rw (h k (omega arith), last_stretch n k o (λ j l. h j (omega arith)))
        (stretch_append _ _ (begins ws n k) n (omega arith) (begins_le ws n k))

    -- the nodes of node n's tree are those from its beginning to n
    abbrev Filled : ℕ → Type 0
    Filled n = postorder at (tree ws n) ≡ stretch (λ i. at (tree ws i)) (suc n - node_word ws n 1) (suc n)

    operand_filled : (n : ℕ) → node_holds ws n ≡ true → ((m : ℕ) → m < n → Filled m) → (j : ℕ) → j < operand_count ws n
        → postorder at (tree ws (operand ws n j)) ≡ stretch (λ i. at (tree ws i)) (begins ws n (suc j)) (begins ws n j)
    operand_filled n h ih j l =
        let m = operand ws n j in
        let b : begins ws n (suc j) ≡ suc m - node_word ws m 1 = omega (arith, operand_spans ws n h j l) in
        rw (b, ← operand_end ws n h j l) (ih m (operand_below ws n h j l))

    node_filled : (n : ℕ) → node_holds ws n ≡ true → ((m : ℕ) → m < n → Filled m) → Filled n
    unfolding node_tree
    node_filled n h ih =
        let o : ℕ → Expr = λ j. tree ws (operand ws n j) in
        let k = operand_count ws n in
        let b : suc n - node_word ws n 1 ≡ begins ws n k = omega (arith, node_spans ws n h) in
        ap (postorder at) (tree_node ws n h)
        ∙ postorder_node at (kind_of (node_word ws n 0)) n (node_word ws n 2) (node_word ws n 3) o (known ws n h)
        ∙ ap (λ (t : Expr). postorder_last at o k ++ (at t ∷ [])) (sym (tree_node ws n h))
        ∙ ap (◌++ (at (tree ws n) ∷ [])) (last_stretch n k o (operand_filled n h ih))
        ∙ sym (stretch_last _ (begins ws n k) n (begins_le ws n k))
        ∙ rw b

    pub tree_postorder : NodesHold ws → (n : ℕ) → n < node_count ws
        → postorder at (tree ws n) ≡ stretch (λ i. at (tree ws i)) (suc n - node_word ws n 1) (suc n)
    tree_postorder hold n l = go (suc n) n (omega arith) l
      where
        go : (k n : ℕ) → n < k → n < node_count ws → Filled n
        go zero n h l = absurd (omega arith)
        go (suc k) n h l = node_filled n (hold n l) (λ m q. go k m (omega arith) (omega arith))

  -- the places of a tree are those from its beginning to its own
  pub tree_places : NodesHold ws → (n : ℕ) → n < node_count ws
      → places (tree ws n) ≡ tabulate (node_word ws n 1) (λ i. suc n - node_word ws n 1 + i)
  tree_places hold n l =
      let b = suc n - node_word ws n 1 in
      let e : suc n ≡ b + node_word ws n 1 = omega (arith, node_spans ws n (hold n l)) in
      tree_postorder place hold n l
      ∙ stretch_same _ (λ i. i) b (suc n) (λ i k q. root_tree ws i (hold i (omega arith)))
      ∙ ap (stretch (λ i. i) b) e
      ∙ stretch_from (λ i. i) b (node_word ws n 1)

  -- 9: a body stands in the table, from where it begins to its last node
  pub body_holds_lem : (b n : ℕ) → body_holds ws b n ≡ true → (n < node_count ws) × (b + node_word ws n 1 ≡ suc n)
  unfolding body_holds spans
  body_holds_lem b n h =
      let t = ltb n (node_count ws) in
      let u = eqb (b + node_word ws n 1) (suc n) in
      (ltb-true _ _ (and_left t u h), eqb-true _ _ (and_right t u h))

  pub method_filled : (i : ℕ) → i < method_count ws → filled_holds ws i ≡ true
      → body_holds ws (body_start ws i) (method_word ws i 5) ≡ true
  unfolding filled_holds
  method_filled i l h = rw (lt-ltb i (method_count ws) l) at h

  pub main_filled : filled_holds ws (method_count ws) ≡ true
      → (body_holds ws (body_start ws (method_count ws)) (main_node ws) ≡ true) × (suc (main_node ws) ≡ node_count ws)
  unfolding filled_holds
  main_filled h =
      let m = method_count ws in
      let t = body_holds ws (body_start ws m) (main_node ws) in
      let u = eqb (suc (main_node ws)) (node_count ws) in
      let q : (t && u) ≡ true = rw (le-ltb m m (omega arith)) at h in
      (and_left t u q, eqb-true _ _ (and_right t u q))

  start_zero : body_start ws 0 ≡ 0
  unfolding body_start
  start_zero = refl

  -- An image whose nodes and bodies hold.
  module _ (hold : NodesHold ws) (filled : BodiesHold ws) where
    start_le : (i : ℕ) → i < method_count ws → body_start ws i ≤ body_start ws (suc i)
    unfolding body_start
    start_le i l = omega (arith, (body_holds_lem (body_start ws i) (method_word ws i 5) (method_filled i l (filled i (omega arith)))).1)

    module _ {A : Type 0} (at : Expr → A) where
      -- a method's body and main, each from where the one before it ends
      pub body_postorder : (i : ℕ) → i < method_count ws
          → postorder at (method_at ws i).body ≡ stretch (λ j. at (tree ws j)) (body_start ws i) (body_start ws (suc i))
      unfolding method_at body_start
      body_postorder i l =
          let n = method_word ws i 5 in
          let s = body_holds_lem (body_start ws i) n (method_filled i l (filled i (omega arith))) in
          let e : suc n - node_word ws n 1 ≡ body_start ws i = omega (arith, s.1) in
          tree_postorder at hold n s.0 ∙ rw e

      pub main_postorder : postorder at (main ws) ≡ stretch (λ j. at (tree ws j)) (body_start ws (method_count ws)) (node_count ws)
      unfolding main
      main_postorder =
          let n = main_node ws in
          let f = main_filled (filled (method_count ws) (omega arith)) in
          let s = body_holds_lem (body_start ws (method_count ws)) n f.0 in
          let e : suc n - node_word ws n 1 ≡ body_start ws (method_count ws) = omega (arith, s.1) in
          tree_postorder at hold n s.0 ∙ rw (e, f.1)

      -- The bodies in order, and then main, have every node once and in order.
      pub all_postorder : joined (tabulate (method_count ws) (λ i. postorder at (method_at ws i).body)) ++ postorder at (main ws)
          ≡ tabulate (node_count ws) (λ j. at (tree ws j))
      all_postorder =
          let m = method_count ws in
          let g : ℕ → A = λ j. at (tree ws j) in
          let b =
          tabulate_same m (λ i. postorder at (method_at ws i).body) (λ i. stretch g (body_start ws i) (body_start ws (suc i)))
          body_postorder in
          let f = main_filled (filled m (omega arith)) in
          let s = body_holds_lem (body_start ws m) (main_node ws) f.0 in
          rw (b, joined_stretches g (body_start ws) m start_le, main_postorder)
          (stretch_append g (body_start ws 0) (body_start ws m) (node_count ws) (rising_le (body_start ws) m start_le)
          (omega (arith, s.1, f.1))
          ∙ ap (λ (b : ℕ). stretch g b (node_count ws)) start_zero
          ∙ stretch_zero g (node_count ws))

    -- every place once and in order
    -- the places of a body, and of main
    pub body_places : (i : ℕ) → i < method_count ws → places (method_at ws i).body ≡ stretch (λ j. j) (body_start ws i) (body_start ws (suc i))
    unfolding body_start
    body_places i l =
        let s = body_holds_lem (body_start ws i) (method_word ws i 5) (method_filled i l (filled i (omega arith))) in
        body_postorder place i l
        ∙ stretch_same _ (λ j. j) (body_start ws i) (suc (method_word ws i 5)) (λ j k q. root_tree ws j (hold j (omega (arith, s.0))))

    pub main_places : places (main ws) ≡ stretch (λ j. j) (body_start ws (method_count ws)) (node_count ws)
    main_places =
        main_postorder place
        ∙ stretch_same _ (λ j. j) (body_start ws (method_count ws)) (node_count ws) (λ j k q. root_tree ws j (hold j q))

    pub all_places : joined (tabulate (method_count ws) (λ i. places (method_at ws i).body)) ++ places (main ws)
        ≡ tabulate (node_count ws) (λ j. j)
    all_places =
        all_postorder place ∙ tabulate_same (node_count ws) (λ j. place (tree ws j)) (λ j. j) (λ j l. root_tree ws j (hold j l))
