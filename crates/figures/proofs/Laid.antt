-- Laws: what the other laws ask of a tree holds of every tree of a laid out image.
use Prim.Native.Nat.{ℕ, zero, suc, ◌+◌, ◌-◌, ◌<◌}
use Rattle.std.specs.Prelude.{◌≡◌, refl, ◌↔◌, true, List, map, ltb, leb, length, get_or}
use Rattle.std.proofs.Common.{sym, ◌∙◌, ap, arith}
use Rattle.std.proofs.Math.Option.{Option, none}
use Rattle.std.proofs.Math.Dec.{ltb→lt}
use Rattle.image.specs.declared.Kind.{Kind}
use Rattle.image.specs.declared.Kind.TheVariants.{New, Cast, Value as Literal, Var, Add, Eq, Assign, Get, Set, Call, Block, Seq, If, While, Throw, Try, Unknown}
use Rattle.image.specs.Numbers.{variables}
use Rattle.image.specs.Trailer.{class_count, node_count}
use Rattle.image.specs.Nodes.{node_word, kind_of, is_class, is_local, names_hold, operands, reach, size_is, node_holds}
use Rattle.words.specs.declared.Ty.{Ty}
use Rattle.rules.specs.Maps.{tabulate}
use Rattle.rules.specs.Trees.{Expr, operand, nothing, arguments, node_of, node_tree, forest, tree, places, place}
use Rattle.rules.specs.Program.{Program, Env}
use Rattle.rules.specs.Typing.{bad, ok, typing}
use Rattle.rules.specs.Setting.{Vars, setting}
use Rattle.rules.specs.Sites.{sites, site_typed, reads}
use Rattle.laws.specs.Maps.{length_tabulate}
use Rattle.laws.specs.Postorder.{NodesHold, tree_places}
use Rattle.figures.specs.Agreement.{InRange, InRangeAll}
use Rattle.figures.proofs.Agreement.{sets, setting_sets, and_l, and_r, →T}
use Rattle.figures.specs.FirstBreach.{Written, WrittenAll, Consecutive, Lowest, bounded}
use Rattle.figures.proofs.FirstBreach.{typing_lowest, body_lowest, setting_lowest}
use Rattle.figures.specs.Figure2.{Sets}
use Rattle.figures.specs.Laid.{Nodes}

module _ (ws : List ℕ) where
  -- WRITTEN
  written_arguments : (o : ℕ → Expr) (k : ℕ) → ((j : ℕ) → Written (o j)) → WrittenAll (arguments o k)
  unfolding Written arguments
  written_arguments o zero h = tt
  written_arguments o (suc k) h = (h k, written_arguments o k h)

  written_node : (k : Kind) (p x y : ℕ) (o : ℕ → Expr) → ((j : ℕ) → Written (o j)) → Written (node_of k p x y o)
  unfolding Written node_of
  written_node New p x y o h = tt
  written_node Cast p x y o h = h 0
  written_node Literal p x y o h = tt
  written_node Var p x y o h = tt
  written_node Add p x y o h = (h 1, h 0)
  written_node Eq p x y o h = (h 1, h 0)
  written_node Assign p x y o h = h 0
  written_node Get p x y o h = h 0
  written_node Set p x y o h = (h 1, h 0)
  written_node Call p x y o h = (h y, written_arguments o y h)
  written_node Block p x y o h = (refl, h 0)
  written_node Seq p x y o h = (h 1, h 0)
  written_node If p x y o h = (h 2, h 1, h 0)
  written_node While p x y o h = (h 1, h 0)
  written_node Throw p x y o h = h 0
  written_node Try p x y o h = (h 1, h 0)
  written_node Unknown p x y o h = tt

  written_forest : (n i : ℕ) → Written (get_or (forest ws n) i nothing)
  unfolding Written forest node_tree
  written_forest zero i = tt
  written_forest (suc n) zero = written_node _ n _ _ _ (λ j. written_forest n (n - suc (operand ws n j)))
  written_forest (suc n) (suc i) = written_forest n i

  pub written_tree : (n : ℕ) → Written (tree ws n)
  unfolding tree
  written_tree n = written_forest (suc n) 0

  -- IN RANGE
  local : (y : ℕ) → is_local y ≡ true → y < variables
  unfolding is_local
  local y e = ltb→lt y variables (→T (ltb y variables) (and_r (leb 1 y) (ltb y variables) e))

  range_arguments : (o : ℕ → Expr) (k : ℕ) → ((j : ℕ) → InRange (o j)) → InRangeAll (arguments o k)
  unfolding InRange arguments
  range_arguments o zero h = tt
  range_arguments o (suc k) h = (h k, range_arguments o k h)

  range_node : (k : Kind) (p x y : ℕ) (o : ℕ → Expr) (c : ℕ) → names_hold c k x y ≡ true → ((j : ℕ) → InRange (o j)) → InRange (node_of k p x y o)
  unfolding InRange node_of names_hold
  range_node New p x y o c e h = tt
  range_node Cast p x y o c e h = h 0
  range_node Literal p x y o c e h = tt
  range_node Var p x y o c e h = tt
  range_node Add p x y o c e h = (h 1, h 0)
  range_node Eq p x y o c e h = (h 1, h 0)
  range_node Assign p x y o c e h = h 0
  range_node Get p x y o c e h = h 0
  range_node Set p x y o c e h = (h 1, h 0)
  range_node Call p x y o c e h = (h y, range_arguments o y h)
  range_node Block p x y o c e h = h 0
  range_node Seq p x y o c e h = (h 1, h 0)
  range_node If p x y o c e h = (h 2, h 1, h 0)
  range_node While p x y o c e h = (h 1, h 0)
  range_node Throw p x y o c e h = h 0
  range_node Try p x y o c e h = (local y (and_r (is_class c x) (is_local y) e), h 1, h 0)
  range_node Unknown p x y o c e h = tt

  -- the two halves of record 8
  names : (n : ℕ) → node_holds ws n ≡ true → names_hold (class_count ws) (kind_of (node_word ws n 0)) (node_word ws n 2) (node_word ws n 3) ≡ true
  unfolding node_holds
  names n e = and_l _ (size_is n (node_word ws n 1) (reach ws (operands (kind_of (node_word ws n 0)) (node_word ws n 3)) n)) e

  sizes : (n : ℕ) → node_holds ws n ≡ true → size_is n (node_word ws n 1) (reach ws (operands (kind_of (node_word ws n 0)) (node_word ws n 3)) n) ≡ true
  unfolding node_holds
  sizes n e = and_r (names_hold (class_count ws) (kind_of (node_word ws n 0)) (node_word ws n 2) (node_word ws n 3)) _ e

  range_forest : (n i : ℕ) → Nodes ws n → InRange (get_or (forest ws n) i nothing)
  unfolding InRange forest node_tree
  range_forest zero i h = tt
  range_forest (suc n) zero h =
      range_node (kind_of (node_word ws n 0)) n (node_word ws n 2) (node_word ws n 3) _ (class_count ws) (names n (h n (omega arith)))
      (λ j. range_forest n (n - suc (operand ws n j)) (λ m q. h m (omega arith)))
  range_forest (suc n) (suc i) h = range_forest n i (λ m q. h m (omega arith))

  pub range_tree : (n : ℕ) → Nodes ws (suc n) → InRange (tree ws n)
  unfolding tree
  range_tree n h = range_forest (suc n) 0 h

-- All nodes of the image hold, and so those up to n.
module _ (ws : List ℕ) (hold : NodesHold ws) where
  below : (n : ℕ) → n < node_count ws → Nodes ws (suc n)
  below n l m k = hold m (omega arith)

  -- the places of node n's tree end with n, as many as n's size says
  pub consecutive_tree : (n : ℕ) → n < node_count ws → Consecutive (suc n - node_word ws n 1) (places (tree ws n))
  consecutive_tree n l =
      let e = tree_places ws hold n l in
      e
      ∙ ap (λ k. tabulate k (λ i. suc n - node_word ws n 1 + i))
      (sym (ap length e ∙ length_tabulate (node_word ws n 1) (λ i. suc n - node_word ws n 1 + i)))

  -- So for node n's tree: figures 1 and 2 are what the checks find, and what they tell is at the lowest node.
  pub laid_sets : (n : ℕ) → n < node_count ws → (I K : Vars) → Sets I (tree ws n) K ↔ (setting (tree ws n) I ≡ ok K)
  laid_sets n h I K = (sets (tree ws n) (range_tree ws n (below n h)) I K, setting_sets (tree ws n) (range_tree ws n (below n h)) I K)

  pub laid_typing : (P : Program) (n : ℕ) → n < node_count ws → (Γ : Env) (p : ℕ)
      → typing P (tree ws n) Γ ≡ bad p
      → Lowest (suc n - node_word ws n 1) (map (site_typed P) (sites (tree ws n) Γ none)) p
  laid_typing P n h Γ p q = typing_lowest P (tree ws n) (written_tree ws n) Γ _ p (consecutive_tree n h) q

  pub laid_body : (P : Program) (n : ℕ) → n < node_count ws → (Γ : Env) (l : Option Ty) (p : ℕ)
      → bounded P l (place (tree ws n)) (typing P (tree ws n) Γ) ≡ bad p
      → Lowest (suc n - node_word ws n 1) (map (site_typed P) (sites (tree ws n) Γ l)) p
  laid_body P n h Γ l p q = body_lowest P (tree ws n) (written_tree ws n) Γ l _ p (consecutive_tree n h) q

  pub laid_setting : (n : ℕ) → n < node_count ws → (I : Vars) (p : ℕ)
      → setting (tree ws n) I ≡ bad p
      → Lowest (suc n - node_word ws n 1) (reads (tree ws n) I) p
  laid_setting n h I p q = setting_lowest (tree ws n) I _ p (consecutive_tree n h) q
