-- What the check of a tree finds, by the shape of its node; and the laws that its functions cite.
use Rattle.std.specs.Prelude.{◌≡◌, refl, Bool, true, false, List, leb, ◌≢◌, Result, Ok, Err, IsErrAnd}
use Rattle.std.proofs.Common.{sym, ◌∙◌, ltb-true}
use Rattle.std.proofs.lemmas.Result.{err_from_is_err_and}
use Rattle.std.proofs.Math.Path.{ap}
use Prim.Native.Nat.{ℕ, suc, ◌-◌, ◌<◌}
use native.Mathlib.Omega.{arith}
use Rattle.words.specs.Types.{is_declared}
use Rattle.image.specs.declared.Kind.{Kind}
use Rattle.image.specs.declared.Kind.TheVariants.{New, Cast, Value as Literal, Var, Add, Eq, Assign, Get, Set, Call, Block, Seq, If, While, Throw, Try, Unknown}
use Rattle.image.specs.declared.views.Image.{Image}
use Rattle.image.specs.Numbers.{variables}
use Rattle.image.specs.Trailer.{class_count}
use Rattle.image.specs.Nodes.{node_word, kind_of, is_class, is_variable, is_local, is_unused, names_hold, operands, reach, size_is, node_holds}
use Rattle.image.specs.Laws.{and_left, and_right}
use Rattle.rules.specs.Maps.{upd}
use Rattle.rules.specs.Trees.{Expr, operand, arguments, node_of, node_tree, tree}
use Rattle.rules.specs.Typing.{Res, ok, bad, ◌>>=◌, need}
use Rattle.rules.specs.Setting.{Vars, every_var, meet, setting, settings}
use Rattle.laws.specs.Trees.{operand_count, tree_node, tree_block, tree_if, tree_while, tree_try}
use Rattle.vars.specs.Vars.{vars_of}
use Rattle.vars.specs.declared.Vars.{Vars as Marked}

-- what the check of a tree finds, as the rules have it
abbrev pub res_of : Result Marked ℕ → Res Vars
res_of (Ok v) = ok (vars_of v)
res_of (Err p) = bad p

-- the tree of the operand of node n that has j others behind it
abbrev pub below : List ℕ → (n j : ℕ) → Expr
below ws n j = tree ws (operand ws n j)

-- two ways to go on: what both set
unfoldable pub meet_both : (a b : Res Vars) → Res Vars
meet_both a b = a >>= λ A. b >>= λ B. ok (meet A B)

-- x has the standing that it had
unfoldable pub give_back : (x : ℕ) → (had : Bool) → Res Vars → Res Vars
give_back x had e = e >>= λ K. ok (upd K x had)

-- The shapes, each from what its operands find.
unfoldable pub in_block : (e : Vars → Res Vars) → (x : ℕ) → Vars → Res Vars
in_block e x I = give_back x (I x) (e (upd I x false))

unfoldable pub in_if : (c a b : Vars → Res Vars) → Vars → Res Vars
in_if c a b I = c I >>= λ K. meet_both (a K) (b K)

unfoldable pub in_while : (c e : Vars → Res Vars) → Vars → Res Vars
in_while c e I = c I >>= λ K. e K >>= λ M. ok K

unfoldable pub in_try : (a b : Vars → Res Vars) → (x : ℕ) → Vars → Res Vars
in_try a b x I = meet_both (a I) (give_back x (I x) (b (upd I x true)))

-- what any other node does with the set after its operands, which are asked one after the other
unfoldable pub own : Kind → (p x : ℕ) → Vars → Res Vars
own New p x K = ok K
own Cast p x K = ok K
own Literal p x K = ok K
own Var p x K = need (K x) p K
own Add p x K = ok K
own Eq p x K = ok K
own Assign p x K = ok (upd K x true)
own Get p x K = ok K
own Set p x K = ok K
own Call p x K = ok K
own Block p x K = ok K
own Seq p x K = ok K
own If p x K = ok K
own While p x K = ok K
own Throw p x K = ok every_var
own Try p x K = ok K
own Unknown p x K = ok K

unfoldable pub then_own : Kind → (p x : ℕ) → Res Vars → Res Vars
then_own k p x r = r >>= own k p x

-- where a node names a variable
pub record Names (k : Kind) (x y : ℕ) : Type 0 where
  pub read : k ≡ Var → x < variables
  pub assigned : k ≡ Assign → x < variables
  pub bound : k ≡ Block → x < variables
  pub caught : k ≡ Try → y < variables

-- LAWS
-- a kind whose operands are asked one after the other
pub record Plain (k : Kind) : Type 0 where
  pub block : k ≢ Block
  pub ite : k ≢ If
  pub while : k ≢ While
  pub try : k ≢ Try

-- what a `?` hands back is what the call found
pub handed : (r : Result Marked ℕ) (p : ℕ) → IsErrAnd r (λ q. q ≡ p) → res_of r ≡ bad p
handed r p h = let q = err_from_is_err_and r h in rw (q.1, q.2)

last_ok : (r : Res Vars) → (r >>= λ K. ok K) ≡ r
unfolding ◌>>=◌
last_ok (ok K) = refl
last_ok (bad p) = refl

two : (r : Res Vars) (f : Vars → Res Vars) → (r >>= λ K. f K >>= λ M. ok M) ≡ (r >>= λ K. f K)
unfolding ◌>>=◌
two (ok K) f = last_ok (f K)
two (bad p) f = refl

one_operand : (o : ℕ → Expr) (I : Vars) (f : Vars → Res Vars) → (setting (o 0) I >>= f) ≡ (settings (arguments o 1) I >>= f)
unfolding arguments setting
one_operand o I f = ap (λ (r : Res Vars). r >>= f) (sym (last_ok (setting (o 0) I)))

two_operands : (o : ℕ → Expr) (I : Vars) → (setting (o 1) I >>= λ K. setting (o 0) K) ≡ (settings (arguments o 2) I >>= λ K. ok K)
unfolding arguments setting
two_operands o I = sym (last_ok (settings (arguments o 2) I) ∙ two (setting (o 1) I) (setting (o 0)))

-- operands, and then the node
in_order : (k : Kind) (p x y : ℕ) (o : ℕ → Expr) (I : Vars) → Plain k → setting (node_of k p x y o) I ≡ then_own k p x (settings (arguments o (operands k y)) I)
unfolding own then_own node_of operands arguments setting ◌>>=◌
in_order New p x y o I h = refl
in_order Cast p x y o I h = sym (last_ok (setting (o 0) I)) ∙ one_operand o I (λ K. ok K)
in_order Literal p x y o I h = refl
in_order Var p x y o I h = refl
in_order Add p x y o I h = two_operands o I
in_order Eq p x y o I h = two_operands o I
in_order Assign p x y o I h = one_operand o I (own Assign p x)
in_order Get p x y o I h = sym (last_ok (setting (o 0) I)) ∙ one_operand o I (λ K. ok K)
in_order Set p x y o I h = two_operands o I
in_order Call p x y o I h = sym (last_ok _)
in_order Block p x y o I h = absurd (h.block refl)
in_order Seq p x y o I h = two_operands o I
in_order If p x y o I h = absurd (h.ite refl)
in_order While p x y o I h = absurd (h.while refl)
in_order Throw p x y o I h = one_operand o I (own Throw p x)
in_order Try p x y o I h = absurd (h.try refl)
in_order Unknown p x y o I h = refl

-- the second part's variable may be given back before the sets meet
try_meet : (r s : Res Vars) (g : Vars → Vars) → (r >>= λ A. s >>= λ B. ok (meet A (g B))) ≡ meet_both r (s >>= λ B. ok (g B))
unfolding ◌>>=◌ meet_both
try_meet (ok A) (ok B) g = refl
try_meet (ok A) (bad p) g = refl
try_meet (bad p) s g = refl

names : (c : ℕ) (k : Kind) (x y : ℕ) → names_hold c k x y ≡ true → Names k x y
unfolding names_hold is_variable is_local
names c k x y h =
    record {
      read = λ e. ltb-true x variables (and_left _ (is_unused y) (rw e at h));
      assigned = λ e. ltb-true x variables (and_left _ (is_unused y) (rw e at h));
      bound = λ e. ltb-true x variables (and_right (leb 1 x) _ (and_left _ (is_declared y c) (rw e at h)));
      caught = λ e. ltb-true y variables (and_right (leb 1 y) _ (and_right (is_class c x) _ (rw e at h)));
    }

module _ (image : Image) (n : ℕ) (w : n < image.layout.node_count) where
  abbrev ws : List ℕ
  ws = image.words.now

  holds : node_holds ws n ≡ true
  holds = image.good.nodes n (omega (arith, image.good.lay.node_count_lem))

  pub node_names : Names (kind_of (node_word ws n 0)) (node_word ws n 2) (node_word ws n 3)
  unfolding node_holds
  node_names =
      names (class_count ws) (kind_of (node_word ws n 0)) (node_word ws n 2) (node_word ws n 3)
      (and_left _ (size_is n (node_word ws n 1) (reach ws (operand_count ws n) n)) holds)

  -- the variable that a node names, by its kind
  pub read_within : kind_of (node_word ws n 0) ≡ Var → node_word ws n 2 < variables
  read_within = node_names.read

  pub assigned_within : kind_of (node_word ws n 0) ≡ Assign → node_word ws n 2 < variables
  assigned_within = node_names.assigned

  pub bound_within : kind_of (node_word ws n 0) ≡ Block → node_word ws n 2 < variables
  bound_within = node_names.bound

  pub caught_within : kind_of (node_word ws n 0) ≡ Try → node_word ws n 3 < variables
  caught_within = node_names.caught

  -- the set after a node, by its kind
  pub after_plain : (I : Vars) → Plain (kind_of (node_word ws n 0))
      → then_own (kind_of (node_word ws n 0)) n (node_word ws n 2) (settings (arguments (below ws n) (operand_count ws n)) I) ≡ setting (tree ws n) I
  unfolding node_tree
  after_plain I h = rw (tree_node ws n holds) (sym (in_order (kind_of (node_word ws n 0)) n (node_word ws n 2) (node_word ws n 3) (below ws n) I h))

  pub after_block : (I : Vars) → kind_of (node_word ws n 0) ≡ Block → in_block (setting (below ws n 0)) (node_word ws n 2) I ≡ setting (tree ws n) I
  unfolding setting in_block give_back
  after_block I e = rw (tree_block ws n holds e)

  pub after_if : (I : Vars) → kind_of (node_word ws n 0) ≡ If → in_if (setting (below ws n 2)) (setting (below ws n 1)) (setting (below ws n 0)) I ≡ setting (tree ws n) I
  unfolding setting in_if meet_both
  after_if I e = rw (tree_if ws n holds e)

  pub after_while : (I : Vars) → kind_of (node_word ws n 0) ≡ While → in_while (setting (below ws n 1)) (setting (below ws n 0)) I ≡ setting (tree ws n) I
  unfolding setting in_while
  after_while I e = rw (tree_while ws n holds e)

  pub after_try : (I : Vars) → kind_of (node_word ws n 0) ≡ Try → in_try (setting (below ws n 1)) (setting (below ws n 0)) (node_word ws n 3) I ≡ setting (tree ws n) I
  unfolding setting in_try give_back
  after_try I e =
      rw (tree_try ws n holds e)
      (sym (try_meet (setting (below ws n 1) I) (setting (below ws n 0) (upd I (node_word ws n 3) true)) (λ B. upd B (node_word ws n 3) (I (node_word ws n 3)))))

  -- the operands that each shape asks
  pub block_operands : kind_of (node_word ws n 0) ≡ Block → 0 < operand_count ws n
  unfolding operands
  block_operands e = rw e (omega arith)

  pub if_operands : kind_of (node_word ws n 0) ≡ If → 2 < operand_count ws n
  unfolding operands
  if_operands e = rw e (omega arith)

  pub while_operands : kind_of (node_word ws n 0) ≡ While → 1 < operand_count ws n
  unfolding operands
  while_operands e = rw e (omega arith)

  pub try_operands : kind_of (node_word ws n 0) ≡ Try → 1 < operand_count ws n
  unfolding operands
  try_operands e = rw e (omega arith)

-- what is known of a node by its kind
pub ruleset by_kind = (after_block, after_if, after_while, after_try, block_operands, if_operands, while_operands, try_operands, read_within, assigned_within, bound_within, caught_within)

-- the last operands: none of them, and the first of them and then the others
module _ (o : ℕ → Expr) (I : Vars) where
  pub list_end : ok I ≡ settings (arguments o 0) I
  unfolding arguments setting
  list_end = refl

  pub list_next : (i : ℕ) → 0 < i → settings (arguments o i) I ≡ (setting (o (i - 1)) I >>= λ K. settings (arguments o (i - 1)) K)
  unfolding arguments setting
  list_next i l = let e : i ≡ suc (i - 1) = omega arith in ap (λ (k : ℕ). settings (arguments o k) I) e
