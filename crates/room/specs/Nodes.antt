-- Laws of nodes: what their words must be, and what the step of one finds.
use Rattle.std.specs.Prelude.{◌≡◌, Bool, true, false, List, eqb, ltb, leb, get_or}
use Rattle.std.proofs.Math.Path.{refl}
use Rattle.std.proofs.Common.{sym, ◌∙◌, ap}
use Rattle.std.proofs.Math.Option.{Option, none, some}
use Prim.Native.Nat.{ℕ, zero, suc, ◌^◌, ◌≤◌, ◌<◌}
use native.Mathlib.Omega.{arith}
use Rattle.std.proofs.Math.ListN.{length}
use borrow.Author.Tests.{ltb-true, leb-true}
use Rattle.words.specs.declared.Value.{Value}
use Rattle.words.specs.declared.Value.TheVariants.{Null, Intg, Addr}
use Rattle.words.specs.declared.Ty.{Ty}
use Rattle.words.specs.Types.{type_of, is_declared}
use Rattle.words.specs.Value.{value_with, is_value, given}
use Rattle.image.specs.declared.Kind.{Kind}
use Rattle.image.specs.declared.Kind.TheVariants.{New, Cast, Value as Literal, Var, Add, Eq, Assign, Get, Set, Call, Block, Seq, If, While, Throw, Try, Unknown}
use Rattle.image.specs.Laws.{and_left, and_right}
use Rattle.image.specs.Numbers.{highest_name, most_arguments, variables, written_tags}
use Rattle.image.specs.Trailer.{class_count, node_count}
use Rattle.image.specs.Records.{is_name}
use Rattle.image.specs.Nodes.{node_word, kind_of, is_class, is_variable, is_local, is_unused, names_hold, operands, reach, size_is, node_holds}
use Rattle.rules.specs.Trees.{Expr, var, seq, ite, while, operand, written, node_of, tree}
use Rattle.rules.specs.Program.{program}
use Rattle.rules.specs.Heap.{Heap, heap_of}
use Rattle.rules.specs.Step.{Store, Out, read_redex, redex, bare, View, is_seq, is_assign, is_val, other, view, value_in, assigned, remember, settle, blocked, load, step}
use Rattle.laws.specs.Values.{value_at}
use Rattle.laws.specs.Trees.{operand_count, operand_below, known}
use Rattle.laws.specs.Frames.{plug, outer, plugs, outers, begun, Plain, Quiet, quiet_plain, step_var, step_while}
use Rattle.room.specs.declared.Focus.TheVariants.{Node, Value as Word}
use Rattle.room.specs.Room.{search_word, frame_at, held, store_of, shape_of, loaded, operand_of, frame_of, word, tag, frame, frames}
use Rattle.room.specs.RoomLaws.{kept_store, kept_fit, frames_more, fit_more, store_at, push, push_kept, push_tag, push_place, push_block, block_size, block_below, block_tag, block_fit, block_plugs, block_outers}
use Rattle.room.specs.Stack.{Goes, Halts, Beyond, goes_at, halts_at, beyond_at, Works, busy}
use Rattle.room.specs.Turn.{HeapOk, focus_of, weight, behind, pending, finds, Inv, Moves, Steps}
use Rattle.room.specs.Enter.{loaded_node, sizes, pending_same}

pub length_frames : (ws room : List ℕ) (l : ℕ) → length (frames ws room l) ≡ l
unfolding frames
length_frames ws room zero = refl
length_frames ws room (suc i) = ap suc (length_frames ws room i)

-- What the words of a node must be, by its kind's number.
names : (ws : List ℕ) (n : ℕ) → node_holds ws n ≡ true
    → names_hold (class_count ws) (kind_of (node_word ws n 0)) (node_word ws n 2) (node_word ws n 3) ≡ true
unfolding node_holds
names ws n h =
    and_left (names_hold (class_count ws) (kind_of (node_word ws n 0)) (node_word ws n 2) (node_word ws n 3))
    (size_is n (node_word ws n 1) (reach ws (operands (kind_of (node_word ws n 0)) (node_word ws n 3)) n))
    h

module _ (ws : List ℕ) (n : ℕ) (h : node_holds ws n ≡ true) where
  pub new_class : node_word ws n 0 ≡ 0 → node_word ws n 2 < class_count ws
  unfolding kind_of names_hold is_class
  new_class e = let p = rw e at (names ws n h) in ltb-true (node_word ws n 2) (class_count ws) (and_left (is_class (class_count ws) (node_word ws n 2)) (is_unused (node_word ws n 3)) p)

  pub cast_class : node_word ws n 0 ≡ 1 → node_word ws n 2 < class_count ws
  unfolding kind_of names_hold is_class
  cast_class e = let p = rw e at (names ws n h) in ltb-true (node_word ws n 2) (class_count ws) (and_left (is_class (class_count ws) (node_word ws n 2)) (is_unused (node_word ws n 3)) p)

  pub literal_tag : node_word ws n 0 ≡ 2 → node_word ws n 2 < written_tags
  unfolding kind_of names_hold
  literal_tag e = let p = rw e at (names ws n h) in ltb-true (node_word ws n 2) written_tags (and_left (ltb (node_word ws n 2) written_tags) (is_value (node_word ws n 2) (node_word ws n 3)) p)

  pub var_local : node_word ws n 0 ≡ 3 → node_word ws n 2 < variables
  unfolding kind_of names_hold is_variable
  var_local e = let p = rw e at (names ws n h) in ltb-true (node_word ws n 2) variables (and_left (is_variable (node_word ws n 2)) (is_unused (node_word ws n 3)) p)

  pub assign_local : node_word ws n 0 ≡ 6 → node_word ws n 2 < variables
  unfolding kind_of names_hold is_variable
  assign_local e = let p = rw e at (names ws n h) in ltb-true (node_word ws n 2) variables (and_left (is_variable (node_word ws n 2)) (is_unused (node_word ws n 3)) p)

  pub get_name : node_word ws n 0 ≡ 7 → node_word ws n 2 ≤ highest_name
  unfolding kind_of names_hold is_name
  get_name e = let p = rw e at (names ws n h) in leb-true (node_word ws n 2) highest_name (and_left (is_name (node_word ws n 2)) (is_class (class_count ws) (node_word ws n 3)) p)

  pub get_class : node_word ws n 0 ≡ 7 → node_word ws n 3 < class_count ws
  unfolding kind_of names_hold is_class
  get_class e = let p = rw e at (names ws n h) in ltb-true (node_word ws n 3) (class_count ws) (and_right (is_name (node_word ws n 2)) (is_class (class_count ws) (node_word ws n 3)) p)

  pub set_name : node_word ws n 0 ≡ 8 → node_word ws n 2 ≤ highest_name
  unfolding kind_of names_hold is_name
  set_name e = let p = rw e at (names ws n h) in leb-true (node_word ws n 2) highest_name (and_left (is_name (node_word ws n 2)) (is_class (class_count ws) (node_word ws n 3)) p)

  pub set_class : node_word ws n 0 ≡ 8 → node_word ws n 3 < class_count ws
  unfolding kind_of names_hold is_class
  set_class e = let p = rw e at (names ws n h) in ltb-true (node_word ws n 3) (class_count ws) (and_right (is_name (node_word ws n 2)) (is_class (class_count ws) (node_word ws n 3)) p)

  pub call_name : node_word ws n 0 ≡ 9 → node_word ws n 2 ≤ highest_name
  unfolding kind_of names_hold is_name
  call_name e = let p = rw e at (names ws n h) in leb-true (node_word ws n 2) highest_name (and_left (is_name (node_word ws n 2)) (leb (node_word ws n 3) most_arguments) p)

  pub call_count : node_word ws n 0 ≡ 9 → node_word ws n 3 ≤ most_arguments
  unfolding kind_of names_hold is_name
  call_count e = let p = rw e at (names ws n h) in leb-true (node_word ws n 3) most_arguments (and_right (is_name (node_word ws n 2)) (leb (node_word ws n 3) most_arguments) p)

  pub block_local : node_word ws n 0 ≡ 10 → node_word ws n 2 < variables
  unfolding kind_of names_hold is_local
  block_local e = let p = rw e at (names ws n h) in ltb-true (node_word ws n 2) variables (and_right (leb 1 (node_word ws n 2)) (ltb (node_word ws n 2) variables) (and_left (is_local (node_word ws n 2)) (is_declared (node_word ws n 3) (class_count ws)) p))

  pub try_class : node_word ws n 0 ≡ 15 → node_word ws n 2 < class_count ws
  unfolding kind_of names_hold is_class
  try_class e = let p = rw e at (names ws n h) in ltb-true (node_word ws n 2) (class_count ws) (and_left (is_class (class_count ws) (node_word ws n 2)) (is_local (node_word ws n 3)) p)

  pub try_local : node_word ws n 0 ≡ 15 → node_word ws n 3 < variables
  unfolding kind_of names_hold is_local
  try_local e = let p = rw e at (names ws n h) in ltb-true (node_word ws n 3) variables (and_right (leb 1 (node_word ws n 3)) (ltb (node_word ws n 3) variables) (and_right (is_class (class_count ws) (node_word ws n 2)) (is_local (node_word ws n 3)) p))

  -- there are sixteen kinds
  pub kind_below : node_word ws n 0 < 16
  unfolding kind_of
  kind_below = go (node_word ws n 0) refl
    where
      go : (k : ℕ) → node_word ws n 0 ≡ k → k < 16
      go zero e = omega arith
      go (suc zero) e = omega arith
      go (suc (suc zero)) e = omega arith
      go (suc (suc (suc zero))) e = omega arith
      go (suc (suc (suc (suc zero)))) e = omega arith
      go (suc (suc (suc (suc (suc zero))))) e = omega arith
      go (suc (suc (suc (suc (suc (suc zero)))))) e = omega arith
      go (suc (suc (suc (suc (suc (suc (suc zero))))))) e = omega arith
      go (suc (suc (suc (suc (suc (suc (suc (suc zero)))))))) e = omega arith
      go (suc (suc (suc (suc (suc (suc (suc (suc (suc zero))))))))) e = omega arith
      go (suc (suc (suc (suc (suc (suc (suc (suc (suc (suc zero)))))))))) e = omega arith
      go (suc (suc (suc (suc (suc (suc (suc (suc (suc (suc (suc zero))))))))))) e = omega arith
      go (suc (suc (suc (suc (suc (suc (suc (suc (suc (suc (suc (suc zero)))))))))))) e = omega arith
      go (suc (suc (suc (suc (suc (suc (suc (suc (suc (suc (suc (suc (suc zero))))))))))))) e = omega arith
      go (suc (suc (suc (suc (suc (suc (suc (suc (suc (suc (suc (suc (suc (suc zero)))))))))))))) e = omega arith
      go (suc (suc (suc (suc (suc (suc (suc (suc (suc (suc (suc (suc (suc (suc (suc zero))))))))))))))) e = omega arith
      go (suc (suc (suc (suc (suc (suc (suc (suc (suc (suc (suc (suc (suc (suc (suc (suc k)))))))))))))))) e = absurd (known ws n h (rw e))

-- an expression of no other form than a value's, an assignment's or a sequence's gives nothing to remember
pub quiet_other : (e : Expr) → view e ≡ other → Quiet e
unfolding value_in assigned begun
quiet_other e h = record { value = rw h; assign = λ x. rw h; begin = λ x. rw h }

pub view_blocked : (p x : ℕ) (t : Ty) (mv : Option Value) (e : Expr) → view (blocked p x t mv e) ≡ other
unfolding blocked view remember settle
view_blocked p x t (some v) e = refl
view_blocked p x t none e = go (view e)
  where
    keep : (b : Expr) (m : Option Value) → view (remember p x t e b m) ≡ other
    keep b none = refl
    keep b (some v) = refl

    go : (w : View) → view (settle p x t e w) ≡ other
    go (is_seq a b) = keep b (assigned x (view a))
    go (is_assign y a) = refl
    go (is_val v) = refl
    go other = refl

-- the expressions of kinds that are quiet
abbrev pub Still : Kind → Type 0
Still New = Unit {0}
Still Cast = Unit {0}
Still Literal = ⊥
Still Var = Unit {0}
Still Add = Unit {0}
Still Eq = Unit {0}
Still Assign = ⊥
Still Get = Unit {0}
Still Set = Unit {0}
Still Call = Unit {0}
Still Block = Unit {0}
Still Seq = ⊥
Still If = Unit {0}
Still While = Unit {0}
Still Throw = Unit {0}
Still Try = Unit {0}
Still Unknown = ⊥

still_view : (k : Kind) (p x y : ℕ) (o : ℕ → Expr) → Still k → view (load (node_of k p x y o)) ≡ other
unfolding view load node_of
still_view New p x y o h = refl
still_view Cast p x y o h = refl
still_view Literal p x y o h = absurd h
still_view Var p x y o h = refl
still_view Add p x y o h = refl
still_view Eq p x y o h = refl
still_view Assign p x y o h = absurd h
still_view Get p x y o h = refl
still_view Set p x y o h = refl
still_view Call p x y o h = refl
still_view Block p x y o h = view_blocked p x (type_of y) none (load (o 0))
still_view Seq p x y o h = absurd h
still_view If p x y o h = refl
still_view While p x y o h = refl
still_view Throw p x y o h = refl
still_view Try p x y o h = refl
still_view Unknown p x y o h = absurd h

-- only a literal is a value from the start
literal_only : (k : Kind) (p x y : ℕ) (o : ℕ → Expr) (v : Value) → (k ≡ Unknown → ⊥) → value_in (view (load (node_of k p x y o))) ≡ some v
    → k ≡ Literal
unfolding view value_in load node_of
literal_only New p x y o v u e = absurd (let z : ◌≡◌ {A = ℕ} 0 1 = cc in omega arith)
literal_only Cast p x y o v u e = absurd (let z : ◌≡◌ {A = ℕ} 0 1 = cc in omega arith)
literal_only Literal p x y o v u e = refl
literal_only Var p x y o v u e = absurd (let z : ◌≡◌ {A = ℕ} 0 1 = cc in omega arith)
literal_only Add p x y o v u e = absurd (let z : ◌≡◌ {A = ℕ} 0 1 = cc in omega arith)
literal_only Eq p x y o v u e = absurd (let z : ◌≡◌ {A = ℕ} 0 1 = cc in omega arith)
literal_only Assign p x y o v u e = absurd (let z : ◌≡◌ {A = ℕ} 0 1 = cc in omega arith)
literal_only Get p x y o v u e = absurd (let z : ◌≡◌ {A = ℕ} 0 1 = cc in omega arith)
literal_only Set p x y o v u e = absurd (let z : ◌≡◌ {A = ℕ} 0 1 = cc in omega arith)
literal_only Call p x y o v u e = absurd (let z : ◌≡◌ {A = ℕ} 0 1 = cc in omega arith)
literal_only Block p x y o v u e = absurd (let z : value_in (view (blocked p x (type_of y) none (load (o 0)))) ≡ none = rw (view_blocked p x (type_of y) none (load (o 0))) in let w : ◌≡◌ {A = Option Value} none (some v) = sym z ∙ e in let q : ◌≡◌ {A = ℕ} 0 1 = cc in omega arith)
literal_only Seq p x y o v u e = absurd (let z : ◌≡◌ {A = ℕ} 0 1 = cc in omega arith)
literal_only If p x y o v u e = absurd (let z : ◌≡◌ {A = ℕ} 0 1 = cc in omega arith)
literal_only While p x y o v u e = absurd (let z : ◌≡◌ {A = ℕ} 0 1 = cc in omega arith)
literal_only Throw p x y o v u e = absurd (let z : ◌≡◌ {A = ℕ} 0 1 = cc in omega arith)
literal_only Try p x y o v u e = absurd (let z : ◌≡◌ {A = ℕ} 0 1 = cc in omega arith)
literal_only Unknown p x y o v u e = absurd (u refl)

-- a written value is no address
written_low : (x y a : ℕ) → x < written_tags → written (value_with x y) ≡ Addr a → ⊥
unfolding value_with
written_low zero y a h e = zero_case (eqb y 0) e
  where
    zero_case : (t : Bool) → written (given t Value.Unit) ≡ Addr a → ⊥
    zero_case true e = let z : ◌≡◌ {A = ℕ} 0 1 = cc in omega arith
    zero_case false e = let z : ◌≡◌ {A = ℕ} 0 1 = cc in omega arith
written_low (suc zero) y a h e = one (eqb y 0) e
  where
    one : (t : Bool) → written (given t Null) ≡ Addr a → ⊥
    one true e = let z : ◌≡◌ {A = ℕ} 0 1 = cc in omega arith
    one false e = let z : ◌≡◌ {A = ℕ} 0 1 = cc in omega arith
written_low (suc (suc zero)) y a h e = two (ltb y 2) e
  where
    two : (t : Bool) → written (given t (Value.Bool (eqb y 1))) ≡ Addr a → ⊥
    two true e = let z : ◌≡◌ {A = ℕ} 0 1 = cc in omega arith
    two false e = let z : ◌≡◌ {A = ℕ} 0 1 = cc in omega arith
written_low (suc (suc (suc zero))) y a h e = three (ltb y (2 ^ 32)) e
  where
    three : (t : Bool) → written (given t (Intg y)) ≡ Addr a → ⊥
    three true e = let z : ◌≡◌ {A = ℕ} 0 1 = cc in omega arith
    three false e = let z : ◌≡◌ {A = ℕ} 0 1 = cc in omega arith
written_low (suc (suc (suc (suc x)))) y a h e = omega arith

module _ (ws : List ℕ) (good : (n : ℕ) → n < node_count ws → node_holds ws n ≡ true) where
  known_kind : (n : ℕ) → n < node_count ws → kind_of (node_word ws n 0) ≡ Unknown → ⊥
  known_kind n h = known ws n (good n h)

  pub not_literal : (n : ℕ) → n < node_count ws → (kind_of (node_word ws n 0) ≡ Literal → ⊥) → value_in (view (loaded ws n)) ≡ none
  not_literal n h d = go (value_in (view (loaded ws n))) refl
    where
      go : (m : Option Value) → value_in (view (loaded ws n)) ≡ m → m ≡ none
      go none e = refl
      go (some v) e =
          absurd
          (d
          (literal_only (kind_of (node_word ws n 0)) n (node_word ws n 2) (node_word ws n 3) (λ j. tree ws (operand ws n j)) v (known_kind n h)
          (rw (loaded_node ws good n h) at e)))

  literal_low : (n : ℕ) → n < node_count ws → kind_of (node_word ws n 0) ≡ Literal → node_word ws n 2 < written_tags
  unfolding names_hold
  literal_low n h k =
      let x = node_word ws n 2 in
      let y = node_word ws n 3 in
      ltb-true x written_tags (and_left (ltb x written_tags) (is_value x y) (rw k at (names ws n (good n h))))

  no_address : (n : ℕ) → n < node_count ws → (a : ℕ) → value_in (view (loaded ws n)) ≡ some (Addr a) → ⊥
  unfolding view value_in load node_of
  no_address n h a e =
      let x = node_word ws n 2 in
      let y = node_word ws n 3 in
      let u : ℕ → Expr = λ j. tree ws (operand ws n j) in
      let q = rw (loaded_node ws good n h) at e in
      let k = literal_only (kind_of (node_word ws n 0)) n x y u (Addr a) (known_kind n h) q in
      let z : some (written (value_with x y)) ≡ some (Addr a) = rw k at q in
      let w : written (value_with x y) ≡ Addr a = cc in
      written_low x y a (literal_low n h k) w

  works_block : (p x : ℕ) (t : Ty) (mv : Option Value) (e : Expr) → Works (blocked p x t mv e)
  unfolding blocked remember settle
  works_block p x t (some v) e = tt
  works_block p x t none e = go (view e)
    where
      keep : (b : Expr) (m : Option Value) → Works (remember p x t e b m)
      keep b none = tt
      keep b (some v) = tt

      go : (w : View) → Works (settle p x t e w)
      go (is_seq a b) = keep b (assigned x (view a))
      go (is_assign y a) = tt
      go (is_val v) = tt
      go other = tt

  -- A node that is no literal works.
  works_kind : (k : Kind) (p x y : ℕ) (o : ℕ → Expr) → (k ≡ Literal → ⊥) → (k ≡ Unknown → ⊥)
      → ((a : ℕ) → 0 < operands k y → value_in (view (load (o 0))) ≡ some (Addr a) → ⊥)
      → Works (load (node_of k p x y o))
  unfolding load node_of operands
  works_kind New p x y o d u n = tt
  works_kind Cast p x y o d u n = tt
  works_kind Literal p x y o d u n = absurd (d refl)
  works_kind Var p x y o d u n = tt
  works_kind Add p x y o d u n = tt
  works_kind Eq p x y o d u n = tt
  works_kind Assign p x y o d u n = tt
  works_kind Get p x y o d u n = tt
  works_kind Set p x y o d u n = tt
  works_kind Call p x y o d u n = tt
  works_kind Block p x y o d u n = works_block p x (type_of y) none (load (o 0))
  works_kind Seq p x y o d u n = tt
  works_kind If p x y o d u n = tt
  works_kind While p x y o d u n = tt
  works_kind Throw p x y o d u n = λ a. n a (omega arith)
  works_kind Try p x y o d u n = tt
  works_kind Unknown p x y o d u n = absurd (u refl)

  pub works_node : (n : ℕ) → n < node_count ws → (kind_of (node_word ws n 0) ≡ Literal → ⊥) → Works (loaded ws n)
  works_node n h d =
      rw (loaded_node ws good n h)
      (works_kind (kind_of (node_word ws n 0)) n (node_word ws n 2) (node_word ws n 3) (λ j. tree ws (operand ws n j)) d (known_kind n h)
      (λ a l. no_address (operand ws n 0) (omega (arith, operand_below ws n (good n h) 0 l)) a))

  pub quiet_node : (n : ℕ) → n < node_count ws → Still (kind_of (node_word ws n 0)) → Quiet (loaded ws n)
  quiet_node n h s =
      quiet_other (loaded ws n)
      (rw (loaded_node ws good n h)
      (still_view (kind_of (node_word ws n 0)) n (node_word ws n 2) (node_word ws n 3) (λ j. tree ws (operand ws n j)) s))

  module _ (D : ℕ) (hs room : List ℕ) (l n : ℕ) (inv : Inv ws D room l (Node n)) where
    -- too deep: no frame above takes anything up
    pub deep : D < l → (kind_of (node_word ws n 0) ≡ Literal → ⊥) → Plain (frames ws room l) (store_of room) (loaded ws n)
        → Beyond D (finds ws hs room l (Node n))
    unfolding focus_of
    deep h d p =
        beyond_at (program ws) D (heap_of (program ws) hs) (frames ws room l) (store_of room) (loaded ws n) p
        (rw length_frames h)
        (busy (program ws) (heap_of (program ws) hs) (store_of room) (loaded ws n) (works_node n inv.here d))

    pub deep_still : D < l → Still (kind_of (node_word ws n 0)) → Beyond D (finds ws hs room l (Node n))
    deep_still h s =
        deep h (λ e. rw e at s) (quiet_plain (frames ws room l) (store_of room) (loaded ws n) (quiet_node n inv.here s))

    -- a node's own step
    pub node_goes : l ≤ D → Still (kind_of (node_word ws n 0)) → (h' : Heap) (s' : Store) (e' : Expr)
        → step (program ws) (loaded ws n) (heap_of (program ws) hs) (store_of room) ≡ Out.next 0 n h' s' e'
        → Goes D (finds ws hs room l (Node n)) h' (outers (frames ws room l) s') (plugs blocked (frames ws room l) s' e')
    unfolding focus_of
    node_goes h s h' s' e' i =
        goes_at (program ws) D (heap_of (program ws) hs) (frames ws room l) (store_of room) (loaded ws n) e' h' s' n
        (quiet_plain (frames ws room l) (store_of room) (loaded ws n) (quiet_node n inv.here s))
        (rw length_frames h) i

    pub node_halts : l ≤ D → Still (kind_of (node_word ws n 0))
        → step (program ws) (loaded ws n) (heap_of (program ws) hs) (store_of room) ≡ Out.stuck 0 n
        → Halts D (finds ws hs room l (Node n)) n
    unfolding focus_of
    node_halts h s i =
        halts_at (program ws) D (heap_of (program ws) hs) (frames ws room l) (store_of room) (loaded ws n) n
        (quiet_plain (frames ws room l) (store_of room) (loaded ws n) (quiet_node n inv.here s))
        (rw length_frames h) i

    loaded_var : node_word ws n 0 ≡ 3 → loaded ws n ≡ var n (node_word ws n 2)
    unfolding load node_of kind_of
    loaded_var k = loaded_node ws good n inv.here ∙ rw k

    -- a variable that is set, and one that is not
    pub var_steps : (w : ℕ) → l ≤ D → node_word ws n 0 ≡ 3 → get_or room (node_word ws n 2) 0 ≡ suc w → HeapOk ws hs (get_or room search_word 0)
        → Steps ws D hs room l (Node n) hs room l (Word w)
    unfolding focus_of kind_of held read_redex redex
    var_steps w h k e o =
        let x = node_word ws n 2 in
        let m = var_local ws n (good n inv.here) k in
        let q : store_of room x ≡ some (value_at w) = store_at room x m ∙ rw e in
        record {
          inv =
              record { fit = inv.fit; level = inv.level; long = inv.long; here = rw e at (inv.fit.held_ok x m) };
          size = refl;
          heap = o;
          goes =
              node_goes h (rw k tt) (heap_of (program ws) hs) (store_of room) (bare (value_at w))
              (rw (loaded_var k) (step_var (program ws) n (heap_of (program ws) hs) (store_of room) x ∙ rw q));
        }

    pub var_halts : l ≤ D → node_word ws n 0 ≡ 3 → get_or room (node_word ws n 2) 0 ≡ 0 → Halts D (finds ws hs room l (Node n)) n
    unfolding kind_of held read_redex redex
    var_halts h k e =
        let x = node_word ws n 2 in
        let q : store_of room x ≡ none = store_at room x (var_local ws n (good n inv.here) k) ∙ rw e in
        node_halts h (rw k tt)
        (rw (loaded_var k) (step_var (program ws) n (heap_of (program ws) hs) (store_of room) x ∙ rw q))

    -- a While becomes an If, whose condition is gone into
    pub while_steps : l ≤ D → node_word ws n 0 ≡ 13 → HeapOk ws hs (get_or room search_word 0)
        → Steps ws D hs room l (Node n) hs (push room l 13 n) (suc l) (Node (operand ws n 1))
    unfolding focus_of kind_of shape_of load node_of frame frame_of plugs outers plug outer operands
    while_steps h k o =
        let t : tag ws (push room l 13 n) l ≡ 13 = push_tag ws room l 13 n (omega (arith, inv.long)) in
        let q : word ws (push room l 13 n) l 1 ≡ n = push_place ws room l 13 n (omega (arith, inv.long)) in
        let kk = push_kept ws room l 13 n in
        let c : loaded ws n ≡ while n (operand_of ws n 1) (operand_of ws n 0) = loaded_node ws good n inv.here ∙ rw k in
        let two : 1 < operand_count ws n = rw k (omega arith) in
        record {
          inv =
              record {
                fit =
                    fit_more ws (kept_fit ws kk inv.fit) (rw kk.size (omega (arith, inv.long)))
                    (rw (t, q) (inv.here, k));
                level = omega arith;
                long = rw kk.size inv.long;
                here = omega (arith, inv.here, operand_below ws n (good n inv.here) 1 two);
              };
          size = kk.size;
          heap = rw (kk.same search_word (omega arith)) o;
          goes =
              rw (frames_more ws kk, kept_store kk, t, q)
              (node_goes h (rw k tt) (heap_of (program ws) hs) (store_of room)
              (ite n (operand_of ws n 1) (seq n (operand_of ws n 0) (loaded ws n)) (bare Value.Unit))
              (rw c (step_while (program ws) n (heap_of (program ws) hs) (store_of room) (operand_of ws n 1) (operand_of ws n 0))));
        }

    -- a Block: its variable is unset inside
    pub enter_block : l ≤ D → node_word ws n 0 ≡ 10
        → Moves ws D room l (Node n) (push_block room l n (node_word ws n 2) (node_word ws n 3) 0) (suc l) (Node (operand ws n 0))
    unfolding focus_of kind_of shape_of load node_of operands held pending behind weight
    enter_block h k =
        let x = node_word ws n 2 in
        let y = node_word ws n 3 in
        let m = block_local ws n (good n inv.here) k in
        let f : frame_at (suc l) ≤ length room = omega (arith, inv.long) in
        let c : loaded ws n ≡ blocked n x (type_of y) none (operand_of ws n 0) = loaded_node ws good n inv.here ∙ rw k in
        let one : suc 0 ≡ operand_count ws n = rw k in
        record {
          inv =
              record {
                fit = block_fit ws room l n x y 0 m f tt inv.fit;
                level = omega arith;
                long = rw (block_size ws room l n x y 0 m f) inv.long;
                here = omega (arith, inv.here, operand_below ws n (good n inv.here) 0 (omega arith));
              };
          size = block_size ws room l n x y 0 m f;
          search = block_below ws room l n x y 0 m f search_word (omega arith) (λ e. let z : search_word ≡ x = e in omega arith);
          same = block_plugs ws room l n x y 0 m f (operand_of ws n 0) ∙ rw c;
          around = block_outers ws room l n x y 0 m f;
          falls =
              rw (
                block_tag ws room l n x y 0 m f,
                pending_same ws room (push_block room l n x y 0) l
                    (λ j a b. block_below ws room l n x y 0 m f j b (λ e. let z : j ≡ x = e in omega arith)),
              )
              (omega (arith, sizes ws good n 0 inv.here one));
        }
