-- Laws of a leap back to a frame, one for each way on.
use Rattle.std.specs.Prelude.{◌≡◌, true, false, List, ℕ, suc, ◌+◌, ◌*◌, ◌-◌, ◌^◌, ◌≤◌, ◌<◌, length, get_or, set}
use Rattle.std.proofs.Math.Path.{refl}
use Rattle.std.proofs.Common.{sym, ◌∙◌, ap, arith, length-set}
use Rattle.std.proofs.Math.Logic.{inl, inr}
use Rattle.image.specs.Nodes.{node_word, kind_of, operands}
use Rattle.image.specs.Layout.{Good}
use Rattle.image.specs.declared.Layout.{Layout}
use Rattle.rules.specs.Trees.{operand}
use Rattle.laws.specs.Values.{IsValue}
use Rattle.laws.specs.Trees.{operand_below}
use Rattle.laws.specs.Tags.{address_word}
use Rattle.objects.specs.Spots.{FieldSpot, FieldRaises}
use Rattle.std.specs.declared.option.Option.TheVariants.{Some}
use Rattle.redexes.specs.Outcomes.{Chooses, ThrowsAt, Tries}
use Rattle.memo.specs.Memo.{IsField, Memo}
use Rattle.quick.specs.Known.{Tabled, Eval, IsPair, Gives}
use Rattle.quick.specs.KnownLaws.{tabled, pair_steps, second_leaps}
use Rattle.room.specs.declared.Focus.TheVariants.{Node, Value as Word, Thrown}
use Rattle.room.specs.Room.{search_word, frame_at, first, second, shape_of, word, tag, IsNode}
use Rattle.room.specs.RoomLaws.{push_block}
use Rattle.room.specs.Turn.{HeapOk, Inv, Moves, Steps}
use Rattle.room.specs.Back as back
use Rattle.room.specs.Unwind.{pass_try, catch_steps}
use Rattle.room.specs.LeadsLaws.{leaps_move, leaps_step}
use Rattle.landings.specs.Lands.{Lands, at_node, at_value, at_thrown}
use Rattle.landings.specs.LandsLaws.{lands_node, lands_value, lands_thrown}
use Rattle.landings.specs.SetLaws.{set_armed}
use Rattle.back_leaps.specs.Backs.{Comes, Begun, Fielded, Tried}

-- a node of a kind that has operands is not the first one
pub inner : (ws : List ℕ) (nodes p k : ℕ) → Tabled ws nodes → IsNode ws p k → 0 < operands (kind_of k) (node_word ws p 3) → 1 ≤ p
inner ws nodes p k f n l = omega (arith, operand_below ws p (f.holds p n.0) 0 (rw n.1 l))

pub begun_small : (t : ℕ) → Begun t → t ≤ 8
begun_small t (inl (inl e)) = omega arith
begun_small t (inl (inr e)) = omega arith
begun_small t (inr e) = omega arith

-- The value of w comes back to frame i.
module _ (ws : List ℕ) (D : ℕ) (hs room : List ℕ) (p i w : ℕ) where
  -- the node of a frame
  pub first_node : (t : ℕ) → shape_of t ≡ first → Comes ws D hs room t p i w → IsNode ws p t
  first_node t e k = rw k.placed (back.is_first ws k.nodes D hs room i w k.inv t e k.tagged)

  pub second_node : (t : ℕ) → shape_of t ≡ second → Comes ws D hs room t p i w → IsNode ws p (t - 16) × IsValue (word ws room i 2)
  second_node t e k = rw k.placed (back.is_second ws k.nodes D hs room i w k.inv t e k.tagged)

  pub test_node : Comes ws D hs room 13 p i w → IsNode ws p 13
  unfolding shape_of
  test_node k = rw k.placed (back.is_while ws k.nodes D hs room i w k.inv 13 (inl refl) k.tagged)

  -- a leap of one step that leaves the frame, to a value
  step_value : (hs' room' : List ℕ) (u : ℕ) → Steps ws D hs room (suc i) (Word w) hs' room' i (Word u)
      → Lands ws D i hs room (suc i) (Word w) hs' room' (at_value u i 1)
  step_value hs' room' u s = lands_value (leaps_step ws D s) (omega arith) (omega arith)

  step_node : (room' : List ℕ) (l n : ℕ) → Steps ws D hs room (suc i) (Word w) hs room' l (Node n)
      → Lands ws D i hs room (suc i) (Word w) hs room' (at_node n l 1)
  step_node room' l n s = lands_node (leaps_step ws D s) (omega arith)

  step_thrown : (a q : ℕ) → Steps ws D hs room (suc i) (Word w) hs room i (Thrown a q)
      → Lands ws D i hs room (suc i) (Word w) hs room (at_thrown a q i 1)
  step_thrown a q s = lands_thrown (leaps_step ws D s) (omega arith)

  pub seq_lands : Comes ws D hs room 11 p i w
      → Lands ws D i hs room (suc i) (Word w) hs room (at_node (p - 1) i 1)
  unfolding operand
  seq_lands k =
      rw k.placed (step_node room i (word ws room i 1 - 1) (back.seq_steps ws k.nodes D hs room i w k.inv k.heap k.tagged))

  pub loop_lands : Comes ws D hs room 29 p i w
      → Lands ws D i hs room (suc i) (Word w) hs room (at_node p i 1)
  loop_lands k =
      rw k.placed (step_node room i (word ws room i 1) (back.loop_steps ws k.nodes D hs room i w k.inv k.heap k.tagged))

  pub try_lands : Comes ws D hs room 15 p i w
      → Lands ws D i hs room (suc i) (Word w) hs room (at_value w i 1)
  try_lands k = step_value hs room w (back.try_steps ws k.nodes D hs room i w k.inv k.heap k.tagged)

  pub block_lands : Comes ws D hs room 10 p i w
      → Lands ws D i hs room (suc i) (Word w) hs (set room (word ws room i 2) (word ws room i 4))
      (at_value w i 1)
  block_lands k = step_value hs _ w (back.block_steps ws k.nodes D hs room i w k.inv k.heap k.tagged)

  -- the arms of an If
  module _ (k : Comes ws D hs room 12 p i w) where
    pub then_lands : Chooses w (Some true)
        → Lands ws D i hs room (suc i) (Word w) hs room (at_node (operand ws p 1) i 1)
    then_lands e =
        rw k.placed
        (step_node room i _ (back.then_steps ws k.nodes D hs room i w k.inv k.heap k.tagged (e _ _ _ _ _)))

    pub else_lands : Chooses w (Some false)
        → Lands ws D i hs room (suc i) (Word w) hs room (at_node (p - 1) i 1)
    unfolding operand
    else_lands e =
        rw k.placed
        (step_node room i _ (back.else_steps ws k.nodes D hs room i w k.inv k.heap k.tagged (e _ _ _ _ _)))

  -- and of a loop's If
  module _ (k : Comes ws D hs room 13 p i w) where
    pub again_lands : Chooses w (Some true)
        → Lands ws D i hs room (suc i) (Word w) hs (set room (frame_at i) 29)
        (at_node (p - 1) (suc i) 1)
    unfolding operand
    again_lands e =
        rw k.placed
        (step_node _ (suc i) _ (back.again_steps ws k.nodes D hs room i w k.inv k.heap k.tagged (e _ _ _ _ _)))

    pub over_lands : Chooses w (Some false)
        → Lands ws D i hs room (suc i) (Word w) hs room (at_value 0 i 1)
    over_lands e = step_value hs room 0 (back.over_steps ws k.nodes D hs room i w k.inv k.heap k.tagged (e _ _ _ _ _))

  -- an address comes to a Throw
  pub throw_lands : Comes ws D hs room 14 p i w → (a : ℕ) → ThrowsAt w a
      → Lands ws D i hs room (suc i) (Word w) hs room (at_thrown a p i 0)
  throw_lands k a s =
      rw k.placed
      (lands_thrown (leaps_move ws D k.heap (back.throw_moves ws k.nodes D hs room i w k.inv a k.tagged s.is s.small))
      (omega arith))

  pub get_field_lem : Comes ws D hs room 7 p i w → IsField ws p
  unfolding shape_of
  get_field_lem k = let n = first_node 7 refl k in (n.0, inl n.1)

  pub set_field : Comes ws D hs room 24 p i w → IsField ws p
  unfolding shape_of
  set_field k = let n = (second_node 24 refl k).0 in (n.0, inr n.1)

  -- a field is read
  module _ (k : Comes ws D hs room 7 p i w) where
    pub get_lands : (j : ℕ) → FieldSpot ws hs (node_word ws p 2) (node_word ws p 3) w j
        → Lands ws D i hs room (suc i) (Word w) hs room (at_value (get_or hs j 0) i 1)
    get_lands j s =
        step_value hs room (get_or hs j 0)
        (back.redex_gives ws k.nodes D hs room i w k.inv _ _ _ (back.back_get ws k.nodes D hs room i w k.inv k.tagged) hs
        (get_or hs j 0) (rw (← k.placed) s.reads) s.holds k.heap)

    pub null_lands : (a : ℕ) → FieldRaises ws hs (node_word ws p 2) (node_word ws p 3) w a
        → Lands ws D i hs room (suc i) (Word w) hs room (at_thrown a p i 1)
    null_lands a s =
        let e = rw k.placed at s.reads in
        rw k.placed
        (step_thrown a _
        (back.redex_raises ws k.nodes D hs room i w k.inv _ _ _ (back.back_get ws k.nodes D hs room i w k.inv k.tagged) a e
        s.known k.heap))

  -- a field is written
  module _ (k : Comes ws D hs room 24 p i w) (j : ℕ)
      (s : FieldSpot ws hs (node_word ws p 2) (node_word ws p 3) (word ws room i 2) j) where
    written_heap : HeapOk ws (set hs j w) (get_or room search_word 0)
    written_heap =
        record {
          words = s.keeps w k.inv.here;
          size = rw length-set k.heap.size;
          low = rw length-set k.heap.low;
          taken = λ a l. s.slots w a ∙ k.heap.taken a l;
        }

    pub set_lands : Lands ws D i hs room (suc i) (Word w) (set hs j w) room (at_value w i 1)
    set_lands =
        step_value (set hs j w) room w
        (back.redex_gives ws k.nodes D hs room i w k.inv _ _ _ (back.back_put ws k.nodes D hs room i w k.inv k.tagged)
        (set hs j w) w (rw (← k.placed) (s.writes w k.inv.here)) k.inv.here written_heap)

  -- an Assign of a variable that is set: no block takes the value up
  pub assign_lands : Comes ws D hs room 6 p i w → (x : ℕ) → x ≡ node_word ws p 2 → (get_or room x 0 ≡ 0 → ⊥)
      → Lands ws D i hs room (suc i) (Word w) hs (set room x (suc w)) (at_value w i 1)
  assign_lands k x e d =
      let q : x ≡ node_word ws (word ws room i 1) 2 = e ∙ ap (λ n. node_word ws n 2) k.placed in
      rw q
      (step_value hs _ w
      (back.assign_steps ws k.nodes D hs room i w k.inv k.heap k.tagged (rw (← q) (set_armed ws room i x d))))

  -- The first of two operands is a value: the frame becomes the second's.
  abbrev seconds : ℕ → List ℕ
  seconds t = set (set room (frame_at i) (t + 16)) (frame_at i + 2) w

  first_moves : (t : ℕ) → Begun t → Comes ws D hs room t p i w → Moves ws D room (suc i) (Word w) (seconds t) (suc i) (Node (p - 1))
  unfolding operand
  first_moves t (inl (inl e)) k = rw (k.placed, e) (back.add_moves ws k.nodes D hs room i w k.inv (k.tagged ∙ e))
  first_moves t (inl (inr e)) k = rw (k.placed, e) (back.eq_moves ws k.nodes D hs room i w k.inv (k.tagged ∙ e))
  first_moves t (inr e) k = rw (k.placed, e) (back.set_moves ws k.nodes D hs room i w k.inv (k.tagged ∙ e))

  pub first_lands : (t : ℕ) → Begun t → Comes ws D hs room t p i w
      → Lands ws D i hs room (suc i) (Word w) hs (seconds t) (at_node (p - 1) (suc i) 0)
  first_lands t b k = lands_node (leaps_move ws D k.heap (first_moves t b k)) (omega arith)

-- The values of both operands of an Add or an Eq are known.
module _ (ws : List ℕ) (D : ℕ) (hs room : List ℕ) (p i w : ℕ) (t u : ℕ) where
  pub second_lands : Comes ws D hs room (t + 16) p i w → (v : ℕ) → word ws room i 2 ≡ v → Gives t v w u
      → Lands ws D i hs room (suc i) (Word w) hs room (at_value u i 1)
  second_lands k v e g =
      step_value ws D hs room p i w hs room u
      (pair_steps ws k.nodes hs room D room i t v w u k.inv k.heap k.tagged e g)

  pub pair_lands : IsPair t → Comes ws D hs room t p i w → (v m : ℕ) → Eval ws hs room (p - 1) v m 0 → Gives t w v u → m ≤ 5
      → Lands ws D i hs room (suc i) (Word w) hs room (at_value u i (m + 1))
  unfolding operand
  pair_lands b k v m e g h =
      lands_value
      (second_leaps ws k.nodes hs room D room i p t w v u m 0 (λ x l. refl) k.inv k.heap (omega (arith, k.below)) b k.tagged
      (sym k.placed) e g)
      (omega arith) (omega arith)

-- Where a value comes back, from what back_leap is promised.
module _ {ws : List ℕ} {lay : Layout} {D : ℕ} {hs room memo : List ℕ} {i w : ℕ}
    (good : Good ws lay) (pre : Inv ws D room (suc i) (Word w) × HeapOk ws hs (get_or room search_word 0) × Memo ws memo × (suc i ≤ D)) where
  pub comes : (t : ℕ) → tag ws room i ≡ t → Comes ws D hs room t (word ws room i 1) i w
  comes t e =
      record { nodes = good.nodes; inv = pre.0; heap = pre.1; tagged = e; placed = refl; below = pre.3 }

  pub fielded : (p : ℕ) → IsField ws p → Fielded hs memo p
  fielded p f = record { image = ws; table = pre.2; words = pre.1.words; field = f }

  pub inner_node : (p k : ℕ) → IsNode ws p k → 0 < operands (kind_of k) (node_word ws p 3) → 1 ≤ p
  inner_node p k n h = inner ws lay.nodes p k (tabled good) n h

  pub long_room : frame_at (suc i) ≤ length room
  long_room = pre.0.fit.long

-- Address a, thrown at place q, comes to frame i.
module _ (ws : List ℕ) (D : ℕ) (hs room : List ℕ) (i a q : ℕ) where
  pub unwound : (p : ℕ) (room' : List ℕ) → Steps ws D hs room (suc i) (Thrown a q) hs room' i (Thrown a p)
      → Lands ws D i hs room (suc i) (Thrown a q) hs room' (at_thrown a p i 1)
  unwound p room' s = lands_thrown (leaps_step ws D s) (omega arith)

  module _ (p : ℕ) (k : Tried ws D hs room p i a q) where
    pub pass_lands : Tries ws hs (node_word ws p 2) a (Some false)
        → Lands ws D i hs room (suc i) (Thrown a q) hs room (at_thrown a p i 1)
    pass_lands e =
        let z = rw k.placed at e in
        rw k.placed (unwound _ room (pass_try ws k.nodes D hs room i a q k.inv k.heap k.tagged (z _ _ _ _)))

    pub catch_lands : Tries ws hs (node_word ws p 2) a (Some true)
        → Lands ws D i hs room (suc i) (Thrown a q) hs
        (push_block room i p (node_word ws p 3) (4 + node_word ws p 2) (suc (4 * 2 ^ 32 + a)))
        (at_node (p - 1) (suc i) 1)
    unfolding operand
    catch_lands e =
        let z = rw k.placed at e in
        let u = address_word a k.inv.here in
        rw k.placed
        (lands_node (leaps_step ws D (catch_steps ws k.nodes D hs room i a q k.inv k.heap k.tagged _ u.1 u.0 (z _ _ _ _)))
        (omega arith))
