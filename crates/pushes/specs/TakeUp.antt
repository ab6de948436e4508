-- Laws of values that are taken up: an assignment of a value below a sequence, and a sequence that begins with one.
use Rattle.std.specs.Prelude.{◌≡◌, refl, true, List, ◌⊎◌, set}
use Rattle.std.proofs.Common.{◌∙◌, inl, inr, arith}
use Rattle.std.proofs.Math.Path.{ap}
use Prim.Native.Nat.{ℕ, suc, ◌+◌, ◌-◌, ◌<◌}
use Rattle.words.specs.Value.{value_with}
use Rattle.image.specs.Numbers.{variables}
use Rattle.image.specs.Trailer.{node_count}
use Rattle.image.specs.Nodes.{node_word, kind_of, operands, node_holds}
use Rattle.rules.specs.Trees.{assign, seq, operand, written}
use Rattle.rules.specs.Step.{load, bare}
use Rattle.laws.specs.Values.{value_at, IsValue}
use Rattle.laws.specs.Trees.{operand_count, operand_below, operand_after, operand_first, node_size, tree_value, tree_assign, tree_seq}
use Rattle.laws.specs.Frames.{seq_f, plug, outer, plugs, outers}
use Rattle.room.specs.declared.Focus.{Focus}
use Rattle.room.specs.declared.Focus.TheVariants.{Node}
use Rattle.room.specs.Room.{shape_of, loaded, operand_of, word, tag, frame, frames, Fit}
use Rattle.room.specs.Turn.{focus_of, weight, behind, pending, Inv, Moves}
use Rattle.room.specs.Armed.{armed, armed_seq, frame_seq, frame_loop, Takes, armed_block, armed_seq_frames, takes_up}
use Rattle.pushes.specs.Turns.{rest_of, Writes}
use Rattle.pushes.specs.EnterLaws.{seq_operand, while_operand, not_first}

module _ (ws : List ℕ) (good : (n : ℕ) → n < node_count ws → node_holds ws n ≡ true) where
  -- the trees of an assignment and of a sequence
  pub loaded_assign : (n : ℕ) → n < node_count ws → node_word ws n 0 ≡ 6 → loaded ws n ≡ assign n (node_word ws n 2) (operand_of ws n 0)
  unfolding load kind_of
  loaded_assign n h k = ap load (tree_assign ws n (good n h) (rw k))

  pub loaded_seq : (n : ℕ) → n < node_count ws → node_word ws n 0 ≡ 11 → loaded ws n ≡ seq n (operand_of ws n 1) (operand_of ws n 0)
  unfolding load kind_of
  loaded_seq n h k = ap load (tree_seq ws n (good n h) (rw k))

  -- a node that assigns a literal
  pub written_assign : (m : ℕ) → m < node_count ws → node_word ws m 0 ≡ 6 → node_word ws (m - 1) 0 ≡ 2
      → loaded ws m ≡ assign m (node_word ws m 2) (bare (written (value_with (node_word ws (m - 1) 2) (node_word ws (m - 1) 3))))
  unfolding operand load kind_of
  written_assign m h k z =
      loaded_assign m h k ∙ ap (assign m (node_word ws m 2)) (ap load (tree_value ws (m - 1) (good (m - 1) (omega arith)) (rw z)))

  -- A frame i that is a sequence's or a loop's.
  module _ {room : List ℕ} {i : ℕ} (fit : Fit ws room (suc i)) where
    seq_node : tag ws room i ≡ 11 → (word ws room i 1 < node_count ws) × (node_word ws (word ws room i 1) 0 ≡ 11)
    unfolding shape_of
    seq_node e = rw e at (fit.frame_ok i (omega arith))

    loop_node : tag ws room i ≡ 29 → (word ws room i 1 < node_count ws) × (node_word ws (word ws room i 1) 0 ≡ 13)
    unfolding shape_of
    loop_node e = rw e at (fit.frame_ok i (omega arith))

    -- its place is not the table's first
    pub rest_place : (x : ℕ) → armed_seq ws room (suc i) x ≡ true → 0 < word ws room i 1
    rest_place x h = go (armed_seq_frames ws room (suc i) x h)
      where
        go : (j : ℕ) × (suc i ≡ suc (suc j)) × ((tag ws room (suc j) ≡ 11) ⊎ (tag ws room (suc j) ≡ 29)) × Takes ws room j x → 0 < word ws room i 1
        go (j, e, inl t, u) =
            let z : suc j ≡ i = omega arith in
            let n = seq_node (rw z at t) in
            not_first ws _ (good _ n.0) (omega (arith, seq_operand ws _ n.1))
        go (j, e, inr t, u) =
            let z : suc j ≡ i = omega arith in
            let n = loop_node (rw z at t) in
            not_first ws _ (good _ n.0) (omega (arith, while_operand ws _ n.1))

  module _ (D : ℕ) (room : List ℕ) (k : ℕ) (f : Focus) where
    -- frame j + 1 goes on with the node m
    module _ (j m : ℕ)
        (b : behind ws (shape_of (tag ws room (suc j))) (tag ws room (suc j)) (word ws room (suc j) 1) (word ws room (suc j) 2) ≡ node_word ws m 1)
      where
        pending_rest : pending ws room (suc (suc j)) ≡ node_word ws m 1 + pending ws room (suc j)
        unfolding pending
        pending_rest = rw b

        rest_up : (x w q : ℕ) → Writes ws D room k f (suc j) x w → Takes ws room j x → x < variables → IsValue w
            → frame ws room (suc j) ≡ seq_f q (loaded ws m) → m < node_count ws
            → Moves ws D room k f (set room x (suc w)) (suc j) (Node m)
        unfolding frames weight outers outer
        rest_up x w q s t local v e h =
            takes_up ws D room k j f s.inv x w q s.place s.value_place m t (omega (arith, s.under)) local v h
            (rw e at s.same) (rw e at s.around) (omega (arith, s.more, pending_rest))

    seq_up : (j x w : ℕ) → Writes ws D room k f (suc j) x w → Takes ws room j x → x < variables → IsValue w
        → Fit ws room (suc (suc j)) → tag ws room (suc j) ≡ 11
        → Moves ws D room k f (set room x (suc w)) (suc j) (Node (rest_of room (suc j)))
    unfolding rest_of behind shape_of operands kind_of operand
    seq_up j x w s t local v fit e =
        let p = word ws room (suc j) 1 in
        let n = seq_node fit e in
        let o = seq_operand ws p n.1 in
        let a = operand_after ws p (good p n.0) 0 o in
        rw e
        (rest_up j (p - 1) (rw e (omega arith)) x w p s t local v (frame_seq ws room (suc j) e)
        (omega (arith, n.0)))

    loop_up : (j x w : ℕ) → Writes ws D room k f (suc j) x w → Takes ws room j x → x < variables → IsValue w
        → Fit ws room (suc (suc j)) → tag ws room (suc j) ≡ 29
        → Moves ws D room k f (set room x (suc w)) (suc j) (Node (rest_of room (suc j)))
    unfolding rest_of behind shape_of
    loop_up j x w s t local v fit e =
        let p = word ws room (suc j) 1 in
        let n = loop_node fit e in
        rw e
        (rest_up j p (rw e) x w p s t local v (frame_loop ws room (suc j) e) n.0)

    -- An assignment below a sequence or a loop is taken up, and the rest is left.
    pub takes_rest : (i x w : ℕ) → Writes ws D room k f i x w → armed_seq ws room (suc i) x ≡ true → x < variables → IsValue w
        → Fit ws room (suc i) → Moves ws D room k f (set room x (suc w)) i (Node (rest_of room i))
    takes_rest i x w s h local v fit = go (armed_seq_frames ws room (suc i) x h)
      where
        go : (j : ℕ) × (suc i ≡ suc (suc j)) × ((tag ws room (suc j) ≡ 11) ⊎ (tag ws room (suc j) ≡ 29)) × Takes ws room j x
            → Moves ws D room k f (set room x (suc w)) i (Node (rest_of room i))
        go (j, e, inl t, u) = let z : i ≡ suc j = omega arith in rw z (seq_up j x w (rw z at s) u local v (rw z at fit) t)
        go (j, e, inr t, u) = let z : i ≡ suc j = omega arith in rw z (loop_up j x w (rw z at s) u local v (rw z at fit) t)

  module _ (D : ℕ) (room : List ℕ) (n w : ℕ) where
    -- an Assign of a literal, below frame i
    pub assign_writes : (i : ℕ) → Inv ws D room (suc i) (Node n) → node_word ws n 0 ≡ 6 → node_word ws (n - 1) 0 ≡ 2
        → value_at w ≡ written (value_with (node_word ws (n - 1) 2) (node_word ws (n - 1) 3))
        → Writes ws D room (suc i) (Node n) i (node_word ws n 2) w
    unfolding focus_of plugs plug outer weight
    assign_writes i inv k z e =
        record {
          inv = inv;
          under = omega arith;
          place = n;
          value_place = 0;
          same = rw (written_assign n inv.here k z, e);
          around = refl;
          more = omega (arith, node_size ws n (good n inv.here));
        }

    -- what a sequence goes on with is smaller than itself
    rest_size : n < node_count ws → node_word ws n 0 ≡ 11 → node_word ws (n - 1) 1 < node_word ws n 1
    unfolding operand operands kind_of
    rest_size h k =
        let two : 2 ≡ operand_count ws n = rw k in
        omega
        (arith, operand_first ws n (good n h) 1 two, operand_after ws n (good n h) 0 (omega arith), node_size ws n (good n h))

    -- a sequence that begins with one
    pub seq_takes : (l m : ℕ) → Inv ws D room l (Node n) → node_word ws n 0 ≡ 11 → m ≡ operand ws n 1 → node_word ws m 0 ≡ 6
        → node_word ws (m - 1) 0 ≡ 2 → value_at w ≡ written (value_with (node_word ws (m - 1) 2) (node_word ws (m - 1) 3)) → IsValue w
        → node_word ws m 2 < variables → armed ws room l (node_word ws m 2) ≡ true
        → Moves ws D room l (Node n) (set room (node_word ws m 2) (suc w)) l (Node (n - 1))
    unfolding focus_of plugs plug outer weight operand
    seq_takes l m inv k o a z e v local h = go (armed_block ws room l (node_word ws m 2) h)
      where
        x : ℕ
        x = node_word ws m 2

        below : m < node_count ws
        below = rw o (omega (arith, inv.here, operand_below ws n (good n inv.here) 1 (seq_operand ws n k)))

        c : loaded ws n ≡ seq n (assign m x (bare (value_at w))) (loaded ws (n - 1))
        c = loaded_seq n inv.here k ∙ rw (← o, written_assign m below a z, e)

        go : (j : ℕ) × (l ≡ suc j) × Takes ws room j x → Moves ws D room l (Node n) (set room x (suc w)) l (Node (n - 1))
        go (j, y, t) =
            rw y
            (takes_up ws D room (suc j) j (Node n) (rw y at inv) x w n m 0 (n - 1) t (omega arith) local v (omega (arith, inv.here))
            (rw c) refl (omega (arith, rest_size inv.here k)))
