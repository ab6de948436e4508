-- Laws of nodes that are too deep: an assignment or a sequence that gives no block a value to take up.
use Rattle.std.specs.Prelude.{◌≡◌, refl, Bool, true, false, cond, List, ◌∷◌, ℕ, zero, suc, ◌-◌, ◌<◌, eqb}
use Rattle.std.proofs.Math.Option.{none}
use Rattle.std.proofs.Common.{arith}
use Rattle.words.specs.Types.{type_of}
use Rattle.words.specs.Value.{value_with}
use Rattle.image.specs.Trailer.{node_count}
use Rattle.image.specs.Nodes.{node_word, kind_of, node_holds}
use Rattle.rules.specs.Trees.{Expr, assign, seq, operand, written, node_of, tree}
use Rattle.rules.specs.Step.{view, value_in, assigned, load}
use Rattle.laws.specs.Trees.{operand_below}
use Rattle.laws.specs.Frames.{seq_f, plug, outer, begun, Quiet, quiet_plain}
use Rattle.room.specs.declared.Focus.TheVariants.{Node}
use Rattle.room.specs.Room.{store_of, loaded, operand_of, frames}
use Rattle.room.specs.Stack.{Beyond, assign_plain}
use Rattle.room.specs.Turn.{finds, Inv}
use Rattle.room.specs.Enter.{loaded_node}
use Rattle.room.specs.Armed.{armed, armed_seq, armed_not, armed_seq_not}
use Rattle.room.specs.Nodes.{not_literal, assign_local, kind_below, view_blocked, deep, deep_still}
use Rattle.pushes.specs.Kinds.{still_kind, not_literal_kind}
use Rattle.pushes.specs.EnterLaws.{seq_operand}
use Rattle.pushes.specs.TakeUp.{loaded_assign, loaded_seq, written_assign}

-- an assignment of what is no value, and a sequence that does not begin with one of a value
quiet_assign : (r x : ℕ) (e : Expr) → value_in (view e) ≡ none → Quiet (assign r x e)
unfolding view value_in assigned begun
quiet_assign r x e h = record { value = refl; assign = λ y. go (eqb y x); begin = λ y. refl }
  where
    go : (t : Bool) → cond t (value_in (view e)) none ≡ none
    go true = h
    go false = refl

quiet_seq : (q : ℕ) (a b : Expr) → ((x : ℕ) → assigned x (view a) ≡ none) → Quiet (seq q a b)
unfolding view value_in assigned begun
quiet_seq q a b h = record { value = refl; assign = λ y. refl; begin = h }

-- only an Assign is seen as one, by the kinds' numbers
no_assign : (k : ℕ) (p x y : ℕ) (o : ℕ → Expr) (z : ℕ) → k < 16 → (k ≡ 6 → ⊥) → assigned z (view (load (node_of (kind_of k) p x y o))) ≡ none
unfolding view assigned load node_of kind_of
no_assign zero p x y o z h d = refl
no_assign (suc zero) p x y o z h d = refl
no_assign (suc (suc zero)) p x y o z h d = refl
no_assign (suc (suc (suc zero))) p x y o z h d = refl
no_assign (suc (suc (suc (suc zero)))) p x y o z h d = refl
no_assign (suc (suc (suc (suc (suc zero))))) p x y o z h d = refl
no_assign (suc (suc (suc (suc (suc (suc zero)))))) p x y o z h d = absurd (d refl)
no_assign (suc (suc (suc (suc (suc (suc (suc zero))))))) p x y o z h d = refl
no_assign (suc (suc (suc (suc (suc (suc (suc (suc zero)))))))) p x y o z h d = refl
no_assign (suc (suc (suc (suc (suc (suc (suc (suc (suc zero))))))))) p x y o z h d = refl
no_assign (suc (suc (suc (suc (suc (suc (suc (suc (suc (suc zero)))))))))) p x y o z h d = rw (view_blocked p x (type_of y) none (load (o 0)))
no_assign (suc (suc (suc (suc (suc (suc (suc (suc (suc (suc (suc zero))))))))))) p x y o z h d = refl
no_assign (suc (suc (suc (suc (suc (suc (suc (suc (suc (suc (suc (suc zero)))))))))))) p x y o z h d = refl
no_assign (suc (suc (suc (suc (suc (suc (suc (suc (suc (suc (suc (suc (suc zero))))))))))))) p x y o z h d = refl
no_assign (suc (suc (suc (suc (suc (suc (suc (suc (suc (suc (suc (suc (suc (suc zero)))))))))))))) p x y o z h d = refl
no_assign (suc (suc (suc (suc (suc (suc (suc (suc (suc (suc (suc (suc (suc (suc (suc zero))))))))))))))) p x y o z h d = refl
no_assign (suc (suc (suc (suc (suc (suc (suc (suc (suc (suc (suc (suc (suc (suc (suc (suc k)))))))))))))))) p x y o z h d = absurd (omega arith)

module _ (ws : List ℕ) (good : (n : ℕ) → n < node_count ws → node_holds ws n ≡ true) where
  quiet_written : (m : ℕ) → m < node_count ws → node_word ws m 0 ≡ 6 → (node_word ws (m - 1) 0 ≡ 2 → ⊥) → Quiet (loaded ws m)
  unfolding operand
  quiet_written m h k d =
      rw (loaded_assign ws good m h k)
      (quiet_assign m (node_word ws m 2) (operand_of ws m 0) (not_literal ws good (m - 1) (omega arith) (not_literal_kind _ d)))

  module _ (D : ℕ) (hs room : List ℕ) (l n : ℕ) (inv : Inv ws D room l (Node n)) (past : D < l) where
    -- any kind but a literal, an Assign and a Seq
    pub deep_other : (node_word ws n 0 ≡ 2 → ⊥) → (node_word ws n 0 ≡ 6 → ⊥) → (node_word ws n 0 ≡ 11 → ⊥) → Beyond D (finds ws hs room l (Node n))
    deep_other a b c =
        deep_still ws good D hs room l n inv past (still_kind (node_word ws n 0) (kind_below ws n (good n inv.here)) a b c)

    deep_quiet : (node_word ws n 0 ≡ 2 → ⊥) → Quiet (loaded ws n) → Beyond D (finds ws hs room l (Node n))
    deep_quiet d q =
        deep ws good D hs room l n inv past (not_literal_kind _ d) (quiet_plain (frames ws room l) (store_of room) (loaded ws n) q)

    -- an Assign of what is no literal, and one of a literal that no block takes up
    pub deep_assign : node_word ws n 0 ≡ 6 → (node_word ws (n - 1) 0 ≡ 2 → ⊥) → Beyond D (finds ws hs room l (Node n))
    deep_assign k d = deep_quiet (λ e. omega arith) (quiet_written n inv.here k d)

    pub deep_unarmed : node_word ws n 0 ≡ 6 → node_word ws (n - 1) 0 ≡ 2 → armed_seq ws room l (node_word ws n 2) ≡ false
        → Beyond D (finds ws hs room l (Node n))
    deep_unarmed k z h =
        let x = node_word ws n 2 in
        let v = written (value_with (node_word ws (n - 1) 2) (node_word ws (n - 1) 3)) in
        deep ws good D hs room l n inv past (not_literal_kind _ (λ e. omega arith))
        (rw (written_assign ws good n inv.here k z)
        (assign_plain (frames ws room l) (store_of room) n x 0 v
        (armed_seq_not ws room l n x 0 v (assign_local ws n (good n inv.here) k) h)))

    -- a Seq whose first operand m is no Assign, or one of what is no literal, or one that no block takes up
    module _ (m : ℕ) (k : node_word ws n 0 ≡ 11) (o : m ≡ operand ws n 1) where
      first_below : m < node_count ws
      first_below = rw o (omega (arith, inv.here, operand_below ws n (good n inv.here) 1 (seq_operand ws n k)))

      deep_begun : ((x : ℕ) → assigned x (view (loaded ws m)) ≡ none) → Beyond D (finds ws hs room l (Node n))
      deep_begun h =
          deep_quiet (λ e. omega arith)
          (rw (loaded_seq ws good n inv.here k) (quiet_seq n (operand_of ws n 1) (operand_of ws n 0) (rw o at h)))

      pub deep_seq : (node_word ws m 0 ≡ 6 → ⊥) → Beyond D (finds ws hs room l (Node n))
      deep_seq d =
          deep_begun
          (λ x.
          rw (loaded_node ws good m first_below)
          (no_assign (node_word ws m 0) m (node_word ws m 2) (node_word ws m 3) (λ j. tree ws (operand ws m j)) x
          (kind_below ws m (good m first_below)) d))

      pub deep_seq_assign : node_word ws m 0 ≡ 6 → (node_word ws (m - 1) 0 ≡ 2 → ⊥) → Beyond D (finds ws hs room l (Node n))
      deep_seq_assign a d = deep_begun (quiet_written m first_below a d).assign

      pub deep_seq_unarmed : node_word ws m 0 ≡ 6 → node_word ws (m - 1) 0 ≡ 2 → armed ws room l (node_word ws m 2) ≡ false
          → Beyond D (finds ws hs room l (Node n))
      unfolding plug outer
      deep_seq_unarmed a z h =
          let x = node_word ws m 2 in
          let b = operand_of ws n 0 in
          let v = written (value_with (node_word ws (m - 1) 2) (node_word ws (m - 1) 3)) in
          deep ws good D hs room l n inv past (not_literal_kind _ (λ e. omega arith))
          (rw (loaded_seq ws good n inv.here k, ← o, written_assign ws good m first_below a z)
          (assign_plain (seq_f n b ∷ frames ws room l) (store_of room) m x 0 v
          (armed_not ws room l n b m x 0 v (assign_local ws m (good m first_below) a) h)).1)
