-- Laws of a value that comes back to the frame of its node.
use Rattle.std.specs.Prelude.{◌≡◌, true, false, List, ◌∷◌, ◌⊎◌, ℕ, suc, ◌+◌, ◌-◌, ◌≤◌, ◌<◌, get_or}
use Rattle.std.proofs.Math.Path.{refl, sym}
use Rattle.std.proofs.Common.{◌∙◌, inl, inr, length-set}
use Rattle.std.proofs.Math.Option.{some}
use native.Mathlib.Omega.{arith}
use Rattle.std.proofs.Math.ListN.{length, set}
use Rattle.std.proofs.Math.Seq.{get_or-set_same, get_or-set_other}
use Rattle.words.specs.declared.Value.{Value}
use Rattle.words.specs.declared.Value.TheVariants.{Addr}
use Rattle.words.specs.declared.Ty.TheVariants.{Void}
use Rattle.words.specs.Types.{type_of}
use Rattle.words.specs.Value.{addresses, value_of, value_with, tag_of, payload_of}
use Rattle.image.specs.Numbers.{variables}
use Rattle.image.specs.Trailer.{node_count}
use Rattle.image.specs.Nodes.{node_word, kind_of, operands, node_holds}
use Rattle.rules.specs.Maps.{upd}
use Rattle.rules.specs.Trees.{block, seq, operand}
use Rattle.rules.specs.Program.{program}
use Rattle.rules.specs.Heap.{heap_of}
use Rattle.rules.specs.Step.{Out, Redex, gives, raises, fails, add_redex, eq_redex, cast_redex, get_redex, put_redex, redex, thrown_at, bare, if_out, throw_out, view, assigned, blocked, step}
use Rattle.laws.specs.Values.{value_at, IsValue}
use Rattle.laws.specs.Trees.{operand_count, operand_below, operand_after}
use Rattle.laws.specs.Frames.{Frame, cast_f, add_r, eqR, assign_f, get_f, put_r, block_f, seq_f, ite_f, throw_f, try_f, plug, outer, Plain, value_plain, step_cast, step_add, step_eq, step_assign, step_get, step_put, step_block, step_seq, step_if, step_throw, step_try}
use Rattle.room.specs.declared.Focus.{Focus}
use Rattle.room.specs.declared.Focus.TheVariants.{Node, Value as Word, Thrown}
use Rattle.room.specs.Room.{search_word, frame_at, held, store_of, first, second, test, loop, shape_of, begun, halfway, loaded, operand_of, frame_of, word, tag, kept, frame, frames, IsNode, Held, FrameOk}
use Rattle.room.specs.RoomLaws.{Kept, kept_refl, kept_set, kept_store, kept_fit, frames_more, fit_first, fit_second, fit_call, fit_more, fit_less, set_store, set_frames, set_fit}
use Rattle.room.specs.Stack.{Halts, goes_back, halts_back, assign_plain}
use Rattle.room.specs.Turn.{HeapOk, focus_of, FocusOk, weight, behind, pending, finds, Inv, Moves, Steps}
use Rattle.room.specs.Enter.{plugs_in, outers_in, pending_kept}
use Rattle.room.specs.Armed.{armed_seq, armed_seq_not}
use Rattle.room.specs.Nodes.{length_frames, assign_local}

module _ (ws : List ℕ) (good : (n : ℕ) → n < node_count ws → node_holds ws n ≡ true) (D : ℕ) (hs room : List ℕ) (i w : ℕ)
    (inv : Inv ws D room (suc i) (Word w)) where
  -- the node that takes the value has the frame F, and the step of it finds o
  pub record Back (F : Frame) (o : Out) : Type 0 where
    pub is : frame ws room i ≡ F
    pub plain : Plain (F ∷ frames ws room i) (store_of room) (bare (value_at w))
    pub found : step (program ws) (plug block F (store_of room) (bare (value_at w))) (heap_of (program ws) hs) (outer F (store_of room)) ≡ o

  low : length (frames ws room i) ≤ D
  low = rw length_frames (omega (arith, inv.level))

  -- a step to any room that has the frames below, and the store and heap that the step gives
  pub back_steps : {F : Frame} {o : Out} → Back F o → (q : ℕ) (hs' room' : List ℕ) (g : Focus)
      → o ≡ Out.next 0 q (heap_of (program ws) hs') (store_of room') (focus_of ws g)
      → frames ws room' i ≡ frames ws room i
      → Inv ws D room' i g
      → length room' ≡ length room
      → HeapOk ws hs' (get_or room' search_word 0)
      → Steps ws D hs room (suc i) (Word w) hs' room' i g
  unfolding frames focus_of
  back_steps {F} {o} b q hs' room' g e f v z h =
      record {
        inv = v;
        size = z;
        heap = h;
        goes =
            rw (b.is, f)
            (goes_back (program ws) D (heap_of (program ws) hs) F (frames ws room i) (store_of room) (bare (value_at w)) (focus_of ws g)
            (heap_of (program ws) hs') (store_of room') q b.plain low (b.found ∙ e));
      }

  pub back_halts : {F : Frame} {o : Out} → Back F o → (q : ℕ) → o ≡ Out.stuck 0 q → Halts D (finds ws hs room (suc i) (Word w)) q
  unfolding frames focus_of
  back_halts {F} b q e =
      rw b.is
      (halts_back (program ws) D (heap_of (program ws) hs) F (frames ws room i) (store_of room) (bare (value_at w)) q b.plain low
      (b.found ∙ e))

  -- the same room, one frame less
  pub less : (g : Focus) → FocusOk ws g → Inv ws D room i g
  less g o =
      record { fit = fit_less ws (omega arith) inv.fit; level = omega (arith, inv.level); long = inv.long; here = o }

  pub steps_less : {F : Frame} {o : Out} → Back F o → (q : ℕ) (hs' : List ℕ) (g : Focus)
      → o ≡ Out.next 0 q (heap_of (program ws) hs') (store_of room) (focus_of ws g)
      → FocusOk ws g → HeapOk ws hs' (get_or room search_word 0)
      → Steps ws D hs room (suc i) (Word w) hs' room i g
  steps_less b q hs' g e o h = back_steps b q hs' room g e refl (less g o) refl h

  -- a redex
  module _ (F : Frame) (p : ℕ) (r : Redex) (b : Back F (redex p (heap_of (program ws) hs) (store_of room) r)) where
    pub redex_gives : (hs' : List ℕ) (u : ℕ) → r ≡ gives (heap_of (program ws) hs') (value_at u) → IsValue u
        → HeapOk ws hs' (get_or room search_word 0)
        → Steps ws D hs room (suc i) (Word w) hs' room i (Word u)
    unfolding redex focus_of
    redex_gives hs' u e v h = steps_less b p hs' (Word u) (rw e) v h

    pub redex_raises : (a : ℕ) → r ≡ raises a → a < addresses → HeapOk ws hs (get_or room search_word 0)
        → Steps ws D hs room (suc i) (Word w) hs room i (Thrown a p)
    unfolding redex focus_of
    redex_raises a e v h = steps_less b p hs (Thrown a p) (rw e) v h

    pub redex_fails : r ≡ fails → Halts D (finds ws hs room (suc i) (Word w)) p
    unfolding redex
    redex_fails e = back_halts b p (rw e)

  pub back_cast : tag ws room i ≡ 1 → Back (cast_f (word ws room i 1) (node_word ws (word ws room i 1) 2)) (redex (word ws room i 1) (heap_of (program ws) hs) (store_of room) (cast_redex (program ws) (heap_of (program ws) hs) (node_word ws (word ws room i 1) 2) (value_at w)))
  unfolding frame frame_of shape_of begun kind_of halfway outer plug view assigned
  back_cast t =
      record {
        is = rw t;
        plain = value_plain (cast_f (word ws room i 1) (node_word ws (word ws room i 1) 2)) (frames ws room i) (store_of room) 0 (value_at w) (λ y. refl);
        found = step_cast (program ws) (word ws room i 1) (heap_of (program ws) hs) (store_of room) (node_word ws (word ws room i 1) 2) 0 (value_at w);
      }

  pub back_get : tag ws room i ≡ 7 → Back (get_f (word ws room i 1) (node_word ws (word ws room i 1) 2) (node_word ws (word ws room i 1) 3)) (redex (word ws room i 1) (heap_of (program ws) hs) (store_of room) (get_redex (program ws) (heap_of (program ws) hs) (node_word ws (word ws room i 1) 2) (node_word ws (word ws room i 1) 3) (value_at w)))
  unfolding frame frame_of shape_of begun kind_of halfway outer plug view assigned
  back_get t =
      record {
        is = rw t;
        plain = value_plain (get_f (word ws room i 1) (node_word ws (word ws room i 1) 2) (node_word ws (word ws room i 1) 3)) (frames ws room i) (store_of room) 0 (value_at w) (λ y. refl);
        found = step_get (program ws) (word ws room i 1) (heap_of (program ws) hs) (store_of room) (node_word ws (word ws room i 1) 2) (node_word ws (word ws room i 1) 3) 0 (value_at w);
      }

  pub back_add : tag ws room i ≡ 20 → Back (add_r (word ws room i 1) 0 (value_at (word ws room i 2))) (redex (word ws room i 1) (heap_of (program ws) hs) (store_of room) (add_redex (heap_of (program ws) hs) (value_at (word ws room i 2)) (value_at w)))
  unfolding frame frame_of shape_of begun kind_of halfway outer plug view assigned
  back_add t =
      record {
        is = rw t;
        plain = value_plain (add_r (word ws room i 1) 0 (value_at (word ws room i 2))) (frames ws room i) (store_of room) 0 (value_at w) (λ y. refl);
        found = step_add (program ws) (word ws room i 1) (heap_of (program ws) hs) (store_of room) 0 0 (value_at (word ws room i 2)) (value_at w);
      }

  pub back_eq : tag ws room i ≡ 21 → Back (eqR (word ws room i 1) 0 (value_at (word ws room i 2))) (redex (word ws room i 1) (heap_of (program ws) hs) (store_of room) (eq_redex (heap_of (program ws) hs) (value_at (word ws room i 2)) (value_at w)))
  unfolding frame frame_of shape_of begun kind_of halfway outer plug view assigned
  back_eq t =
      record {
        is = rw t;
        plain = value_plain (eqR (word ws room i 1) 0 (value_at (word ws room i 2))) (frames ws room i) (store_of room) 0 (value_at w) (λ y. refl);
        found = step_eq (program ws) (word ws room i 1) (heap_of (program ws) hs) (store_of room) 0 0 (value_at (word ws room i 2)) (value_at w);
      }

  pub back_put : tag ws room i ≡ 24 → Back (put_r (word ws room i 1) (node_word ws (word ws room i 1) 2) (node_word ws (word ws room i 1) 3) 0 (value_at (word ws room i 2))) (redex (word ws room i 1) (heap_of (program ws) hs) (store_of room) (put_redex (program ws) (heap_of (program ws) hs) (node_word ws (word ws room i 1) 2) (node_word ws (word ws room i 1) 3) (value_at (word ws room i 2)) (value_at w)))
  unfolding frame frame_of shape_of begun kind_of halfway outer plug view assigned
  back_put t =
      record {
        is = rw t;
        plain = value_plain (put_r (word ws room i 1) (node_word ws (word ws room i 1) 2) (node_word ws (word ws room i 1) 3) 0 (value_at (word ws room i 2))) (frames ws room i) (store_of room) 0 (value_at w) (λ y. refl);
        found = step_put (program ws) (word ws room i 1) (heap_of (program ws) hs) (store_of room) (node_word ws (word ws room i 1) 2) (node_word ws (word ws room i 1) 3) 0 0 (value_at (word ws room i 2)) (value_at w);
      }

  pub back_seq : tag ws room i ≡ 11 → Back (seq_f (word ws room i 1) (operand_of ws (word ws room i 1) 0)) (Out.next 0 (word ws room i 1) (heap_of (program ws) hs) (store_of room) ((operand_of ws (word ws room i 1) 0)))
  unfolding frame frame_of shape_of begun kind_of halfway outer plug view assigned
  back_seq t =
      record {
        is = rw t;
        plain = value_plain (seq_f (word ws room i 1) (operand_of ws (word ws room i 1) 0)) (frames ws room i) (store_of room) 0 (value_at w) (λ y. refl);
        found = step_seq (program ws) (word ws room i 1) (heap_of (program ws) hs) (store_of room) 0 (value_at w) (operand_of ws (word ws room i 1) 0);
      }

  pub back_loop : tag ws room i ≡ 29 → Back (seq_f (word ws room i 1) (loaded ws (word ws room i 1))) (Out.next 0 (word ws room i 1) (heap_of (program ws) hs) (store_of room) ((loaded ws (word ws room i 1))))
  unfolding frame frame_of shape_of begun kind_of halfway outer plug view assigned
  back_loop t =
      record {
        is = rw t;
        plain = value_plain (seq_f (word ws room i 1) (loaded ws (word ws room i 1))) (frames ws room i) (store_of room) 0 (value_at w) (λ y. refl);
        found = step_seq (program ws) (word ws room i 1) (heap_of (program ws) hs) (store_of room) 0 (value_at w) (loaded ws (word ws room i 1));
      }

  pub back_if : tag ws room i ≡ 12 → Back (ite_f (word ws room i 1) (operand_of ws (word ws room i 1) 1) (operand_of ws (word ws room i 1) 0)) (if_out (word ws room i 1) (heap_of (program ws) hs) (store_of room) (value_at w) (operand_of ws (word ws room i 1) 1) (operand_of ws (word ws room i 1) 0))
  unfolding frame frame_of shape_of begun kind_of halfway outer plug view assigned
  back_if t =
      record {
        is = rw t;
        plain = value_plain (ite_f (word ws room i 1) (operand_of ws (word ws room i 1) 1) (operand_of ws (word ws room i 1) 0)) (frames ws room i) (store_of room) 0 (value_at w) (λ y. refl);
        found = step_if (program ws) (word ws room i 1) (heap_of (program ws) hs) (store_of room) 0 (value_at w) (operand_of ws (word ws room i 1) 1) (operand_of ws (word ws room i 1) 0);
      }

  pub back_test : tag ws room i ≡ 13 → Back (ite_f (word ws room i 1) (seq (word ws room i 1) (operand_of ws (word ws room i 1) 0) (loaded ws (word ws room i 1))) (bare Value.Unit)) (if_out (word ws room i 1) (heap_of (program ws) hs) (store_of room) (value_at w) (seq (word ws room i 1) (operand_of ws (word ws room i 1) 0) (loaded ws (word ws room i 1))) (bare Value.Unit))
  unfolding frame frame_of shape_of begun kind_of halfway outer plug view assigned
  back_test t =
      record {
        is = rw t;
        plain = value_plain (ite_f (word ws room i 1) (seq (word ws room i 1) (operand_of ws (word ws room i 1) 0) (loaded ws (word ws room i 1))) (bare Value.Unit)) (frames ws room i) (store_of room) 0 (value_at w) (λ y. refl);
        found = step_if (program ws) (word ws room i 1) (heap_of (program ws) hs) (store_of room) 0 (value_at w) (seq (word ws room i 1) (operand_of ws (word ws room i 1) 0) (loaded ws (word ws room i 1))) (bare Value.Unit);
      }

  pub back_throw : tag ws room i ≡ 14 → Back (throw_f (word ws room i 1) Void) (throw_out (word ws room i 1) (heap_of (program ws) hs) (store_of room) (value_at w))
  unfolding frame frame_of shape_of begun kind_of halfway outer plug view assigned
  back_throw t =
      record {
        is = rw t;
        plain = value_plain (throw_f (word ws room i 1) Void) (frames ws room i) (store_of room) 0 (value_at w) (λ y. refl);
        found = step_throw (program ws) (word ws room i 1) (heap_of (program ws) hs) (store_of room) Void 0 (value_at w);
      }

  pub back_try : tag ws room i ≡ 15 → Back (try_f (word ws room i 1) (node_word ws (word ws room i 1) 2) (node_word ws (word ws room i 1) 3) (operand_of ws (word ws room i 1) 0)) (Out.next 0 (word ws room i 1) (heap_of (program ws) hs) (store_of room) (bare (value_at w)))
  unfolding frame frame_of shape_of begun kind_of halfway outer plug view assigned
  back_try t =
      record {
        is = rw t;
        plain = value_plain (try_f (word ws room i 1) (node_word ws (word ws room i 1) 2) (node_word ws (word ws room i 1) 3) (operand_of ws (word ws room i 1) 0)) (frames ws room i) (store_of room) 0 (value_at w) (λ y. refl);
        found = step_try (program ws) (word ws room i 1) (heap_of (program ws) hs) (store_of room) (node_word ws (word ws room i 1) 2) (node_word ws (word ws room i 1) 3) 0 (value_at w) (operand_of ws (word ws room i 1) 0);
      }

  pub back_block : tag ws room i ≡ 10 → Back (block_f (word ws room i 1) (word ws room i 2) (type_of (word ws room i 3)) (held (word ws room i 4))) (Out.next 0 (word ws room i 1) (heap_of (program ws) hs) (upd (store_of room) (word ws room i 2) (held (word ws room i 4))) (bare (value_at w)))
  unfolding frame frame_of shape_of begun kind_of halfway outer plug view assigned
  back_block t =
      record {
        is = rw t;
        plain = value_plain (block_f (word ws room i 1) (word ws room i 2) (type_of (word ws room i 3)) (held (word ws room i 4))) (frames ws room i) (store_of room) 0 (value_at w) (λ y. refl);
        found = step_block (program ws) (word ws room i 1) (heap_of (program ws) hs) (upd (store_of room) (word ws room i 2) (held (word ws room i 4))) (word ws room i 2) (type_of (word ws room i 3)) (store_of room (word ws room i 2)) 0 (value_at w);
      }

  -- an assignment that no block takes up
  pub back_assign : tag ws room i ≡ 6 → node_word ws (word ws room i 1) 2 < variables
      → armed_seq ws room i (node_word ws (word ws room i 1) 2) ≡ false
      → Back (assign_f (word ws room i 1) (node_word ws (word ws room i 1) 2))
      (Out.next 0 (word ws room i 1) (heap_of (program ws) hs) (upd (store_of room) (node_word ws (word ws room i 1) 2) (some (value_at w)))
      (bare (value_at w)))
  unfolding frame frame_of shape_of begun kind_of outer plug
  back_assign t m a =
      let p = word ws room i 1 in
      let x = node_word ws p 2 in
      record {
        is = rw t;
        plain = (refl, assign_plain (frames ws room i) (store_of room) p x 0 (value_at w) (armed_seq_not ws room i p x 0 (value_at w) m a));
        found = step_assign (program ws) p (heap_of (program ws) hs) (store_of room) x 0 (value_at w);
      }

  -- what the words of the frame are
  ok : FrameOk ws (shape_of (tag ws room i)) (tag ws room i) (word ws room i 1) (word ws room i 2) (word ws room i 4) (kept ws room i)
  ok = inv.fit.frame_ok i (omega arith)

  pub is_first : (k : ℕ) → shape_of k ≡ first → tag ws room i ≡ k → IsNode ws (word ws room i 1) k
  is_first = fit_first ws inv.fit

  pub is_second : (k : ℕ) → shape_of k ≡ second → tag ws room i ≡ k → IsNode ws (word ws room i 1) (k - 16) × IsValue (word ws room i 2)
  is_second = fit_second ws inv.fit

  pub is_while : (k : ℕ) → (shape_of k ≡ test) ⊎ (shape_of k ≡ loop) → tag ws room i ≡ k → IsNode ws (word ws room i 1) 13
  is_while k (inl e) t = let o = rw (t, e) at ok in o
  is_while k (inr e) t = let o = rw (t, e) at ok in o

  pub is_call : tag ws room i ≡ 9
      → IsNode ws (word ws room i 1) 9 × (word ws room i 2 ≤ node_word ws (word ws room i 1) 3)
      × ((k : ℕ) → k < word ws room i 2 → IsValue (kept ws room i k))
  is_call = fit_call ws inv.fit

  pub is_block : tag ws room i ≡ 10 → (word ws room i 2 < variables) × Held ws (word ws room i 4)
  unfolding shape_of
  is_block t = let o = rw t at ok in o

  operand_last : (p : ℕ) → operand ws p 0 ≡ p - 1
  unfolding operand
  operand_last p = refl

  operand_in : (p j : ℕ) → p < node_count ws → j < operand_count ws p → operand ws p j < node_count ws
  operand_in p j h l = omega (arith, operand_below ws p (good p h) j l)

  module _ (heap : HeapOk ws hs (get_or room search_word 0)) where
    pub seq_steps : tag ws room i ≡ 11 → Steps ws D hs room (suc i) (Word w) hs room i (Node (operand ws (word ws room i 1) 0))
    unfolding focus_of shape_of kind_of operands
    seq_steps t =
        let n = is_first 11 refl t in
        steps_less (back_seq t) (word ws room i 1) hs (Node (operand ws (word ws room i 1) 0)) refl
        (operand_in (word ws room i 1) 0 n.0 (rw n.1 (omega arith))) heap

    pub loop_steps : tag ws room i ≡ 29 → Steps ws D hs room (suc i) (Word w) hs room i (Node (word ws room i 1))
    unfolding focus_of shape_of
    loop_steps t =
        steps_less (back_loop t) (word ws room i 1) hs (Node (word ws room i 1)) refl (is_while 29 (inr refl) t).0 heap

    pub try_steps : tag ws room i ≡ 15 → Steps ws D hs room (suc i) (Word w) hs room i (Word w)
    unfolding focus_of
    try_steps t = steps_less (back_try t) (word ws room i 1) hs (Word w) refl inv.here heap

    -- a variable of the room is written, and the frame is gone
    stored : (x u : ℕ) → x < variables → Held ws u
        → Inv ws D (set room x u) i (Word w) × (store_of (set room x u) ≡ upd (store_of room) x (held u))
        × (frames ws (set room x u) i ≡ frames ws room i) × (length (set room x u) ≡ length room)
        × HeapOk ws hs (get_or (set room x u) search_word 0)
    stored x u m o = (
      record {
        fit = set_fit ws x u m o (fit_less ws (omega arith) inv.fit);
        level = omega (arith, inv.level);
        long = rw length-set inv.long;
        here = inv.here;
      },
      set_store room x u m (omega (arith, inv.long)),
      set_frames ws room x u i (omega arith),
      length-set room x u,
      rw (get_or-set_other room x search_word u 0 (λ e. let z : search_word ≡ x = e in omega arith)) heap,
    )

    pub block_steps : tag ws room i ≡ 10
        → Steps ws D hs room (suc i) (Word w) hs (set room (word ws room i 2) (word ws room i 4)) i (Word w)
    unfolding focus_of
    block_steps t =
        let x = word ws room i 2 in
        let u = word ws room i 4 in
        let o = is_block t in
        let z = stored x u o.0 o.1 in
        back_steps (back_block t) (word ws room i 1) hs (set room x u) (Word w) (rw z.1) z.2 z.0 z.3 z.4

    pub assign_steps : tag ws room i ≡ 6 → armed_seq ws room i (node_word ws (word ws room i 1) 2) ≡ false
        → Steps ws D hs room (suc i) (Word w) hs (set room (node_word ws (word ws room i 1) 2) (suc w)) i (Word w)
    unfolding focus_of shape_of held
    assign_steps t a =
        let p = word ws room i 1 in
        let x = node_word ws p 2 in
        let n = is_first 6 refl t in
        let m = assign_local ws p (good p n.0) n.1 in
        let z = stored x (suc w) m inv.here in
        back_steps (back_assign t m a) p hs (set room x (suc w)) (Word w) (rw z.1) z.2 z.0 z.3 z.4

    -- the arms of an If
    pub then_steps : tag ws room i ≡ 12
        → if_out (word ws room i 1) (heap_of (program ws) hs) (store_of room) (value_at w) (operand_of ws (word ws room i 1) 1)
        (operand_of ws (word ws room i 1) 0)
        ≡ Out.next 0 (word ws room i 1) (heap_of (program ws) hs) (store_of room) (operand_of ws (word ws room i 1) 1)
        → Steps ws D hs room (suc i) (Word w) hs room i (Node (operand ws (word ws room i 1) 1))
    unfolding focus_of shape_of kind_of operands
    then_steps t e =
        let p = word ws room i 1 in
        let n = is_first 12 refl t in
        steps_less (back_if t) p hs (Node (operand ws p 1)) e (operand_in p 1 n.0 (rw n.1 (omega arith))) heap

    pub else_steps : tag ws room i ≡ 12
        → if_out (word ws room i 1) (heap_of (program ws) hs) (store_of room) (value_at w) (operand_of ws (word ws room i 1) 1)
        (operand_of ws (word ws room i 1) 0)
        ≡ Out.next 0 (word ws room i 1) (heap_of (program ws) hs) (store_of room) (operand_of ws (word ws room i 1) 0)
        → Steps ws D hs room (suc i) (Word w) hs room i (Node (operand ws (word ws room i 1) 0))
    unfolding focus_of shape_of kind_of operands
    else_steps t e =
        let p = word ws room i 1 in
        let n = is_first 12 refl t in
        steps_less (back_if t) p hs (Node (operand ws p 0)) e (operand_in p 0 n.0 (rw n.1 (omega arith))) heap

    -- the If of a loop: its body is gone into under the Seq that it becomes, or the loop is over
    pub over_steps : tag ws room i ≡ 13
        → if_out (word ws room i 1) (heap_of (program ws) hs) (store_of room) (value_at w)
        (seq (word ws room i 1) (operand_of ws (word ws room i 1) 0) (loaded ws (word ws room i 1))) (bare Value.Unit)
        ≡ Out.next 0 (word ws room i 1) (heap_of (program ws) hs) (store_of room) (bare Value.Unit)
        → Steps ws D hs room (suc i) (Word w) hs room i (Word 0)
    unfolding focus_of value_of value_with tag_of payload_of
    over_steps t e = steps_less (back_test t) (word ws room i 1) hs (Word 0) e refl heap

    pub again_steps : tag ws room i ≡ 13
        → if_out (word ws room i 1) (heap_of (program ws) hs) (store_of room) (value_at w)
        (seq (word ws room i 1) (operand_of ws (word ws room i 1) 0) (loaded ws (word ws room i 1))) (bare Value.Unit)
        ≡ Out.next 0 (word ws room i 1) (heap_of (program ws) hs) (store_of room)
        (seq (word ws room i 1) (operand_of ws (word ws room i 1) 0) (loaded ws (word ws room i 1)))
        → Steps ws D hs room (suc i) (Word w) hs (set room (frame_at i) 29) (suc i) (Node (operand ws (word ws room i 1) 0))
    unfolding focus_of frames frame frame_of shape_of kind_of operands plug outer
    again_steps t e =
        let p = word ws room i 1 in
        let new = set room (frame_at i) 29 in
        let n = is_while 13 (inl refl) t in
        let long : frame_at i + 16 ≤ length room = omega (arith, inv.long, inv.level) in
        let k = kept_set (frame_at i) 29 (omega arith) (kept_refl room i) in
        let g : tag ws new i ≡ 29 = get_or-set_same room (frame_at i) 29 0 (omega arith) in
        let q : word ws new i 1 ≡ p = get_or-set_other room (frame_at i) (frame_at i + 1) 29 0 (λ z. let y : frame_at i + 1 ≡ frame_at i = z in omega arith) in
        let b = back_test t in
        record {
          inv =
              record {
                fit = fit_more ws (kept_fit ws k (fit_less ws (omega arith) inv.fit)) (rw k.size (omega arith)) (rw (g, q) n);
                level = inv.level;
                long = rw k.size inv.long;
                here = operand_in p 0 n.0 (rw n.1 (omega arith));
              };
          size = k.size;
          heap = rw (k.same search_word (omega arith)) heap;
          goes =
              rw (frames_more ws k, kept_store k, g, q, b.is)
              (rw (
                plugs_in (seq_f p (loaded ws p)) (frames ws room i) (store_of room) (operand_of ws p 0) (seq p (operand_of ws p 0) (loaded ws p)) refl refl,
                outers_in (seq_f p (loaded ws p)) (frames ws room i) (store_of room) refl,
              )
              (goes_back (program ws) D (heap_of (program ws) hs) (ite_f p (seq p (operand_of ws p 0) (loaded ws p)) (bare Value.Unit))
              (frames ws room i) (store_of room) (bare (value_at w)) (seq p (operand_of ws p 0) (loaded ws p)) (heap_of (program ws) hs)
              (store_of room) p b.plain low (b.found ∙ e)));
        }

  -- an address comes to a Throw
  pub throw_moves : (a : ℕ) → tag ws room i ≡ 14 → value_at w ≡ Addr a → a < addresses
      → Moves ws D room (suc i) (Word w) room i (Thrown a (word ws room i 1))
  unfolding focus_of frames frame frame_of shape_of begun kind_of pending weight plug outer
  throw_moves a t e m =
      let p = word ws room i 1 in
      record {
        inv = less (Thrown a p) m;
        size = refl;
        search = refl;
        same =
            sym (rw (t, e) (plugs_in (throw_f p Void) (frames ws room i) (store_of room) (bare (Addr a)) (thrown_at p a) refl refl));
        around = sym (rw t (outers_in (throw_f p Void) (frames ws room i) (store_of room) refl));
        falls = omega arith;
      }

  -- The first of two operands is a value: the second is gone into.
  module _ (t : ℕ) (tagged : tag ws room i ≡ t) where
    abbrev second_room : List ℕ
    second_room = set (set room (frame_at i) (t + 16)) (frame_at i + 2) w

    second_long : frame_at i + 16 ≤ length room
    second_long = omega (arith, inv.long, inv.level)

    second_kept : Kept room second_room i
    second_kept = kept_set (frame_at i + 2) w (omega arith) (kept_set (frame_at i) (t + 16) (omega arith) (kept_refl room i))

    second_tag : tag ws second_room i ≡ t + 16
    second_tag =
        get_or-set_other (set room (frame_at i) (t + 16)) (frame_at i + 2) (frame_at i) w 0 (λ z. let y : frame_at i ≡ frame_at i + 2 = z in omega arith)
        ∙ get_or-set_same room (frame_at i) (t + 16) 0 (omega (arith, second_long))

    second_place : word ws second_room i 1 ≡ word ws room i 1
    second_place =
        get_or-set_other (set room (frame_at i) (t + 16)) (frame_at i + 2) (frame_at i + 1) w 0 (λ z. let y : frame_at i + 1 ≡ frame_at i + 2 = z in omega arith)
        ∙ get_or-set_other room (frame_at i) (frame_at i + 1) (t + 16) 0 (λ z. let y : frame_at i + 1 ≡ frame_at i = z in omega arith)

    second_value : word ws second_room i 2 ≡ w
    second_value = get_or-set_same (set room (frame_at i) (t + 16)) (frame_at i + 2) w 0 (rw length-set (omega (arith, second_long)))

    second_any : shape_of t ≡ first → shape_of (t + 16) ≡ second → IsNode ws (word ws room i 1) t → operand_count ws (word ws room i 1) ≡ 2
        → plug blocked (frame ws second_room i) (store_of room) (operand_of ws (word ws room i 1) 0)
        ≡ plug blocked (frame ws room i) (store_of room) (bare (value_at w))
        → outer (frame ws room i) (store_of room) ≡ store_of room
        → outer (frame ws second_room i) (store_of room) ≡ store_of room
        → Moves ws D room (suc i) (Word w) second_room (suc i) (Node (operand ws (word ws room i 1) 0))
    unfolding frames focus_of pending weight behind
    second_any e1 e2 n c e o o2 =
        let p = word ws room i 1 in
        let k = second_kept in
        let z : t + 16 - 16 ≡ t = omega arith in
        let y : operands (kind_of t) (node_word ws p 3) ≡ 2 = rw (← n.1) c in
        let r : operand ws p 0 ≡ p - 1 = operand_last p in
        record {
          inv =
              record {
                fit =
                    fit_more ws (kept_fit ws k (fit_less ws (omega arith) inv.fit)) (rw k.size (omega (arith, second_long)))
                    (rw (second_tag, e2, second_place, second_value, z) (n, inv.here));
                level = inv.level;
                long = rw k.size inv.long;
                here = operand_in p 0 n.0 (omega arith);
              };
          size = k.size;
          search = k.same search_word (omega arith);
          same =
              rw (frames_more ws k, kept_store k)
              (plugs_in (frame ws second_room i) (frames ws room i) (store_of room) (operand_of ws p 0)
              (plug blocked (frame ws room i) (store_of room) (bare (value_at w))) e o2
              ∙ sym (plugs_in (frame ws room i) (frames ws room i) (store_of room) (bare (value_at w))
              (plug blocked (frame ws room i) (store_of room) (bare (value_at w))) refl o));
          around =
              rw (frames_more ws k, kept_store k)
              (outers_in (frame ws second_room i) (frames ws room i) (store_of room) o2
              ∙ sym (outers_in (frame ws room i) (frames ws room i) (store_of room) o));
          falls =
              rw (second_tag, e2, pending_kept ws k, tagged, e1, y)
              (omega (arith, operand_after ws p (good p n.0) 0 (omega arith), r));
        }

  pub add_moves : tag ws room i ≡ 4
      → Moves ws D room (suc i) (Word w) (set (set room (frame_at i) 20) (frame_at i + 2) w) (suc i) (Node (operand ws (word ws room i 1) 0))
  unfolding frame frame_of shape_of begun kind_of halfway plug outer operands
  add_moves t =
      let n = is_first 4 refl t in
      second_any 4 t refl refl n (rw n.1) (rw (second_tag 4 t, second_place 4 t, second_value 4 t, t)) (rw t) (rw (second_tag 4 t))

  pub eq_moves : tag ws room i ≡ 5
      → Moves ws D room (suc i) (Word w) (set (set room (frame_at i) 21) (frame_at i + 2) w) (suc i) (Node (operand ws (word ws room i 1) 0))
  unfolding frame frame_of shape_of begun kind_of halfway plug outer operands
  eq_moves t =
      let n = is_first 5 refl t in
      second_any 5 t refl refl n (rw n.1) (rw (second_tag 5 t, second_place 5 t, second_value 5 t, t)) (rw t) (rw (second_tag 5 t))

  pub set_moves : tag ws room i ≡ 8
      → Moves ws D room (suc i) (Word w) (set (set room (frame_at i) 24) (frame_at i + 2) w) (suc i) (Node (operand ws (word ws room i 1) 0))
  unfolding frame frame_of shape_of begun kind_of halfway plug outer operands
  set_moves t =
      let n = is_first 8 refl t in
      second_any 8 t refl refl n (rw n.1) (rw (second_tag 8 t, second_place 8 t, second_value 8 t, t)) (rw t) (rw (second_tag 8 t))
