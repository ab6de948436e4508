-- Laws of Throw of an address: it moves outward, one frame a step, up to a Try that catches it.
use Rattle.std.specs.Prelude.{◌≡◌, true, List, ◌∷◌, ℕ, zero, suc, ◌+◌, ◌≤◌, ◌<◌, get_or, set}
use Rattle.std.proofs.Math.Path.{refl}
use Rattle.std.proofs.Common.{◌∙◌, arith, get_or-set_other}
use Rattle.std.proofs.Math.Option.{some}
use Rattle.std.proofs.Math.ListN.{length, length-set}
use Rattle.words.specs.declared.Value.TheVariants.{Addr}
use Rattle.words.specs.declared.Ty.TheVariants.{Class}
use Rattle.words.specs.Types.{type_of}
use Rattle.image.specs.Trailer.{node_count}
use Rattle.image.specs.Nodes.{node_word, kind_of, operands, node_holds}
use Rattle.rules.specs.Trees.{block, operand}
use Rattle.rules.specs.Program.{Program, program}
use Rattle.rules.specs.Heap.{Heap, heap_of, look}
use Rattle.rules.specs.Step.{Store, Out, thrown_at, view, under, throw_out, catch_slot, step}
use Rattle.laws.specs.Values.{value_at, IsValue}
use Rattle.laws.specs.Trees.{operand_count, operand_below}
use Rattle.laws.specs.Frames.{plug, outer, thrown_out, thrown_in_lem, Plain, quiet_plain, blocked_some}
use Rattle.room.specs.declared.Focus.{Focus}
use Rattle.room.specs.declared.Focus.TheVariants.{Node, Thrown}
use Rattle.room.specs.Room.{search_word, frame_at, held, store_of, shape_of, begun, halfway, calling, operand_of, frame_of, word, tag, kept, frame, frames, IsNode}
use Rattle.room.specs.RoomLaws.{fit_less, set_store, set_frames, set_fit, push_block, block_size, block_below, block_fit, block_plugs, block_outers}
use Rattle.room.specs.Stack.{Halts, goes_back, halts_back}
use Rattle.room.specs.Turn.{HeapOk, focus_of, finds, Inv, Steps}
use Rattle.room.specs.Nodes.{length_frames, quiet_other, try_local}

-- every frame but a Try's passes it on, and every one but a block's leaves the variables alone
passes : (P : Program) (h : Heap) (s : Store) (a : ℕ) (ws : List ℕ) (t p x b c : ℕ) (k : ℕ → ℕ) → (t ≡ 15 → ⊥)
    → thrown_out P (frame_of ws (shape_of t) t p x b c k) h s a ≡ Out.next 0 p h s (thrown_at p a)
unfolding frame_of shape_of begun halfway calling kind_of thrown_out
passes P h s a ws zero p x b c k d = refl
passes P h s a ws (suc zero) p x b c k d = refl
passes P h s a ws (suc (suc zero)) p x b c k d = refl
passes P h s a ws (suc (suc (suc zero))) p x b c k d = refl
passes P h s a ws (suc (suc (suc (suc zero)))) p x b c k d = refl
passes P h s a ws (suc (suc (suc (suc (suc zero))))) p x b c k d = refl
passes P h s a ws (suc (suc (suc (suc (suc (suc zero)))))) p x b c k d = refl
passes P h s a ws (suc (suc (suc (suc (suc (suc (suc zero))))))) p x b c k d = refl
passes P h s a ws (suc (suc (suc (suc (suc (suc (suc (suc zero)))))))) p x b c k d = refl
passes P h s a ws (suc (suc (suc (suc (suc (suc (suc (suc (suc zero))))))))) p zero b c k d = refl
passes P h s a ws (suc (suc (suc (suc (suc (suc (suc (suc (suc zero))))))))) p (suc x) b c k d = refl
passes P h s a ws (suc (suc (suc (suc (suc (suc (suc (suc (suc (suc zero)))))))))) p x b c k d = refl
passes P h s a ws (suc (suc (suc (suc (suc (suc (suc (suc (suc (suc (suc zero))))))))))) p x b c k d = refl
passes P h s a ws (suc (suc (suc (suc (suc (suc (suc (suc (suc (suc (suc (suc zero)))))))))))) p x b c k d = refl
passes P h s a ws (suc (suc (suc (suc (suc (suc (suc (suc (suc (suc (suc (suc (suc zero))))))))))))) p x b c k d = refl
passes P h s a ws (suc (suc (suc (suc (suc (suc (suc (suc (suc (suc (suc (suc (suc (suc zero)))))))))))))) p x b c k d = refl
passes P h s a ws (suc (suc (suc (suc (suc (suc (suc (suc (suc (suc (suc (suc (suc (suc (suc zero))))))))))))))) p x b c k d = absurd (d refl)
passes P h s a ws (suc (suc (suc (suc (suc (suc (suc (suc (suc (suc (suc (suc (suc (suc (suc (suc zero)))))))))))))))) p x b c k d = refl
passes P h s a ws (suc (suc (suc (suc (suc (suc (suc (suc (suc (suc (suc (suc (suc (suc (suc (suc (suc zero))))))))))))))))) p x b c k d = refl
passes P h s a ws (suc (suc (suc (suc (suc (suc (suc (suc (suc (suc (suc (suc (suc (suc (suc (suc (suc (suc zero)))))))))))))))))) p x b c k d = refl
passes P h s a ws (suc (suc (suc (suc (suc (suc (suc (suc (suc (suc (suc (suc (suc (suc (suc (suc (suc (suc (suc zero))))))))))))))))))) p x b c k d = refl
passes P h s a ws (suc (suc (suc (suc (suc (suc (suc (suc (suc (suc (suc (suc (suc (suc (suc (suc (suc (suc (suc (suc zero)))))))))))))))))))) p x b c k d = refl
passes P h s a ws (suc (suc (suc (suc (suc (suc (suc (suc (suc (suc (suc (suc (suc (suc (suc (suc (suc (suc (suc (suc (suc zero))))))))))))))))))))) p x b c k d = refl
passes P h s a ws (suc (suc (suc (suc (suc (suc (suc (suc (suc (suc (suc (suc (suc (suc (suc (suc (suc (suc (suc (suc (suc (suc zero)))))))))))))))))))))) p x b c k d = refl
passes P h s a ws (suc (suc (suc (suc (suc (suc (suc (suc (suc (suc (suc (suc (suc (suc (suc (suc (suc (suc (suc (suc (suc (suc (suc zero))))))))))))))))))))))) p x b c k d = refl
passes P h s a ws (suc (suc (suc (suc (suc (suc (suc (suc (suc (suc (suc (suc (suc (suc (suc (suc (suc (suc (suc (suc (suc (suc (suc (suc zero)))))))))))))))))))))))) p x b c k d = refl
passes P h s a ws (suc (suc (suc (suc (suc (suc (suc (suc (suc (suc (suc (suc (suc (suc (suc (suc (suc (suc (suc (suc (suc (suc (suc (suc (suc zero))))))))))))))))))))))))) p x b c k d = refl
passes P h s a ws (suc (suc (suc (suc (suc (suc (suc (suc (suc (suc (suc (suc (suc (suc (suc (suc (suc (suc (suc (suc (suc (suc (suc (suc (suc (suc zero)))))))))))))))))))))))))) p x b c k d = refl
passes P h s a ws (suc (suc (suc (suc (suc (suc (suc (suc (suc (suc (suc (suc (suc (suc (suc (suc (suc (suc (suc (suc (suc (suc (suc (suc (suc (suc (suc zero))))))))))))))))))))))))))) p x b c k d = refl
passes P h s a ws (suc (suc (suc (suc (suc (suc (suc (suc (suc (suc (suc (suc (suc (suc (suc (suc (suc (suc (suc (suc (suc (suc (suc (suc (suc (suc (suc (suc zero)))))))))))))))))))))))))))) p x b c k d = refl
passes P h s a ws (suc (suc (suc (suc (suc (suc (suc (suc (suc (suc (suc (suc (suc (suc (suc (suc (suc (suc (suc (suc (suc (suc (suc (suc (suc (suc (suc (suc (suc zero))))))))))))))))))))))))))))) p x b c k d = refl
passes P h s a ws (suc (suc (suc (suc (suc (suc (suc (suc (suc (suc (suc (suc (suc (suc (suc (suc (suc (suc (suc (suc (suc (suc (suc (suc (suc (suc (suc (suc (suc (suc t)))))))))))))))))))))))))))))) p x b c k d = refl

pub keeps : (s : Store) (ws : List ℕ) (t p x b c : ℕ) (k : ℕ → ℕ) → (t ≡ 10 → ⊥) → outer (frame_of ws (shape_of t) t p x b c k) s ≡ s
unfolding frame_of shape_of begun halfway calling kind_of outer
keeps s ws zero p x b c k d = refl
keeps s ws (suc zero) p x b c k d = refl
keeps s ws (suc (suc zero)) p x b c k d = refl
keeps s ws (suc (suc (suc zero))) p x b c k d = refl
keeps s ws (suc (suc (suc (suc zero)))) p x b c k d = refl
keeps s ws (suc (suc (suc (suc (suc zero))))) p x b c k d = refl
keeps s ws (suc (suc (suc (suc (suc (suc zero)))))) p x b c k d = refl
keeps s ws (suc (suc (suc (suc (suc (suc (suc zero))))))) p x b c k d = refl
keeps s ws (suc (suc (suc (suc (suc (suc (suc (suc zero)))))))) p x b c k d = refl
keeps s ws (suc (suc (suc (suc (suc (suc (suc (suc (suc zero))))))))) p zero b c k d = refl
keeps s ws (suc (suc (suc (suc (suc (suc (suc (suc (suc zero))))))))) p (suc x) b c k d = refl
keeps s ws (suc (suc (suc (suc (suc (suc (suc (suc (suc (suc zero)))))))))) p x b c k d = absurd (d refl)
keeps s ws (suc (suc (suc (suc (suc (suc (suc (suc (suc (suc (suc zero))))))))))) p x b c k d = refl
keeps s ws (suc (suc (suc (suc (suc (suc (suc (suc (suc (suc (suc (suc zero)))))))))))) p x b c k d = refl
keeps s ws (suc (suc (suc (suc (suc (suc (suc (suc (suc (suc (suc (suc (suc zero))))))))))))) p x b c k d = refl
keeps s ws (suc (suc (suc (suc (suc (suc (suc (suc (suc (suc (suc (suc (suc (suc zero)))))))))))))) p x b c k d = refl
keeps s ws (suc (suc (suc (suc (suc (suc (suc (suc (suc (suc (suc (suc (suc (suc (suc zero))))))))))))))) p x b c k d = refl
keeps s ws (suc (suc (suc (suc (suc (suc (suc (suc (suc (suc (suc (suc (suc (suc (suc (suc zero)))))))))))))))) p x b c k d = refl
keeps s ws (suc (suc (suc (suc (suc (suc (suc (suc (suc (suc (suc (suc (suc (suc (suc (suc (suc zero))))))))))))))))) p x b c k d = refl
keeps s ws (suc (suc (suc (suc (suc (suc (suc (suc (suc (suc (suc (suc (suc (suc (suc (suc (suc (suc zero)))))))))))))))))) p x b c k d = refl
keeps s ws (suc (suc (suc (suc (suc (suc (suc (suc (suc (suc (suc (suc (suc (suc (suc (suc (suc (suc (suc zero))))))))))))))))))) p x b c k d = refl
keeps s ws (suc (suc (suc (suc (suc (suc (suc (suc (suc (suc (suc (suc (suc (suc (suc (suc (suc (suc (suc (suc zero)))))))))))))))))))) p x b c k d = refl
keeps s ws (suc (suc (suc (suc (suc (suc (suc (suc (suc (suc (suc (suc (suc (suc (suc (suc (suc (suc (suc (suc (suc zero))))))))))))))))))))) p x b c k d = refl
keeps s ws (suc (suc (suc (suc (suc (suc (suc (suc (suc (suc (suc (suc (suc (suc (suc (suc (suc (suc (suc (suc (suc (suc zero)))))))))))))))))))))) p x b c k d = refl
keeps s ws (suc (suc (suc (suc (suc (suc (suc (suc (suc (suc (suc (suc (suc (suc (suc (suc (suc (suc (suc (suc (suc (suc (suc zero))))))))))))))))))))))) p x b c k d = refl
keeps s ws (suc (suc (suc (suc (suc (suc (suc (suc (suc (suc (suc (suc (suc (suc (suc (suc (suc (suc (suc (suc (suc (suc (suc (suc zero)))))))))))))))))))))))) p x b c k d = refl
keeps s ws (suc (suc (suc (suc (suc (suc (suc (suc (suc (suc (suc (suc (suc (suc (suc (suc (suc (suc (suc (suc (suc (suc (suc (suc (suc zero))))))))))))))))))))))))) p x b c k d = refl
keeps s ws (suc (suc (suc (suc (suc (suc (suc (suc (suc (suc (suc (suc (suc (suc (suc (suc (suc (suc (suc (suc (suc (suc (suc (suc (suc (suc zero)))))))))))))))))))))))))) p x b c k d = refl
keeps s ws (suc (suc (suc (suc (suc (suc (suc (suc (suc (suc (suc (suc (suc (suc (suc (suc (suc (suc (suc (suc (suc (suc (suc (suc (suc (suc (suc zero))))))))))))))))))))))))))) p x b c k d = refl
keeps s ws (suc (suc (suc (suc (suc (suc (suc (suc (suc (suc (suc (suc (suc (suc (suc (suc (suc (suc (suc (suc (suc (suc (suc (suc (suc (suc (suc (suc zero)))))))))))))))))))))))))))) p x b c k d = refl
keeps s ws (suc (suc (suc (suc (suc (suc (suc (suc (suc (suc (suc (suc (suc (suc (suc (suc (suc (suc (suc (suc (suc (suc (suc (suc (suc (suc (suc (suc (suc zero))))))))))))))))))))))))))))) p x b c k d = refl
keeps s ws (suc (suc (suc (suc (suc (suc (suc (suc (suc (suc (suc (suc (suc (suc (suc (suc (suc (suc (suc (suc (suc (suc (suc (suc (suc (suc (suc (suc (suc (suc t)))))))))))))))))))))))))))))) p x b c k d = refl

class_word : (c : ℕ) → type_of (4 + c) ≡ Class c
unfolding type_of
class_word c = let e : 4 + c ≡ suc (suc (suc (suc c))) = omega arith in rw e

module _ (ws : List ℕ) (good : (n : ℕ) → n < node_count ws → node_holds ws n ≡ true) (D : ℕ) (hs room : List ℕ) (i a q : ℕ)
    (inv : Inv ws D room (suc i) (Thrown a q)) (heap : HeapOk ws hs (get_or room search_word 0)) where
  low : length (frames ws room i) ≤ D
  low = rw length_frames (omega (arith, inv.level))

  still : Plain (frame ws room i ∷ frames ws room i) (store_of room) (thrown_at q a)
  unfolding view
  still = quiet_plain (frame ws room i ∷ frames ws room i) (store_of room) (thrown_at q a) (quiet_other (thrown_at q a) refl)

  finds_thrown : step (program ws) (plug block (frame ws room i) (store_of room) (thrown_at q a)) (heap_of (program ws) hs)
      (outer (frame ws room i) (store_of room))
      ≡ thrown_out (program ws) (frame ws room i) (heap_of (program ws) hs) (outer (frame ws room i) (store_of room)) a
  unfolding step under throw_out
  finds_thrown = thrown_in_lem (program ws) (frame ws room i) (thrown_at q a) (heap_of (program ws) hs) (store_of room) a refl

  -- a step to any room with the frames below
  out_steps : (p : ℕ) (room' : List ℕ) (g : Focus)
      → thrown_out (program ws) (frame ws room i) (heap_of (program ws) hs) (outer (frame ws room i) (store_of room)) a
      ≡ Out.next 0 p (heap_of (program ws) hs) (store_of room') (focus_of ws g)
      → frames ws room' i ≡ frames ws room i
      → Inv ws D room' i g
      → length room' ≡ length room
      → HeapOk ws hs (get_or room' search_word 0)
      → Steps ws D hs room (suc i) (Thrown a q) hs room' i g
  unfolding frames focus_of
  out_steps p room' g e f v z h =
      record {
        inv = v;
        size = z;
        heap = h;
        goes =
            rw f
            (goes_back (program ws) D (heap_of (program ws) hs) (frame ws room i) (frames ws room i) (store_of room) (thrown_at q a)
            (focus_of ws g) (heap_of (program ws) hs) (store_of room') p still low (finds_thrown ∙ e));
      }

  less : (p : ℕ) → Inv ws D room i (Thrown a p)
  less p =
      record {
        fit = fit_less ws (omega arith) inv.fit;
        level = omega (arith, inv.level);
        long = inv.long;
        here = inv.here;
      }

  pub pass_steps : (tag ws room i ≡ 10 → ⊥) → (tag ws room i ≡ 15 → ⊥)
      → Steps ws D hs room (suc i) (Thrown a q) hs room i (Thrown a (word ws room i 1))
  unfolding focus_of frame
  pass_steps d e =
      out_steps (word ws room i 1) room (Thrown a (word ws room i 1))
      (rw (keeps (store_of room) ws (tag ws room i) (word ws room i 1) (word ws room i 2) (word ws room i 3) (word ws room i 4) (kept ws room i) d)
      (passes (program ws) (heap_of (program ws) hs) (store_of room) a ws (tag ws room i) (word ws room i 1) (word ws room i 2)
      (word ws room i 3) (word ws room i 4) (kept ws room i) e))
      refl (less (word ws room i 1)) refl heap

  -- a block gives its variable back
  pub leave_steps : tag ws room i ≡ 10
      → Steps ws D hs room (suc i) (Thrown a q) hs (set room (word ws room i 2) (word ws room i 4)) i (Thrown a (word ws room i 1))
  unfolding focus_of frame frame_of shape_of outer thrown_out
  leave_steps t =
      let x = word ws room i 2 in
      let u = word ws room i 4 in
      let o = (let k = rw t at (inv.fit.frame_ok i (omega arith)) in k) in
      out_steps (word ws room i 1) (set room x u) (Thrown a (word ws room i 1))
      (rw (t, set_store room x u o.0 (omega (arith, inv.long))))
      (set_frames ws room x u i (omega arith))
      (record {
        fit = set_fit ws x u o.0 o.1 (fit_less ws (omega arith) inv.fit);
        level = omega (arith, inv.level);
        long = rw length-set inv.long;
        here = inv.here;
      })
      (length-set room x u)
      (rw (get_or-set_other room x search_word u 0 (λ e. let z : search_word ≡ x = e in omega arith)) heap)

  -- a Try
  module _ (t : tag ws room i ≡ 15) where
    pub is_try : IsNode ws (word ws room i 1) 15
    unfolding shape_of
    is_try = let k = rw t at (inv.fit.frame_ok i (omega arith)) in k

    tried : (o : Out)
        → catch_slot (program ws) (word ws room i 1) (heap_of (program ws) hs) (store_of room) (node_word ws (word ws room i 1) 2)
        (node_word ws (word ws room i 1) 3) (operand_of ws (word ws room i 1) 0) a (look (heap_of (program ws) hs) a)
        ≡ o
        → thrown_out (program ws) (frame ws room i) (heap_of (program ws) hs) (outer (frame ws room i) (store_of room)) a ≡ o
    unfolding frame frame_of shape_of begun kind_of outer thrown_out
    tried o e = rw t e

    pub pass_try
        : catch_slot (program ws) (word ws room i 1) (heap_of (program ws) hs) (store_of room) (node_word ws (word ws room i 1) 2)
        (node_word ws (word ws room i 1) 3) (operand_of ws (word ws room i 1) 0) a (look (heap_of (program ws) hs) a)
        ≡ Out.next 0 (word ws room i 1) (heap_of (program ws) hs) (store_of room) (thrown_at (word ws room i 1) a)
        → Steps ws D hs room (suc i) (Thrown a q) hs room i (Thrown a (word ws room i 1))
    unfolding focus_of
    pass_try e =
        out_steps (word ws room i 1) room (Thrown a (word ws room i 1)) (tried _ e) refl (less (word ws room i 1)) refl heap

    pub halt_try
        : catch_slot (program ws) (word ws room i 1) (heap_of (program ws) hs) (store_of room) (node_word ws (word ws room i 1) 2)
        (node_word ws (word ws room i 1) 3) (operand_of ws (word ws room i 1) 0) a (look (heap_of (program ws) hs) a)
        ≡ Out.stuck 0 (word ws room i 1)
        → Halts D (finds ws hs room (suc i) (Thrown a q)) (word ws room i 1)
    unfolding frames focus_of
    halt_try e =
        halts_back (program ws) D (heap_of (program ws) hs) (frame ws room i) (frames ws room i) (store_of room) (thrown_at q a)
        (word ws room i 1) still low (finds_thrown ∙ tried _ e)

    -- its frame becomes that of a block which holds the address
    pub catch_steps : (u : ℕ) → value_at u ≡ Addr a → IsValue u
        → catch_slot (program ws) (word ws room i 1) (heap_of (program ws) hs) (store_of room) (node_word ws (word ws room i 1) 2)
        (node_word ws (word ws room i 1) 3) (operand_of ws (word ws room i 1) 0) a (look (heap_of (program ws) hs) a)
        ≡ Out.next 0 (word ws room i 1) (heap_of (program ws) hs) (store_of room)
        (block (word ws room i 1) (node_word ws (word ws room i 1) 3) (Class (node_word ws (word ws room i 1) 2)) (some (Addr a))
        (operand_of ws (word ws room i 1) 0))
        → Steps ws D hs room (suc i) (Thrown a q) hs
        (push_block room i (word ws room i 1) (node_word ws (word ws room i 1) 3) (4 + node_word ws (word ws room i 1) 2) (suc u)) (suc i)
        (Node (operand ws (word ws room i 1) 0))
    unfolding frames focus_of held kind_of operands
    catch_steps u v k e =
        let p = word ws room i 1 in
        let x = node_word ws p 3 in
        let c = node_word ws p 2 in
        let n = is_try in
        let m = try_local ws p (good p n.0) n.1 in
        let f : frame_at (suc i) ≤ length room = omega (arith, inv.long, inv.level) in
        let two : 0 < operand_count ws p = rw n.1 (omega arith) in
        record {
          inv =
              record {
                fit = block_fit ws room i p x (4 + c) (suc u) m f k (fit_less ws (omega arith) inv.fit);
                level = inv.level;
                long = rw (block_size ws room i p x (4 + c) (suc u) m f) inv.long;
                here = omega (arith, n.0, operand_below ws p (good p n.0) 0 two);
              };
          size = block_size ws room i p x (4 + c) (suc u) m f;
          heap =
              rw (block_below ws room i p x (4 + c) (suc u) m f search_word (omega arith) (λ z. let y : search_word ≡ x = z in omega arith))
              heap;
          goes =
              rw (
                block_plugs ws room i p x (4 + c) (suc u) m f (operand_of ws p 0),
                block_outers ws room i p x (4 + c) (suc u) m f,
                class_word c,
                v,
                blocked_some p x (Class c) (Addr a) (operand_of ws p 0),
              )
              (goes_back (program ws) D (heap_of (program ws) hs) (frame ws room i) (frames ws room i) (store_of room) (thrown_at q a)
              (block p x (Class c) (some (Addr a)) (operand_of ws p 0)) (heap_of (program ws) hs) (store_of room) p still low
              (finds_thrown ∙ tried _ e));
        }
