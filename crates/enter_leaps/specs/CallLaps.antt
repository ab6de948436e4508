-- Laws of a Call whose operands have their values without a frame: they are written into its frame's words, and its blocks are pushed.
use Rattle.std.specs.Prelude.{◌≡◌, true, List, length, get_or, set}
use Rattle.std.proofs.Math.Path.{sym}
use Rattle.std.proofs.Common.{◌∙◌, length-set}
use Prim.Native.Nat.{ℕ, zero, suc, ◌+◌, ◌-◌, ◌≤◌, ◌<◌}
use native.Mathlib.Omega.{arith}
use Rattle.std.proofs.Math.Decide.{ℕ_discrete}
use Rattle.std.proofs.Math.Seq.{get_or-set_same, get_or-set_other}
use Rattle.words.specs.declared.Value.{Value}
use Rattle.image.specs.Trailer.{node_count}
use Rattle.image.specs.Records.{method_word}
use Rattle.image.specs.Nodes.{node_word, kind_of, operands, node_holds}
use Rattle.rules.specs.Maps.{tabulate}
use Rattle.rules.specs.Trees.{Expr, operand}
use Rattle.laws.specs.Maps.{tabulate_same}
use Rattle.laws.specs.Trees.{operand_count, begins, operand_begins, operand_end, operand_below, operand_size}
use Rattle.laws.specs.Values.{value_at, IsValue}
use Rattle.redexes.specs.Outcomes.{EntersAt}
use Rattle.room.specs.declared.Focus.{Focus}
use Rattle.room.specs.declared.Focus.TheVariants.{Node, Value as Word}
use Rattle.room.specs.Room.{search_word, most_operands, frame_at, word, tag}
use Rattle.room.specs.RoomLaws.{Kept, kept_refl, kept_set, kept_frames, kept_store, kept_fit, push, push3, push3_kept, push3_tag, push3_place, push3_third}
use Rattle.room.specs.Turn.{HeapOk, Inv}
use Rattle.room.specs.Enter.{enter_call}
use Rattle.room.specs.Nodes.{call_count}
use Rattle.room.specs.Calls.{more_moves, Pushing}
use Rattle.room.specs.Leads.{Leads, Leaps}
use Rattle.room.specs.LeadsLaws.{leaps_move, leaps_step, leads_on, leaps_on, leads_kept, kept_inv, kept_heap, kept_whole, kept_outside, kept_phi}
use Rattle.calls.specs.Blocks.{Callable, Pushed}
use Rattle.calls.specs.CallLaws.{call_goes}
use Rattle.quick.specs.declared.Quick.{Quick}
use Rattle.quick.specs.Known.{Stored, Locals, Eval, Known}
use Rattle.landings.specs.Lands.{Lands, most_steps, at_node}
use Rattle.landings.specs.LandsLaws.{lands_node}
use Rattle.enter_leaps.specs.Enters.{Holds, Ready, Gathers}

-- a leap begins as well in a room that agrees below the level
pub leaps_before : {ws : List ℕ} {D k : ℕ} {hs room new : List ℕ} {l : ℕ} {f : Focus} {hs' room' : List ℕ} {l' : ℕ} {f' : Focus}
    → Kept room new l → Leaps ws D k hs new l f hs' room' l' f' → Leaps ws D k hs room l f hs' room' l' f'
leaps_before {ws} {D} {k} {hs} {room} {new} {l} {f} c a =
    record {
      leads =
          record {
            inv = a.leads.inv;
            size = a.leads.size ∙ c.size;
            heap = a.leads.heap;
            runs = λ m n. rw (← kept_whole ws D c f, ← kept_outside ws D c f) (a.leads.runs m n);
            rests = λ e. rw (← kept_phi ws D c f) (a.leads.rests e);
          };
      falls = λ e. rw (← kept_phi ws D c f) (a.falls e);
    }

-- A value that is known in a room is known in any with the same variables, and so it is where more frames may be had.
pub eval_locals : {ws hs room R : List ℕ} {m w k d : ℕ} → Locals room R → Eval ws hs R m w k d → Eval ws hs room m w k d
eval_locals e v =
    record { is_value_lem = v.is_value_lem; leaps = λ D room' l f. v.leaps D room' l (λ x h. f x h ∙ sym (e x h)) }

pub stored_kept : {ws room R : List ℕ} {l : ℕ} → Stored ws room → Kept room R l → Stored ws R
stored_kept s k =
    record { long = rw k.size s.long; held_ok = λ x h. rw (k.same x (omega arith)) (s.held_ok x h) }

-- Operands that are ready.
module _ (ws hs room : List ℕ) (l n : ℕ) where
  pub ready_values : (R : List ℕ) (c k s : ℕ) → Ready ws hs room R l n c k s → (j : ℕ) → k ≤ j → j < k + c → IsValue (word ws R l (5 + j))
  unfolding Ready
  ready_values R zero k s r j a b = absurd (omega arith)
  ready_values R (suc c) k s (a, r, v, d, f) j lo hi =
      go (ℕ_discrete j k) (λ i. ready_values R c (suc k) r d j i (omega arith))
    where
      go : Dec (j ≡ k) → (suc k ≤ j → IsValue (word ws R l (5 + j))) → IsValue (word ws R l (5 + j))
      go (yes z) on = rw z v.is_value_lem
      go (no z) on = on (omega arith)

  ready_same : (R S : List ℕ) (c k s : ℕ) → ((j : ℕ) → k ≤ j → word ws S l (5 + j) ≡ word ws R l (5 + j))
      → Ready ws hs room R l n c k s → Ready ws hs room S l n c k s
  unfolding Ready
  ready_same R S zero k s e r = r
  ready_same R S (suc c) k s e (a, r, v, d, f) =
      (a, r, rw (e k (omega arith)) v, ready_same R S c (suc k) r (λ j h. e j (omega arith)) d, f)

  pub gathers_start : (y : ℕ) → Gathers ws hs room l n y room n (y + 1) 0
  unfolding Ready begins
  gathers_start y =
      let z : suc y - (y + 1) ≡ 0 = omega arith in
      record {
        kept = kept_refl room l;
        low = omega arith;
        ends = rw z;
        few = omega arith;
        ready = rw z (omega arith);
      }

  -- one more
  module _ (y : ℕ) (R : List ℕ) (e s : ℕ) where
    pub gathers_node : (k : ℕ) → Gathers ws hs room l n y R e k s → 0 < k → e - 1 ≡ operand ws n (suc y - k)
    gathers_node k b h = rw b.ends (sym (operand_begins ws n (suc y - k)))

    -- it stands in the table
    pub gathers_in : (k : ℕ) → Gathers ws hs room l n y R e k s → 0 < k → node_holds ws n ≡ true → node_word ws n 0 ≡ 9 → y ≡ node_word ws n 3
        → (1 ≤ e) × (e - 1 < n) × (node_word ws (e - 1) 1 ≤ e)
    unfolding operands kind_of
    gathers_in k b h g c d =
        let j = suc y - k in
        let z : suc y ≡ operand_count ws n = rw (c, d) in
        let f : j < operand_count ws n = omega arith in
        let t = operand_end ws n g j f in
        let i : e ≡ suc (operand ws n j) = b.ends ∙ sym t in
        rw (gathers_node k b h) (omega (arith, i), operand_below ws n g j f, omega (arith, i, operand_size ws n g j f))

    gathers_next : (k : ℕ) (q : Quick) → Gathers ws hs room l n y R e (suc k) s → y ≡ node_word ws n 3 → k ≤ y
        → Known ws hs R (e - 1) 1 q → frame_at l + (5 + k) < length R
        → Gathers ws hs room l n y (set R (frame_at l + (5 + k)) q.word) (e - node_word ws (e - 1) 1) k (s + q.steps)
    unfolding Ready begins
    gathers_next k q b c h v i =
        let at = frame_at l + (5 + k) in
        let w = q.word in
        let z : suc y - k ≡ suc (y - k) = omega arith in
        let x : suc y - suc k ≡ y - k = omega arith in
        let o : e - 1 ≡ operand ws n (node_word ws n 3 - k) = rw (← c, ← x) (gathers_node (suc k) b (omega arith)) in
        let u : word ws (set R at w) l (5 + k) ≡ w = get_or-set_same R at w 0 i in
        let g : Eval ws hs room (operand ws n (node_word ws n 3 - k)) w q.steps 1 = eval_locals (λ j m. b.kept.same j (omega arith)) (rw o at v.eval) in
        record {
          kept = kept_set at w (omega arith) b.kept;
          low = omega arith;
          ends = rw (z, b.ends, x);
          few = omega (arith, b.few, v.few);
          ready =
              rw z (
                q.steps,
                s,
                rw u g,
                ready_same R (set R at w) (y - k) (suc k) s
                    (λ j m. get_or-set_other R at (frame_at l + (5 + j)) w 0 (λ p. let t : frame_at l + (5 + j) ≡ at = p in omega arith))
                    (rw x at b.ready),
                omega arith,
              );
        }

    -- with the index as the code has it
    pub gathers_more : (k : ℕ) (q : Quick) → 0 < k → Gathers ws hs room l n y R e k s → y ≡ node_word ws n 3
        → Known ws hs R (e - 1) 1 q → frame_at l + (5 + (k - 1)) < length R
        → Gathers ws hs room l n y (set R (frame_at l + (5 + (k - 1))) q.word) (e - node_word ws (e - 1) 1) (k - 1) (s + q.steps)
    gathers_more zero q h b c v i = absurd (omega arith)
    gathers_more (suc k) q h b c v i =
        let z : suc k - 1 ≡ k = omega arith in
        rw z (gathers_next k q b c (omega (arith, b.low)) v (rw z at i))

    pub gathers_end : (k : ℕ) → k ≡ 0 → Gathers ws hs room l n y R e k s → Ready ws hs room R l n (suc y) 0 s
    gathers_end k h b = let z : suc y - 0 ≡ suc y = omega arith in rw z at (rw h at b.ready)

-- words behind the third of a pushed frame
module _ (room : List ℕ) (l t p : ℕ) where
  push3_but : (a j : ℕ) → (j ≡ frame_at l + 2 → ⊥) → get_or (push3 room l t p a) j 0 ≡ get_or (push room l t p) j 0
  unfolding push3
  push3_but a j d = get_or-set_other (push room l t p) (frame_at l + 2) j a 0 d

  pub push3_above : (a j : ℕ) → frame_at l + 3 ≤ j → get_or (push3 room l t p a) j 0 ≡ get_or room j 0
  unfolding push
  push3_above a j h =
      push3_but a j (λ e. let q : j ≡ frame_at l + 2 = e in omega arith)
      ∙ get_or-set_other (set room (frame_at l) t) (frame_at l + 1) j p 0 (λ e. let q : j ≡ frame_at l + 1 = e in omega arith)
      ∙ get_or-set_other room (frame_at l) j t 0 (λ e. let q : j ≡ frame_at l = e in omega arith)

-- A Call's frame over a room whose words have its operands' values.
module _ (ws : List ℕ) (g : Holds ws) (D : ℕ) (hs room R : List ℕ) (l n : ℕ) (low : l + 3 ≤ D) (long : frame_at (suc l) ≤ length R)
    (e : node_word ws n 0 ≡ 9) (k : Kept room R l) where
  -- c of them are counted
  abbrev counted : ℕ → List ℕ
  counted c = push3 R l 9 n c

  abbrev next : ℕ → Focus
  next c = Node (operand ws n (node_word ws n 3 - c))

  counted_kept : (c : ℕ) → Kept R (counted c) l
  counted_kept c = push3_kept ws R l 9 n c (omega arith)

  counted_locals : (c : ℕ) → Locals room (counted c)
  counted_locals c x h = (counted_kept c).same x (omega arith) ∙ k.same x (omega arith)

  one_more : (c j : ℕ) → Dec (j ≡ frame_at l + 2) → Dec (j ≡ frame_at l + (5 + c)) → frame_at l + (5 + c) < length R
      → get_or (counted (suc c)) j 0
      ≡ get_or (set (set (counted c) (frame_at l + (5 + c)) (word ws R l (5 + c))) (frame_at l + 2) (suc c)) j 0
  one_more c j (yes a) b h =
      rw a
      (push3_third ws R l 9 n (suc c) (omega arith)
      ∙ sym (get_or-set_same (set (counted c) (frame_at l + (5 + c)) (word ws R l (5 + c))) (frame_at l + 2) (suc c) 0
      (rw (length-set, (counted_kept c).size) (omega arith))))
  one_more c j (no a) (yes b) h =
      rw b
      (push3_above R l 9 n (suc c) (frame_at l + (5 + c)) (omega arith)
      ∙ sym (get_or-set_other (set (counted c) (frame_at l + (5 + c)) (word ws R l (5 + c))) (frame_at l + 2) (frame_at l + (5 + c)) (suc c) 0
      (λ z. let q : frame_at l + (5 + c) ≡ frame_at l + 2 = z in omega arith)
      ∙ get_or-set_same (counted c) (frame_at l + (5 + c)) (word ws R l (5 + c)) 0 (rw (counted_kept c).size h)))
  one_more c j (no a) (no b) h =
      push3_but R l 9 n (suc c) j a
      ∙ sym (get_or-set_other (set (counted c) (frame_at l + (5 + c)) (word ws R l (5 + c))) (frame_at l + 2) j (suc c) 0 a
      ∙ get_or-set_other (counted c) (frame_at l + (5 + c)) j (word ws R l (5 + c)) 0 b
      ∙ push3_but R l 9 n c j a)

  more_kept : (c : ℕ) → c ≤ 8
      → Kept (set (set (counted c) (frame_at l + (5 + c)) (word ws R l (5 + c))) (frame_at l + 2) (suc c)) (counted (suc c)) (suc l)
  more_kept c h =
      record {
        size =
            (counted_kept (suc c)).size
            ∙ sym (length-set (set (counted c) (frame_at l + (5 + c)) (word ws R l (5 + c))) (frame_at l + 2) (suc c)
            ∙ length-set (counted c) (frame_at l + (5 + c)) (word ws R l (5 + c)) ∙ (counted_kept c).size);
        same = λ j i. one_more c j (ℕ_discrete j (frame_at l + 2)) (ℕ_discrete j (frame_at l + (5 + c))) (omega arith);
      }

  counted_tag : (c : ℕ) → tag ws (counted c) l ≡ 9
  counted_tag c = push3_tag ws R l 9 n c (omega arith)

  counted_place : (c : ℕ) → word ws (counted c) l 1 ≡ n
  counted_place c = push3_place ws R l 9 n c (omega arith)

  counted_third : (c : ℕ) → word ws (counted c) l 2 ≡ c
  counted_third c = push3_third ws R l 9 n c (omega arith)

  counted_word : (c j : ℕ) → word ws (counted c) l (5 + j) ≡ word ws R l (5 + j)
  counted_word c j = push3_above R l 9 n c (frame_at l + (5 + j)) (omega arith)

  -- an operand has its value,
  value_leads : (c a : ℕ) → Eval ws hs room (operand ws n (node_word ws n 3 - c)) (word ws R l (5 + c)) a 1
      → Inv ws D (counted c) (suc l) (next c) → HeapOk ws hs (get_or (counted c) search_word 0)
      → Leads ws D a hs (counted c) (suc l) (next c) hs (counted c) (suc l) (Word (word ws R l (5 + c)))
  value_leads c a v inv heap = (v.leaps D (counted c) (suc l) (counted_locals c) inv heap (omega arith)).leads

  -- and the next one is gone into
  next_leads : (c a : ℕ) → c < node_word ws n 3 → c ≤ 8 → Eval ws hs room (operand ws n (node_word ws n 3 - c)) (word ws R l (5 + c)) a 1
      → Inv ws D (counted c) (suc l) (next c) → HeapOk ws hs (get_or (counted c) search_word 0)
      → Leads ws D a hs (counted c) (suc l) (next c) hs (counted (suc c)) (suc l) (next (suc c))
  next_leads c a h m v inv heap =
      let b = value_leads c a v inv heap in
      let q = counted_place c in
      let u = counted_third c in
      let z : a + 0 ≡ a = omega arith in
      let s = more_moves ws g D hs (counted c) l (word ws R l (5 + c)) b.inv (counted_tag c) (rw (q, u) h) in
      rw z at (leads_on ws D b (leads_kept ws D (leaps_move ws D b.heap (rw (q, u) at s)).leads (more_kept c m)))

  as_last : (a c y : ℕ) → c ≡ y
      → Leads ws D a hs (counted c) (suc l) (next c) hs (counted c) (suc l) (Word (word ws R l (5 + c)))
      → Leads ws D a hs (counted c) (suc l) (next c) hs (counted y) (suc l) (Word (word ws R l (5 + y)))
  as_last a c y q b = rw (← q) b

  -- all of them have their values
  all_lead : (c k s : ℕ) → k + c ≡ node_word ws n 3 → node_word ws n 3 ≤ 8 → Ready ws hs room R l n (suc c) k s
      → Inv ws D (counted k) (suc l) (next k) → HeapOk ws hs (get_or (counted k) search_word 0)
      → Leads ws D s hs (counted k) (suc l) (next k) hs (counted (node_word ws n 3)) (suc l) (Word (word ws R l (5 + node_word ws n 3)))
  unfolding Ready
  all_lead zero k s q m (a, r, v, d, f) inv heap =
      let z : s ≡ a = omega (arith, f, d) in
      rw z (as_last a k (node_word ws n 3) (omega arith) (value_leads k a v inv heap))
  all_lead (suc c) k s q m (a, r, v, d, f) inv heap =
      let b = next_leads k a (omega arith) (omega arith) v inv heap in
      rw f (leads_on ws D b (all_lead c (suc k) r (omega arith) m d b.inv b.heap))

  -- the room in which the last value is written once more
  abbrev full : List ℕ
  full = set (counted (node_word ws n 3)) (frame_at l + (5 + node_word ws n 3)) (word ws R l (5 + node_word ws n 3))

  full_kept : Kept R full l
  full_kept = kept_set (frame_at l + (5 + node_word ws n 3)) (word ws R l (5 + node_word ws n 3)) (omega arith) (counted_kept (node_word ws n 3))

  full_word : node_word ws n 3 ≤ 8 → (j : ℕ) → word ws full l (5 + j) ≡ word ws R l (5 + j)
  full_word m j = go (ℕ_discrete j (node_word ws n 3))
    where
      y : ℕ
      y = node_word ws n 3

      go : Dec (j ≡ y) → word ws full l (5 + j) ≡ word ws R l (5 + j)
      go (yes z) =
          rw z (get_or-set_same (counted y) (frame_at l + (5 + y)) (word ws R l (5 + y)) 0 (rw (counted_kept y).size (omega arith)))
      go (no d) =
          get_or-set_other (counted y) (frame_at l + (5 + y)) (frame_at l + (5 + j)) (word ws R l (5 + y)) 0
          (λ z. d (let q : frame_at l + (5 + j) ≡ frame_at l + (5 + y) = z in omega arith))
          ∙ counted_word y j

-- blocks that are pushed over a room are pushed over any that has its words below, and the operands'
module _ {ws R S : List ℕ} {l p m : ℕ} {types : ℕ → ℕ} {e : Expr} (k : Kept R S l)
    (same : (c : ℕ) → c < most_operands → word ws S l (5 + c) ≡ word ws R l (5 + c)) (few : m ≤ most_operands) where
  pub pushing_over : {room : List ℕ} {c : ℕ} → Pushing ws R l p m types e room c → Pushing ws S l p m types e room c
  pushing_over s =
      let a : ℕ → Value = λ j. value_at (word ws R l (5 + j)) in
      let b : ℕ → Value = λ j. value_at (word ws S l (5 + j)) in
      let v : tabulate m b ≡ tabulate m a = tabulate_same m b a (λ j h. rw (same j (omega arith))) in
      record {
        low = s.low;
        size = s.size ∙ sym k.size;
        fit = s.fit;
        search = s.search ∙ sym (k.same search_word (omega arith));
        values = λ j i h. s.values j i h ∙ sym (same j h);
        same = rw (v, kept_frames ws k, kept_store k) s.same;
        around = rw (kept_frames ws k, kept_store k) s.around;
      }

-- The whole: all operands have their values, method j is entered, and its blocks are pushed.
module _ (ws : List ℕ) (g : Holds ws) (D : ℕ) (hs room R : List ℕ) (l n : ℕ) (inv : Inv ws D room l (Node n))
    (heap : HeapOk ws hs (get_or room search_word 0)) (low : l + 3 ≤ D) (e : node_word ws n 0 ≡ 9) (k : Kept room R l) where
  pub call_leaps : (s a j : ℕ) (new : List ℕ) → Ready ws hs room R l n (suc (node_word ws n 3)) 0 s
      → EntersAt ws hs (node_word ws n 2) (node_word ws n 3) (value_at (word ws R l 5)) a j
      → Pushed ws R l n j (node_word ws n 3) new (suc (node_word ws n 3)) → l + node_word ws n 3 ≤ D → method_word ws j 5 < node_count ws
      → Leaps ws D (s + 1) hs room l (Node n) hs new (l + node_word ws n 3 + 1) (Node (method_word ws j 5))
  call_leaps s a j new r t b d m =
      let y = node_word ws n 3 in
      let few = call_count ws n (g n inv.here) e in
      let long : frame_at (suc l) ≤ length R = rw k.size (omega (arith, inv.long)) in
      let z : y - 0 ≡ y = omega arith in
      let o : 0 + (s + 1) ≡ s + 1 = omega arith in
      let i = kept_inv ws D k (Node n) inv in
      let h = kept_heap ws D k (Node n) heap in
      let x : Leaps ws D 0 hs R l (Node n) hs (push3 R l 9 n 0) (suc l) (Node (operand ws n (y - 0))) =
      rw z (leaps_move ws D h (enter_call ws g D R l n i (omega arith) e)) in
      let q = counted_place ws g D hs room R l n low long e k y in
      let u = counted_third ws g D hs room R l n low long e k y in
      let f = full_word ws g D hs room R l n low long e k few in
      let v = all_lead ws g D hs room R l n low long e k y 0 s (omega arith) few r x.leads.inv x.leads.heap in
      let c =
      call_goes ws g D hs (push3 R l 9 n y) l (word ws R l (5 + y)) v.inv (counted_tag ws g D hs room R l n low long e k y) (rw (q, u)) a j
      (rw (q, u, f 0) t) new
      (rw (q, u) (λ (z : Expr). pushing_over (full_kept ws g D hs room R l n low long e k) (λ c h. f c) (omega arith) (b z)))
      (rw u d) m v.heap in
      rw o at (leaps_before k (leaps_on ws D x (leads_on ws D v (leaps_step ws D (rw u at c)).leads)))

  -- as the code says it: y arguments, and s steps to the operands
  module _ (y s : ℕ) (c : y ≡ node_word ws n 3) (r : Ready ws hs room R l n (suc y) 0 s) where
    pub operand_word_lem : (j : ℕ) → j ≤ y → IsValue (word ws R l (5 + j))
    operand_word_lem j h = ready_values ws hs room l n R (suc y) 0 s r j (omega arith) (omega arith)

    module _ (a j : ℕ) (t : EntersAt ws hs (node_word ws n 2) (node_word ws n 3) (value_at (word ws R l 5)) a j) (d : l + y ≤ D) where
      pub callable : Callable ws R l j y
      callable =
          record {
            method = t.within;
            arguments = t.arguments ∙ sym c;
            fit = kept_fit ws k inv.fit;
            long = rw k.size (omega (arith, inv.long));
            values = operand_word_lem;
          }

      pub call_lands : (new : List ℕ) → s < most_steps → Pushed ws R l n j y new (suc y) → method_word ws j 5 < node_count ws
          → Lands ws D l hs room l (Node n) hs new (at_node (method_word ws j 5) (l + y + 1) (s + 1))
      call_lands new m b i =
          rw c (lands_node (call_leaps s a j new (rw c at r) t (rw c at b) (rw c at d) i) (omega arith))
