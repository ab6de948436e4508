-- Laws of leaps from a node. A leap goes through rooms that are never written: the room at its end agrees with the real one below
-- the level, and no more is asked.
use Rattle.std.specs.Prelude.{◌≡◌, true, List, ◌⊎◌, ℕ, zero, suc, ◌+◌, ◌*◌, ◌-◌, ◌^◌, ◌≤◌, ◌<◌, length, get_or, set}
use Rattle.std.proofs.Math.Path.{refl}
use Rattle.std.proofs.Common.{sym, ◌∙◌, inl, inr, arith, get_or-set_same, get_or-set_other}
use Rattle.std.proofs.Math.Bool.{false}
use Rattle.std.proofs.Math.Decide.{ℕ_discrete}
use Rattle.std.proofs.Math.ListN.{length-set}
use Rattle.image.specs.Nodes.{node_word, kind_of, operands, node_holds}
use Rattle.rules.specs.Trees.{operand}
use Rattle.laws.specs.Trees.{operand_count, operand_below}
use Rattle.std.specs.declared.option.Option.TheVariants.{Some}
use Rattle.redexes.specs.Outcomes.{Chooses}
use Rattle.redexes.specs.RedexLaws.{if_then, if_otherwise}
use Rattle.room.specs.declared.Focus.TheVariants.{Node, Value}
use Rattle.room.specs.Room.{search_word, frame_at, shape_of, first, word, tag}
use Rattle.room.specs.RoomLaws.{Kept, push, push_kept, push_tag, push_place, push_block}
use Rattle.room.specs.Turn.{HeapOk, Inv}
use Rattle.room.specs.Enter.{enter_first}
use Rattle.room.specs.Nodes.{while_steps, enter_block, assign_local}
use Rattle.room.specs.Back.{assign_steps, then_steps, else_steps, over_steps, again_steps}
use Rattle.room.specs.Armed.{armed_seq}
use Rattle.room.specs.Leads.{Leaps}
use Rattle.room.specs.LeadsLaws.{leaps_move, leaps_step, leaps_on, leaps_kept}
use Rattle.quick.specs.declared.Quick.{Quick}
use Rattle.quick.specs.Known.{Eval, Known}
use Rattle.quick.specs.KnownLaws.{kept_back}
use Rattle.landings.specs.Lands.{Lands, at_node, at_value}
use Rattle.landings.specs.LandsLaws.{lands_node, lands_value}
use Rattle.landings.specs.SetLaws.{set_armed}
use Rattle.enter_leaps.specs.Enters.{Holds, First, One, Two, Whole, Quickly}

-- the kinds that go on by a value
pub quickly : (k : ℕ) → k < 16 → (k ≡ 0 → ⊥) → (k ≡ 2 → ⊥) → (k ≡ 3 → ⊥) → (k ≡ 9 → ⊥) → (k ≡ 10 → ⊥) → ((k ≡ 1) ⊎ (k ≡ 14) → ⊥)
    → ((k ≡ 8) ⊎ ((k ≡ 11) ⊎ (k ≡ 15)) → ⊥) → Quickly k
quickly zero h a b c d e f g = absurd (a refl)
quickly (suc zero) h a b c d e f g = absurd (f (inl refl))
quickly (suc (suc zero)) h a b c d e f g = absurd (b refl)
quickly (suc (suc (suc zero))) h a b c d e f g = absurd (c refl)
quickly (suc (suc (suc (suc zero)))) h a b c d e f g = inr (inr (inr (inr (inl refl))))
quickly (suc (suc (suc (suc (suc zero))))) h a b c d e f g = inr (inr (inr (inr (inr refl))))
quickly (suc (suc (suc (suc (suc (suc zero)))))) h a b c d e f g = inl refl
quickly (suc (suc (suc (suc (suc (suc (suc zero))))))) h a b c d e f g = inr (inr (inr (inl refl)))
quickly (suc (suc (suc (suc (suc (suc (suc (suc zero)))))))) h a b c d e f g = absurd (g (inl refl))
quickly (suc (suc (suc (suc (suc (suc (suc (suc (suc zero))))))))) h a b c d e f g = absurd (d refl)
quickly (suc (suc (suc (suc (suc (suc (suc (suc (suc (suc zero)))))))))) h a b c d e f g = absurd (e refl)
quickly (suc (suc (suc (suc (suc (suc (suc (suc (suc (suc (suc zero))))))))))) h a b c d e f g = absurd (g (inr (inl refl)))
quickly (suc (suc (suc (suc (suc (suc (suc (suc (suc (suc (suc (suc zero)))))))))))) h a b c d e f g = inr (inl refl)
quickly (suc (suc (suc (suc (suc (suc (suc (suc (suc (suc (suc (suc (suc zero))))))))))))) h a b c d e f g = inr (inr (inl refl))
quickly (suc (suc (suc (suc (suc (suc (suc (suc (suc (suc (suc (suc (suc (suc zero)))))))))))))) h a b c d e f g = absurd (f (inr refl))
quickly (suc (suc (suc (suc (suc (suc (suc (suc (suc (suc (suc (suc (suc (suc (suc zero))))))))))))))) h a b c d e f g = absurd (g (inr (inr refl)))
quickly (suc (suc (suc (suc (suc (suc (suc (suc (suc (suc (suc (suc (suc (suc (suc (suc k)))))))))))))))) h a b c d e f g = absurd (omega arith)

pub quickly_whole : (k : ℕ) → Quickly k → (k ≡ 6 → ⊥) → (k ≡ 12 → ⊥) → (k ≡ 13 → ⊥) → Whole k
quickly_whole k (inl e) a b c = absurd (a e)
quickly_whole k (inr (inl e)) a b c = absurd (b e)
quickly_whole k (inr (inr (inl e))) a b c = absurd (c e)
quickly_whole k (inr (inr (inr w))) a b c = w

pub two_whole : (k : ℕ) → Whole k → (k ≡ 7 → ⊥) → Two k
two_whole k (inl e) d = absurd (d e)
two_whole k (inr (inl e)) d = inl e
two_whole k (inr (inr e)) d = inr (inl e)

-- the kinds with one operand, and those with two
module _ (ws : List ℕ) (n : ℕ) where
  pub count_two : {k : ℕ} → node_word ws n 0 ≡ k → Two k → 2 ≡ operand_count ws n
  unfolding operands kind_of
  count_two e (inl f) = rw (e, f)
  count_two e (inr (inl f)) = rw (e, f)
  count_two e (inr (inr (inl f))) = rw (e, f)
  count_two e (inr (inr (inr (inl f)))) = rw (e, f)
  count_two e (inr (inr (inr (inr f)))) = rw (e, f)

  pub first_two : {k : ℕ} → node_word ws n 0 ≡ k → Two k → First ws k n (operand ws n 1)
  unfolding shape_of
  first_two e t = record { kind_is = e; shape = shape_two t; behind = 1; count = count_two e t; is = refl }
    where
      shape_two : {k : ℕ} → Two k → shape_of k ≡ first
      shape_two (inl f) = rw f
      shape_two (inr (inl f)) = rw f
      shape_two (inr (inr (inl f))) = rw f
      shape_two (inr (inr (inr (inl f)))) = rw f
      shape_two (inr (inr (inr (inr f)))) = rw f

  pub first_one : {k : ℕ} → node_word ws n 0 ≡ k → One k → First ws k n (n - 1)
  unfolding shape_of operands kind_of operand
  first_one e (inl f) = record { kind_is = e; shape = rw f; behind = 0; count = rw (e, f); is = refl }
  first_one e (inr (inl f)) = record { kind_is = e; shape = rw f; behind = 0; count = rw (e, f); is = refl }
  first_one e (inr (inr (inl f))) = record { kind_is = e; shape = rw f; behind = 0; count = rw (e, f); is = refl }
  first_one e (inr (inr (inr f))) = record { kind_is = e; shape = rw f; behind = 0; count = rw (e, f); is = refl }

  pub if_operand : node_word ws n 0 ≡ 12 → 2 < operand_count ws n
  unfolding operands kind_of
  if_operand e = rw e (omega arith)

  pub first_if : node_word ws n 0 ≡ 12 → First ws 12 n (operand ws n 2)
  unfolding shape_of operands kind_of
  first_if e = record { kind_is = e; shape = refl; behind = 2; count = rw e; is = refl }

  -- a node that has an operand is not the table's first
  pub after_first : {k m : ℕ} → node_holds ws n ≡ true → First ws k n m → 1 ≤ n
  after_first h f = omega (arith, operand_below ws n h 0 (omega (arith, f.count)))

-- rooms that agree below a level
pub kept_both : {old new : List ℕ} {l : ℕ} (x w : ℕ) → x < length old → Kept old new l → Kept (set old x w) (set new x w) l
kept_both {old} {new} {l} x w h k =
    record { size = length-set new x w ∙ k.size ∙ sym (length-set old x w); same = λ j i. go j i (ℕ_discrete j x) }
  where
    go : (j : ℕ) → j < frame_at l → Dec (j ≡ x) → get_or (set new x w) j 0 ≡ get_or (set old x w) j 0
    go j i (yes e) = rw (e, get_or-set_same new x w 0 (rw k.size h), get_or-set_same old x w 0 h)
    go j i (no d) = rw (get_or-set_other new x j w 0 d, get_or-set_other old x j w 0 d) (k.same j i)

-- a frame whose tag is written over is one that was pushed with that tag
module _ (room : List ℕ) (l s t p : ℕ) (h : frame_at (suc l) ≤ length room) where
  abbrev over : List ℕ
  over = set (set (set room (frame_at l) s) (frame_at l + 1) p) (frame_at l) t

  abbrev pushed : List ℕ
  pushed = set (set room (frame_at l) t) (frame_at l + 1) p

  over_same : (j : ℕ) → Dec (j ≡ frame_at l) → Dec (j ≡ frame_at l + 1) → get_or pushed j 0 ≡ get_or over j 0
  over_same j (yes e) f =
      rw e
      (get_or-set_other (set room (frame_at l) t) (frame_at l + 1) (frame_at l) p 0 (λ z. let q : frame_at l ≡ frame_at l + 1 = z in omega arith)
      ∙ get_or-set_same room (frame_at l) t 0 (omega arith)
      ∙ sym (get_or-set_same (set (set room (frame_at l) s) (frame_at l + 1) p) (frame_at l) t 0 (rw (length-set, length-set) (omega arith))))
  over_same j (no d) (yes e) =
      rw e
      (get_or-set_same (set room (frame_at l) t) (frame_at l + 1) p 0 (rw length-set (omega arith))
      ∙ sym (get_or-set_other (set (set room (frame_at l) s) (frame_at l + 1) p) (frame_at l) (frame_at l + 1) t 0
      (λ z. let q : frame_at l + 1 ≡ frame_at l = z in omega arith)
      ∙ get_or-set_same (set room (frame_at l) s) (frame_at l + 1) p 0 (rw length-set (omega arith))))
  over_same j (no d) (no f) =
      get_or-set_other (set room (frame_at l) t) (frame_at l + 1) j p 0 f
      ∙ get_or-set_other room (frame_at l) j t 0 d
      ∙ sym (get_or-set_other (set (set room (frame_at l) s) (frame_at l + 1) p) (frame_at l) j t 0 d
      ∙ get_or-set_other (set room (frame_at l) s) (frame_at l + 1) j p 0 f
      ∙ get_or-set_other room (frame_at l) j s 0 d)

  pub kept_tag : Kept (set (push room l s p) (frame_at l) t) (push room l t p) (suc l)
  unfolding push
  kept_tag =
      record {
        size = rw (length-set, length-set, length-set, length-set, length-set);
        same = λ j i. over_same j (ℕ_discrete j (frame_at l)) (ℕ_discrete j (frame_at l + 1));
      }

module _ {ws : List ℕ} (g : Holds ws) {D : ℕ} {hs room : List ℕ} {l n : ℕ} (inv : Inv ws D room l (Node n))
    (heap : HeapOk ws hs (get_or room search_word 0)) (low : l + 3 ≤ D) where
  long : frame_at l + 1 < length room
  long = omega (arith, inv.long)

  pub first_leaps : {kind m : ℕ} → First ws kind n m → Leaps ws D 0 hs room l (Node n) hs (push room l kind n) (suc l) (Node m)
  first_leaps f =
      rw (f.is, ← f.kind_is)
      (leaps_move ws D heap (enter_first ws g D room l n inv (omega arith) f.behind (rw f.kind_is f.shape) f.count))

  -- the first operand has its value there
  pub first_value : {kind m : ℕ} → First ws kind n m → {w k : ℕ} → Eval ws hs room m w k 2
      → Leaps ws D k hs room l (Node n) hs (push room l kind n) (suc l) (Value w)
  first_value {kind} {m} f {w} {k} v =
      let a = first_leaps f in
      let z : 0 + k ≡ k = omega arith in
      rw z at
      (leaps_on ws D a
      (v.leaps D (push room l kind n) (suc l) (λ x h. (push_kept ws room l kind n).same x (omega arith)) a.leads.inv a.leads.heap
      (omega arith)).leads)

  -- an assignment to a variable that is set
  pub assign_leaps : node_word ws n 0 ≡ 6 → {w k : ℕ} → Eval ws hs room (operand ws n 0) w k 2 → (get_or room (node_word ws n 2) 0 ≡ 0 → ⊥)
      → Leaps ws D (k + 1) hs room l (Node n) hs (set room (node_word ws n 2) (suc w)) l (Value w)
  unfolding operand
  assign_leaps e {w} {k} v d =
      let x = node_word ws n 2 in
      let new = push room l 6 n in
      let kk = push_kept ws room l 6 n in
      let local = assign_local ws n (g n inv.here) e in
      let t : tag ws new l ≡ 6 = push_tag ws room l 6 n long in
      let q : word ws new l 1 ≡ n = push_place ws room l 6 n long in
      let a = first_value (first_one ws n e (inl refl)) v in
      let u : armed_seq ws new l x ≡ false = set_armed ws new l x (rw (kk.same x (omega arith)) d) in
      let s = assign_steps ws g D hs new l w a.leads.inv a.leads.heap t (rw q u) in
      leaps_kept ws D (leaps_on ws D a (leaps_step ws D (rw q at s)).leads) (kept_both x (suc w) (omega (arith, kk.size)) (kept_back kk))

  -- an If whose condition is a boolean
  module _ (e : node_word ws n 0 ≡ 12) {w k : ℕ} (v : Eval ws hs room (operand ws n 2) w k 2) where
    pub then_leaps : Chooses w (Some true) → Leaps ws D (k + 1) hs room l (Node n) hs room l (Node (operand ws n 1))
    then_leaps c =
        let t : tag ws (push room l 12 n) l ≡ 12 = push_tag ws room l 12 n long in
        let q : word ws (push room l 12 n) l 1 ≡ n = push_place ws room l 12 n long in
        let a = first_value (first_if ws n e) v in
        let s = then_steps ws g D hs (push room l 12 n) l w a.leads.inv a.leads.heap t (c _ _ _ _ _) in
        leaps_kept ws D (leaps_on ws D a (leaps_step ws D (rw q at s)).leads) (kept_back (push_kept ws room l 12 n))

    pub else_leaps : Chooses w (Some false) → Leaps ws D (k + 1) hs room l (Node n) hs room l (Node (operand ws n 0))
    else_leaps c =
        let t : tag ws (push room l 12 n) l ≡ 12 = push_tag ws room l 12 n long in
        let q : word ws (push room l 12 n) l 1 ≡ n = push_place ws room l 12 n long in
        let a = first_value (first_if ws n e) v in
        let s = else_steps ws g D hs (push room l 12 n) l w a.leads.inv a.leads.heap t (c _ _ _ _ _) in
        leaps_kept ws D (leaps_on ws D a (leaps_step ws D (rw q at s)).leads) (kept_back (push_kept ws room l 12 n))

  -- a While: its If, whose condition is gone into, or is a boolean
  module _ (e : node_word ws n 0 ≡ 13) where
    pub while_leaps : Leaps ws D 1 hs room l (Node n) hs (push room l 13 n) (suc l) (Node (operand ws n 1))
    while_leaps = leaps_step ws D (while_steps ws g D hs room l n inv (omega arith) e heap)

    module _ {w k : ℕ} (v : Eval ws hs room (operand ws n 1) w k 2) where
      tested : Leaps ws D (1 + k) hs room l (Node n) hs (push room l 13 n) (suc l) (Value w)
      tested =
          let a = while_leaps in
          leaps_on ws D a
          (v.leaps D (push room l 13 n) (suc l) (λ x h. (push_kept ws room l 13 n).same x (omega arith)) a.leads.inv a.leads.heap
          (omega arith)).leads

      pub again_leaps : Chooses w (Some true) → Leaps ws D (k + 2) hs room l (Node n) hs (push room l 29 n) (suc l) (Node (operand ws n 0))
      again_leaps c =
          let t : tag ws (push room l 13 n) l ≡ 13 = push_tag ws room l 13 n long in
          let q : word ws (push room l 13 n) l 1 ≡ n = push_place ws room l 13 n long in
          let a = tested in
          let z : 1 + k + 1 ≡ k + 2 = omega arith in
          let s = again_steps ws g D hs (push room l 13 n) l w a.leads.inv a.leads.heap t (c _ _ _ _ _) in
          rw z at
          (leaps_kept ws D (leaps_on ws D a (leaps_step ws D (rw q at s)).leads) (kept_tag room l 13 29 n (omega (arith, inv.long))))

      pub over_leaps : Chooses w (Some false) → Leaps ws D (k + 2) hs room l (Node n) hs room l (Value 0)
      over_leaps c =
          let t : tag ws (push room l 13 n) l ≡ 13 = push_tag ws room l 13 n long in
          let a = tested in
          let z : 1 + k + 1 ≡ k + 2 = omega arith in
          let s = over_steps ws g D hs (push room l 13 n) l w a.leads.inv a.leads.heap t (c _ _ _ _ _) in
          rw z at (leaps_kept ws D (leaps_on ws D a (leaps_step ws D s).leads) (kept_back (push_kept ws room l 13 n)))

  -- a Block
  pub block_leaps : node_word ws n 0 ≡ 10
      → Leaps ws D 0 hs room l (Node n) hs (push_block room l n (node_word ws n 2) (node_word ws n 3) 0) (suc l) (Node (operand ws n 0))
  block_leaps e = leaps_move ws D heap (enter_block ws g D hs room l n inv (omega arith) e)

  -- The same, as answers of quick operands give it.
  module _ {q : Quick} where
    pub whole_lands : Known ws hs room n 2 q → Lands ws D l hs room l (Node n) hs room (at_value q.word l q.steps)
    whole_lands k =
        lands_value (k.eval.leaps D room l (λ x y. refl) inv heap (omega arith)) (omega (arith, k.few)) (omega arith)

    pub assign_lands : node_word ws n 0 ≡ 6 → Known ws hs room (operand ws n 0) 2 q → (get_or room (node_word ws n 2) 0 ≡ 0 → ⊥)
        → Lands ws D l hs room l (Node n) hs (set room (node_word ws n 2) (suc q.word)) (at_value q.word l (q.steps + 1))
    assign_lands e k d = lands_value (assign_leaps e k.eval d) (omega (arith, k.few)) (omega arith)

    pub then_lands : node_word ws n 0 ≡ 12 → Known ws hs room (operand ws n 2) 2 q → q.word ≡ 2 * 2 ^ 32 + 1
        → Lands ws D l hs room l (Node n) hs room (at_node (operand ws n 1) l (q.steps + 1))
    then_lands e k h = lands_node (then_leaps e k.eval (if_then q.word h)) (omega (arith, k.few))

    pub else_lands : node_word ws n 0 ≡ 12 → Known ws hs room (operand ws n 2) 2 q → q.word ≡ 2 * 2 ^ 32
        → Lands ws D l hs room l (Node n) hs room (at_node (n - 1) l (q.steps + 1))
    unfolding operand
    else_lands e k h = lands_node (else_leaps e k.eval (if_otherwise q.word h)) (omega (arith, k.few))

    pub again_lands : node_word ws n 0 ≡ 13 → Known ws hs room (operand ws n 1) 2 q → q.word ≡ 2 * 2 ^ 32 + 1
        → Lands ws D l hs room l (Node n) hs (push room l 29 n) (at_node (n - 1) (suc l) (q.steps + 2))
    unfolding operand
    again_lands e k h = lands_node (again_leaps e k.eval (if_then q.word h)) (omega (arith, k.few))

    pub over_lands : node_word ws n 0 ≡ 13 → Known ws hs room (operand ws n 1) 2 q → q.word ≡ 2 * 2 ^ 32
        → Lands ws D l hs room l (Node n) hs room (at_value 0 l (q.steps + 2))
    over_lands e k h = lands_value (over_leaps e k.eval (if_otherwise q.word h)) (omega (arith, k.few)) (omega arith)
