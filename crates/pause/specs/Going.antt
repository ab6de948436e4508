-- TO AND FROM THE MACHINE: what 21 lets through is a room that the machine may go on with, and a room of the machine at rest is
-- laid out by clearing the words that are not used.
use Rattle.std.specs.Prelude.{◌≡◌, true, cond, ◌&&◌, ℕ, zero, suc, ◌+◌, ◌*◌, ◌-◌, ◌≤◌, ◌<◌, eqb, length, get_or}
use Rattle.std.proofs.Math.Path.{refl, sym}
use Rattle.std.proofs.Common.{◌∙◌}
use mathlib.Core.List.{List, []}
use native.Mathlib.Omega.{arith}
use Rattle.std.proofs.Math.Dec.{ltb, leb}
use borrow.Author.Tests.{lt-ltb, ltb-true, leb-true, le-leb}
use Rattle.words.specs.Types.{is_declared}
use Rattle.words.specs.Value.{addresses}
use Rattle.image.specs.Laws.{and_left, and_right}
use Rattle.image.specs.Numbers.{variables}
use Rattle.image.specs.Trailer.{node_count, class_count}
use Rattle.image.specs.Nodes.{node_word, node_holds}
use Rattle.laws.specs.Values.{IsValue}
use Rattle.room.specs.declared.Focus.{Focus}
use Rattle.room.specs.declared.Focus.TheVariants.{Node, Value as Word, Thrown}
use Rattle.room.specs.Room.{most_operands, frame_at, Shape, first, second, operands, block, test, loop, nothing, shape_of, word, tag, kept, Held, FrameOk}
use Rattle.room.specs.Nodes.{call_count}
use Rattle.room.specs.Turn.{FocusOk, whole, outside, Inv}
use Rattle.pause.specs.declared.Record.{Record}
use Rattle.pause.specs.Layout.{level_in, focus_at, focus_in, state_in}
use Rattle.pause.specs.Paused.{every, is_word, held_holds, makes_block, is_node, shape_fits, frame_fits, focus_holds, resting, paused}
use Rattle.pause.specs.PausedLaws.{not_both, every_true, every_all, parts}
use Rattle.pause.specs.WordLaws.{Tag, t1, t4, t5, t6, t7, t8, t9, t10, t11, t12, t13, t14, t15, t20, t21, t24, t29, tag_of_lem}
use Rattle.pause.specs.FrameLaws.{is_node_lem, node_is, holds_parts}
use Rattle.pause.specs.RestLaws.{FocusFits}
use Rattle.pause.specs.LaidLaws.{laid}
use Rattle.pause.specs.Keep.{kept_room, kept_record}
use Rattle.pause.specs.KeepLaws.{Keeps, keeps}

-- a Call's frames alone have operands
call_tag : (t : ℕ) → shape_of t ≡ operands → t ≡ 9
unfolding shape_of
call_tag t e = go t (tag_of_lem t (λ i. not_shape (sym e ∙ i))) e
  where
    not_shape : operands ≡ nothing → ⊥
    not_shape i = let z : ◌≡◌ {A = ℕ} 0 1 = cc in omega arith

    go : (t : ℕ) → Tag t → shape_of t ≡ operands → t ≡ 9
    go t t1 e = absurd (let z : ◌≡◌ {A = ℕ} 0 1 = cc in omega arith)
    go t t4 e = absurd (let z : ◌≡◌ {A = ℕ} 0 1 = cc in omega arith)
    go t t5 e = absurd (let z : ◌≡◌ {A = ℕ} 0 1 = cc in omega arith)
    go t t6 e = absurd (let z : ◌≡◌ {A = ℕ} 0 1 = cc in omega arith)
    go t t7 e = absurd (let z : ◌≡◌ {A = ℕ} 0 1 = cc in omega arith)
    go t t8 e = absurd (let z : ◌≡◌ {A = ℕ} 0 1 = cc in omega arith)
    go t t9 e = refl
    go t t10 e = absurd (let z : ◌≡◌ {A = ℕ} 0 1 = cc in omega arith)
    go t t11 e = absurd (let z : ◌≡◌ {A = ℕ} 0 1 = cc in omega arith)
    go t t12 e = absurd (let z : ◌≡◌ {A = ℕ} 0 1 = cc in omega arith)
    go t t13 e = absurd (let z : ◌≡◌ {A = ℕ} 0 1 = cc in omega arith)
    go t t14 e = absurd (let z : ◌≡◌ {A = ℕ} 0 1 = cc in omega arith)
    go t t15 e = absurd (let z : ◌≡◌ {A = ℕ} 0 1 = cc in omega arith)
    go t t20 e = absurd (let z : ◌≡◌ {A = ℕ} 0 1 = cc in omega arith)
    go t t21 e = absurd (let z : ◌≡◌ {A = ℕ} 0 1 = cc in omega arith)
    go t t24 e = absurd (let z : ◌≡◌ {A = ℕ} 0 1 = cc in omega arith)
    go t t29 e = absurd (let z : ◌≡◌ {A = ℕ} 0 1 = cc in omega arith)

held_fits : (ws : List ℕ) (u : ℕ) → held_holds u ≡ true → Held ws u
unfolding held_holds
held_fits ws zero h = tt
held_fits ws (suc u) h = h

fits_held : (ws : List ℕ) (u : ℕ) → Held ws u → held_holds u ≡ true
unfolding held_holds
fits_held ws zero h = refl
fits_held ws (suc u) h = h

-- the words of a frame that fit are in order for the machine
module _ (ws : List ℕ) (good : (n : ℕ) → n < node_count ws → node_holds ws n ≡ true) (w : ℕ → ℕ) where
  operands_at : ℕ → ℕ
  operands_at k = cond (ltb k most_operands) (w (5 + k)) 0

  fits_ok : (s : Shape) → shape_fits ws s w ≡ true → (t : ℕ) → w 0 ≡ t → (s ≡ operands → t ≡ 9) → FrameOk ws s t (w 1) (w 2) (w 4) operands_at
  unfolding shape_fits operands_at
  fits_ok first h t e c = rw e at (is_node_lem ws (w 1) (w 0) h)
  fits_ok second h t e c =
      let a = is_node ws (w 1) (w 0 - 16) in
      let b = is_word (w 2) in
      (rw e at (is_node_lem ws (w 1) (w 0 - 16) (and_left a b h)), and_right a b h)
  fits_ok operands h t e c =
      let a = is_node ws (w 1) 9 in
      let b = leb (w 2) (node_word ws (w 1) 3) in
      let d = every (λ k. is_word (w (5 + k))) (w 2) in
      let g = and_left (a && b) d h in
      let n = is_node_lem ws (w 1) 9 (and_left a b g) in
      let m = leb-true (w 2) (node_word ws (w 1) 3) (and_right a b g) in
      let v = every_true (λ k. is_word (w (5 + k))) (w 2) (and_right (a && b) d h) in
      let o : (k : ℕ) → k < w 2 → IsValue (cond (ltb k most_operands) (w (5 + k)) 0) =
      λ k l. rw (lt-ltb k most_operands (omega (arith, m, call_count ws (w 1) (good (w 1) n.0) n.1))) (v k l) in
      rw (c refl) (n, m, o)
  fits_ok block h t e c =
      let a = ltb (w 1) (node_count ws) && makes_block (node_word ws (w 1) 0) in
      let b = ltb (w 2) variables in
      let x = is_declared (w 3) (class_count ws) in
      let d = held_holds (w 4) in
      let g = and_left (a && b) x (and_left (a && b && x) d h) in
      (ltb-true _ _ (and_right a b g), held_fits ws (w 4) (and_right (a && b && x) d h))
  fits_ok test h t e c = is_node_lem ws (w 1) 13 h
  fits_ok loop h t e c = is_node_lem ws (w 1) 13 h
  fits_ok nothing h t e c = not_both (sym h)

  -- and the other way, with what the machine does not ask of a block's frame
  ok_fits : (s : Shape) (t : ℕ) → w 0 ≡ t → (s ≡ operands → t ≡ 9) → FrameOk ws s t (w 1) (w 2) (w 4) operands_at
      → (s ≡ block → (w 1 < node_count ws) × (makes_block (node_word ws (w 1) 0) ≡ true) × (is_declared (w 3) (class_count ws) ≡ true)) → shape_fits ws s w ≡ true
  unfolding shape_fits operands_at
  ok_fits first t e c h b = rw e (node_is ws (w 1) t h)
  ok_fits second t e c h b = rw (e, node_is ws (w 1) (t - 16) h.0, h.1)
  ok_fits operands t e c h b =
      let n = rw (c refl) at h.0 in
      let v = every_all (λ k. is_word (w (5 + k))) (w 2) (λ k l. rw (lt-ltb k most_operands (omega (arith, h.1, call_count ws (w 1) (good (w 1) n.0) n.1))) at (h.2 k l)) in
      rw (node_is ws (w 1) 9 n, le-leb (w 2) (node_word ws (w 1) 3) h.1, v)
  ok_fits block t e c h b =
      rw (lt-ltb (w 1) (node_count ws) (b refl).0, (b refl).1, lt-ltb (w 2) variables h.0, (b refl).2, fits_held ws (w 4) h.1)
  ok_fits test t e c h b = node_is ws (w 1) 13 h
  ok_fits loop t e c h b = node_is ws (w 1) 13 h
  ok_fits nothing t e c h b = absurd h

-- words 65 to 67
focus_fits : (ws : List ℕ) (how a b : ℕ) → focus_holds ws how a b ≡ true → FocusFits ws (focus_in how a b)
unfolding focus_holds focus_in
focus_fits ws zero a b h = not_both (sym h)
focus_fits ws (suc zero) a b h = ltb-true a (node_count ws) (and_left (ltb a (node_count ws)) (eqb b 0) h)
focus_fits ws (suc (suc zero)) a b h = and_left (is_word a) (eqb b 0) h
focus_fits ws (suc (suc (suc zero))) a b h = (
  ltb-true a addresses (and_left (ltb a addresses) (ltb b (node_count ws)) h),
  ltb-true b (node_count ws) (and_right (ltb a addresses) (ltb b (node_count ws)) h),
)
focus_fits ws (suc (suc (suc (suc how)))) a b h = not_both (sym h)

fits_focus : (ws : List ℕ) (g : Focus) → FocusFits ws g → FocusOk ws g
fits_focus ws (Node n) h = h
fits_focus ws (Word w) h = h
fits_focus ws (Thrown a p) h = h.0

-- what a block's frame must have besides
abbrev pub BlockOk : (ws room : List ℕ) (i : ℕ) → Type 0
BlockOk ws room i =
    shape_of (tag ws room i) ≡ block
    → (word ws room i 1 < node_count ws) × (makes_block (node_word ws (word ws room i 1) 0) ≡ true) × (is_declared (word ws room i 3) (class_count ws) ≡ true)

module _ (ws : List ℕ) (good : (n : ℕ) → n < node_count ws → node_holds ws n ≡ true) (room : List ℕ) where
  frame_fits_ok : (i : ℕ) → frame_fits ws (word ws room i) ≡ true
      → FrameOk ws (shape_of (tag ws room i)) (tag ws room i) (word ws room i 1) (word ws room i 2) (word ws room i 4) (kept ws room i)
  unfolding frame_fits kept operands_at
  frame_fits_ok i h =
      let z : frame_at i + 0 ≡ frame_at i = omega arith in
      let w = word ws room i in
      rw z at (fits_ok ws good w (shape_of (w 0)) h (w 0) refl (call_tag (w 0)))

  frame_ok_fits : (i : ℕ)
      → FrameOk ws (shape_of (tag ws room i)) (tag ws room i) (word ws room i 1) (word ws room i 2) (word ws room i 4) (kept ws room i)
      → BlockOk ws room i → frame_fits ws (word ws room i) ≡ true
  unfolding frame_fits kept operands_at
  frame_ok_fits i h b =
      let z : frame_at i + 0 ≡ frame_at i = omega arith in
      let w = word ws room i in
      ok_fits ws good w (shape_of (w 0)) (w 0) refl (call_tag (w 0)) (rw z h) (rw z b)

  -- GOING ON: what passes is in order for the machine, if it is not too deep.
  pub goes_on : (D : ℕ) (r : Record) → paused ws room r ≡ true → level_in room r ≤ suc D → 16 * D + 160 ≤ length room
      → Inv ws D room (level_in room r) (focus_at room r)
  goes_on D r h low long =
      let p = parts ws room r h in
      record {
        fit =
            record {
              long = p.long;
              frame_ok = λ i l. frame_fits_ok i (holds_parts ws (word ws room i) (p.frames_hold i l)).0;
              held_ok = λ x l. held_fits ws (get_or room x 0) (p.variables_hold x l);
            };
        level = low;
        long = long;
        here = fits_focus ws (focus_at room r) (focus_fits ws (get_or room 65 0) (get_or room 66 0) (get_or room 67 0) p.focus_holds_lem);
      }

  -- PAUSING: the machine's room at rest is laid out by clearing what is not used.
  pub pauses : (D steps l : ℕ) (g : Focus) → Inv ws D room l g → ((i : ℕ) → i < l → BlockOk ws room i) → FocusFits ws g → resting ws room l g ≡ true
      → Keeps ws (length room) steps (kept_room ws room l g) (kept_record ws room l g steps) (whole ws room l g) (outside ws room l)
  pauses D steps l g inv blocks h r =
      keeps ws good room l g steps inv.fit.long (λ i m. frame_ok_fits i (inv.fit.frame_ok i m) (blocks i m))
      (λ x m. fits_held ws (get_or room x 0) (inv.fit.held_ok x m)) h r

  -- PAUSING AGAIN, no step taken, leaves room and record as they were.
  pub kept_again : (r : Record) → paused ws room r ≡ true
      → (kept_room ws room (level_in room r) (focus_at room r) ≡ room) × (kept_record ws room (level_in room r) (focus_at room r) r.steps ≡ r)
  unfolding state_in
  kept_again r h =
      let p = parts ws room r h in
      let a = laid ws good [] room r h in
      let k =
      keeps ws good room (level_in room r) (focus_at room r) r.steps p.long
      (λ i l. (holds_parts ws (word ws room i) (p.frames_hold i l)).0) p.variables_hold
      (focus_fits ws (get_or room 65 0) (get_or room 66 0) (get_or room 67 0) p.focus_holds_lem) p.rests in
      (k.words ∙ sym a.words, k.told ∙ sym a.told)
