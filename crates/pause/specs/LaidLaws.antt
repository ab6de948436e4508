-- WHAT 21 LETS THROUGH IS A LAYOUT: the room and the record are those of the expression and the variables that they are read to, and
-- these are over the image. So one expression has one layout.
use Rattle.std.specs.Prelude.{◌≡◌, List, [], ◌∷◌, eqb, ltb, length}
use Rattle.std.proofs.Math.Path.{refl, sym}
use Rattle.std.proofs.Common.{◌∙◌}
use Rattle.std.proofs.Math.Bool.{true, cond}
use Rattle.std.proofs.Math.Option.{none}
use Prim.Native.Nat.{ℕ, zero, suc, ◌+◌, ◌-◌, ◌/◌, ◌%◌, ◌≤◌, ◌<◌}
use native.Mathlib.Omega.{arith}
use Rattle.std.proofs.Math.Decide.{ℕ_discrete, dec_lt}
use Rattle.std.proofs.Math.ListN.{get_or}
use borrow.Author.Tests.{ltb-true, lt-ltb, le-ltb, eqb-true, eq-eqb, ne_eqb}
use Rattle.words.specs.Value.{addresses}
use Rattle.image.specs.Laws.{and_left, and_right}
use Rattle.image.specs.Numbers.{variables}
use Rattle.image.specs.Trailer.{node_count}
use Rattle.image.specs.Nodes.{node_holds}
use Rattle.rules.specs.Trees.{Expr}
use Rattle.rules.specs.Step.{Store}
use Rattle.laws.specs.Maps.{tabulate_same, tabulate_get_d}
use Rattle.laws.specs.Frames.{Frame}
use Rattle.room.specs.declared.Focus.{Focus}
use Rattle.room.specs.declared.Focus.TheVariants.{Node, Value as Word, Thrown}
use Rattle.room.specs.Room.{frame_at, search_word, store_of, word, frame, frames}
use Rattle.room.specs.RoomLaws.{store_at}
use Rattle.room.specs.Nodes.{length_frames}
use Rattle.room.specs.Turn.{focus_of}
use Rattle.pause.specs.Route.{stands, Found, route}
use Rattle.pause.specs.declared.Record.{Record}
use Rattle.pause.specs.Layout.{here_words, frame_words, frame_word, room_word, room_of, around, record_of, frames_in, focus_in, level_in, focus_at, state_in}
use Rattle.pause.specs.Paused.{is_word, held_holds, frame_fits, frame_holds, focus_holds, resting, node_in, paused}
use Rattle.pause.specs.Over.{AllUnder, At, Over}
use Rattle.pause.specs.PausedLaws.{not_both, Parts, parts}
use Rattle.pause.specs.WordLaws.{word_back, word_proper, held_back, held_proper}
use Rattle.pause.specs.FrameLaws.{frame_from_lem, holds_parts, fits_under, holds_words}
use Rattle.pause.specs.RestLaws.{here_of, found_in, FocusFits, leaf_node, routed}

pub frame_word_none : (ws : List ℕ) (Fs : List Frame) (i k : ℕ) → length Fs ≤ i → frame_word ws Fs i k ≡ 0
unfolding frame_word
frame_word_none ws [] i k h = refl
frame_word_none ws (F ∷ Fs) i k h = rw (ne_eqb i (length Fs) (λ e. omega arith)) (frame_word_none ws Fs i k (omega arith))

record_is : (r : Record) (n m : ℕ) → r.node ≡ n → r.levels ≡ m → r ≡ record { steps = r.steps; node = n; levels = m }
record_is r n m a b = rw (← a, ← b)

-- words 64 to 79
module _ (room : List ℕ) (a : get_or room search_word 0 ≡ 0) (z : (j : ℕ) → 68 ≤ j → j < frame_at 0 → get_or room j 0 ≡ 0) where
  pub head_three : (x y t : ℕ) → get_or room 65 0 ≡ x → get_or room 66 0 ≡ y → get_or room 67 0 ≡ t
      → (q : ℕ) → q < 16 → get_or (0 ∷ x ∷ y ∷ t ∷ []) q 0 ≡ get_or room (search_word + q) 0
  head_three x y t b c d zero h = sym a
  head_three x y t b c d (suc zero) h = sym b
  head_three x y t b c d (suc (suc zero)) h = sym c
  head_three x y t b c d (suc (suc (suc zero))) h = sym d
  head_three x y t b c d (suc (suc (suc (suc q)))) h = sym (z (search_word + suc (suc (suc (suc q)))) (omega arith) (omega arith))

  pub head_two : (x y : ℕ) → get_or room 65 0 ≡ x → get_or room 66 0 ≡ y → get_or room 67 0 ≡ 0
      → (q : ℕ) → q < 16 → get_or (0 ∷ x ∷ y ∷ []) q 0 ≡ get_or room (search_word + q) 0
  head_two x y b c d zero h = sym a
  head_two x y b c d (suc zero) h = sym b
  head_two x y b c d (suc (suc zero)) h = sym c
  head_two x y b c d (suc (suc (suc zero))) h = sym d
  head_two x y b c d (suc (suc (suc (suc q)))) h = sym (z (search_word + suc (suc (suc (suc q)))) (omega arith) (omega arith))

module _ (ws : List ℕ) (good : (n : ℕ) → n < node_count ws → node_holds ws n ≡ true) (room : List ℕ) where
  -- the words of its frames
  pub frame_words_lem : (l : ℕ) → ((i : ℕ) → i < l → frame_holds ws (word ws room i) ≡ true)
      → (i : ℕ) → i < l → (k : ℕ) → k < 16 → frame_word ws (frames ws room l) i k ≡ word ws room i k
  unfolding frames frame_word
  frame_words_lem zero holds i h k m = absurd (omega arith)
  frame_words_lem (suc l) holds i h k m =
      rw (length_frames ws room l) (go (ℕ_discrete i l) (λ n. frame_words_lem l (λ i h. holds i (omega arith)) i n k m))
    where
      go : Dec (i ≡ l) → (i < l → frame_word ws (frames ws room l) i k ≡ word ws room i k)
          → cond (eqb i l) (get_or (frame_words ws (frame ws room l)) k 0) (frame_word ws (frames ws room l) i k) ≡ word ws room i k
      go (yes e) n =
          rw (eq-eqb i l e, e, frame_from_lem ws room l) (sym (holds_words ws good (word ws room l) (holds l (omega arith)) k m))
      go (no d) n = rw (ne_eqb i l d) (n (omega arith))

  pub all_under : (l : ℕ) → ((i : ℕ) → i < l → frame_fits ws (word ws room i) ≡ true) → AllUnder ws (frames ws room l)
  unfolding frames
  all_under zero fits = tt
  all_under (suc l) fits = (
    rw (frame_from_lem ws room l) (fits_under ws good (word ws room l) (fits l (omega arith))),
    all_under l (λ i h. fits i (omega arith)),
  )

  pub around_frames : (l : ℕ) → ((i : ℕ) → i < l → frame_holds ws (word ws room i) ≡ true) → 1 ≤ l
      → around ws (frames ws room l) ≡ word ws room (l - 1) 1
  unfolding frames around
  around_frames zero holds h = absurd (omega arith)
  around_frames (suc l) holds h =
      let z : suc l - 1 ≡ l = omega arith in
      rw (z, frame_from_lem ws room l) (sym (holds_words ws good (word ws room l) (holds l (omega arith)) 1 (omega arith)))

  module _ (r : Record) (p : Parts ws room r) where
    l : ℕ
    l = level_in room r

    g : Focus
    g = focus_at room r

    -- what words 65 to 67 say
    record Head : Type 0 where
      fits : FocusFits ws g
      words : (q : ℕ) → q < 16 → get_or (0 ∷ here_words (here_of ws g)) q 0 ≡ get_or room (search_word + q) 0
      same : r ≡ record_of ws r.steps (found_in ws room l g)

    module _ (h : Head) where
      room_word_lem : (j : ℕ) → j < length room → get_or room j 0 ≡ room_word ws (found_in ws room l g) j
      unfolding room_word l
      room_word_lem j m = go (dec_lt j variables) (dec_lt j (frame_at 0))
        where
          i : ℕ
          i = (j - frame_at 0) / 16

          k : ℕ
          k = (j - frame_at 0) % 16

          high : variables ≤ j → frame_at 0 ≤ j → Dec (i < l) → get_or room j 0 ≡ room_word ws (found_in ws room l g) j
          high a b (yes n) =
              let z : frame_at i + k ≡ j = omega arith in
              rw (le-ltb j variables a, le-ltb j (frame_at 0) b, frame_words_lem l p.frames_hold i n k (omega arith), z)
          high a b (no n) =
              rw (le-ltb j variables a, le-ltb j (frame_at 0) b, frame_word_none ws (frames ws room l) i k (rw (length_frames ws room l) (omega arith)))
              (p.rest j (omega arith) m)

          go : Dec (j < variables) → Dec (j < frame_at 0) → get_or room j 0 ≡ room_word ws (found_in ws room l g) j
          go (yes a) b = rw (lt-ltb j variables a, store_at room j a, held_back (get_or room j 0) (p.variables_hold j a))
          go (no a) (yes b) =
              let z : search_word + (j - search_word) ≡ j = omega arith in
              let y : variables ≤ j = omega arith in
              rw (le-ltb j variables y, lt-ltb j (frame_at 0) b, h.words (j - search_word) (omega arith), z)
          go (no a) (no b) = high (omega arith) (omega arith) (dec_lt i l)

      room_is : room ≡ room_of ws (length room) (found_in ws room l g)
      unfolding room_of
      room_is = sym (tabulate_get_d room 0) ∙ tabulate_same (length room) _ _ room_word_lem

    head_of : (how : ℕ) → get_or room 65 0 ≡ how → focus_holds ws how (get_or room 66 0) (get_or room 67 0) ≡ true → Head
    unfolding focus_holds l g focus_in frames_in here_words record_of node_in resting
    head_of zero e h = not_both (sym h)
    head_of (suc zero) e h =
        let n = get_or room 66 0 in
        let b = get_or room 67 0 in
        let low = ltb-true n (node_count ws) (and_left (ltb n (node_count ws)) (eqb b 0) h) in
        let f = leaf_node ws good n low (rw e at p.rests) in
        record {
          fits = rw e low;
          words = rw (e, f.at) (head_two room p.no_search p.gap 1 n e refl (eqb-true b 0 (and_right (ltb n (node_count ws)) (eqb b 0) h)));
          same =
              rw (e, f.at, length_frames ws room (r.levels - 1))
              (record_is r n (suc (r.levels - 1)) (rw e at p.named) (let c = p.counted in omega arith));
        }
    head_of (suc (suc zero)) e h =
        let w = get_or room 66 0 in
        let b = get_or room 67 0 in
        let v = and_left (is_word w) (eqb b 0) h in
        record {
          fits = rw e v;
          words = rw (e, word_back w v) (head_two room p.no_search p.gap 2 w e refl (eqb-true b 0 (and_right (is_word w) (eqb b 0) h)));
          same =
              rw (e, length_frames ws room r.levels, around_frames r.levels (rw e at p.frames_hold) p.counted)
              (record_is r (word ws room (r.levels - 1) 1) r.levels (rw e at p.named) refl);
        }
    head_of (suc (suc (suc zero))) e h =
        let a = get_or room 66 0 in
        let b = get_or room 67 0 in
        record {
          fits =
              rw e
              (ltb-true a addresses (and_left (ltb a addresses) (ltb b (node_count ws)) h), ltb-true b (node_count ws) (and_right (ltb a addresses) (ltb b (node_count ws)) h));
          words = rw e (head_three room p.no_search p.gap 3 a b e refl refl);
          same =
              rw (e, length_frames ws room r.levels, around_frames r.levels (rw e at p.frames_hold) p.counted)
              (record_is r (word ws room (r.levels - 1) 1) r.levels (rw e at p.named) refl);
        }
    head_of (suc (suc (suc (suc how)))) e h = not_both (sym h)

stands_focus : (ws : List ℕ) (g : Focus) → stands (here_of ws g) ≡ focus_of ws g
unfolding focus_of
stands_focus ws (Node n) = refl
stands_focus ws (Word w) = refl
stands_focus ws (Thrown a p) = refl

store_beyond : (room : List ℕ) (x : ℕ) → variables ≤ x → store_of room x ≡ none
unfolding store_of
store_beyond room x h = rw (le-ltb x variables h)

module _ (ws : List ℕ) (good : (n : ℕ) → n < node_count ws → node_holds ws n ≡ true) (room : List ℕ) where
  active_at : (l : ℕ) (g : Focus) → FocusFits ws g → resting ws room l g ≡ true → At ws (here_of ws g) (frames ws room l)
  unfolding resting
  active_at l (Node n) h r = let f = leaf_node ws good n h r in rw f.at (h, r, refl)
  active_at zero (Word w) h r = not_both (sym r)
  active_at (suc i) (Word w) h r = (refl, word_proper w h, rw (length_frames ws room (suc i)) (omega arith))
  active_at zero (Thrown a p) h r = not_both (sym r)
  active_at (suc i) (Thrown a p) h r = (h.1, refl, refl, h.0, rw (length_frames ws room (suc i)) (omega arith))

  -- a room at rest holds an expression over the image
  pub over_found : (l : ℕ) (g : Focus) → ((i : ℕ) → i < l → frame_fits ws (word ws room i) ≡ true)
      → ((x : ℕ) → x < variables → held_holds (get_or room x 0) ≡ true) → FocusFits ws g → resting ws room l g ≡ true
      → Over ws (found_in ws room l g)
  over_found l g fit vars h r =
      record {
        above = all_under ws good room l fit;
        active = active_at l g h r;
        set = λ x k. rw (store_at room x k) (held_proper (get_or room x 0) (vars x k));
        unset = λ x k. store_beyond room x k;
        plain = rw (stands_focus ws g) (routed ws good room l g fit h r).0;
      }

-- the room and the record are the layout of an expression over the image, its active place found
pub record Lays (ws room : List ℕ) (r : Record) (f : Found) : Type 0 where
  pub over : Over ws f
  pub fits : frame_at (length f.frames) ≤ length room
  pub words : room ≡ room_of ws (length room) f
  pub told : r ≡ record_of ws r.steps f

module _ (ws : List ℕ) (good : (n : ℕ) → n < node_count ws → node_holds ws n ≡ true) where
  -- WHAT PASSES IS A LAYOUT
  pub laid : (hs room : List ℕ) (r : Record) → paused ws room r ≡ true
      → Lays ws room r (route (state_in ws hs room r).expr (state_in ws hs room r).store [])
  unfolding state_in l g
  laid hs room r h =
      let p = parts ws room r h in
      let fit : (i : ℕ) → i < level_in room r → frame_fits ws (word ws room i) ≡ true = λ i k. (holds_parts ws (word ws room i) (p.frames_hold i k)).0 in
      let d = head_of ws good room r p (get_or room 65 0) refl p.focus_holds_lem in
      let way = (routed ws good room (level_in room r) (focus_at room r) fit d.fits p.rests).1 in
      rw way
      (record {
        over = over_found ws good room (level_in room r) (focus_at room r) fit p.variables_hold d.fits p.rests;
        fits = rw (length_frames ws room (level_in room r)) p.long;
        words = room_is ws good room r p d;
        told = d.same;
      })

  same_room : (n n' : ℕ) (e e' : Expr) (s s' : Store) → n ≡ n' → e ≡ e' → s ≡ s' → room_of ws n (route e s []) ≡ room_of ws n' (route e' s' [])
  same_room n n' e e' s s' a b c = rw (a, b, c)

  same_record : (k k' : ℕ) (e e' : Expr) (s s' : Store) → k ≡ k' → e ≡ e' → s ≡ s' → record_of ws k (route e s []) ≡ record_of ws k' (route e' s' [])
  same_record k k' e e' s s' a b c = rw (a, b, c)

  -- ONE EXPRESSION, LENGTH AND COUNT HAVE ONE LAYOUT
  pub one_layout : (hs hs' room room' : List ℕ) (r r' : Record) → paused ws room r ≡ true → paused ws room' r' ≡ true
      → length room ≡ length room' → r.steps ≡ r'.steps
      → (state_in ws hs room r).expr ≡ (state_in ws hs' room' r').expr → (state_in ws hs room r).store ≡ (state_in ws hs' room' r').store
      → (room ≡ room') × (r ≡ r')
  one_layout hs hs' room room' r r' h h' n k e s =
      let a = laid hs room r h in
      let b = laid hs' room' r' h' in
      (a.words ∙ same_room _ _ _ _ _ _ n e s ∙ sym b.words, a.told ∙ same_record _ _ _ _ _ _ k e s ∙ sym b.told)
