-- A ROOM AT REST, AS A PAUSE LEAVES IT, is the layout of the expression that it holds: it passes, and is read back to it.
use Rattle.std.specs.Prelude.{◌≡◌, true, false, ◌&&◌, List, [], ◌∷◌, eqb, ltb, length, get_or}
use Rattle.std.proofs.Math.Path.{refl, ap}
use Rattle.std.proofs.Common.{sym, ◌∙◌}
use Rattle.std.proofs.Math.Bool.{cond}
use Prim.Native.Nat.{ℕ, zero, suc, ◌+◌, ◌-◌, ◌/◌, ◌%◌, ◌≤◌, ◌<◌}
use native.Mathlib.Omega.{arith}
use Rattle.std.proofs.Math.Decide.{ℕ_discrete, dec_lt}
use Rattle.std.proofs.Math.Dec.{leb}
use borrow.Author.Tests.{lt-ltb, le-ltb, le-leb, eq-eqb, ne_eqb}
use Rattle.words.specs.declared.Value.{Value}
use Rattle.image.specs.Laws.{and_left, and_right}
use Rattle.image.specs.Numbers.{variables}
use Rattle.image.specs.Trailer.{node_count}
use Rattle.image.specs.Nodes.{node_word, node_holds}
use Rattle.rules.specs.Trees.{Expr}
use Rattle.rules.specs.Step.{Store}
use Rattle.laws.specs.Maps.{tabulate_same}
use Rattle.laws.specs.Values.{value_at}
use Rattle.room.specs.declared.Focus.{Focus}
use Rattle.room.specs.declared.Focus.TheVariants.{Node, Value as Word, Thrown}
use Rattle.room.specs.Room.{most_operands, frame_at, Shape, first, second, operands, block, test, loop, nothing, shape_of, calling, frame_of, word, frame, frames}
use Rattle.room.specs.RoomLaws.{store_at}
use Rattle.room.specs.Nodes.{length_frames}
use Rattle.room.specs.Turn.{whole, outside}
use Rattle.pause.specs.Route.{route}
use Rattle.pause.specs.declared.Record.{Record}
use Rattle.pause.specs.Layout.{here_words, frame_words, frame_word, room_word, room_of, around, record_of}
use Rattle.pause.specs.Paused.{every, is_word, held_holds, used, is_node, shape_fits, frame_fits, frame_holds, resting, node_in}
use Rattle.pause.specs.PausedLaws.{not_both, every_true, every_all}
use Rattle.pause.specs.WordLaws.{word_back, held_back}
use Rattle.pause.specs.FrameLaws.{frame_from, frame_from_lem, Words, parts_hold, holds_words}
use Rattle.pause.specs.RestLaws.{here_of, found_in, FocusFits, leaf_node, routed}
use Rattle.pause.specs.LaidLaws.{frame_word_none, over_found}
use Rattle.pause.specs.LaidBack.{Reads, laid_back}
use Rattle.pause.specs.Keep.{focus_words, clean, kept_word, kept_room, levels_of, kept_record}

calling_same : (p m y a : ℕ) (u v : ℕ → ℕ) (o : ℕ → Expr) → ((k : ℕ) → k < a → u k ≡ v k) → calling p m y a u o ≡ calling p m y a v o
unfolding calling
calling_same p m y zero u v o h = refl
calling_same p m y (suc a) u v o h =
    rw (h 0 (omega arith), tabulate_same {A = ℕ × Value} a (λ i. (0, value_at (u (suc i)))) (λ i. (0, value_at (v (suc i)))) (λ i l. rw (h (suc i) (omega arith))))

module _ (ws : List ℕ) (w : ℕ → ℕ) where
  clean_used : (k : ℕ) → used (shape_of (w 0)) (w 2) k ≡ true → clean w k ≡ w k
  unfolding clean
  clean_used k h = rw h

  clean_spare : (k : ℕ) → used (shape_of (w 0)) (w 2) k ≡ false → clean w k ≡ 0
  unfolding clean
  clean_spare k h = rw h

  -- a frame whose other words are made 0 holds, and is the frame
  record Cleans : Type 0 where
    holds : frame_holds ws (clean w) ≡ true
    same : frame_from ws (clean w) ≡ frame_from ws w

  module _ (h : frame_fits ws w ≡ true) where
    cleans : (s : Shape) → shape_of (w 0) ≡ s → Cleans
    unfolding frame_fits shape_fits frame_from frame_of used
    cleans first i =
        let a = clean_used 0 (rw i) in
        let b = clean_used 1 (rw i) in
        record {
          holds = parts_hold ws (clean w) (rw (a, i, b, a) (rw i at h)) (λ k l u. clean_spare k (rw i (rw (a, i) at u)));
          same = rw (a, i, b);
        }
    cleans second i =
        let a = clean_used 0 (rw i) in
        let b = clean_used 1 (rw i) in
        let c = clean_used 2 (rw i) in
        record {
          holds = parts_hold ws (clean w) (rw (a, i, b, a, c) (rw i at h)) (λ k l u. clean_spare k (rw i (rw (a, i) at u)));
          same = rw (a, i, b, c);
        }
    cleans operands i =
        let a = clean_used 0 (rw i) in
        let b = clean_used 1 (rw i) in
        let c = clean_used 2 (rw i) in
        let g = rw i at h in
        let x = is_node ws (w 1) 9 && leb (w 2) (node_word ws (w 1) 3) in
        let v = every_true (λ k. is_word (w (5 + k))) (w 2) (and_right x (every (λ k. is_word (w (5 + k))) (w 2)) g) in
        let u : (k : ℕ) → k < w 2 → clean w (5 + k) ≡ w (5 + k) = λ k l. clean_used (5 + k) (rw (i, le-ltb (5 + k) 3 (omega arith), le-leb 5 (5 + k) (omega arith), lt-ltb (5 + k) (5 + w 2) (omega arith))) in
        let e = every_all (λ k. is_word (clean w (5 + k))) (w 2) (λ k l. rw (u k l) (v k l)) in
        record {
          holds =
              parts_hold ws (clean w)
              (rw (a, i, b, c, e, and_left x (every (λ k. is_word (w (5 + k))) (w 2)) g))
              (λ k l u. clean_spare k (rw i (rw (a, i, c) at u)));
          same =
              rw (a, i, b, c)
              (calling_same (w 1) (node_word ws (w 1) 2) (node_word ws (w 1) 3) (w 2) _ _ _ (λ k l. ap (λ x. cond (ltb k most_operands) x 0) (u k l)));
        }
    cleans block i =
        let a = clean_used 0 (rw i) in
        let b = clean_used 1 (rw i) in
        let c = clean_used 2 (rw i) in
        let d = clean_used 3 (rw i) in
        let e = clean_used 4 (rw i) in
        record {
          holds = parts_hold ws (clean w) (rw (a, i, b, c, d, e) (rw i at h)) (λ k l u. clean_spare k (rw i (rw (a, i) at u)));
          same = rw (a, i, b, c, d, e);
        }
    cleans test i =
        let a = clean_used 0 (rw i) in
        let b = clean_used 1 (rw i) in
        record {
          holds = parts_hold ws (clean w) (rw (a, i, b) (rw i at h)) (λ k l u. clean_spare k (rw i (rw (a, i) at u)));
          same = rw (a, i, b);
        }
    cleans loop i =
        let a = clean_used 0 (rw i) in
        let b = clean_used 1 (rw i) in
        record {
          holds = parts_hold ws (clean w) (rw (a, i, b) (rw i at h)) (λ k l u. clean_spare k (rw i (rw (a, i) at u)));
          same = rw (a, i, b);
        }
    cleans nothing i = let g = rw i at h in not_both (sym g)

    clean_words : (good : (n : ℕ) → n < node_count ws → node_holds ws n ≡ true) → Words ws (clean w) (frame_from ws w)
    clean_words good = let c = cleans (shape_of (w 0)) refl in rw c.same at (holds_words ws good (clean w) c.holds)

-- what words 65 to 67 become
here_words_lem : (ws : List ℕ) (good : (n : ℕ) → n < node_count ws → node_holds ws n ≡ true) (room : List ℕ) (l : ℕ) (g : Focus) → FocusFits ws g
    → resting ws room l g ≡ true → here_words (here_of ws g) ≡ focus_words g
unfolding here_words focus_words resting
here_words_lem ws good room l (Node n) h r = rw (leaf_node ws good n h r).at
here_words_lem ws good room l (Word w) h r = rw (word_back w h)
here_words_lem ws good room l (Thrown a p) h r = refl

module _ (ws : List ℕ) (good : (n : ℕ) → n < node_count ws → node_holds ws n ≡ true) (room : List ℕ) where
  -- the words of frames that fit
  fit_words : (l : ℕ) → ((i : ℕ) → i < l → frame_fits ws (word ws room i) ≡ true)
      → (i : ℕ) → i < l → (k : ℕ) → k < 16 → frame_word ws (frames ws room l) i k ≡ clean (word ws room i) k
  unfolding frames frame_word
  fit_words zero fit i h k m = absurd (omega arith)
  fit_words (suc l) fit i h k m =
      rw (length_frames ws room l) (go (ℕ_discrete i l) (λ n. fit_words l (λ i h. fit i (omega arith)) i n k m))
    where
      go : Dec (i ≡ l) → (i < l → frame_word ws (frames ws room l) i k ≡ clean (word ws room i) k)
          → cond (eqb i l) (get_or (frame_words ws (frame ws room l)) k 0) (frame_word ws (frames ws room l) i k) ≡ clean (word ws room i) k
      go (yes e) n =
          rw (eq-eqb i l e, e, frame_from_lem ws room l) (sym (clean_words ws (word ws room l) (fit l (omega arith)) good k m))
      go (no d) n = rw (ne_eqb i l d) (n (omega arith))

  -- every frame has its place
  place_used : (w : ℕ → ℕ) → frame_fits ws w ≡ true → clean w 1 ≡ w 1
  unfolding clean used frame_fits shape_fits
  place_used w h = go (shape_of (w 0)) refl
    where
      go : (s : Shape) → shape_of (w 0) ≡ s → clean w 1 ≡ w 1
      go first i = rw i
      go second i = rw i
      go operands i = rw i
      go block i = rw i
      go test i = rw i
      go loop i = rw i
      go nothing i = let g = rw i at h in not_both (sym g)

  place_around : (i : ℕ) → frame_fits ws (word ws room i) ≡ true → around ws (frame ws room i ∷ frames ws room i) ≡ word ws room (suc i - 1) 1
  unfolding around
  place_around i h =
      let z : suc i - 1 ≡ i = omega arith in
      rw (z, frame_from_lem ws room i) (sym (clean_words ws (word ws room i) h good 1 (omega arith)) ∙ place_used (word ws room i) h)

  kept_record_lem : (steps l : ℕ) (g : Focus) → ((i : ℕ) → i < l → frame_fits ws (word ws room i) ≡ true) → FocusFits ws g → resting ws room l g ≡ true
      → kept_record ws room l g steps ≡ record_of ws steps (found_in ws room l g)
  unfolding kept_record record_of levels_of node_in resting frames
  kept_record_lem steps l (Node n) fit h r = rw ((leaf_node ws good n h r).at, length_frames ws room l)
  kept_record_lem steps zero (Word w) fit h r = not_both (sym r)
  kept_record_lem steps (suc i) (Word w) fit h r = rw (place_around i (fit i (omega arith)), length_frames ws room i)
  kept_record_lem steps zero (Thrown a p) fit h r = not_both (sym r)
  kept_record_lem steps (suc i) (Thrown a p) fit h r = rw (place_around i (fit i (omega arith)), length_frames ws room i)

  module _ (l : ℕ) (g : Focus) (long : frame_at l ≤ length room) (fit : (i : ℕ) → i < l → frame_fits ws (word ws room i) ≡ true)
      (vars : (x : ℕ) → x < variables → held_holds (get_or room x 0) ≡ true) (h : FocusFits ws g) (r : resting ws room l g ≡ true) where
    kept_word_lem : (j : ℕ) → j < length room → kept_word ws room l g j ≡ room_word ws (found_in ws room l g) j
    unfolding room_word kept_word
    kept_word_lem j m = go (dec_lt j variables) (dec_lt j (frame_at 0))
      where
        i : ℕ
        i = (j - frame_at 0) / 16

        k : ℕ
        k = (j - frame_at 0) % 16

        high : variables ≤ j → frame_at 0 ≤ j → Dec (i < l) → kept_word ws room l g j ≡ room_word ws (found_in ws room l g) j
        high a b (yes n) =
            rw (le-ltb j variables a, le-ltb j (frame_at 0) b, lt-ltb i l n, fit_words l fit i n k (omega arith))
        high a b (no n) =
            let y : l ≤ i = omega arith in
            rw (le-ltb j variables a, le-ltb j (frame_at 0) b, le-ltb i l y, frame_word_none ws (frames ws room l) i k (rw (length_frames ws room l) y))

        go : Dec (j < variables) → Dec (j < frame_at 0) → kept_word ws room l g j ≡ room_word ws (found_in ws room l g) j
        go (yes a) b = rw (lt-ltb j variables a, store_at room j a, held_back (get_or room j 0) (vars j a))
        go (no a) (yes b) =
            let y : variables ≤ j = omega arith in
            rw (le-ltb j variables y, lt-ltb j (frame_at 0) b, here_words_lem ws good room l g h r)
        go (no a) (no b) = high (omega arith) (omega arith) (dec_lt i l)

    kept_room_lem : kept_room ws room l g ≡ room_of ws (length room) (found_in ws room l g)
    unfolding kept_room room_of
    kept_room_lem = tabulate_same (length room) _ _ kept_word_lem

-- the room and the record are the layout of e and s, pass, and are read back to them
pub record Keeps (ws : List ℕ) (n steps : ℕ) (room : List ℕ) (r : Record) (e : Expr) (s : Store) : Type 0 where
  pub words : room ≡ room_of ws n (route e s [])
  pub told : r ≡ record_of ws steps (route e s [])
  pub reads : Reads ws room r e s

-- THE ROOM THAT A PAUSE LEAVES
pub keeps : (ws : List ℕ) (good : (n : ℕ) → n < node_count ws → node_holds ws n ≡ true) (room : List ℕ) (l : ℕ) (g : Focus) (steps : ℕ)
    → frame_at l ≤ length room
    → ((i : ℕ) → i < l → frame_fits ws (word ws room i) ≡ true)
    → ((x : ℕ) → x < variables → held_holds (get_or room x 0) ≡ true)
    → FocusFits ws g
    → resting ws room l g ≡ true
    → Keeps ws (length room) steps (kept_room ws room l g) (kept_record ws room l g steps) (whole ws room l g) (outside ws room l)
keeps ws good room l g steps long fit vars h r =
    let way = (routed ws good room l g fit h r).1 in
    let a = kept_room_lem ws good room l g long fit vars h r ∙ ap (room_of ws (length room)) (sym way) in
    let b = kept_record_lem ws good room steps l g fit h r ∙ ap (record_of ws steps) (sym way) in
    record {
      words = a;
      told = b;
      reads =
          rw (a, b)
          (laid_back ws good (length room) steps (whole ws room l g) (outside ws room l)
          (rw way (over_found ws good room l g fit vars h r))
          (rw (way, length_frames ws room l) long));
    }
