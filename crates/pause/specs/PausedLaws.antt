-- Laws of the test: its parts, and that a room and a record that are all 0 do not pass.
use Rattle.std.specs.Prelude.{◌≡◌, Bool, true, false, ◌&&◌, List, ℕ, zero, suc, ◌+◌, ◌-◌, ◌≤◌, ◌<◌, length}
use Rattle.std.proofs.Math.Path.{refl}
use Rattle.std.proofs.Common.{arith}
use Rattle.std.proofs.Math.Decide.{ℕ_discrete}
use Rattle.std.proofs.Math.Dec.{eqb, leb}
use Rattle.std.proofs.Math.ListN.{get_or}
use borrow.Author.Tests.{leb-true, le-leb, eqb-true, eq-eqb}
use Rattle.image.specs.Laws.{and_left, and_right}
use Rattle.image.specs.Numbers.{variables}
use Rattle.room.specs.Room.{search_word, frame_at, word}
use Rattle.pause.specs.declared.Record.{Record}
use Rattle.pause.specs.Layout.{level_in, focus_at}
use Rattle.pause.specs.Paused.{every, blank, held_holds, frame_holds, focus_holds, resting, node_in, paused, fresh}

pub not_both : {A : Type 0} → ◌≡◌ {A = Bool} true false → A
not_both e = absurd (let z : ◌≡◌ {A = ℕ} 0 1 = cc in omega arith)

pub every_true : (f : ℕ → Bool) (n : ℕ) → every f n ≡ true → (k : ℕ) → k < n → f k ≡ true
unfolding every
every_true f zero h k l = absurd (omega arith)
every_true f (suc n) h k l = go (ℕ_discrete k n) (every_true f n (and_left (every f n) (f n) h) k)
  where
    go : Dec (k ≡ n) → (k < n → f k ≡ true) → f k ≡ true
    go (yes e) i = rw e (and_right (every f n) (f n) h)
    go (no d) i = i (omega arith)

pub every_all : (f : ℕ → Bool) (n : ℕ) → ((k : ℕ) → k < n → f k ≡ true) → every f n ≡ true
unfolding every
every_all f zero h = refl
every_all f (suc n) h = rw (every_all f n (λ k l. h k (omega arith)), h n (omega arith))

pub blank_true : (w : ℕ → ℕ) (a n : ℕ) → blank w a n ≡ true → (j : ℕ) → a ≤ j → j < a + n → w j ≡ 0
unfolding blank
blank_true w a n h j l m =
    let e : a + (j - a) ≡ j = omega arith in
    rw e at (eqb-true (w (a + (j - a))) 0 (every_true (λ k. eqb (w (a + k)) 0) n h (j - a) (omega arith)))

pub blank_all : (w : ℕ → ℕ) (a n : ℕ) → ((j : ℕ) → a ≤ j → j < a + n → w j ≡ 0) → blank w a n ≡ true
unfolding blank
blank_all w a n h =
    every_all (λ k. eqb (w (a + k)) 0) n (λ k l. eq-eqb (w (a + k)) 0 (h (a + k) (omega arith) (omega arith)))

module _ (ws room : List ℕ) (r : Record) where
  -- what the test asks
  pub record Parts : Type 0 where
    pub long : frame_at (level_in room r) ≤ length room
    pub counted : 1 ≤ r.levels
    pub variables_hold : (x : ℕ) → x < variables → held_holds (get_or room x 0) ≡ true
    pub no_search : get_or room search_word 0 ≡ 0
    pub focus_holds_lem : focus_holds ws (get_or room 65 0) (get_or room 66 0) (get_or room 67 0) ≡ true
    pub gap : (j : ℕ) → 68 ≤ j → j < frame_at 0 → get_or room j 0 ≡ 0
    pub frames_hold : (i : ℕ) → i < level_in room r → frame_holds ws (word ws room i) ≡ true
    pub rest : (j : ℕ) → frame_at (level_in room r) ≤ j → j < length room → get_or room j 0 ≡ 0
    pub rests : resting ws room (level_in room r) (focus_at room r) ≡ true
    pub named : r.node ≡ node_in ws room (level_in room r) (focus_at room r)

  pub parts : paused ws room r ≡ true → Parts
  unfolding paused
  parts h =
      let a0 = leb (frame_at (level_in room r)) (length room) in
      let a1 = leb 1 r.levels in
      let a2 = every (λ x. held_holds (get_or room x 0)) variables in
      let a3 = eqb (get_or room search_word 0) 0 in
      let a4 = focus_holds ws (get_or room 65 0) (get_or room 66 0) (get_or room 67 0) in
      let a5 = blank (λ j. get_or room j 0) 68 12 in
      let a6 = every (λ i. frame_holds ws (word ws room i)) (level_in room r) in
      let a7 = blank (λ j. get_or room j 0) (frame_at (level_in room r)) (length room - frame_at (level_in room r)) in
      let a8 = resting ws room (level_in room r) (focus_at room r) in
      let a9 = eqb r.node (node_in ws room (level_in room r) (focus_at room r)) in
      let b8 = and_left (a0 && a1 && a2 && a3 && a4 && a5 && a6 && a7 && a8) a9 h in
      let b7 = and_left (a0 && a1 && a2 && a3 && a4 && a5 && a6 && a7) a8 b8 in
      let b6 = and_left (a0 && a1 && a2 && a3 && a4 && a5 && a6) a7 b7 in
      let b5 = and_left (a0 && a1 && a2 && a3 && a4 && a5) a6 b6 in
      let b4 = and_left (a0 && a1 && a2 && a3 && a4) a5 b5 in
      let b3 = and_left (a0 && a1 && a2 && a3) a4 b4 in
      let b2 = and_left (a0 && a1 && a2) a3 b3 in
      let b1 = and_left (a0 && a1) a2 b2 in
      let l = leb-true _ _ (and_left a0 a1 b1) in
      record {
        long = l;
        counted = leb-true _ _ (and_right a0 a1 b1);
        variables_hold = every_true (λ x. held_holds (get_or room x 0)) variables (and_right (a0 && a1) a2 b2);
        no_search = eqb-true _ _ (and_right (a0 && a1 && a2) a3 b3);
        focus_holds_lem = and_right (a0 && a1 && a2 && a3) a4 b4;
        gap = λ j m n. blank_true (λ j. get_or room j 0) 68 12 (and_right (a0 && a1 && a2 && a3 && a4) a5 b5) j m (omega arith);
        frames_hold = every_true (λ i. frame_holds ws (word ws room i)) (level_in room r) (and_right (a0 && a1 && a2 && a3 && a4 && a5) a6 b6);
        rest =
            λ j m n.
            blank_true (λ j. get_or room j 0) (frame_at (level_in room r)) (length room - frame_at (level_in room r))
            (and_right (a0 && a1 && a2 && a3 && a4 && a5 && a6) a7 b7) j m (omega arith);
        rests = and_right (a0 && a1 && a2 && a3 && a4 && a5 && a6 && a7) a8 b8;
        named = eqb-true _ _ (and_right (a0 && a1 && a2 && a3 && a4 && a5 && a6 && a7 && a8) a9 h);
      }

  pub passes : Parts → paused ws room r ≡ true
  unfolding paused
  passes p =
      rw (
        le-leb (frame_at (level_in room r)) (length room) p.long,
        le-leb 1 r.levels p.counted,
        every_all (λ x. held_holds (get_or room x 0)) variables p.variables_hold,
        eq-eqb (get_or room search_word 0) 0 p.no_search,
        p.focus_holds_lem,
        blank_all (λ j. get_or room j 0) 68 12 (λ j m n. p.gap j m (omega arith)),
        every_all (λ i. frame_holds ws (word ws room i)) (level_in room r) p.frames_hold,
        blank_all (λ j. get_or room j 0) (frame_at (level_in room r)) (length room - frame_at (level_in room r))
            (λ j m n. p.rest j m (let l = p.long in omega arith)),
        p.rests,
        eq-eqb r.node (node_in ws room (level_in room r) (focus_at room r)) p.named,
      )

  -- ALL 0 IS NO PAUSED RUN
  pub never_fresh : fresh room r ≡ true → paused ws room r ≡ false
  unfolding fresh
  never_fresh h = go (paused ws room r) refl
    where
      none : r.levels ≡ 0
      none =
          eqb-true r.levels 0
          (and_right (every (λ j. eqb (get_or room j 0) 0) (length room) && eqb r.steps 0 && eqb r.node 0) (eqb r.levels 0) h)

      go : (t : Bool) → paused ws room r ≡ t → t ≡ false
      go true e = absurd (omega (arith, (parts e).counted, none))
      go false e = refl
