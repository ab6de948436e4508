-- THE LAYOUT OF EVERY EXPRESSION OVER THE IMAGE PASSES, where its frames lie in the room, and it is read back to it.
use Rattle.std.proofs.Math.Path.{◌≡◌, refl, ap, fun_ext}
use Rattle.std.proofs.Common.{sym, ◌∙◌, inl, inr}
use Rattle.std.specs.Prelude.{Bool, true, false, ◌⊎◌}
use Rattle.std.proofs.Math.Option.{Option, none, some}
use mathlib.Core.List.{List, [], ◌∷◌}
use Prim.Native.Nat.{ℕ, zero, suc, ◌+◌, ◌-◌, ◌/◌, ◌%◌, ◌≤◌, ◌<◌}
use native.Mathlib.Omega.{arith}
use Rattle.std.proofs.Math.Decide.{ℕ_discrete, dec_lt}
use Rattle.std.proofs.Math.ListN.{length, get_or, get_or-eq_default}
use borrow.Author.Tests.{lt-ltb, le-ltb, eq-eqb, ne_eqb}
use Rattle.words.specs.declared.Value.{Value}
use Rattle.words.specs.declared.Ty.{Ty}
use Rattle.words.specs.Types.{type_of}
use Rattle.words.specs.Value.{word_of, Proper, addresses}
use Rattle.image.specs.Numbers.{variables}
use Rattle.image.specs.Trailer.{node_count}
use Rattle.image.specs.Nodes.{node_word, kind_of, node_holds}
use Rattle.rules.specs.Trees.{Expr, val, assign, block, seq, arguments, place}
use Rattle.rules.specs.Program.{program}
use Rattle.rules.specs.Heap.{heap_of}
use Rattle.rules.specs.Step.{Store, view, value_in, blocked}
use Rattle.laws.specs.Maps.{length_tabulate, get_d_tabulate}
use Rattle.laws.specs.Frames.{Frame, block_f, seq_f, plug, outer, plugs, outers, blocked_begun, Plain, plain_plugs}
use Rattle.room.specs.declared.Focus.{Focus}
use Rattle.room.specs.declared.Focus.TheVariants.{Node, Value as Word, Thrown}
use Rattle.room.specs.Room.{frame_at, search_word, held, store_of, shape_of, loaded, operand_of, word, tag, frame, frames}
use Rattle.room.specs.RoomLaws.{store_at}
use Rattle.room.specs.Armed.{armed_seq, armed_seq_frames, Takes, frame_block, frame_seq, frame_loop}
use Rattle.room.specs.Nodes.{assign_local}
use Rattle.room.specs.Turn.{focus_of}
use Rattle.pause.specs.Route.{Here, leaf, came, flew, stands, Found, address_of, passed, route}
use Rattle.pause.specs.RouteLaws.{Enters}
use Rattle.pause.specs.Unroute.{Landed, unroute}
use Rattle.pause.specs.declared.Record.{Record}
use Rattle.pause.specs.Layout.{held_word, here_words, seq_tag, ite_tag, frame_words, frame_word, room_word, room_of, around, record_of, frames_in, focus_in, level_in, focus_at, state_in}
use Rattle.pause.specs.Paused.{rests_first, rests_in, frame_holds, focus_holds, resting, node_in, paused}
use Rattle.pause.specs.Over.{Under, AllUnder, Over}
use Rattle.pause.specs.PausedLaws.{passes}
use Rattle.pause.specs.WordLaws.{value_word, value_back, variable_word, variable_back}
use Rattle.pause.specs.FrameLaws.{frame_from, frame_from_lem, Words}
use Rattle.pause.specs.FrameBack.{lay_frame}
use Rattle.pause.specs.LaidLaws.{frame_word_none}

-- The words of a room that is laid out.
module _ (ws : List ℕ) (n : ℕ) (f : Found) (fits : frame_at (length f.frames) ≤ n) where
  size : length (room_of ws n f) ≡ n
  unfolding room_of
  size = length_tabulate n (room_word ws f)

  word_at : (j : ℕ) → j < n → get_or (room_of ws n f) j 0 ≡ room_word ws f j
  unfolding room_of
  word_at j h = get_d_tabulate n (room_word ws f) j 0 h

  variable_at : (x : ℕ) → x < variables → get_or (room_of ws n f) x 0 ≡ held_word (f.store x)
  unfolding room_word
  variable_at x h = word_at x (omega arith) ∙ rw (lt-ltb x variables h)

  head_at : (q : ℕ) → q < 16 → get_or (room_of ws n f) (search_word + q) 0 ≡ get_or (0 ∷ here_words f.here) q 0
  unfolding room_word
  head_at q h =
      let a : search_word + q - search_word ≡ q = omega arith in
      word_at (search_word + q) (omega arith)
      ∙ rw (le-ltb (search_word + q) variables (omega arith), lt-ltb (search_word + q) (frame_at 0) (omega arith), a)

  frame_at_lem : (i : ℕ) → i < length f.frames → (k : ℕ) → k < 16 → word ws (room_of ws n f) i k ≡ frame_word ws f.frames i k
  unfolding room_word
  frame_at_lem i h k m =
      let j = frame_at i + k in
      let a : (j - frame_at 0) / 16 ≡ i = omega arith in
      let b : (j - frame_at 0) % 16 ≡ k = omega arith in
      word_at j (omega arith) ∙ rw (le-ltb j variables (omega arith), le-ltb j (frame_at 0) (omega arith), a, b)

  beyond_at : (j : ℕ) → frame_at (length f.frames) ≤ j → j < n → get_or (room_of ws n f) j 0 ≡ 0
  unfolding room_word
  beyond_at j h m =
      word_at j m
      ∙ rw (le-ltb j variables (omega arith), le-ltb j (frame_at 0) (omega arith))
      (frame_word_none ws f.frames ((j - frame_at 0) / 16) ((j - frame_at 0) % 16) (omega arith))

  gap_at : (j : ℕ) → 68 ≤ j → j < frame_at 0 → get_or (room_of ws n f) j 0 ≡ 0
  unfolding here_words
  gap_at j h m =
      let a : search_word + (j - search_word) ≡ j = omega arith in
      rw a at (head_at (j - search_word) (omega arith) ∙ get_or-eq_default (0 ∷ here_words f.here) 0 {n = j - search_word} (few f.here))
    where
      few : (h : Here) → length (0 ∷ here_words h) ≤ j - search_word
      few (leaf e) = omega arith
      few (came q v) = omega arith
      few (flew p t q a) = omega arith

  module _ (o : Over ws f) where
    store_is : store_of (room_of ws n f) ≡ f.store
    unfolding store_of
    store_is = fun_ext (λ x. go x (dec_lt x variables))
      where
        go : (x : ℕ) → Dec (x < variables) → store_of (room_of ws n f) x ≡ f.store x
        go x (yes h) = rw (lt-ltb x variables h, variable_at x h) (variable_back (f.store x) (o.set x h))
        go x (no h) = let m : variables ≤ x = omega arith in rw (le-ltb x variables m) (sym (o.unset x m))

module _ (ws : List ℕ) (good : (n : ℕ) → n < node_count ws → node_holds ws n ≡ true) (room : List ℕ) where
  -- a room that holds the words of some frames has these frames
  frames_back : (Fs : List Frame) → AllUnder ws Fs
      → ((i : ℕ) → i < length Fs → (k : ℕ) → k < 16 → word ws room i k ≡ frame_word ws Fs i k)
      → (frames ws room (length Fs) ≡ Fs) × ((i : ℕ) → i < length Fs → frame_holds ws (word ws room i) ≡ true)
  unfolding frames frame_word
  frames_back [] u h = (refl, λ i l. absurd (omega arith))
  frames_back (F ∷ Fs) u h = both (frames_back Fs u.1 below)
    where
      m : ℕ
      m = length Fs

      below : (i : ℕ) → i < length Fs → (k : ℕ) → k < 16 → word ws room i k ≡ frame_word ws Fs i k
      below i l k q = h i (omega arith) k q ∙ rw (ne_eqb i (length Fs) (λ e. omega arith))

      here : (frame_holds ws (word ws room m) ≡ true) × (frame_from ws (word ws room m) ≡ F)
      here = lay_frame ws (word ws room m) good F u.0 (λ k q. h m (omega arith) k q ∙ rw (eq-eqb m (length Fs) refl))

      both : (frames ws room m ≡ Fs) × ((i : ℕ) → i < m → frame_holds ws (word ws room i) ≡ true)
          → (frame ws room m ∷ frames ws room m ≡ F ∷ Fs) × ((i : ℕ) → i < suc m → frame_holds ws (word ws room i) ≡ true)
      both (e, q) = (rw (frame_from_lem ws room m, here.1, e), λ i l. go i l (ℕ_discrete i m))
        where
          go : (i : ℕ) → i < suc m → Dec (i ≡ m) → frame_holds ws (word ws room i) ≡ true
          go i l (yes c) = rw c here.0
          go i l (no c) = q i (omega arith)

-- a block that would take the value up does
settled : (Gs : List Frame) (s : Store) (p x : ℕ) (t : Ty) (old : Option Value) (q r k : ℕ) (v : Value) (b : Expr) → s x ≡ none
    → Plain (seq_f q b ∷ block_f p x t old ∷ Gs) s (assign r x (val k v)) → ⊥
unfolding plug outer
settled Gs s p x t old q r k v b h pl =
    let a : blocked p x t (s x) (seq q (assign r x (val k v)) b) ≡ block p x t (s x) (seq q (assign r x (val k v)) b) = pl.1.0 in
    let c : blocked p x t none (seq q (assign r x (val k v)) b) ≡ block p x t none (seq q (assign r x (val k v)) b) = rw h at a in
    let d : block p x t (some v) b ≡ block p x t none (seq q (assign r x (val k v)) b) = sym (blocked_begun p x t q r k v b) ∙ c in
    let z : ◌≡◌ {A = ℕ} 0 1 = cc in
    omega arith

module _ (ws room : List ℕ) where
  no_block : (i r x : ℕ) (v : Value) → x < variables → Plain (frames ws room i) (store_of room) (assign r x (val 0 v)) → armed_seq ws room i x ≡ false
  unfolding frames held
  no_block i r x v local pl = go (armed_seq ws room i x) refl
    where
      takes : (j : ℕ) → i ≡ suc (suc j) → (tag ws room (suc j) ≡ 11) ⊎ (tag ws room (suc j) ≡ 29) → Takes ws room j x → ⊥
      takes j e (inl c) t =
          settled (frames ws room j) (store_of room) (word ws room j 1) x (type_of (word ws room j 3)) (held (word ws room j 4))
          (word ws room (suc j) 1) r 0 v (operand_of ws (word ws room (suc j) 1) 0) (store_at room x local ∙ rw t.unset)
          (rw (e, frame_seq ws room (suc j) c, frame_block ws room j t.tagged, t.variable) at pl)
      takes j e (inr c) t =
          settled (frames ws room j) (store_of room) (word ws room j 1) x (type_of (word ws room j 3)) (held (word ws room j 4))
          (word ws room (suc j) 1) r 0 v (loaded ws (word ws room (suc j) 1)) (store_at room x local ∙ rw t.unset)
          (rw (e, frame_loop ws room (suc j) c, frame_block ws room j t.tagged, t.variable) at pl)

      go : (t : Bool) → armed_seq ws room i x ≡ t → t ≡ false
      go true e = let (j, l, c, t) = armed_seq_frames ws room i x e in absurd (takes j l c t)
      go false e = refl

last_argument : (o : ℕ → Expr) (k : ℕ) (q : ℕ) (v : Value) → passed (arguments o k) (val q v) ≡ none → k ≡ 0
unfolding arguments view value_in
last_argument o zero q v h = refl
last_argument o (suc k) q v h = absurd (let z : ◌≡◌ {A = ℕ} 0 1 = cc in omega arith)

-- a value that is not gone past is the last operand
module _ (ws : List ℕ) (good : (n : ℕ) → n < node_count ws → node_holds ws n ≡ true) (room : List ℕ) (i : ℕ) (v : Value) (q : Proper v) where
  first_word : frame_at i + 0 ≡ frame_at i
  first_word = omega arith

  pub rests_back : (F : Frame) → Under ws F → Words ws (word ws room i) F → Enters F (val 0 v) → Plain (F ∷ frames ws room i) (store_of room) (val 0 v)
      → rests_in ws room (shape_of (tag ws room i)) i (word_of v) ≡ true
  unfolding frame_words shape_of rests_in rests_first kind_of seq_tag ite_tag view value_in plug outer
  rests_back F (Under.cast n) h e pl = let t : tag ws room i ≡ 1 = ap (λ j. get_or room j 0) (sym first_word) ∙ h 0 (omega arith) in rw (t, t)
  rests_back F (Under.add_first n) h e pl = absurd (let z : ◌≡◌ {A = ℕ} 0 1 = cc in omega arith)
  rests_back F (Under.add_second n p) h e pl = let t : tag ws room i ≡ 20 = ap (λ j. get_or room j 0) (sym first_word) ∙ h 0 (omega arith) in rw t
  rests_back F (Under.eq_first n) h e pl = absurd (let z : ◌≡◌ {A = ℕ} 0 1 = cc in omega arith)
  rests_back F (Under.eq_second n p) h e pl = let t : tag ws room i ≡ 21 = ap (λ j. get_or room j 0) (sym first_word) ∙ h 0 (omega arith) in rw t
  rests_back F (Under.assign {p = p} n) h e pl =
      let t : tag ws room i ≡ 6 = ap (λ j. get_or room j 0) (sym first_word) ∙ h 0 (omega arith) in
      let a : word ws room i 1 ≡ p = h 1 (omega arith) in
      rw (t, t, a, no_block ws room i p (node_word ws p 2) v (assign_local ws p (good p n.0) n.1) pl.1)
  rests_back F (Under.get n) h e pl = let t : tag ws room i ≡ 7 = ap (λ j. get_or room j 0) (sym first_word) ∙ h 0 (omega arith) in rw (t, t)
  rests_back F (Under.put_first n) h e pl = absurd (let z : ◌≡◌ {A = ℕ} 0 1 = cc in omega arith)
  rests_back F (Under.put_second n p) h e pl = let t : tag ws room i ≡ 24 = ap (λ j. get_or room j 0) (sym first_word) ∙ h 0 (omega arith) in rw t
  rests_back F (Under.call_first {p = p} n) h e pl =
      let t : tag ws room i ≡ 9 = ap (λ j. get_or room j 0) (sym first_word) ∙ h 0 (omega arith) in
      let a : word ws room i 1 ≡ p = h 1 (omega arith) in
      let b : word ws room i 2 ≡ 0 = h 2 (omega arith) in
      rw (t, a, b) (eq-eqb 0 (node_word ws p 3) (sym (last_argument (operand_of ws p) (node_word ws p 3) 0 v e)))
  rests_back F (Under.call_next {p = p} {vs = vs} n r c m) h e pl =
      let t : tag ws room i ≡ 9 = ap (λ j. get_or room j 0) (sym first_word) ∙ h 0 (omega arith) in
      let a : word ws room i 1 ≡ p = h 1 (omega arith) in
      let b : word ws room i 2 ≡ suc (length vs) = h 2 (omega arith) in
      rw (t, a, b)
      (eq-eqb (suc (length vs)) (node_word ws p 3)
      (omega (arith, m, last_argument (operand_of ws p) (node_word ws p 3 - suc (length vs)) 0 v e)))
  rests_back F (Under.block n k l d o) h e pl = let t : tag ws room i ≡ 10 = ap (λ j. get_or room j 0) (sym first_word) ∙ h 0 (omega arith) in rw t
  rests_back F (Under.seq n) h e pl =
      let t : tag ws room i ≡ 11 = ap (λ j. get_or room j 0) (sym first_word) ∙ h 0 (omega arith) ∙ rw n.1 in rw (t, t)
  rests_back F (Under.loop n) h e pl = let t : tag ws room i ≡ 29 = ap (λ j. get_or room j 0) (sym first_word) ∙ h 0 (omega arith) ∙ rw n.1 in rw t
  rests_back F (Under.if n) h e pl =
      let t : tag ws room i ≡ 12 = ap (λ j. get_or room j 0) (sym first_word) ∙ h 0 (omega arith) ∙ rw n.1 in rw (t, t)
  rests_back F (Under.test n) h e pl = let t : tag ws room i ≡ 13 = ap (λ j. get_or room j 0) (sym first_word) ∙ h 0 (omega arith) ∙ rw n.1 in rw t
  rests_back F (Under.throw n) h e pl =
      let t : tag ws room i ≡ 14 = ap (λ j. get_or room j 0) (sym first_word) ∙ h 0 (omega arith) in
      let a : address_of v ≡ none = e in
      rw (t, t, value_back v q, a)
  rests_back F (Under.try n) h e pl = let t : tag ws room i ≡ 15 = ap (λ j. get_or room j 0) (sym first_word) ∙ h 0 (omega arith) in rw (t, t)

-- a room and a record that pass, and what they are read to
pub record Reads (ws room : List ℕ) (r : Record) (e : Expr) (s : Store) : Type 0 where
  pub passes : paused ws room r ≡ true
  pub state : (hs : List ℕ) → state_in ws hs room r ≡ record { heap = heap_of (program ws) hs; store = s; expr = e }

module _ (ws : List ℕ) (good : (n : ℕ) → n < node_count ws → node_holds ws n ≡ true) (n : ℕ) (f : Found) (o : Over ws f)
    (fits : frame_at (length f.frames) ≤ n) where
  room : List ℕ
  room = room_of ws n f

  high : ℕ
  high = length f.frames

  same_frames : (frames ws room high ≡ f.frames) × ((i : ℕ) → i < high → frame_holds ws (word ws room i) ≡ true)
  unfolding room high
  same_frames = frames_back ws good room f.frames o.above (frame_at_lem ws n f fits)

  reads : (r : Record) (g : Focus) → level_in room r ≡ high → focus_at room r ≡ g → 1 ≤ r.levels
      → focus_holds ws (get_or room 65 0) (get_or room 66 0) (get_or room 67 0) ≡ true
      → resting ws room high g ≡ true
      → r.node ≡ node_in ws room high g
      → focus_of ws g ≡ stands f.here
      → Reads ws room r (plugs block f.frames f.store (stands f.here)) (outers f.frames f.store)
  unfolding room high state_in
  reads r g a b c d e h i =
      record {
        passes =
            passes ws room r
            (record {
              long = rw (a, size ws n f fits) fits;
              counted = c;
              variables_hold = λ x l. rw (variable_at ws n f fits x l) (variable_word (f.store x) (o.set x l));
              no_search = head_at ws n f fits 0 (omega arith);
              focus_holds_lem = d;
              gap = gap_at ws n f fits;
              frames_hold = rw a same_frames.1;
              rest = λ j l m. beyond_at ws n f fits j (rw a at l) (rw (size ws n f fits) at m);
              rests = rw (a, b) e;
              named = rw (a, b) h;
            });
        state =
            λ hs.
            rw (a, b, same_frames.0, store_is ws n f fits o, i, plain_plugs f.frames f.store (stands f.here) o.plain);
      }

-- the innermost frame of a room that is laid out
module _ (ws : List ℕ) (n : ℕ) (F : Frame) (Fs : List Frame) (s : Store) (h : Here) (fits : frame_at (suc (length Fs)) ≤ n) where
  inner : Found
  inner = record { frames = F ∷ Fs; store = s; here = h }

  inner_words : Words ws (word ws (room_of ws n inner) (length Fs)) F
  unfolding inner frame_word
  inner_words k m = frame_at_lem ws n inner fits (length Fs) (omega arith) k m ∙ rw (eq-eqb (length Fs) (length Fs) refl)

  inner_place : around ws (F ∷ Fs) ≡ word ws (room_of ws n inner) (suc (length Fs) - 1) 1
  unfolding around
  inner_place = let z : suc (length Fs) - 1 ≡ length Fs = omega arith in rw z (sym (inner_words 1 (omega arith)))

module _ (ws : List ℕ) (good : (n : ℕ) → n < node_count ws → node_holds ws n ≡ true) (n k : ℕ) where
  reads_found : (Fs : List Frame) (s : Store) (h : Here) → Over ws (record { frames = Fs; store = s; here = h }) → Landed h Fs
      → frame_at (length Fs) ≤ n
      → Reads ws (room_of ws n (record { frames = Fs; store = s; here = h })) (record_of ws k (record { frames = Fs; store = s; here = h }))
      (plugs block Fs s (stands h)) (outers Fs s)
  unfolding room high inner here_words record_of frames_in focus_in focus_holds resting node_in focus_of frames
  reads_found Fs s (leaf e) o m fits =
      let f : Found = record { frames = Fs; store = s; here = leaf e } in
      let a : get_or (room_of ws n f) 65 0 ≡ 1 = head_at ws n f fits 1 (omega arith) in
      let b : get_or (room_of ws n f) 66 0 ≡ place e = head_at ws n f fits 2 (omega arith) in
      let c : get_or (room_of ws n f) 67 0 ≡ 0 = head_at ws n f fits 3 (omega arith) in
      reads ws good n f o fits (record_of ws k f) (Node (place e)) (rw a (omega arith)) (rw (a, b)) (omega arith)
      (rw (a, b, c, lt-ltb (place e) (node_count ws) o.active.0))
      o.active.1
      refl
      (sym o.active.2)
  reads_found [] s (came q v) o m fits = absurd (omega (arith, o.active.2))
  reads_found (F ∷ Fs) s (came q v) o m fits =
      let f : Found = record { frames = F ∷ Fs; store = s; here = came q v } in
      let a : get_or (room_of ws n f) 65 0 ≡ 2 = head_at ws n f fits 1 (omega arith) in
      let b : get_or (room_of ws n f) 66 0 ≡ word_of v = head_at ws n f fits 2 (omega arith) in
      let c : get_or (room_of ws n f) 67 0 ≡ 0 = head_at ws n f fits 3 (omega arith) in
      let z : q ≡ 0 = o.active.0 in
      let p : Proper v = o.active.1 in
      let d : frame ws (room_of ws n f) (length Fs) ∷ frames ws (room_of ws n f) (length Fs) ≡ F ∷ Fs = (same_frames ws good n f o fits).0 in
      let e : frames ws (room_of ws n f) (length Fs) ≡ Fs = cc in
      reads ws good n f o fits (record_of ws k f) (Word (word_of v)) (rw a) (rw (a, b)) (omega arith)
      (rw (a, b, c, value_word v p))
      (rests_back ws good (room_of ws n f) (length Fs) v p F o.above.0 (inner_words ws n F Fs s (came q v) fits) (rw z at m)
      (rw (e, store_is ws n f fits o) (rw z at o.plain)))
      (inner_place ws n F Fs s (came q v) fits)
      (rw (value_back v p, z))
  reads_found [] s (flew p t q x) o m fits = absurd (omega (arith, o.active.4))
  reads_found (F ∷ Fs) s (flew p t q x) o m fits =
      let f : Found = record { frames = F ∷ Fs; store = s; here = flew p t q x } in
      let a : get_or (room_of ws n f) 65 0 ≡ 3 = head_at ws n f fits 1 (omega arith) in
      let b : get_or (room_of ws n f) 66 0 ≡ x = head_at ws n f fits 2 (omega arith) in
      let c : get_or (room_of ws n f) 67 0 ≡ p = head_at ws n f fits 3 (omega arith) in
      reads ws good n f o fits (record_of ws k f) (Thrown x p) (rw a) (rw (a, b, c)) (omega arith)
      (rw (a, b, c, lt-ltb x addresses o.active.3, lt-ltb p (node_count ws) o.active.0))
      refl
      (inner_place ws n F Fs s (flew p t q x) fits)
      (rw (o.active.1, o.active.2))

  -- EVERY LAYOUT PASSES, AND IS READ BACK
  pub laid_back : (e : Expr) (s : Store) → Over ws (route e s []) → frame_at (length (route e s []).frames) ≤ n
      → Reads ws (room_of ws n (route e s [])) (record_of ws k (route e s [])) e s
  unfolding plugs outers
  laid_back e s o fits =
      let u = unroute e s [] tt in
      let f = route e s [] in
      rw (u.expr, u.store) at (reads_found f.frames f.store f.here o u.landed fits)
