-- Laws of the room's words: what a write leaves as it was, and what it makes.
use Rattle.std.specs.Prelude.{◌≡◌, Bool, List, ◌∷◌, length, get_or, set}
use Rattle.std.proofs.Math.Path.{refl, ap}
use Rattle.std.proofs.Common.{sym, ◌∙◌, arith}
use Rattle.std.proofs.Math.Bool.{true, false}
use Rattle.std.proofs.Math.Option.{Option}
use Prim.Native.Nat.{ℕ, zero, suc, ◌+◌, ◌-◌, ◌≤◌, ◌<◌}
use Rattle.std.proofs.Math.Decide.{ℕ_discrete}
use Rattle.std.proofs.Math.Dec.{ltb}
use Rattle.std.proofs.Math.ListN.{length-set}
use Rattle.std.proofs.Math.Seq.{get_or-set_same, get_or-set_other}
use borrow.Author.Tests.{ltb-true, lt-ltb, eq-eqb, ne_eqb}
use Rattle.words.specs.declared.Value.{Value}
use Rattle.image.specs.Numbers.{variables}
use Rattle.image.specs.Nodes.{node_word}
use Rattle.words.specs.declared.Ty.{Ty}
use Rattle.words.specs.Types.{type_of}
use Rattle.rules.specs.Maps.{upd}
use Rattle.rules.specs.Trees.{Expr}
use Rattle.rules.specs.Step.{Store, blocked}
use Rattle.laws.specs.Values.{IsValue}
use Rattle.laws.specs.Maps.{upd_same, upd_restore}
use Rattle.laws.specs.Frames.{Frame, block_f, plug, outer, plugs, outers}
use Rattle.room.specs.Room.{most_operands, frame_at, held, store_of, first, second, shape_of, frame_of, word, tag, kept, frame, frames, IsNode, Held, FrameOk, Fit}

-- what stands below frame l is as it was
pub record Kept (old new : List ℕ) (l : ℕ) : Type 0 where
  pub size : length new ≡ length old
  pub same : (j : ℕ) → j < frame_at l → get_or new j 0 ≡ get_or old j 0

pub kept_refl : (room : List ℕ) (l : ℕ) → Kept room room l
kept_refl room l = record { size = refl; same = λ j h. refl }

pub kept_set : {old new : List ℕ} {l : ℕ} (j w : ℕ) → frame_at l ≤ j → Kept old new l → Kept old (set new j w) l
kept_set {old} {new} {l} j w h k =
    record {
      size = length-set new j w ∙ k.size;
      same = λ i m. get_or-set_other new j i w 0 (λ e. let q : i ≡ j = e in omega arith) ∙ k.same i m;
    }

pub kept_lower : {old new : List ℕ} {l m : ℕ} → m ≤ l → Kept old new l → Kept old new m
kept_lower h k = record { size = k.size; same = λ j i. k.same j (omega arith) }

pub store_same : (old new : List ℕ) → ((x : ℕ) → x < variables → get_or new x 0 ≡ get_or old x 0) → store_of new ≡ store_of old
unfolding store_of
store_same old new h i x = go (ltb x variables) refl i
  where
    go : (t : Bool) → ltb x variables ≡ t → store_of new x ≡ store_of old x
    go true e = rw (e, h x (ltb-true x variables e))
    go false e = rw e

pub kept_store : {old new : List ℕ} {l : ℕ} → Kept old new l → store_of new ≡ store_of old
kept_store {old} {new} k = store_same old new (λ x h. k.same x (omega arith))

-- a variable written
pub set_store : (room : List ℕ) (x w : ℕ) → x < variables → x < length room → store_of (set room x w) ≡ upd (store_of room) x (held w)
unfolding store_of upd
set_store room x w h l i y = go (ℕ_discrete x y) i
  where
    go : Dec (x ≡ y) → store_of (set room x w) y ≡ upd (store_of room) x (held w) y
    go (yes e) = rw (eq-eqb x y e, ← e, lt-ltb x variables h, get_or-set_same room x w 0 l)
    go (no d) = rw (ne_eqb x y d, get_or-set_other room x y w 0 (λ e. d (sym e)))

pub store_at : (room : List ℕ) (x : ℕ) → x < variables → store_of room x ≡ held (get_or room x 0)
unfolding store_of
store_at room x h = rw (lt-ltb x variables h)

module _ (ws : List ℕ) where
  -- The words of frame i decide it.
  module _ (old new : List ℕ) (i : ℕ) (same : (j : ℕ) → frame_at i ≤ j → j < frame_at (suc i) → get_or new j 0 ≡ get_or old j 0) where
    kept_same : kept ws new i ≡ kept ws old i
    unfolding kept
    kept_same n k = go (ltb k most_operands) refl n
      where
        go : (t : Bool) → ltb k most_operands ≡ t → kept ws new i k ≡ kept ws old i k
        go true e =
            let l = ltb-true k most_operands e in
            rw (e, same (frame_at i + (5 + k)) (omega arith) (omega arith))
        go false e = rw e

    tag_same : tag ws new i ≡ tag ws old i
    tag_same = same (frame_at i) (omega arith) (omega arith)

    word_same : (k : ℕ) → k < 5 → word ws new i k ≡ word ws old i k
    word_same k l = same (frame_at i + k) (omega arith) (omega arith)

    pub frame_same : frame ws new i ≡ frame ws old i
    unfolding frame
    frame_same =
        rw (tag_same, word_same 1 (omega arith), word_same 2 (omega arith), word_same 3 (omega arith), word_same 4 (omega arith), kept_same)

    pub ok_same
        : FrameOk ws (shape_of (tag ws old i)) (tag ws old i) (word ws old i 1) (word ws old i 2) (word ws old i 4) (kept ws old i)
        → FrameOk ws (shape_of (tag ws new i)) (tag ws new i) (word ws new i 1) (word ws new i 2) (word ws new i 4) (kept ws new i)
    ok_same h = rw (tag_same, word_same 1 (omega arith), word_same 2 (omega arith), word_same 4 (omega arith), kept_same) h

  pub frames_same : (old new : List ℕ) (l : ℕ) → ((j : ℕ) → frame_at 0 ≤ j → j < frame_at l → get_or new j 0 ≡ get_or old j 0)
      → frames ws new l ≡ frames ws old l
  unfolding frames
  frames_same old new zero h = refl
  frames_same old new (suc i) h =
      rw (frame_same old new i (λ j a b. h j (omega arith) b), frames_same old new i (λ j a b. h j a (omega arith)))

  pub kept_frames : {old new : List ℕ} {l : ℕ} → Kept old new l → frames ws new l ≡ frames ws old l
  kept_frames {old} {new} {l} k = frames_same old new l (λ j a b. k.same j b)

  -- the frames when one more is there
  pub frames_more : {old new : List ℕ} {l : ℕ} → Kept old new l → frames ws new (suc l) ≡ frame ws new l ∷ frames ws old l
  unfolding frames
  frames_more k = rw (kept_frames k)

  pub kept_fit : {old new : List ℕ} {l : ℕ} → Kept old new l → Fit ws old l → Fit ws new l
  kept_fit {old} {new} {l} k f =
      record {
        long = rw k.size f.long;
        frame_ok = λ i h. ok_same old new i (λ j a b. k.same j (omega arith)) (f.frame_ok i h);
        held_ok = λ x h. rw (k.same x (omega arith)) (f.held_ok x h);
      }

  pub fit_more : {room : List ℕ} {l : ℕ} → Fit ws room l → frame_at (suc l) ≤ length room
      → FrameOk ws (shape_of (tag ws room l)) (tag ws room l) (word ws room l 1) (word ws room l 2) (word ws room l 4) (kept ws room l)
      → Fit ws room (suc l)
  fit_more {room} {l} f h o =
      record { long = h; frame_ok = λ i k. go i k (ℕ_discrete i l); held_ok = f.held_ok }
    where
      go : (i : ℕ) → i < suc l → Dec (i ≡ l)
          → FrameOk ws (shape_of (tag ws room i)) (tag ws room i) (word ws room i 1) (word ws room i 2) (word ws room i 4) (kept ws room i)
      go i k (yes e) = rw e o
      go i k (no d) = f.frame_ok i (omega arith)

  pub fit_less : {room : List ℕ} {l m : ℕ} → m ≤ l → Fit ws room l → Fit ws room m
  fit_less h f =
      record { long = omega (arith, f.long); frame_ok = λ i k. f.frame_ok i (omega arith); held_ok = f.held_ok }

  -- a variable written
  pub set_frames : (room : List ℕ) (x w l : ℕ) → x < frame_at 0 → frames ws (set room x w) l ≡ frames ws room l
  set_frames room x w l h =
      frames_same room (set room x w) l (λ j a b. get_or-set_other room x j w 0 (λ e. let q : j ≡ x = e in omega arith))

  pub set_fit : {room : List ℕ} {l : ℕ} (x w : ℕ) → x < variables → Held ws w → Fit ws room l → Fit ws (set room x w) l
  set_fit {room} {l} x w h o f =
      record {
        long = rw length-set f.long;
        frame_ok =
            λ i k.
            ok_same room (set room x w) i
            (λ j a b. get_or-set_other room x j w 0 (λ e. let q : j ≡ x = e in omega arith))
            (f.frame_ok i k);
        held_ok = λ y k. go y k (ℕ_discrete y x);
      }
    where
      go : (y : ℕ) → y < variables → Dec (y ≡ x) → Held ws (get_or (set room x w) y 0)
      go y k (yes e) = rw (e, get_or-set_same room x w 0 (omega (arith, f.long))) o
      go y k (no d) = rw (get_or-set_other room x y w 0 d) (f.held_ok y k)

-- a block's frame names a variable
pub fit_variable : {ws room : List ℕ} {i : ℕ} → Fit ws room (suc i) → tag ws room i ≡ 10 → word ws room i 2 < variables
unfolding shape_of
fit_variable {ws} {room} {i} f t = let o = rw t at (f.frame_ok i (omega arith)) in o.0

-- what the words of the last frame are, by its tag
module _ (ws : List ℕ) {room : List ℕ} {i : ℕ} (fit : Fit ws room (suc i)) where
  ok : FrameOk ws (shape_of (tag ws room i)) (tag ws room i) (word ws room i 1) (word ws room i 2) (word ws room i 4) (kept ws room i)
  ok = fit.frame_ok i (omega arith)

  pub fit_first : (k : ℕ) → shape_of k ≡ first → tag ws room i ≡ k → IsNode ws (word ws room i 1) k
  fit_first k e t = let o = rw (t, e) at ok in o

  pub fit_second : (k : ℕ) → shape_of k ≡ second → tag ws room i ≡ k → IsNode ws (word ws room i 1) (k - 16) × IsValue (word ws room i 2)
  fit_second k e t = let o = rw (t, e) at ok in o

  pub fit_call : tag ws room i ≡ 9
      → IsNode ws (word ws room i 1) 9 × (word ws room i 2 ≤ node_word ws (word ws room i 1) 3)
      × ((k : ℕ) → k < word ws room i 2 → IsValue (kept ws room i k))
  unfolding shape_of
  fit_call t = let o = rw t at ok in o

-- a frame's tag and place written
unfoldable pub push : List ℕ → (l tag p : ℕ) → List ℕ
push room l t p = set (set room (frame_at l) t) (frame_at l + 1) p

module _ (ws room : List ℕ) (l t p : ℕ) where
  pub push_kept : Kept room (push room l t p) l
  unfolding push
  push_kept = kept_set (frame_at l + 1) p (omega arith) (kept_set (frame_at l) t (omega arith) (kept_refl room l))

  pub push_tag : frame_at l + 1 < length room → tag ws (push room l t p) l ≡ t
  unfolding push
  push_tag h =
      get_or-set_other (set room (frame_at l) t) (frame_at l + 1) (frame_at l) p 0 (λ e. let q : frame_at l ≡ frame_at l + 1 = e in omega arith)
      ∙ get_or-set_same room (frame_at l) t 0 (omega arith)

  pub push_place : frame_at l + 1 < length room → word ws (push room l t p) l 1 ≡ p
  unfolding push
  push_place h = get_or-set_same (set room (frame_at l) t) (frame_at l + 1) p 0 (rw length-set h)

-- a word of a frame, where another one of it is written, and where it is
other_word : (room : List ℕ) (l a b w : ℕ) → (b ≡ a → ⊥) → get_or (set room (frame_at l + a) w) (frame_at l + b) 0 ≡ get_or room (frame_at l + b) 0
other_word room l a b w d = get_or-set_other room (frame_at l + a) (frame_at l + b) w 0 (λ e. d (let q : frame_at l + b ≡ frame_at l + a = e in omega arith))

other_tag : (room : List ℕ) (l a w : ℕ) → 0 < a → get_or (set room (frame_at l + a) w) (frame_at l) 0 ≡ get_or room (frame_at l) 0
other_tag room l a w d = get_or-set_other room (frame_at l + a) (frame_at l) w 0 (λ e. let q : frame_at l ≡ frame_at l + a = e in omega arith)

-- A frame with a third word: a Call with no value yet, or a node with its first operand's value.
unfoldable pub push3 : List ℕ → (l tag p a : ℕ) → List ℕ
push3 room l t p a = set (push room l t p) (frame_at l + 2) a

module _ (ws room : List ℕ) (l t p a : ℕ) (h : frame_at l + 2 < length room) where
  pub push3_kept : Kept room (push3 room l t p a) l
  unfolding push3
  push3_kept = kept_set (frame_at l + 2) a (omega arith) (push_kept ws room l t p)

  pub push3_tag : tag ws (push3 room l t p a) l ≡ t
  unfolding push3
  push3_tag = other_tag (push room l t p) l 2 a (omega arith) ∙ push_tag ws room l t p (omega arith)

  pub push3_place : word ws (push3 room l t p a) l 1 ≡ p
  unfolding push3
  push3_place = other_word (push room l t p) l 2 1 a (λ e. omega arith) ∙ push_place ws room l t p (omega arith)

  pub push3_third : word ws (push3 room l t p a) l 2 ≡ a
  unfolding push3
  push3_third = get_or-set_same (push room l t p) (frame_at l + 2) a 0 (rw (push_kept ws room l t p).size h)

-- a block's frame, whose variable holds something else inside
pub block_in : (p x : ℕ) (t : Ty) (s : Store) (mv : Option Value) (Fs : List Frame) (e : Expr)
    → plugs blocked (block_f p x t (s x) ∷ Fs) (upd s x mv) e ≡ plugs blocked Fs s (blocked p x t mv e)
unfolding plugs plug outer
block_in p x t s mv Fs e = rw (upd_same s x mv, upd_restore s x mv)

pub block_around : (p x : ℕ) (t : Ty) (s : Store) (mv : Option Value) (Fs : List Frame)
    → outers (block_f p x t (s x) ∷ Fs) (upd s x mv) ≡ outers Fs s
unfolding outers outer
block_around p x t s mv Fs = rw (upd_restore s x mv)

-- A block's frame keeps what its variable x holds outside; inside it holds what w says.
unfoldable pub framed : List ℕ → (l p x t : ℕ) → List ℕ
framed room l p x t = set (set (push3 room l 10 p x) (frame_at l + 3) t) (frame_at l + 4) (get_or room x 0)

unfoldable pub push_block : List ℕ → (l p x t w : ℕ) → List ℕ
push_block room l p x t w = set (framed room l p x t) x w

module _ (ws room : List ℕ) (l p x t w : ℕ) (local : x < variables) (h : frame_at (suc l) ≤ length room) where
  framed_kept : Kept room (framed room l p x t) l
  unfolding framed
  framed_kept =
      kept_set (frame_at l + 4) (get_or room x 0) (omega arith)
      (kept_set (frame_at l + 3) t (omega arith) (push3_kept ws room l 10 p x (omega arith)))

  three : length (push3 room l 10 p x) ≡ length room
  three = (push3_kept ws room l 10 p x (omega arith)).size

  framed_tag : tag ws (framed room l p x t) l ≡ 10
  unfolding framed
  framed_tag =
      other_tag (set (push3 room l 10 p x) (frame_at l + 3) t) l 4 (get_or room x 0) (omega arith)
      ∙ other_tag (push3 room l 10 p x) l 3 t (omega arith)
      ∙ push3_tag ws room l 10 p x (omega arith)

  framed_low : (k : ℕ) → k < 3 → word ws (framed room l p x t) l k ≡ word ws (push3 room l 10 p x) l k
  unfolding framed
  framed_low k m =
      other_word (set (push3 room l 10 p x) (frame_at l + 3) t) l 4 k (get_or room x 0) (λ e. omega arith)
      ∙ other_word (push3 room l 10 p x) l 3 k t (λ e. omega arith)

  framed_type : word ws (framed room l p x t) l 3 ≡ t
  unfolding framed
  framed_type =
      other_word (set (push3 room l 10 p x) (frame_at l + 3) t) l 4 3 (get_or room x 0) (λ e. omega arith)
      ∙ get_or-set_same (push3 room l 10 p x) (frame_at l + 3) t 0 (rw three (omega arith))

  framed_old : word ws (framed room l p x t) l 4 ≡ get_or room x 0
  unfolding framed
  framed_old =
      get_or-set_same (set (push3 room l 10 p x) (frame_at l + 3) t) (frame_at l + 4) (get_or room x 0) 0 (rw (length-set, three) (omega arith))

  block_frame : frame ws (framed room l p x t) l ≡ block_f p x (type_of t) (store_of room x)
  unfolding frame frame_of shape_of
  block_frame =
      rw (
        store_at room x local,
        framed_tag,
        framed_low 1 (omega arith),
        framed_low 2 (omega arith),
        framed_type,
        framed_old,
        push3_place ws room l 10 p x (omega arith),
        push3_third ws room l 10 p x (omega arith),
      )

  pub block_frames : frames ws (push_block room l p x t w) (suc l) ≡ block_f p x (type_of t) (store_of room x) ∷ frames ws room l
  unfolding push_block
  block_frames =
      set_frames ws (framed room l p x t) x w (suc l) (omega arith)
      ∙ frames_more ws framed_kept
      ∙ ap (λ (F : Frame). F ∷ frames ws room l) block_frame

  pub block_store : store_of (push_block room l p x t w) ≡ upd (store_of room) x (held w)
  unfolding push_block
  block_store =
      set_store (framed room l p x t) x w local (rw framed_kept.size (omega arith))
      ∙ ap (λ (s : Store). upd s x (held w)) (kept_store framed_kept)

  pub block_size : length (push_block room l p x t w) ≡ length room
  unfolding push_block
  block_size = length-set (framed room l p x t) x w ∙ framed_kept.size

  -- every word below the frame but the variable's is as it was
  pub block_below : (j : ℕ) → j < frame_at l → (j ≡ x → ⊥) → get_or (push_block room l p x t w) j 0 ≡ get_or room j 0
  unfolding push_block
  block_below j k d = get_or-set_other (framed room l p x t) x j w 0 d ∙ framed_kept.same j k

  -- and so is every word behind the five that it has
  pub block_above : (j : ℕ) → frame_at l + 5 ≤ j → get_or (push_block room l p x t w) j 0 ≡ get_or room j 0
  unfolding push_block framed push3 push
  block_above j k =
      get_or-set_other (framed room l p x t) x j w 0 (λ e. let q : j ≡ x = e in omega arith)
      ∙ get_or-set_other (set (push3 room l 10 p x) (frame_at l + 3) t) (frame_at l + 4) j (get_or room x 0) 0 (λ e. let q : j ≡ frame_at l + 4 = e in omega arith)
      ∙ get_or-set_other (push3 room l 10 p x) (frame_at l + 3) j t 0 (λ e. let q : j ≡ frame_at l + 3 = e in omega arith)
      ∙ get_or-set_other (push room l 10 p) (frame_at l + 2) j x 0 (λ e. let q : j ≡ frame_at l + 2 = e in omega arith)
      ∙ get_or-set_other (set room (frame_at l) 10) (frame_at l + 1) j p 0 (λ e. let q : j ≡ frame_at l + 1 = e in omega arith)
      ∙ get_or-set_other room (frame_at l) j 10 0 (λ e. let q : j ≡ frame_at l = e in omega arith)

  pub block_tag : tag ws (push_block room l p x t w) l ≡ 10
  unfolding push_block
  block_tag = get_or-set_other (framed room l p x t) x (frame_at l) w 0 (λ e. let q : frame_at l ≡ x = e in omega arith) ∙ framed_tag

  pub block_fit : Held ws w → Fit ws room l → Fit ws (push_block room l p x t w) (suc l)
  unfolding push_block shape_of
  block_fit o f =
      set_fit ws x w local o
      (fit_more ws (kept_fit ws framed_kept f) (rw framed_kept.size h)
      (rw (framed_tag, framed_low 2 (omega arith), push3_third ws room l 10 p x (omega arith), framed_old) (local, f.held_ok x local)))

  -- the block with e in it
  pub block_plugs : (e : Expr)
      → plugs blocked (frames ws (push_block room l p x t w) (suc l)) (store_of (push_block room l p x t w)) e
      ≡ plugs blocked (frames ws room l) (store_of room) (blocked p x (type_of t) (held w) e)
  block_plugs e = rw (block_frames, block_store) (block_in p x (type_of t) (store_of room) (held w) (frames ws room l) e)

  pub block_outers
      : outers (frames ws (push_block room l p x t w) (suc l)) (store_of (push_block room l p x t w)) ≡ outers (frames ws room l) (store_of room)
  block_outers = rw (block_frames, block_store) (block_around p x (type_of t) (store_of room) (held w) (frames ws room l))
