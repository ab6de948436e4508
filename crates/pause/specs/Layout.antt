-- The layout of a paused run: the words of a room and of its record, and what is read from them.
--   room 0 to 63    the variables as they are at the active place: 0 unset, else value word + 1
--   64              0
--   65, 66, 67      1 n 0: node n, not begun; 2 w 0: value w, come back; 3 a p: address a, thrown at p
--   68 to 79        0
--   80 + 16 i ..    frame i from the root: its tag, its place, and what its shape uses; every other word 0
--   the rest        0
--   record          steps so far; the active node: n, or the innermost frame's place; the constructors from the root to it, itself counted
use Rattle.std.specs.Prelude.{cond, List, [], ◌∷◌, map, ℕ, zero, suc, ◌-◌, ◌/◌, ◌%◌, eqb, ltb, length, get_or}
use Rattle.std.proofs.Math.Option.{Option, none, some}
use Rattle.words.specs.declared.Value.{Value}
use Rattle.words.specs.Value.{word_of}
use Rattle.words.specs.Types.{type_word}
use Rattle.image.specs.Numbers.{variables}
use Rattle.image.specs.Nodes.{node_word}
use Rattle.rules.specs.Maps.{tabulate}
use Rattle.rules.specs.Trees.{Expr, place}
use Rattle.rules.specs.Program.{program}
use Rattle.rules.specs.Heap.{Heap, heap_of}
use Rattle.rules.specs.Step.{Store}
use Rattle.laws.specs.Frames.{Frame, cast_f, add_l, add_r, eqL, eqR, assign_f, get_f, put_l, put_r, call_l, call_r, block_f, seq_f, ite_f, throw_f, try_f}
use Rattle.room.specs.declared.Focus.{Focus}
use Rattle.room.specs.declared.Focus.TheVariants.{Node, Value as Word, Thrown}
use Rattle.room.specs.Room.{search_word, frame_at}
use Rattle.room.specs.Turn.{whole, outside}
use Rattle.pause.specs.declared.Record.{Record}
use Rattle.pause.specs.Route.{Here, leaf, came, flew, Found}

pub record State : Type 0 where
  pub heap : Heap
  pub store : Store
  pub expr : Expr

unfoldable pub held_word : Option Value → ℕ
held_word none = 0
held_word (some v) = suc (word_of v)

-- the tag of an If's frame and of a Seq's, by the kind of the node at its place: 13 is a While, of which they are a round
unfoldable pub ite_tag : ℕ → ℕ
ite_tag kind = cond (eqb kind 13) 13 12

unfoldable pub seq_tag : ℕ → ℕ
seq_tag kind = cond (eqb kind 13) 29 11

-- words 65 to 67
unfoldable pub here_words : Here → List ℕ
here_words (leaf e) = 1 ∷ place e ∷ []
here_words (came q v) = 2 ∷ word_of v ∷ []
here_words (flew p t q a) = 3 ∷ a ∷ p ∷ []

module _ (ws : List ℕ) where
  -- the words of a frame that are used
  unfoldable pub frame_words : Frame → List ℕ
  frame_words (cast_f p c) = 1 ∷ p ∷ []
  frame_words (add_l p b) = 4 ∷ p ∷ []
  frame_words (eqL p b) = 5 ∷ p ∷ []
  frame_words (add_r p q v) = 20 ∷ p ∷ word_of v ∷ []
  frame_words (eqR p q v) = 21 ∷ p ∷ word_of v ∷ []
  frame_words (assign_f p x) = 6 ∷ p ∷ []
  frame_words (get_f p f d) = 7 ∷ p ∷ []
  frame_words (put_l p f d b) = 8 ∷ p ∷ []
  frame_words (put_r p f d q v) = 24 ∷ p ∷ word_of v ∷ []
  frame_words (call_l p m es) = 9 ∷ p ∷ []
  frame_words (call_r p m q v vs es) = 9 ∷ p ∷ suc (length vs) ∷ 0 ∷ 0 ∷ word_of v ∷ map (λ u. word_of u.1) vs
  frame_words (block_f p x t old) = 10 ∷ p ∷ x ∷ type_word t ∷ held_word old ∷ []
  frame_words (seq_f p b) = seq_tag (node_word ws p 0) ∷ p ∷ []
  frame_words (ite_f p a b) = ite_tag (node_word ws p 0) ∷ p ∷ []
  frame_words (throw_f p t) = 14 ∷ p ∷ []
  frame_words (try_f p c x b) = 15 ∷ p ∷ []

  -- word k of frame i from the root
  unfoldable pub frame_word : List Frame → (i k : ℕ) → ℕ
  frame_word [] i k = 0
  frame_word (F ∷ Fs) i k = cond (eqb i (length Fs)) (get_or (frame_words F) k 0) (frame_word Fs i k)

  unfoldable pub room_word : Found → ℕ → ℕ
  room_word f j =
      cond (ltb j variables) (held_word (f.store j))
      (cond (ltb j (frame_at 0)) (get_or (0 ∷ here_words f.here) (j - search_word) 0)
      (frame_word f.frames ((j - frame_at 0) / 16) ((j - frame_at 0) % 16)))

  -- THE ROOM of a length,
  unfoldable pub room_of : (length : ℕ) → Found → List ℕ
  room_of n f = tabulate n (room_word f)

  -- the place of the innermost frame
  unfoldable pub around : List Frame → ℕ
  around [] = 0
  around (F ∷ Fs) = get_or (frame_words F) 1 0

  -- AND THE RECORD.
  unfoldable pub record_of : (steps : ℕ) → Found → Record
  record_of n f = at f.here
    where
      at : Here → Record
      at (leaf e) = record { steps = n; node = place e; levels = suc (length f.frames) }
      at (came q v) = record { steps = n; node = around f.frames; levels = length f.frames }
      at (flew p t q a) = record { steps = n; node = around f.frames; levels = length f.frames }

-- Read back: how many frames there are, what stands at the active place, and the whole.
unfoldable pub frames_in : (how levels : ℕ) → ℕ
frames_in zero levels = levels
frames_in (suc zero) levels = levels - 1
frames_in (suc (suc how)) levels = levels

unfoldable pub focus_in : (how a b : ℕ) → Focus
focus_in zero a b = Thrown a b
focus_in (suc zero) a b = Node a
focus_in (suc (suc zero)) a b = Word a
focus_in (suc (suc (suc how))) a b = Thrown a b

module _ (room : List ℕ) (r : Record) where
  abbrev pub level_in : ℕ
  level_in = frames_in (get_or room 65 0) r.levels

  abbrev pub focus_at : Focus
  focus_at = focus_in (get_or room 65 0) (get_or room 66 0) (get_or room 67 0)

-- THE STATE that a room and a record stand for
unfoldable pub state_in : (ws hs room : List ℕ) → Record → State
state_in ws hs room r =
    record {
      heap = heap_of (program ws) hs;
      store = outside ws room (level_in room r);
      expr = whole ws room (level_in room r) (focus_at room r);
    }
