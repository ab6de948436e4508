-- WHICH ROOMS AND RECORDS ARE A PAUSED RUN'S: what number 21 asks, by words.
use Rattle.std.specs.Prelude.{Bool, true, false, not, ◌&&◌, ◌||◌, List, ℕ, zero, suc, ◌+◌, ◌-◌, eqb, ltb, leb, length, get_or, is_some}
use Rattle.std.proofs.Math.Option.{Option, none, some}
use Rattle.words.specs.Value.{addresses, value_of}
use Rattle.words.specs.Types.{is_declared}
use Rattle.image.specs.declared.Kind.{Kind}
use Rattle.image.specs.declared.Kind.TheVariants.{New, Cast, Value as Literal, Var, Add, Eq, Assign, Get, Set, Call, Block, Seq, If, While, Throw, Try, Unknown}
use Rattle.image.specs.Numbers.{variables}
use Rattle.image.specs.Trailer.{class_count, node_count}
use Rattle.image.specs.Nodes.{node_word, kind_of}
use Rattle.laws.specs.Values.{value_at}
use Rattle.room.specs.declared.Focus.{Focus}
use Rattle.room.specs.declared.Focus.TheVariants.{Node, Value as Word, Thrown}
use Rattle.room.specs.Room.{search_word, frame_at, Shape, first, second, operands, block, test, loop, nothing, shape_of, word, tag}
use Rattle.room.specs.Armed.{armed_seq}
use Rattle.pause.specs.Route.{address_of}
use Rattle.pause.specs.declared.Record.{Record}
use Rattle.pause.specs.Layout.{level_in, focus_at}

-- the first n of them hold
unfoldable pub every : (ℕ → Bool) → ℕ → Bool
every f zero = true
every f (suc n) = every f n && f n

-- n words from a on are 0
unfoldable pub blank : (ℕ → ℕ) → (a n : ℕ) → Bool
blank w a n = every (λ k. eqb (w (a + k)) 0) n

abbrev pub is_word : ℕ → Bool
is_word w = is_some (value_of w)

-- a variable's word
unfoldable pub held_holds : ℕ → Bool
held_holds zero = true
held_holds (suc w) = is_word w

abbrev pub is_none : {A : Type 0} → Option A → Bool
is_none none = true
is_none (some a) = false

-- the kinds that step as they stand: New, Var, While
unfoldable pub steps_alone : ℕ → Bool
steps_alone kind = eqb kind 0 || eqb kind 3 || eqb kind 13

-- the kinds that make blocks: Call, Block, Try
unfoldable pub makes_block : ℕ → Bool
makes_block kind = eqb kind 9 || eqb kind 10 || eqb kind 15

-- whether a node whose first operand is a value is at rest; a Throw is not if it is an address, an assignment if a block takes it up
unfoldable pub rests_first : Kind → (plain : Bool) → (taken : Bool) → Bool
rests_first New plain taken = false
rests_first Cast plain taken = true
rests_first Literal plain taken = false
rests_first Var plain taken = false
rests_first Add plain taken = false
rests_first Eq plain taken = false
rests_first Assign plain taken = not taken
rests_first Get plain taken = true
rests_first Set plain taken = false
rests_first Call plain taken = false
rests_first Block plain taken = false
rests_first Seq plain taken = true
rests_first If plain taken = true
rests_first While plain taken = false
rests_first Throw plain taken = plain
rests_first Try plain taken = true
rests_first Unknown plain taken = false

-- whether a frame of a shape, whose third word is a, uses word k
unfoldable pub used : Shape → (a k : ℕ) → Bool
used first a k = ltb k 2
used second a k = ltb k 3
used operands a k = ltb k 3 || (leb 5 k && ltb k (5 + a))
used block a k = ltb k 5
used test a k = ltb k 2
used loop a k = ltb k 2
used nothing a k = false

module _ (ws : List ℕ) where
  unfoldable pub is_node : (p kind : ℕ) → Bool
  is_node p kind = ltb p (node_count ws) && eqb (node_word ws p 0) kind

  -- the words of a frame that are used, by its shape
  unfoldable pub shape_fits : Shape → (w : ℕ → ℕ) → Bool
  shape_fits first w = is_node (w 1) (w 0)
  shape_fits second w = is_node (w 1) (w 0 - 16) && is_word (w 2)
  shape_fits operands w = is_node (w 1) 9 && leb (w 2) (node_word ws (w 1) 3) && every (λ k. is_word (w (5 + k))) (w 2)
  shape_fits block w =
      ltb (w 1) (node_count ws) && makes_block (node_word ws (w 1) 0) && ltb (w 2) variables && is_declared (w 3) (class_count ws) && held_holds (w 4)
  shape_fits test w = is_node (w 1) 13
  shape_fits loop w = is_node (w 1) 13
  shape_fits nothing w = false

  unfoldable pub frame_fits : (w : ℕ → ℕ) → Bool
  frame_fits w = shape_fits (shape_of (w 0)) w

  -- they fit, and the others are 0
  unfoldable pub frame_holds : (w : ℕ → ℕ) → Bool
  frame_holds w = frame_fits w && every (λ k. used (shape_of (w 0)) (w 2) k || eqb (w k) 0) 16

  -- words 65 to 67
  unfoldable pub focus_holds : (how a b : ℕ) → Bool
  focus_holds zero a b = false
  focus_holds (suc zero) a b = ltb a (node_count ws) && eqb b 0
  focus_holds (suc (suc zero)) a b = is_word a && eqb b 0
  focus_holds (suc (suc (suc zero))) a b = ltb a addresses && ltb b (node_count ws)
  focus_holds (suc (suc (suc (suc how)))) a b = false

  module _ (room : List ℕ) where
    -- a value w has come to frame i, which is of that shape
    unfoldable pub rests_in : Shape → (i w : ℕ) → Bool
    rests_in first i w =
        rests_first (kind_of (tag ws room i)) (is_none (address_of (value_at w))) (armed_seq ws room i (node_word ws (word ws room i 1) 2))
    rests_in second i w = true
    rests_in operands i w = eqb (word ws room i 2) (node_word ws (word ws room i 1) 3)
    rests_in block i w = true
    rests_in test i w = true
    rests_in loop i w = true
    rests_in nothing i w = false

    -- ALL MOVES ARE MADE: the active place is about to step, under l frames.
    unfoldable pub resting : (l : ℕ) → Focus → Bool
    resting l (Node n) = steps_alone (node_word ws n 0)
    resting zero (Word w) = false
    resting (suc i) (Word w) = rests_in (shape_of (tag ws room i)) i w
    resting zero (Thrown a p) = false
    resting (suc i) (Thrown a p) = true

    -- the node that the record must name
    unfoldable pub node_in : (l : ℕ) → Focus → ℕ
    node_in l (Node n) = n
    node_in l (Word w) = word ws room (l - 1) 1
    node_in l (Thrown a p) = word ws room (l - 1) 1

    unfoldable pub paused : Record → Bool
    paused r =
        leb (frame_at (level_in room r)) (length room)
        && leb 1 r.levels
        && every (λ x. held_holds (get_or room x 0)) variables
        && eqb (get_or room search_word 0) 0
        && focus_holds (get_or room 65 0) (get_or room 66 0) (get_or room 67 0)
        && blank (λ j. get_or room j 0) 68 12
        && every (λ i. frame_holds (word ws room i)) (level_in room r)
        && blank (λ j. get_or room j 0) (frame_at (level_in room r)) (length room - frame_at (level_in room r))
        && resting (level_in room r) (focus_at room r)
        && eqb r.node (node_in (level_in room r) (focus_at room r))

-- a room and a record that start a run: all 0
unfoldable pub fresh : (room : List ℕ) → Record → Bool
fresh room r =
    every (λ j. eqb (get_or room j 0) 0) (length room) && eqb r.steps 0 && eqb r.node 0 && eqb r.levels 0
