-- Rows by computation: runs of the bench's images cut at each step, the words of one, and words that are no layout.
use Rattle.std.specs.Prelude.{◌≡◌, refl, Bool, true, false, List, [], ◌∷◌, ◌++◌, map, ℕ, zero, suc, set, take, replicate}
use Rattle.std.proofs.Math.Option.{none}
use Rattle.rules.specs.Maps.{tabulate}
use Rattle.rules.specs.Trees.{place}
use Rattle.rules.specs.Program.{Program, program, main}
use Rattle.rules.specs.Heap.{heap_of}
use Rattle.rules.specs.Step.{Out, load, step}
use Rattle.rules.specs.Computing.{computing}
use Rattle.rules.specs.Bench.{image, heap, doubled, summed, caught}
use Rattle.room.specs.Room.{held, store_of, shape_of}
use Rattle.room.specs.Armed.{armed, armed_seq}
use Rattle.pause.specs.Route.{Found, route}
use Rattle.pause.specs.declared.Record.{Record}
use Rattle.pause.specs.Layout.{State, held_word, ite_tag, seq_tag, here_words, frame_words, frame_word, room_word, room_of, around, record_of, frames_in, focus_in}
use Rattle.pause.specs.Paused.{every, blank, held_holds, steps_alone, makes_block, rests_first, used, is_node, shape_fits, frame_fits, frame_holds, focus_holds, rests_in, resting, node_in, paused}

unfoldable next : State → Out → State
next s (Out.value q v) = s
next s (Out.thrown a) = s
next s (Out.next d q h l e) = record { heap = h; store = l; expr = e }
next s (Out.stuck d q) = s

unfoldable steps : Program → ℕ → State → State
steps P zero s = s
steps P (suc n) s = steps P n (next s (step P s.expr s.heap s.store))

module _ (nodes : List ℕ) where
  -- main's active place after n steps, and its layout in 160 words
  unfoldable cut : ℕ → Found
  cut n =
      let ws = image [] nodes in
      let s = steps (program ws) n (record { heap = heap_of (program ws) (heap 1); store = λ x. none; expr = load (main ws) }) in
      route s.expr s.store []

  unfoldable words : ℕ → List ℕ
  words n = room_of (image [] nodes) 160 (cut n)

  unfoldable told : ℕ → Record
  told n = record_of (image [] nodes) n (cut n)

  unfoldable passes : List ℕ → Record → Bool
  passes room r = paused (image [] nodes) room r

  unfoldable passes_at : ℕ → Bool
  passes_at n = passes (words n) (told n)

-- to unfold this is to unfold all that a layout computes with
unfoldable laying : Unit {0}
unfolding computing place image heap next steps cut words told passes passes_at route held_word ite_tag seq_tag here_words frame_words frame_word room_word room_of around record_of frames_in focus_in every blank held_holds steps_alone makes_block rests_first used is_node shape_fits frame_fits frame_holds focus_holds rests_in resting node_in paused held store_of shape_of armed armed_seq
laying = tt

-- A run is paused at each step, and then final: { V : Integer; V := 1 + 1; V + V }, the same with V := 2, a Try that catches, a While,
-- a Call.
cuts
    : tabulate 6 (passes_at summed)
    ++ (tabulate 5 (passes_at doubled)
    ++ (tabulate 5 (passes_at caught)
    ++ (tabulate 3 (passes_at (2 ∷ 1 ∷ 2 ∷ 0 ∷ 2 ∷ 1 ∷ 0 ∷ 0 ∷ 13 ∷ 3 ∷ 0 ∷ 0 ∷ []))
    ++ tabulate 6 (passes_at (0 ∷ 1 ∷ 4 ∷ 0 ∷ 9 ∷ 2 ∷ 9 ∷ 0 ∷ [])))))
    ≡ (true ∷ true ∷ true ∷ true ∷ true ∷ false ∷ [])
    ++ ((true ∷ true ∷ true ∷ true ∷ false ∷ [])
    ++ ((true ∷ true ∷ true ∷ true ∷ false ∷ [])
    ++ ((true ∷ true ∷ false ∷ []) ++ (true ∷ true ∷ true ∷ true ∷ true ∷ false ∷ []))))
unfolding laying
cuts = refl

-- The words of the first at step 0: 1 has come to the second operand of the Add (4), under V := .. (5), the Seq (9) and the Block (10).
one : ℕ
one = 12884901889

shown : words summed 0
    ≡ replicate 65 0
    ++ ((2 ∷ one ∷ 0 ∷ replicate 12 0)
    ++ ((10 ∷ 10 ∷ 1 ∷ 2 ∷ 0 ∷ replicate 11 0)
    ++ ((11 ∷ 9 ∷ replicate 14 0) ++ ((6 ∷ 5 ∷ replicate 14 0) ++ ((20 ∷ 4 ∷ one ∷ replicate 13 0) ++ replicate 16 0)))))
unfolding laying one
shown = refl

named : told summed 0 ≡ record { steps = 0; node = 4; levels = 4 }
unfolding laying
named = refl

-- One word of them changed. Another value there, or in a variable, is another expression's layout; the rest are none's: New's search,
-- a gap, another way to stand, no value, no node, two other kinds, the null type, a word that is not used, the room's end.
changed : map (λ (c : ℕ × ℕ). passes summed (set (words summed 0) c.0 c.1) (told summed 0))
    ((66, 0) ∷ (5, 1) ∷ (64, 1) ∷ (68, 1) ∷ (65, 1) ∷ (66, 1) ∷ (81, 11) ∷ (81, 9) ∷ (128, 21) ∷ (83, 3) ∷ (98, 1) ∷ (159, 1) ∷ [])
    ≡ true ∷ true ∷ false ∷ false ∷ false ∷ false ∷ false ∷ false ∷ false ∷ false ∷ false ∷ false ∷ []
unfolding laying
changed = refl

-- V := 1 under the Seq under its block: none's layout while V is unset, since the block remembers; and one's where V is set.
unfoldable taken : ℕ → Bool
taken v =
    passes summed (set (take 128 (words summed 0) ++ replicate 32 0) 1 v) (record { steps = 0; node = 5; levels = 3 })

takes_up : map taken (0 ∷ 1 ∷ []) ≡ false ∷ true ∷ []
unfolding laying taken
takes_up = refl

-- another active node, no level, one level less, and a room that its frames do not lie in
records
    : passes summed (words summed 0) (record { steps = 0; node = 5; levels = 4 })
    ∷ passes summed (words summed 0) (record { steps = 0; node = 4; levels = 0 })
    ∷ passes summed (words summed 0) (record { steps = 0; node = 5; levels = 3 })
    ∷ passes summed (take 140 (words summed 0)) (told summed 0)
    ∷ passes summed (take 144 (words summed 0)) (told summed 0)
    ∷ []
    ≡ false ∷ false ∷ false ∷ false ∷ true ∷ []
unfolding laying
records = refl
