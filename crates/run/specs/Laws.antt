-- Laws: what a run begins with, and what its tests bring.
use Rattle.std.specs.Prelude.{◌≡◌, true, ◌&&◌, List, ℕ, suc, ◌/◌, ◌%◌, ◌≤◌, ◌<◌, eqb, ltb, length, get_or}
use native.Mathlib.Omega.{arith}
use Rattle.std.proofs.Math.Dec.{leb}
use borrow.Author.Tests.{ltb-true, lt-ltb, leb-true, le-ltb, eqb-true, ne_eqb}
use Rattle.order.specs.Rules.{first_place, accepted, or_else, answer_of}
use Rattle.order.specs.Lowest.{held, after_broken, after_sound}
use Rattle.std.specs.declared.option.Option.TheVariants.{Some, None}
use Rattle.image.specs.declared.Breach.{Breach}
use Rattle.image.specs.Laws.{and_left, and_right}
use Rattle.image.specs.declared.Layout.{Layout}
use Rattle.image.specs.Numbers.{most_inputs}
use Rattle.image.specs.Trailer.{method_count, node_count, main_node, input_count}
use Rattle.image.specs.Nodes.{node_word, spans, body_start, body_holds, filled_holds}
use Rattle.image.specs.Layout.{layout_rules, breach_numbers, Good}
use Rattle.layout.specs.Promise.{breach_told, layout_rising}
use Rattle.rules.specs.Program.{program, main}
use Rattle.rules.specs.Run.{run, run_of}
use Rattle.rules.specs.Heap.{slot_words, heap_of}
use Rattle.laws.specs.Frames.{plugs, outers}
use Rattle.rules.specs.Numbers.{most_slots, fewest_slots, room_words, fields_rule, heap_length_holds, heap_word_rule, input_holds, input_rule, run_rules}
use Rattle.laws.specs.Values.{IsValue}
use Rattle.laws.specs.Heap.{words}
use Rattle.heap.specs.WordLaws.{inputs_count}
use Rattle.room.specs.Room.{frames}
use Rattle.room.specs.declared.Focus.TheVariants.{Node}
use Rattle.room.specs.Turn.{HeapOk, focus_of, whole, outside, Inv}
use Rattle.refusals.specs.Judged.{lent_rules, Free}
use Rattle.start.specs.Start.{Filled}
use Rattle.start.specs.StartLaws.{filled_store, filled_fit}

-- What a run that nothing stands against begins with.
module _ (ws hs is : List ℕ) (room depth : ℕ) (free : Free ws hs is room depth) where
  pub heap_ok : first_place (fields_rule ws) ≡ None → HeapOk ws hs 0
  unfolding fields_rule heap_word_rule heap_length_holds
  heap_ok few =
      let long = free.heap_length in
      record {
        words = words ws hs (held (fields_rule ws) few) long (held (heap_word_rule ws hs) free.heap_words);
        size =
            omega (
              arith,
              eqb-true (length hs % slot_words) 0
                  (and_left (eqb (length hs % slot_words) 0) (leb fewest_slots (length hs / slot_words))
                  (and_left (eqb (length hs % slot_words) 0 && leb fewest_slots (length hs / slot_words)) (leb (length hs / slot_words) most_slots) long)),
              leb-true (length hs / slot_words) most_slots
                  (and_right (eqb (length hs % slot_words) 0 && leb fewest_slots (length hs / slot_words)) (leb (length hs / slot_words) most_slots) long),
            );
        low = omega arith;
        taken = λ a h. absurd (omega arith);
      }

  pub inputs_few : (l : Layout) → Good ws l → length is ≤ most_inputs
  inputs_few l g = omega (arith, inputs_count ws is free.inputs, g.lay.inputs, g.small.inputs)

  pub inputs_values : (k : ℕ) → k < length is → IsValue (get_or is k 0)
  unfolding input_rule input_holds
  inputs_values k h =
      let e = inputs_count ws is free.inputs in
      let q = held (input_rule ws is) free.inputs k (omega arith) in
      let z : k ≡ input_count ws → ⊥ = λ y. omega arith in
      rw (ne_eqb k (input_count ws) z, lt-ltb k (length is) h) at q

main_below : (ws : List ℕ) → filled_holds ws (method_count ws) ≡ true → main_node ws < node_count ws
unfolding filled_holds body_holds
main_below ws h =
    let b = body_start ws (method_count ws) in
    let n = main_node ws in
    let q : (body_holds ws b n && eqb (suc n) (node_count ws)) ≡ true = rw (le-ltb (method_count ws) (method_count ws) (omega arith)) at h in
    ltb-true n (node_count ws)
    (and_left (ltb n (node_count ws)) (spans b n (node_word ws n 1)) (and_left (body_holds ws b n) (eqb (suc n) (node_count ws)) q))

-- The start of the definition's run is the machine's.
module _ (ws is room : List ℕ) (l : Layout) (g : Good ws l) (f : Filled is room (length is)) (few : length is ≤ most_inputs)
    (values : (k : ℕ) → k < length is → IsValue (get_or is k 0)) where
  pub begins : (depth : ℕ) → room_words depth ≤ length room → Inv ws depth room 0 (Node l.main)
  begins depth h =
      record {
        fit = filled_fit f few ws values (omega arith);
        level = omega arith;
        long = h;
        here = main_node_lem;
      }
    where
      main_node_lem : l.main < node_count ws
      main_node_lem = rw g.lay.main (main_below ws (g.bodies (method_count ws) (omega arith)))

  pub same_start : (hs : List ℕ) (steps depth : ℕ)
      → run depth (program ws) steps 0 (heap_of (program ws) hs) (outside ws room 0) (whole ws room 0 (Node l.main))
      ≡ run_of ws hs is steps depth
  unfolding run_of main frames plugs outers focus_of
  same_start hs steps depth = rw (filled_store f few, g.lay.main)

-- a refusal of the layout, and what is asked when there is none
module _ (ws hs is : List ℕ) (room depth : ℕ) where
  pub layout_broken : (b : Breach) → breach_numbers b ≡ answer_of (layout_rules ws) → breach_numbers b ≡ answer_of (run_rules ws hs is room depth)
  unfolding run_rules
  layout_broken b e = after_broken (layout_rules ws) _ (breach_numbers b) e (breach_told b)

  pub layout_sound : accepted ≡ answer_of (layout_rules ws)
      → or_else 10 (first_place (fields_rule ws)) (answer_of (lent_rules ws hs is room depth)) ≡ answer_of (run_rules ws hs is room depth)
  unfolding run_rules lent_rules answer_of fields_rule
  layout_sound e = after_sound 0 (layout_rules ws) _ (layout_rising ws) e

  -- what the answers are, by what was found
  pub fields_refused : (p : ℕ) → accepted ≡ answer_of (layout_rules ws) → first_place (fields_rule ws) ≡ Some p
      → record { number = 10; place = p } ≡ answer_of (run_rules ws hs is room depth)
  fields_refused p e f = rw f at (layout_sound e)

  pub lent_asked : accepted ≡ answer_of (layout_rules ws) → first_place (fields_rule ws) ≡ None
      → answer_of (lent_rules ws hs is room depth) ≡ answer_of (run_rules ws hs is room depth)
  lent_asked e f = rw f at (layout_sound e)
