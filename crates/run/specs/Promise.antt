-- The run's promise, for the reader: a refusal is the lowest breach of 1 to 10, 14 to 16, 19 and 20, and a run that is not refused
-- ends as the definition's run does. One answer meets the promise, with one heap and one room.
use Rattle.std.specs.Prelude.{◌≡◌, refl, cond, List, [], ◌∷◌, ◌↔◌, ℕ, ◌-◌, ◌≤◌, ltb, length, get_or}
use Rattle.std.proofs.Common.{sym, ◌∙◌, ap, arith}
use Rattle.std.proofs.lemmas.Bool.{eqb-false}
use Rattle.order.specs.declared.Answer.{Answer}
use Rattle.order.specs.Rules.{answer_of, accepted, Tells, Sound}
use Rattle.order.specs.Lowest.{Rising, only, accepts, determined}
use Rattle.image.specs.Layout.{format_rule, trailer_rule, ceiling_rule, class_rule, field_rule, method_rule, type_rule, node_rule, body_rule, record_rules, layout_rules, tested}
use Rattle.layout.specs.Promise.{breach_of, breach_back, breach_range}
use Rattle.rules.specs.declared.End.{End}
use Rattle.rules.specs.Maps.{from}
use Rattle.rules.specs.Program.{program, main}
use Rattle.rules.specs.Heap.{heap_of, values_of}
use Rattle.rules.specs.Step.{load}
use Rattle.rules.specs.Run.{run_of}
use Rattle.rules.specs.Numbers.{fields_rule, heap_length_rule, heap_word_rule, input_rule, depth_rule, room_rule, run_rules}
use Rattle.reduction.proofs.RunLaws.{run_runs, counted}
use Rattle.refusals.specs.declared.Refusal.{Refusal}
use Rattle.refusals.specs.declared.Refusal.TheVariants.{Layout, Fields, HeapLength, HeapWord, Input, Depth, Room}
use Rattle.std.specs.declared.result.Result.TheVariants.{Ok, Err}
use Rattle.refusals.specs.Refusals.{refusal_numbers}
use Rattle.run.specs.Answers.{Ran, Refuses, Ends, Answers}

rising : (ws hs is : List ℕ) (room depth : ℕ) → Rising 0 (run_rules ws hs is room depth)
unfolding run_rules layout_rules record_rules format_rule trailer_rule ceiling_rule class_rule field_rule method_rule type_rule node_rule body_rule tested fields_rule heap_length_rule heap_word_rule input_rule depth_rule room_rule
rising ws hs is room depth = omega arith

-- The enum of refusals is determined by number and place, and no refusal has the number 0.
refusal_of : Answer → Refusal
refusal_of a =
    cond (ltb a.number 10) (Layout (breach_of a))
    (get_or
    (Fields ∷ Fields ∷ Fields ∷ Fields ∷ (λ p. HeapLength) ∷ HeapWord ∷ Input ∷ Input ∷ Input ∷ (λ p. Depth) ∷ (λ p. Room) ∷ [])
    (a.number - 10) Fields a.place)

back : (f : Refusal) → refusal_of (refusal_numbers f) ≡ f
unfolding refusal_of
back (Layout b) = rw ((breach_range b).1, breach_back b)
back (Fields p) = refl
back HeapLength = refl
back (HeapWord p) = refl
back (Input p) = refl
back Depth = refl
back Room = refl

pub same_refusal : (f g : Refusal) → refusal_numbers f ≡ refusal_numbers g → f ≡ g
same_refusal = determined refusal_numbers refusal_of back

pub never_accepted : (f : Refusal) → (refusal_numbers f).number ≡ 0 → ⊥
never_accepted (Layout b) e = eqb-false _ 0 (breach_range b).0 e
never_accepted (Fields p) e = omega (arith, e)
never_accepted HeapLength e = omega (arith, e)
never_accepted (HeapWord p) e = omega (arith, e)
never_accepted (Input p) e = omega (arith, e)
never_accepted Depth e = omega (arith, e)
never_accepted Room e = omega (arith, e)

module _ (ws hs is lent : List ℕ) (steps depth : ℕ) where
  -- a refusal tells the first breach of the run's rules
  pub first_breach : (a : Answer)
      → (a ≡ answer_of (run_rules ws hs is (length lent) depth)) ↔ Tells (run_rules ws hs is (length lent) depth) a
  first_breach = only (run_rules ws hs is (length lent) depth) (rising ws hs is (length lent) depth)

  -- and there is none exactly when no rule of the run is broken anywhere
  pub run_accepted : (answer_of (run_rules ws hs is (length lent) depth) ≡ accepted) ↔ Sound (run_rules ws hs is (length lent) depth)
  run_accepted = accepts (run_rules ws hs is (length lent) depth) (rising ws hs is (length lent) depth)

  both : (f : Refusal) (e : End) (k : ℕ) (heap room heap' room' : List ℕ) → Refuses ws hs is lent steps depth f heap room
      → Ends ws hs is lent steps depth e k heap' room' → ⊥
  both f e k heap room heap' room' a b = never_accepted f (ap (λ (n : Answer). n.number) (a.numbers ∙ b.sound))

  -- two answers that meet the promise are equal, and so are the words that they leave
  pub one_answer : (a b : Ran) (heap room heap' room' : List ℕ) → Answers ws hs is lent steps depth a heap room
      → Answers ws hs is lent steps depth b heap' room'
      → (a ≡ b) × (heap ≡ heap') × (room ≡ room')
  one_answer (Err f) (Err g) heap room heap' room' p q =
      (ap Err (same_refusal f g (p.numbers ∙ sym q.numbers)), p.heap ∙ sym q.heap, p.room ∙ sym q.room)
  one_answer (Ok r) (Ok s) heap room heap' room' p q = (same, p.heap ∙ sym q.heap, p.room ∙ sym q.room)
    where
      same : ◌≡◌ {A = Ran} (Ok r) (Ok s)
      same = rw (p.end, p.count, q.end, q.count)
  one_answer (Err f) (Ok s) heap room heap' room' p q = absurd (both f s.end s.count heap room heap' room' p q)
  one_answer (Ok r) (Err g) heap room heap' room' p q = absurd (both g r.end r.count heap' room' heap room q p)

  -- the count is never above the limit
  pub count_within : (e : End) (k : ℕ) (heap room : List ℕ) → Ends ws hs is lent steps depth e k heap room → k ≤ steps
  unfolding run_of
  count_within e k heap room a =
      rw a.count
      (counted (program ws) steps depth
      (run_runs (program ws) steps depth (load (main ws)) (heap_of (program ws) hs) (from 1 (values_of is))))
