-- Demand 3 for answers: whatever programs gave them, answers that meet the promises of check, conform and run tell no more than this.
use Rattle.std.specs.Prelude.{ℕ, ◌≡◌, List, [], ◌∷◌}
use Rattle.std.proofs.Math.Path.{refl}
use Rattle.std.proofs.Common.{sym, ◌∙◌, arith}
use Rattle.std.proofs.Math.Option.{Option}
use Rattle.order.specs.declared.Answer.{Answer}
use Rattle.order.specs.Rules.{answer_of, accepted}
use Rattle.words.specs.declared.Value.TheVariants.{Addr}
use Rattle.words.specs.declared.Ty.{Ty}
use Rattle.words.specs.Value.{word_of}
use Rattle.words.proofs.ValueLaws.{encode_decode}
use Rattle.rules.specs.declared.End.{End}
use Rattle.rules.specs.declared.End.TheVariants.{Returned, Threw, OutOfSteps, TooDeep, Stuck}
use Rattle.rules.specs.Program.{program, main, main_env}
use Rattle.rules.specs.Typing.{ok, typing}
use Rattle.rules.specs.Heap.{Heap, words_of}
use Rattle.rules.specs.Run.{run_of, heap_after}
use Rattle.image.specs.Layout.{layout_rules}
use Rattle.rules.specs.Numbers.{heap_length_rule, heap_word_rule, input_rule, heap_rule, input_type_rule, check_rules, conform_rules, end_numbers, end_value}
use Rattle.laws.specs.Classes.{Lower}
use Rattle.safety.specs.Conform.{HeapOk, conf_object, below_test}
use Rattle.safety.specs.Safety.{EndOk}
use Rattle.safety.specs.Image.{positive, Rules}
use Rattle.safety.proofs.Image.{all_held, held_answer, held_join, rules_held, accepted_program}
use Rattle.safety.proofs.Heaps.{heap_back, class_word, length_back, words_back, objects_back}
use Rattle.safety.proofs.Demand3.{run_safe}
use Rattle.safety.specs.Answers.{Answered, Ran, Told, end_word, out_of_steps, returned, threw, too_deep}

pub never_stuck : {ws : List ℕ} {t : Ty} {end : Answer} {word : Option ℕ} {heap : List ℕ} → Told ws t end word heap → end.number ≡ 34 → ⊥
never_stuck (returned w v n a b c) e = omega arith
never_stuck (threw w a c n p q r s) e = omega arith
never_stuck (out_of_steps n) e = omega arith
never_stuck (too_deep n) e = omega arith

module _ (ws : List ℕ) (low : Lower (program ws)) (R : Rules ws) (t : Ty) (h : Heap) (hk : HeapOk (program ws) h) where
  tells : (e : End) → EndOk (program ws) t h e → Told ws t (end_numbers e) (end_word (end_value e)) (words_of h)
  unfolding end_numbers end_value
  tells (Returned v) k =
      returned (word_of v) v refl refl (encode_decode v k.proper)
      (rw (heap_back ws low R.fields h hk) (below_test (program ws) low h v t k.below))
  tells (Threw a) k =
      let o = conf_object (program ws) low k in
      let c = class_word ws low R.fields h hk a o.0 o.1 o.2 in
      threw (word_of (Addr a)) a o.0 refl refl (encode_decode (Addr a) k.proper) c.0 c.1
  tells OutOfSteps k = out_of_steps refl
  tells TooDeep k = too_deep refl
  tells (Stuck q) k = absurd k

  heap_answer : answer_of (heap_length_rule (words_of h) ∷ heap_word_rule ws (words_of h) ∷ heap_rule ws (words_of h) ∷ []) ≡ accepted
  heap_answer =
      held_answer (heap_length_rule (words_of h) ∷ heap_word_rule ws (words_of h) ∷ heap_rule ws (words_of h) ∷ [])
      (length_back ws low R.fields h hk, (words_back ws low R.fields h hk, (objects_back ws low R.fields h hk, tt)))

  next_start : (next : List ℕ) → answer_of (input_rule ws next ∷ input_type_rule ws (words_of h) next ∷ []) ≡ accepted
      → answer_of (conform_rules ws (words_of h) next) ≡ accepted
  unfolding conform_rules input_rule input_type_rule positive
  next_start next e =
      let k = all_held (input_rule ws next ∷ input_type_rule ws (words_of h) next ∷ []) refl e in
      let a = length_back ws low R.fields h hk in
      let b = words_back ws low R.fields h hk in
      let c = objects_back ws low R.fields h hk in
      held_answer (conform_rules ws (words_of h) next)
      (held_join (layout_rules ws) _ R.layout (R.fields, (a, (b, (k.0, (c, (k.1.0, tt)))))))

-- one answer meets the promise of a run
pub one_answer : {ws hs is : List ℕ} {steps depth : ℕ} {end end' : Answer} {word word' : Option ℕ} {heap heap' : List ℕ}
    → Ran ws hs is steps depth end word heap → Ran ws hs is steps depth end' word' heap'
    → (end ≡ end') × (word ≡ word') × (heap ≡ heap')
one_answer r q = (r.end_is ∙ sym q.end_is, r.word_is ∙ sym q.word_is, r.heap_is ∙ sym q.heap_is)

-- Demand 3: an accepting check and an accepting conform, whatever runs answer.
pub answers_safe : (ws hs is : List ℕ) (check conform : Answer) → check ≡ answer_of (check_rules ws)
    → conform ≡ answer_of (conform_rules ws hs is)
    → check ≡ accepted → conform ≡ accepted
    → (t : Ty) × (typing (program ws) (main ws) (main_env ws) ≡ ok t)
    × ((steps depth : ℕ) (end : Answer) (word : Option ℕ) (heap : List ℕ) → Ran ws hs is steps depth end word heap
    → Answered ws t end word heap)
unfolding heap_after
answers_safe ws hs is check conform a b p q =
    let R = rules_held ws (sym a ∙ p) in
    let A = accepted_program ws R in
    let s = run_safe ws hs is (sym a ∙ p) (sym b ∙ q) in (
      s.0,
      s.1,
      λ steps depth end word heap m.
          let e = run_of ws hs is steps depth in
          let r = s.2 steps depth in
          rw (m.end_is, m.word_is, m.heap_is)
          (record {
            told = tells ws A.low R s.0 e.heap r.heap_ok e.end r.ends;
            left = heap_answer ws A.low R s.0 e.heap r.heap_ok;
            again = next_start ws A.low R s.0 e.heap r.heap_ok;
          }),
    )
