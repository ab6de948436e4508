-- Demand 3 for programs: three answers, whoever gave them, that meet the promises of check, conform and run. The statement comes first.
use Rattle.std.specs.Prelude.{ℕ, zero, suc, ◌≡◌, refl, Bool, true, List, [], ◌∷◌, length}
use Rattle.std.proofs.Common.{sym, ◌∙◌, ap, le-leb}
use Rattle.std.proofs.Math.Option.{Option, some, some-injective}
use Rattle.order.specs.declared.Answer.{Answer}
use Rattle.order.specs.Rules.{answer_of, accepted}
use Rattle.words.specs.declared.Ty.{Ty}
use Rattle.image.specs.Layout.{tested, layout_rules}
use Rattle.rules.specs.declared.End.{End}
use Rattle.rules.specs.declared.End.TheVariants.{Returned, Threw, OutOfSteps, TooDeep, Stuck}
use Rattle.rules.specs.Numbers.{room_words, depth_rule, room_rule, check_rules, conform_rules, run_rules, end_numbers, end_value}
use Rattle.safety.specs.Sets.{no_one}
use Rattle.safety.specs.Image.{Held}
use Rattle.safety.proofs.Image.{held_answer, held_join, rules_held}
use Rattle.safety.proofs.Heaps.{start_held}
use Rattle.safety.specs.Answers.{Ran as RunAnswer, end_word, Answered}
use Rattle.safety.proofs.Answers.{answers_safe, never_stuck as not_stuck}
use Rattle.image_check.specs.Answers.{checked_numbers}
use Rattle.conform.specs.Answers.{conformed_numbers}
use Rattle.run.specs.Answers.{Ran, Over, ran_numbers, told_of, Answers}
use Rattle.std.specs.declared.result.Result.TheVariants.{Ok, Err}
use Rattle.refusals.specs.JudgedLaws.{depth_fine}
use Rattle.run.specs.Promise.{never_accepted, count_within}
use Rattle.promises.specs.Demand3.{Demand3, Enough, SafeAnswer}

-- THE PROOF
one_held : (n : ℕ) (b : Bool) → b ≡ true → Held (tested n (b ∷ []))
unfolding tested
one_held n b e zero l = e
one_held n b e (suc p) l = refl

module _ (ws hs is : List ℕ) (checked : answer_of (check_rules ws) ≡ accepted) (started : answer_of (conform_rules ws hs is) ≡ accepted) where
  -- a run asks rules of the two checks, and 19 and 20
  no_breach : (lent : List ℕ) (depth : ℕ) → Enough lent depth → answer_of (run_rules ws hs is (length lent) depth) ≡ accepted
  unfolding run_rules depth_rule room_rule
  no_breach lent depth n =
      let S = start_held ws hs is started in
      let d = one_held 19 _ (depth_fine depth n.least n.most) in
      let m = one_held 20 _ (le-leb (room_words depth) (length lent) n.room) in
      held_answer (run_rules ws hs is (length lent) depth)
      (held_join (layout_rules ws) _ (rules_held ws checked).layout
      (S.fields, (S.length, (S.words, (S.inputs, (d, (m, tt)))))))

  module _ (t : Ty) (lent : List ℕ) (steps depth : ℕ) (n : Enough lent depth)
      (safe : (end : Answer) (word : Option ℕ) (heap : List ℕ) → RunAnswer ws hs is steps depth end word heap
      → Answered ws t end word heap) where
    safe_answer : (r : Ran) (heap' room' : List ℕ) → Answers ws hs is lent steps depth r heap' room' → SafeAnswer ws lent t steps r heap' room'
    safe_answer (Err f) heap' room' a =
        absurd (never_accepted f (ap (λ (b : Answer). b.number) (a.numbers ∙ no_breach lent depth n)))
    safe_answer (Ok r) heap' room' a =
        record {
          end = r.end;
          count = r.count;
          ended = refl;
          answered =
              safe (end_numbers r.end) (end_word (end_value r.end)) heap'
              (record {
                end_is = ap end_numbers a.end;
                word_is = ap (λ (d : End). end_word (end_value d)) a.end;
                heap_is = a.heap;
              });
          within = count_within ws hs is lent steps depth r.end r.count heap' room' a;
          cleared = a.room;
        }

pub demand_3 : Demand3
demand_3 ws hs is check conform l =
    let a : answer_of (check_rules ws) ≡ accepted = sym l.check_promise ∙ ap checked_numbers l.check_accepts in
    let b : answer_of (conform_rules ws hs is) ≡ accepted = sym l.conform_promise ∙ ap conformed_numbers l.conform_accepts in
    let s = answers_safe ws hs is accepted accepted (sym a) (sym b) refl refl in (
      s.0,
      s.1,
      λ lent steps depth n. safe_answer ws hs is a b s.0 lent steps depth n (s.2 steps depth),
    )

-- In particular its number is not 34.
pub never_stuck : {ws lent : List ℕ} {t : Ty} {steps : ℕ} {r : Ran} {heap' room' : List ℕ}
    → SafeAnswer ws lent t steps r heap' room' → (ran_numbers r).number ≡ 34 → ⊥
never_stuck s e = not_stuck s.answered.told (rw s.ended at e)

-- The word that an end carries is the one that a caller gets with the answer's numbers.
pub same_word : (e : End) (k w : ℕ) → end_word (end_value e) ≡ some w → (told_of (Over e k)).value ≡ w
unfolding end_value
same_word (Returned v) k w e = some-injective _ w e
same_word (Threw a) k w e = some-injective _ w e
same_word OutOfSteps k w e = no_one e
same_word TooDeep k w e = no_one e
same_word (Stuck q) k w e = no_one e
