-- The run's answer as numbers is the one promised; and one answer meets each promise.
use Rattle.std.specs.Prelude.{◌≡◌, false, List, ℕ, eqb}
use Rattle.std.proofs.Common.{sym, ◌∙◌, ne_eqb}
use Rattle.refusals.specs.declared.Refusal.{Refusal}
use Rattle.std.specs.declared.result.Result.TheVariants.{Ok, Err}
use Rattle.refusals.specs.Refusals.{refusal_numbers}
use Rattle.run.specs.Answers.{Ran, told_of, Answers}
use Rattle.run.specs.Promise.{never_accepted}
use Rattle.muthaveri.specs.declared.MuthaveriAnswer.{MuthaveriAnswer}
use Rattle.muthaveri.specs.Answers.{of_told, check_answer, conform_answer, run_answer, heap_left, room_left, RunAnswers}

-- no refusal has the number 0
refusal_told : (f : Refusal) → eqb (refusal_numbers f).number 0 ≡ false
refusal_told f = ne_eqb _ 0 (never_accepted f)

module _ (ws hs is lent : List ℕ) (steps depth : ℕ) where
  -- an answer of the run, told in numbers, meets the promise
  pub meets : (a : Ran) (heap room : List ℕ) → Answers ws hs is lent steps depth a heap room
      → RunAnswers ws hs is lent steps depth (of_told (told_of a)) heap room
  unfolding run_answer heap_left room_left
  meets (Err f) heap room p =
      record {
        answer = rw (sym p.numbers, refusal_told f);
        heap = rw (sym p.numbers, refusal_told f) p.heap;
        room = rw (sym p.numbers, refusal_told f) p.room;
      }
  meets (Ok r) heap room p =
      record {
        answer = rw (p.sound, p.end, p.count);
        heap = rw p.sound p.heap;
        room = rw p.sound p.room;
      }

  -- two answers that meet the promise of a run are equal, and so are the words that they leave
  pub one_run : (a b : MuthaveriAnswer) (heap room heap' room' : List ℕ) → RunAnswers ws hs is lent steps depth a heap room
      → RunAnswers ws hs is lent steps depth b heap' room'
      → (a ≡ b) × (heap ≡ heap') × (room ≡ room')
  one_run a b heap room heap' room' p q =
      (p.answer ∙ sym q.answer, p.heap ∙ sym q.heap, p.room ∙ sym q.room)

-- and so with the two checks
pub one_check : (ws : List ℕ) (a b : MuthaveriAnswer) → a ≡ check_answer ws → b ≡ check_answer ws → a ≡ b
one_check ws a b p q = p ∙ sym q

pub one_conform : (ws hs is : List ℕ) (a b : MuthaveriAnswer) → a ≡ conform_answer ws hs is → b ≡ conform_answer ws hs is → a ≡ b
one_conform ws hs is a b p q = p ∙ sym q
