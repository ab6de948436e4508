-- What a caller gets: four numbers for each question, and what a run leaves in the heap and the room.
use Rattle.std.specs.Prelude.{◌≡◌, Bool, cond, List, ℕ, eqb, length, replicate}
use Rattle.order.specs.declared.Answer.{Answer}
use Rattle.order.specs.Rules.{answer_of}
use Rattle.rules.specs.Run.{Ended, run_of, heap_after}
use Rattle.rules.specs.Numbers.{check_rules, conform_rules, run_rules, end_numbers}
use Rattle.run.specs.Answers.{end_word}
use Rattle.run.specs.declared.Told.{Told}
use Rattle.muthaveri.specs.declared.MuthaveriAnswer.{MuthaveriAnswer}

-- a number and a place, with no count and no word
abbrev pub of_answer : Answer → MuthaveriAnswer
of_answer a = record { number = a.number; place = a.place; count = 0; value = 0 }

-- the four numbers that are told of a run
abbrev pub of_told : Told → MuthaveriAnswer
of_told t = record { number = t.number; place = t.place; count = t.count; value = t.value }

-- an end: its number and place, the steps taken, and the word that it carries
abbrev pub of_ended : Ended → MuthaveriAnswer
of_ended e =
    record {
      number = (end_numbers e.end).number;
      place = (end_numbers e.end).place;
      count = e.count;
      value = end_word e.end;
    }

-- the first question: the first breach of 1 to 13, or 0 at 0
abbrev pub check_answer : (ws : List ℕ) → MuthaveriAnswer
check_answer ws = of_answer (answer_of (check_rules ws))

-- the second: the first breach of 1 to 10 and 14 to 18, or 0 at 0
abbrev pub conform_answer : (ws hs is : List ℕ) → MuthaveriAnswer
conform_answer ws hs is = of_answer (answer_of (conform_rules ws hs is))

-- The third, of an image, a heap, inputs, lent room and two limits.
module _ (ws hs is lent : List ℕ) (steps depth : ℕ) where
  -- the first breach of 1 to 10, 14 to 16, 19 and 20, or 0 at 0
  abbrev pub refusal : Answer
  refusal = answer_of (run_rules ws hs is (length lent) depth)

  -- the run is let begin
  abbrev pub begins : Bool
  begins = eqb refusal.number 0

  -- the breach, or how the run ends
  unfoldable pub run_answer : MuthaveriAnswer
  run_answer = cond begins (of_ended (run_of ws hs is steps depth)) (of_answer refusal)

  -- the heap as it was, or as the run's steps leave it
  unfoldable pub heap_left : List ℕ
  heap_left = cond begins (heap_after (run_of ws hs is steps depth)) hs

  -- the room as it was, or all 0
  unfoldable pub room_left : List ℕ
  room_left = cond begins (replicate (length lent) 0) lent

  -- what a run promises
  pub record RunAnswers (r : MuthaveriAnswer) (heap' room' : List ℕ) : Type 0 where
    pub answer : r ≡ run_answer
    pub heap : heap' ≡ heap_left
    pub room : room' ≡ room_left
