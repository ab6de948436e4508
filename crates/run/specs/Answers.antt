-- The answers to a run: the number and place of each, and what each promises.
use Rattle.std.specs.Prelude.{◌≡◌, List, ℕ, length, replicate}
use Rattle.order.specs.Rules.{accepted, answer_of}
use Rattle.order.specs.declared.Answer.{Answer}
use Rattle.words.specs.declared.Value.TheVariants.{Addr}
use Rattle.words.specs.Value.{word_of}
use Rattle.rules.specs.declared.End.{End}
use Rattle.rules.specs.declared.End.TheVariants.{Returned, Threw, OutOfSteps, TooDeep, Stuck}
use Rattle.rules.specs.Run.{run_of, heap_after}
use Rattle.rules.specs.Numbers.{run_rules, end_numbers}
use Rattle.refusals.specs.Refusals.{refusal_numbers}
use Rattle.refusals.specs.declared.Refusal.{Refusal}
use Rattle.run.specs.declared.Told.{Told}
use Rattle.ends.specs.declared.Finished.{Finished}
use Rattle.std.specs.declared.result.Result.{Result}
use Rattle.std.specs.declared.result.Result.TheVariants.{Ok, Err}

-- the answer to a run: a refusal, or an end and a count
abbrev pub Ran : Type 0
Ran = Result Finished Refusal

abbrev pub Refused : Refusal → Ran
Refused f = Err f

abbrev pub Over : End → (count : ℕ) → Ran
Over e k = Ok (record { end = e; count = k })

abbrev pub ran_numbers : Ran → Answer
ran_numbers (Err f) = refusal_numbers f
ran_numbers (Ok r) = end_numbers r.end

-- the word that an end carries, and what a caller gets of an answer
abbrev pub end_word : End → ℕ
end_word (Returned v) = word_of v
end_word (Threw a) = word_of (Addr a)
end_word OutOfSteps = 0
end_word TooDeep = 0
end_word (Stuck q) = 0

abbrev pub told_of : Ran → Told
told_of (Err f) =
    record { number = (refusal_numbers f).number; place = (refusal_numbers f).place; count = 0; value = 0 }
told_of (Ok r) =
    record { number = (end_numbers r.end).number; place = (end_numbers r.end).place; count = r.count; value = end_word r.end }

module _ (ws hs is lent : List ℕ) (steps depth : ℕ) where
  -- a refusal tells the first breach, and changes no word; an end tells the definition's run, and clears the room
  pub record Refuses (f : Refusal) (heap' room' : List ℕ) : Type 0 where
    pub numbers : refusal_numbers f ≡ answer_of (run_rules ws hs is (length lent) depth)
    pub heap : heap' ≡ hs
    pub room : room' ≡ lent

  pub record Ends (e : End) (k : ℕ) (heap' room' : List ℕ) : Type 0 where
    pub sound : answer_of (run_rules ws hs is (length lent) depth) ≡ accepted
    pub end : e ≡ (run_of ws hs is steps depth).end
    pub count : k ≡ (run_of ws hs is steps depth).count
    pub heap : heap' ≡ heap_after (run_of ws hs is steps depth)
    pub room : room' ≡ replicate (length lent) 0

  abbrev pub Answers : Ran → (heap' room' : List ℕ) → Type 0
  Answers (Err f) heap' room' = Refuses f heap' room'
  Answers (Ok r) heap' room' = Ends r.end r.count heap' room'
