-- Demand 3 for programs: three answers, whoever gave them, that meet the promises of check, conform and run. The statement comes first.
use Rattle.std.specs.Prelude.{ℕ, ◌≤◌, ◌≡◌, List, length, replicate}
use Rattle.order.specs.Rules.{answer_of}
use Rattle.words.specs.declared.Ty.{Ty}
use Rattle.rules.specs.declared.End.{End}
use Rattle.rules.specs.Program.{program, main, main_env}
use Rattle.rules.specs.Typing.{ok, typing}
use Rattle.rules.specs.Numbers.{most_depth, room_words, check_rules, conform_rules, end_numbers, end_value}
use Rattle.safety.specs.Answers.{end_word, Answered}
use Rattle.std.specs.declared.result.Result.{Result}
use Rattle.std.specs.declared.result.Result.TheVariants.{Ok}
use Rattle.image_check.specs.declared.Rejected.{Rejected}
use Rattle.image_check.specs.Answers.{checked_numbers}
use Rattle.conform.specs.declared.Unfit.{Unfit}
use Rattle.conform.specs.Answers.{conformed_numbers}
use Rattle.run.specs.Answers.{Ran, Over, Answers}

-- The answers of an image check and of a conformity check keep their promises, and both accept.
pub record LetIn (ws hs is : List ℕ) (check : Result Unit Rejected) (conform : Result Unit Unfit) : Type 0 where
  pub check_promise : checked_numbers check ≡ answer_of (check_rules ws)
  pub conform_promise : conformed_numbers conform ≡ answer_of (conform_rules ws hs is)
  pub check_accepts : check ≡ Ok tt
  pub conform_accepts : conform ≡ Ok tt

-- The depth limit is one that may be asked for, and enough room is lent for it.
pub record Enough (lent : List ℕ) (depth : ℕ) : Type 0 where
  pub least : 1 ≤ depth
  pub most : depth ≤ most_depth
  pub room : room_words depth ≤ length lent

-- What an answer to a run comes to, when main has type t.
pub record SafeAnswer (ws lent : List ℕ) (t : Ty) (steps : ℕ) (r : Ran) (heap' room' : List ℕ) : Type 0 where
  pub end : End
  pub count : ℕ
  -- the run is not refused
  pub ended : r ≡ Over end count
  -- a value of type t, the address of an object, or a limit: never stuck; and heap' conforms again
  pub answered : Answered ws t (end_numbers end) (end_word (end_value end)) heap'
  pub within : count ≤ steps
  pub cleared : room' ≡ replicate (length lent) 0

-- When both checks let them in, main has a type, and every answer that keeps a run's promise is safe at that type, whatever the step
-- limit is, and whatever words are lent, if they are enough for the depth limit.
abbrev pub Demand3 : Type 0
Demand3 =
    (ws hs is : List ℕ) (check : Result Unit Rejected) (conform : Result Unit Unfit)
    → LetIn ws hs is check conform
    → (t : Ty)
    × (typing (program ws) (main ws) (main_env ws) ≡ ok t)
    × ((lent : List ℕ) (steps depth : ℕ)
    → Enough lent depth
    → (r : Ran) (heap' room' : List ℕ)
    → Answers ws hs is lent steps depth r heap' room'
    → SafeAnswer ws lent t steps r heap' room')
