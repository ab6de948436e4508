-- Demand 3 for answers: whatever programs gave them, answers that meet the promises of check, conform and run tell no more than this.
use Rattle.std.specs.Prelude.{ℕ, suc, ◌*◌, ◌<◌, ◌≡◌, true, List, [], ◌∷◌, get_or}
use Rattle.std.proofs.Math.Option.{Option, none, some}
use Rattle.order.specs.declared.Answer.{Answer}
use Rattle.order.specs.Rules.{answer_of, accepted}
use Rattle.words.specs.declared.Value.{Value}
use Rattle.words.specs.declared.Value.TheVariants.{Addr}
use Rattle.std.specs.declared.option.Option.TheVariants.{Some}
use Rattle.words.specs.declared.Ty.{Ty}
use Rattle.words.specs.Value.{value_of, word_of}
use Rattle.image.specs.Trailer.{class_count}
use Rattle.rules.specs.Program.{program}
use Rattle.rules.specs.Heap.{slot_words, heap_of}
use Rattle.rules.specs.Conform.{conforms}
use Rattle.rules.specs.Run.{run_of, heap_after}
use Rattle.rules.specs.Numbers.{heap_length_rule, heap_word_rule, input_rule, heap_rule, input_type_rule, conform_rules, end_numbers, end_value}

-- the word of what an end carries
abbrev pub end_word : Option Value → Option ℕ
end_word none = none
end_word (some v) = some (word_of v)

-- a run's answer: the numbers of its end, the word that it carries, and the heap's words
pub record Ran (ws hs is : List ℕ) (steps depth : ℕ) (end : Answer) (word : Option ℕ) (heap : List ℕ) : Type 0 where
  pub end_is : end ≡ end_numbers (run_of ws hs is steps depth).end
  pub word_is : word ≡ end_word (end_value (run_of ws hs is steps depth).end)
  pub heap_is : heap ≡ heap_after (run_of ws hs is steps depth)

-- what it tells: a value of main's type t, an object's address, or a limit; 34, stuck, is not among them
pub data Told (ws : List ℕ) (t : Ty) (end : Answer) (word : Option ℕ) (heap : List ℕ) : Type 0 where
  returned : (w : ℕ) (v : Value) → end.number ≡ 30 → word ≡ some w → value_of w ≡ Some v
      → conforms (program ws) (heap_of (program ws) heap) v t ≡ true
      → Told ws t end word heap
  threw : (w a c : ℕ) → end.number ≡ 31 → word ≡ some w → value_of w ≡ Some (Addr a) → get_or heap (slot_words * a) 0 ≡ suc c
      → c < class_count ws
      → Told ws t end word heap
  out_of_steps : end.number ≡ 32 → Told ws t end word heap
  too_deep : end.number ≡ 33 → Told ws t end word heap

-- and the heap that it leaves is as 14, 15 and 17 ask
pub record Answered (ws : List ℕ) (t : Ty) (end : Answer) (word : Option ℕ) (heap : List ℕ) : Type 0 where
  pub told : Told ws t end word heap
  pub left : answer_of (heap_length_rule heap ∷ heap_word_rule ws heap ∷ heap_rule ws heap ∷ []) ≡ accepted
  -- with inputs that 16 and 18 accept it is a start again
  pub again : (next : List ℕ) → answer_of (input_rule ws next ∷ input_type_rule ws heap next ∷ []) ≡ accepted
      → answer_of (conform_rules ws heap next) ≡ accepted
