-- Demand 3, type safety, over the words of an image, a heap and inputs. The statement comes first.
use Rattle.std.specs.Prelude.{ℕ, ◌≡◌, true, List}
use Rattle.std.specs.declared.option.Option.TheVariants.{None}
use Rattle.order.specs.Rules.{answer_of, accepted, first_place}
use Rattle.words.specs.declared.Value.{Value}
use Rattle.words.specs.declared.Ty.{Ty}
use Rattle.rules.specs.declared.End.{End}
use Rattle.rules.specs.declared.End.TheVariants.{Returned, Threw, OutOfSteps, TooDeep, Stuck}
use Rattle.rules.specs.Program.{program, main, main_env}
use Rattle.rules.specs.Typing.{ok, typing}
use Rattle.rules.specs.Heap.{obj, Heap, look}
use Rattle.rules.specs.Conform.{conforms}
use Rattle.rules.specs.Run.{Ended, run_of, heap_after}
use Rattle.rules.specs.Numbers.{heap_length_rule, heap_word_rule, heap_rule, check_rules, conform_rules}

-- A value conforms to main's type t in the heap that is left; a thrown address has an object there; no run is stuck.
abbrev pub EndsWell : (ws : List ℕ) → (t : Ty) → Heap → End → Type 0
EndsWell ws t h (Returned v) = conforms (program ws) h v t ≡ true
EndsWell ws t h (Threw a) = (c : ℕ) × (fields : List Value) × (look h a ≡ obj c fields)
EndsWell ws t h OutOfSteps = Unit {0}
EndsWell ws t h TooDeep = Unit {0}
EndsWell ws t h (Stuck q) = ⊥

-- It ends well, and 14, 15 and 17 are broken nowhere in the heap's words that it leaves.
pub record SafeRun (ws : List ℕ) (t : Ty) (e : Ended) : Type 0 where
  pub ends : EndsWell ws t e.heap e.end
  pub slots : first_place (heap_length_rule (heap_after e)) ≡ None
  pub words : first_place (heap_word_rule ws (heap_after e)) ≡ None
  pub objects : first_place (heap_rule ws (heap_after e)) ≡ None

-- An image that the check accepts, with a heap and inputs that conform: main has a type, and every run is safe at that type,
-- whatever its step limit and its depth limit.
abbrev pub Demand3 : Type 0
Demand3 =
    (ws hs is : List ℕ)
    → answer_of (check_rules ws) ≡ accepted
    → answer_of (conform_rules ws hs is) ≡ accepted
    → (t : Ty) × (typing (program ws) (main ws) (main_env ws) ≡ ok t) × ((steps depth : ℕ) → SafeRun ws t (run_of ws hs is steps depth))
