-- Demand 3, type safety, over the words of an image, a heap and inputs. The statement comes first.
use Rattle.std.specs.Prelude.{ℕ, ◌≡◌, List}
use Rattle.order.specs.Rules.{answer_of, accepted}
use Rattle.words.specs.declared.Ty.{Ty}
use Rattle.rules.specs.declared.End.{End}
use Rattle.rules.specs.declared.End.TheVariants.{Returned, Threw, OutOfSteps, TooDeep, Stuck}
use Rattle.image.specs.Trailer.{input_count}
use Rattle.rules.specs.Program.{program, main, main_env}
use Rattle.rules.specs.Typing.{ok, typing}
use Rattle.rules.specs.Setting.{between}
use Rattle.rules.specs.Heap.{Heap}
use Rattle.rules.specs.Run.{run_of, heap_after}
use Rattle.rules.specs.Numbers.{check_rules, conform_rules}
use Rattle.safety.specs.Conform.{conf_object, below_test}
use Rattle.safety.proofs.Theorem.{safety}
use Rattle.safety.specs.Safety.{EndOk, RunOk}
use Rattle.safety.proofs.Image.{nowhere, rules_held, main_ok, accepted_program}
use Rattle.safety.proofs.Heaps.{start_held, heap_ok, inputs_ok, inputs_set, length_back, words_back, objects_back}
use Rattle.safety.specs.Demand3.{Demand3, EndsWell}

-- THE PROOF
-- the run as the proofs see it: main's type, and a heap that conforms at the end
pub run_safe : (ws hs is : List ℕ) → answer_of (check_rules ws) ≡ accepted → answer_of (conform_rules ws hs is) ≡ accepted
    → (t : Ty) × (typing (program ws) (main ws) (main_env ws) ≡ ok t)
    × ((steps depth : ℕ) → RunOk (program ws) t (run_of ws hs is steps depth))
unfolding run_of
run_safe ws hs is checked started =
    let R = rules_held ws checked in
    let S = start_held ws hs is started in
    let A = accepted_program ws R in
    let m = main_ok ws R in (
      m.0,
      m.1.typed,
      safety (program ws) A (main ws) (main_env ws) (between 1 (input_count ws)) m.0 m.1 (heap_ok ws A.low hs is S)
          (inputs_ok ws A.low hs is S) (inputs_set ws A.low hs is S),
    )

pub demand_3 : Demand3
unfolding heap_after
demand_3 ws hs is checked started =
    let R = rules_held ws checked in
    let A = accepted_program ws R in
    let s = run_safe ws hs is checked started in (
      s.0,
      s.1,
      λ steps depth.
          let r = s.2 steps depth in
          let h = (run_of ws hs is steps depth).heap in
          record {
            ends = ends A.low s.0 h (run_of ws hs is steps depth).end r.ends;
            slots = nowhere _ (length_back ws A.low R.fields h r.heap_ok);
            words = nowhere _ (words_back ws A.low R.fields h r.heap_ok);
            objects = nowhere _ (objects_back ws A.low R.fields h r.heap_ok);
          },
    )
  where
    ends : Rattle.laws.specs.Classes.Lower (program ws) → (t : Ty) (h : Heap) (e : End) → EndOk (program ws) t h e → EndsWell ws t h e
    ends low t h (Returned v) k = below_test (program ws) low h v t k.below
    ends low t h (Threw a) k = let o = conf_object (program ws) low k in (o.0, o.1, o.2)
    ends low t h OutOfSteps k = tt
    ends low t h TooDeep k = tt
    ends low t h (Stuck q) k = k
