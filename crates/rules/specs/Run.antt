-- The run: before each step, in this order: final expression, depth above the limit, no rule, limit reached; otherwise one step.
use Rattle.std.specs.Prelude.{ℕ, zero, suc, cond, List, leb}
use Rattle.rules.specs.declared.End.{End}
use Rattle.rules.specs.declared.End.TheVariants.{Returned, Threw, OutOfSteps, TooDeep, Stuck}
use Rattle.rules.specs.Maps.{from}
use Rattle.rules.specs.Trees.{Expr}
use Rattle.rules.specs.Program.{Program, program, main}
use Rattle.rules.specs.Heap.{Heap, heap_of, words_of, values_of}
use Rattle.rules.specs.Step.{Store, Out, value, thrown, next, stuck, load, step}

-- an end, how many reduction steps were taken, and the heap after them
pub record Ended : Type 0 where
  pub end : End
  pub count : ℕ
  pub heap : Heap

module _ (depth : ℕ) where
  -- what the active place says after k steps, in the order of the tests; `on` is for where a step may be taken
  unfoldable pub judge : (k : ℕ) → Heap → Out → (Heap → Store → Expr → Ended) → Ended
  judge k h (value q v) on = record { end = Returned v; count = k; heap = h }
  judge k h (thrown a) on = record { end = Threw a; count = k; heap = h }
  judge k h (next d q h' l' e) on =
      let going = on h' l' e in
      cond (leb d depth) going (record { end = TooDeep; count = k; heap = h })
  judge k h (stuck d q) on =
      cond (leb d depth) (record { end = Stuck q; count = k; heap = h }) (record { end = TooDeep; count = k; heap = h })

  -- at most `left` steps more, k having been taken
  unfoldable pub run : Program → (left k : ℕ) → Heap → Store → Expr → Ended
  run P zero k h l e = judge k h (step P e h l) (λ h' l' e'. record { end = OutOfSteps; count = k; heap = h })
  run P (suc n) k h l e = judge k h (step P e h l) (λ h' l' e'. run P n (suc k) h' l' e')

-- The run of an image on a heap's words, with its inputs' words as variables from 1 on.
unfoldable pub run_of : (image heap inputs : List ℕ) → (steps depth : ℕ) → Ended
run_of ws hs is steps depth =
    run depth (program ws) steps 0 (heap_of (program ws) hs) (from 1 (values_of is)) (load (main ws))

-- the heap's words after the run
unfoldable pub heap_after : Ended → List ℕ
heap_after e = words_of e.heap
