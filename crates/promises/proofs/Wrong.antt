-- Programs that answer runs wrongly, each in its own way, and that none of them keeps the run's promise.
use Rattle.std.specs.Prelude.{ℕ, refl}
use Rattle.std.proofs.Math.Path.{◌≡◌, ap}
use Rattle.std.proofs.Common.{sym, ◌∙◌, arith}
use mathlib.Core.List.{List, []}
use Rattle.std.proofs.Math.ListN.{get_or}
use Rattle.words.specs.declared.Value.TheVariants.{Intg}
use Rattle.rules.specs.declared.End.{End}
use Rattle.rules.specs.declared.End.TheVariants.{Returned, OutOfSteps}
use Rattle.rules.specs.Computing.{computing}
use Rattle.rules.specs.Numbers.{end_numbers}
use Rattle.rules.specs.Bench.{heap}
use Rattle.safety.specs.Demo.{bench_image, orders, objects, inputs}
use Rattle.run.specs.Answers.{Over, Answers}
use Rattle.run.specs.Promise.{one_answer}
use Rattle.promises.specs.Demo.{lent, bench_left, objects_left}
use Rattle.promises.proofs.Demo.{bench_given, hierarchy_given}
use Rattle.promises.specs.Wrong.{AlwaysOutOfSteps, FinishesAtTheFirstStep, InventsTheCount, Keeps, NeverTouchesTheHeap, Runner}

-- THE PROOFS, by the answers of two programs
-- one step of the second reads main's input, and the object is made after it
hierarchy_one : Answers orders objects inputs lent 1 8 (Over OutOfSteps 1) objects lent
unfolding computing heap orders objects inputs
hierarchy_one = record { sound = refl; end = refl; count = refl; heap = refl; room = refl }

module _ (p : Runner) (keeps : Keeps p) where
  bench_same : ((p bench_image (heap 1) [] lent 100 8).answer ≡ Over (Returned (Intg 0)) 5) × ((p bench_image (heap 1) [] lent 100 8).heap ≡ bench_left)
      × ((p bench_image (heap 1) [] lent 100 8).room ≡ lent)
  bench_same = one_answer bench_image (heap 1) [] lent 100 8 _ _ _ _ _ _ (keeps bench_image (heap 1) [] lent 100 8) bench_given

  orders_same : ((p orders objects inputs lent 100 8).answer ≡ Over (Returned (Intg 42)) 11) × ((p orders objects inputs lent 100 8).heap ≡ objects_left)
      × ((p orders objects inputs lent 100 8).room ≡ lent)
  orders_same = one_answer orders objects inputs lent 100 8 _ _ _ _ _ _ (keeps orders objects inputs lent 100 8) hierarchy_given

  first_same : ((p orders objects inputs lent 1 8).answer ≡ Over OutOfSteps 1) × ((p orders objects inputs lent 1 8).heap ≡ objects)
      × ((p orders objects inputs lent 1 8).room ≡ lent)
  first_same = one_answer orders objects inputs lent 1 8 _ _ _ _ _ _ (keeps orders objects inputs lent 1 8) hierarchy_one

  -- the first word of the slot that the second program fills
  filled : objects_left ≡ objects → ⊥
  unfolding heap objects objects_left
  filled e =
      let d : ◌≡◌ {A = ℕ} 6 0 = ap (λ (hs : List ℕ). get_or hs 64 0) e in
      omega (arith, d)

  pub not_always_out_of_steps : AlwaysOutOfSteps p → ⊥
  unfolding end_numbers
  not_always_out_of_steps w =
      let d : ◌≡◌ {A = ℕ} 30 32 = ap (λ (e : End). (end_numbers e).number) (w _ _ _ _ _ _ _ _ bench_same.0) in
      omega (arith, d)

  pub not_never_touching : NeverTouchesTheHeap p → ⊥
  not_never_touching w = filled (sym orders_same.1 ∙ w _ _ _ _ _ _)

  pub not_finished_at_once : FinishesAtTheFirstStep p → ⊥
  not_finished_at_once w = filled (sym orders_same.1 ∙ w orders objects inputs lent 99 8 ∙ first_same.1)

  pub not_invented : InventsTheCount p → ⊥
  not_invented w =
      let d : ◌≡◌ {A = ℕ} 5 11 = w.1 _ _ _ _ _ _ _ _ bench_same.0 ∙ sym (w.1 _ _ _ _ _ _ _ _ orders_same.0) in
      omega (arith, d)
