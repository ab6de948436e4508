-- `run::run_clear` meets its contract.
use Prim.Native.Nat.{ℕ}
use Rattle.rows.specs.RowLaws.{fields_kept}
use Rattle.start.specs.StartLaws.{filled_search}
use Rattle.run.specs.Laws.{begins, heap_ok, inputs_few, inputs_values, same_start}
use lib.ListN.{replicate}
use mathlib.Core.Path.{◌∙◌, ap}
use native.Mathlib.Omega.{arith}
use Rattle.run.proofs.run_clear.Goals as goal

pub set_inputs-requires : goal.set_inputs-requires
set_inputs-requires c = (omega (arith, c.clear_start.ensures.1, c.requires.enough), c.clear_start.ensures.0, (inputs_few _ _ _ _ _ c.requires _ c.args.table.now.image.good), (inputs_values _ _ _ _ _ c.requires))

pub run_on-r-requires : goal.run_on-r-requires
run_on-r-requires c = let f = c.set_inputs.ensures.0 in let e = c.set_inputs.ensures.1 in let d = c.clear_start.ensures.1 in (begins _ _ _ _ c.args.table.now.image.good f (inputs_few _ _ _ _ _ c.requires _ c.args.table.now.image.good) (inputs_values _ _ _ _ _ c.requires) _ (omega (arith, e, d, c.requires.enough)), rw (filled_search f (inputs_few _ _ _ _ _ c.requires _ c.args.table.now.image.good)) (heap_ok _ _ _ _ _ c.requires (fields_kept c.args.table.now.rows.sizes)))

pub returns : goal.returns
returns c = let f = c.set_inputs.ensures.0 in let e = c.set_inputs.ensures.1 in let d = c.clear_start.ensures.1 in (rw (same_start _ _ _ _ c.args.table.now.image.good f (inputs_few _ _ _ _ _ c.requires _ c.args.table.now.image.good) (inputs_values _ _ _ _ _ c.requires) _ _ _) at c.run_on-r.ensures.0, c.clear.ensures ∙ ap (λ (n : ℕ). replicate n 0) (c.run_on-r.ensures.1 ∙ e ∙ d))
