-- `run::run` meets its contract.
use Rattle.run.specs.Laws.{layout_broken}
use Rattle.refusals.specs.declared.Refusal.TheVariants.{Layout}
use Rattle.std.specs.declared.result.Result.TheVariants.{Err}
use borrow.Author.Rules.{rules}
use mathlib.Core.Path.{◌≡◌, refl}
use Rattle.run.proofs.run.Goals as goal

pub run_laid-requires : goal.run_laid-requires
run_laid-requires c = let b = c.layout_of_image.ensures in rw (rw c.in_ok-laid.was at b.words) (rw c.in_ok-laid.was at b.numbers)

pub returns-in_err-laid : goal.returns-in_err-laid
returns-in_err-laid c =
    let n = rw c.in_err-laid.was at c.layout_of_image.ensures.numbers in
    let e : c.from_residual.result ≡ Err (Layout c.in_err-laid.field-0.0) = search rules in
    rw e (record { numbers = layout_broken _ _ _ _ _ c.in_err-laid.field-0.0 n; heap = refl; room = refl })

pub returns : goal.returns
returns c = rw (rw c.in_ok-laid.was at c.layout_of_image.ensures.words) at c.run_laid.ensures
