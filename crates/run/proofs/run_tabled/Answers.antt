-- `run::run_tabled` meets its contract.
use Rattle.run.specs.Laws.{lent_asked}
use Rattle.std.specs.declared.result.Result.TheVariants.{Err}
use borrow.Author.Rules.{rules}
use mathlib.Core.Path.{◌≡◌, ◌∙◌, refl, sym}
use Rattle.run.proofs.run_tabled.Goals as goal

pub run_clear-requires : goal.run_clear-requires
run_clear-requires c = rw c.in_ok-judge.was at c.judge.ensures

pub returns-in_err-judge : goal.returns-in_err-judge
returns-in_err-judge c =
    let n = rw c.in_err-judge.was at c.judge.ensures in
    let e : c.from_residual.result ≡ Err c.in_err-judge.field-0.0 = search rules in
    rw e (record { numbers = n ∙ lent_asked _ _ _ _ _ c.requires.0 c.requires.1; heap = refl; room = refl })

pub returns : goal.returns
returns c =
    let w = rw c.in_ok-judge.was at c.judge.ensures in
    let r = c.run_clear.ensures in
    record { sound = sym (lent_asked _ _ _ _ _ c.requires.0 c.requires.1) ∙ w.answer; end = r.0.end_is; count = r.0.count_is; heap = r.0.heap_is; room = r.1 }
