-- `muthaveri::muthaveri_run` meets its contract.
use Rattle.muthaveri.specs.AnswersLaws.{meets}
use Rattle.muthaveri.proofs.muthaveri_run.Goals as goal

pub returns : goal.returns
returns c =
    let ran = c.run in
    rw (c.from.ensures, c.from-told.ensures) (meets _ _ _ _ _ _ ran.result _ _ ran.ensures)
