-- What comes of the clashes comes of the columns.
use Rattle.std.proofs.Common.{◌∙◌, Some, refl, sym, ap}
use Rattle.rota_report.proofs.OutcomeLemmas.{columns_refused, columns_compared}
use Rattle.rota_report.proofs.running.compare.Goals as goal

pub returns-in-Ok-clause-done : goal.returns-in-Ok-clause-done
returns-in-Ok-clause-done g c =
    let read = c.in-Ok.ensures.read in
    columns_compared _ _ read.0 _ _ c.write_comparison.result _ _ read.1
    (read.2.0 ∙ ap Some (sym c.as_slice.ensures)) (read.2.1 ∙ ap Some (sym c.as_slice-in-Ok.ensures)) c.write_comparison.ensures.compared

pub returns-in-Err-clause-done : goal.returns-in-Err-clause-done
returns-in-Err-clause-done g c =
    columns_refused _ _ c.in-Err.failure _ _ c.in-Err.ensures.read (refl, refl)
