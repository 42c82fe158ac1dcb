-- What comes of an order comes of its words.
use Rattle.rota_report.proofs.OutcomeLemmas.{run_listed}
use Rattle.rota_report.proofs.running.carry_out.Goals as goal

pub returns-in-Some-Lines-clause-ran : goal.returns-in-Some-Lines-clause-ran
returns-in-Some-Lines-clause-ran g c = run_listed c.args.words.now _ _ c.list.result _ _
    (rw c.in-Some-Lines.field-0-is at c.in-Some-Lines.ensures.some) c.list.ensures.done
