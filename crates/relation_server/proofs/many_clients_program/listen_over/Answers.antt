use Rattle.std.proofs.Common.{inl, inr, refl}
use Rattle.std.specs.Arc.{arc_value}
use Rattle.relation_server.proofs.Registering.{nothing_shared}
use Rattle.relation_server.proofs.many_clients_program.listen_over.Goals as goal

pub returns-in-Err-clause-listened : goal.returns-in-Err-clause-listened
returns-in-Err-clause-listened g c = nothing_shared c.args.count c.in-Err.outcome _ _ c.in-Err.ensures.err refl refl

pub returns-in-Err-clause-jobs : goal.returns-in-Err-clause-jobs
returns-in-Err-clause-jobs g c = inl (refl, refl)

pub returns-in-Ok-clause-jobs : goal.returns-in-Ok-clause-jobs
returns-in-Ok-clause-jobs g c =
    let jobs = c.listen.ensures.jobs in
    inr (arc_value c.in-Ok.relations, c.in-Ok.ensures.ok, jobs.0, jobs.1, jobs.2)
