use Rattle.std.proofs.Common.{sym}
use Rattle.relation_server.proofs.connection_job.ConnectionJob.serve.Goals as goal

pub returns-clause-went : goal.returns-clause-went
returns-clause-went g c = rw (sym c.deref-2.ensures) c.serve_relations.ensures.went

pub returns-clause-serves : goal.returns-clause-serves
returns-clause-serves g c = rw (sym c.deref-2.ensures) c.serve_relations.ensures.serves
