use Rattle.std.proofs.Common.{inr, refl}
use Rattle.pg_replay.specs.Statuses.{verdict_line}
use Rattle.pg_replay.proofs.Outcomes.{grows_by_none}
use Rattle.pg_replay.proofs.running.write_verdict.Goals as goal

pub returns-in-Err-clause-written : goal.returns-in-Err-clause-written
returns-in-Err-clause-written g c = inr (refl, grows_by_none (g.K.Sink.written c.args.out.now) (verdict_line c.args.verdict), refl)

pub returns-in-Err-format-clause-written : goal.returns-in-Err-format-clause-written
returns-in-Err-format-clause-written g c = inr (refl, grows_by_none (g.K.Sink.written c.args.out.now) (verdict_line c.args.verdict), refl)
