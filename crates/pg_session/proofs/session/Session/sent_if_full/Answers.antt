use Rattle.std.proofs.Common.{None, Ok, Some, Err, subst}
use Rattle.conversation_runs.specs.declared.ends.Progress.{Progress}
use Rattle.conversation_runs.specs.Steps.{SentBehind}
use Rattle.conversation_runs.proofs.Behind.{flushed_as}
use Rattle.pg_session.proofs.session.Session.sent_if_full.Goals as goal
use Rattle.pg_session.proofs.session.Session.sent_if_full.Goals.{in-Ok, in-Err}

pub returns-clause-sent : goal.returns-clause-sent
returns-clause-sent g c =
    let a = g.K.Sink.written c.args.sink.now in
    let b = g.K.Sink.written c.flush_if_full.new.sink in
    let new = c.flush_if_full.new.outbox in
    elim c.match-flush_if_full.branch [
      | in-Ok w ↦ rw w.result-is (subst (λ v. SentBehind a b v.unsent new (Ok None) None) c.self.view_is w.in-Ok.ensures.ok)
      | in-Err w ↦ rw w.result-is
          (subst (λ v. SentBehind a b v.unsent new (Ok None) (Some (Err w.in-Err.error))) c.self.view_is w.in-Err.ensures.err)
    ]

pub returns-clause-cause : goal.returns-clause-cause
returns-clause-cause g c = elim c.match-flush_if_full.branch [
  | in-Ok w ↦ rw w.result-is w.in-Ok.ensures.sink.cause.calm
  | in-Err w ↦ rw w.result-is (flushed_as (Unit {0}) Progress _ _ w.in-Err.error w.in-Err.ensures.sink.cause)
]
