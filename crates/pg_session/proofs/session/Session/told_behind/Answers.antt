use Rattle.std.proofs.Common.{◌≡◌, ℕ, Some, Result, Ok, Err, refl, sym, subst, arith}
use Rattle.conversation_runs.specs.Steps.{SentBehind}
use Rattle.conversation_runs.specs.Streams.{HasFlushed, HasSentCause}
use Rattle.conversation_runs.specs.declared.ends.Progress.{Progress}
use Rattle.conversation_runs.specs.declared.ends.ServeError.{ServeError}
use Rattle.conversation_runs.proofs.Behind.{flushed_as}
use Rattle.pg_session.proofs.session.Session.told_behind.Goals as goal

pub returns-in-Ok-flush-clause-sent : goal.returns-in-Ok-flush-clause-sent
returns-in-Ok-flush-clause-sent g c =
    let w = g.K.Sink.written c.args.sink.now in
    let v = g.K.Sink.written c.flush.new.sink in
    let result : Result Progress ServeError = Ok c.in-Some.told in
    subst (λ step. SentBehind w v c.args.self.now.unsent c.flush.new.self.unsent step (Some result)) (sym c.in-Ok.is)
    (subst (λ told. SentBehind w v c.args.self.now.unsent c.flush.new.self.unsent (Ok told) (Some result)) (sym c.in-Some.is)
    (refl, c.in-Ok-flush.ensures.empty, c.in-Ok-flush.ensures.ok))

pub returns-in-Err-flush-clause-sent : goal.returns-in-Err-flush-clause-sent
returns-in-Err-flush-clause-sent g c =
    let w = g.K.Sink.written c.args.sink.now in
    let v = g.K.Sink.written c.flush.new.sink in
    let result : Result Progress ServeError = Err c.in-Err-flush.error in
    subst (λ step. SentBehind w v c.args.self.now.unsent c.flush.new.self.unsent step (Some result)) (sym c.in-Ok.is)
    (subst (λ told. SentBehind w v c.args.self.now.unsent c.flush.new.self.unsent (Ok told) (Some result)) (sym c.in-Some.is)
    c.in-Err-flush.ensures.err)

-- what was flushed without an error, told with a progress
flushed_told : (a b : ℕ) (told : Progress) → b ≡ a → HasFlushed a b (Ok told)
flushed_told a b told calm = record {
  write_fault = λ fault. cc;
  no_read_fault = λ fault. cc;
  no_turn_limit = λ fault. cc;
  never_falls = omega (arith, calm);
  calm = calm;
}

pub returns-in-Ok-flush-clause-cause : goal.returns-in-Ok-flush-clause-cause
returns-in-Ok-flush-clause-cause g c =
    let a = g.K.Sink.faults c.args.sink.now in
    let b = g.K.Sink.faults c.flush.new.sink in
    let result : Result Progress ServeError = Ok c.in-Some.told in
    subst (λ step. HasSentCause a b step (Some result)) (sym c.in-Ok.is)
    (subst (λ told. HasSentCause a b (Ok told) (Some result)) (sym c.in-Some.is)
    (flushed_told a b c.in-Some.told c.in-Ok-flush.ensures.sink.cause.calm))

pub returns-in-Err-flush-clause-cause : goal.returns-in-Err-flush-clause-cause
returns-in-Err-flush-clause-cause g c =
    let a = g.K.Sink.faults c.args.sink.now in
    let b = g.K.Sink.faults c.flush.new.sink in
    let result : Result Progress ServeError = Err c.in-Err-flush.error in
    subst (λ step. HasSentCause a b step (Some result)) (sym c.in-Ok.is)
    (subst (λ told. HasSentCause a b (Ok told) (Some result)) (sym c.in-Some.is)
    (flushed_as (Unit {0}) Progress a b c.in-Err-flush.error c.in-Err-flush.ensures.sink.cause))

pub returns-in-None-clause-sent : goal.returns-in-None-clause-sent
returns-in-None-clause-sent g c =
    let w = g.K.Sink.written c.args.sink.now in
    let v = g.K.Sink.written c.sent_if_full.new.sink in
    subst (λ step. SentBehind w v c.args.self.now.unsent c.sent_if_full.new.self.unsent step c.sent_if_full.result)
    (sym c.in-Ok.is)
    (subst (λ told. SentBehind w v c.args.self.now.unsent c.sent_if_full.new.self.unsent (Ok told) c.sent_if_full.result)
    (sym c.in-None.is) c.sent_if_full.ensures.sent)

pub returns-in-None-clause-cause : goal.returns-in-None-clause-cause
returns-in-None-clause-cause g c =
    let a = g.K.Sink.faults c.args.sink.now in
    let b = g.K.Sink.faults c.sent_if_full.new.sink in
    subst (λ step. HasSentCause a b step c.sent_if_full.result) (sym c.in-Ok.is)
    (subst (λ told. HasSentCause a b (Ok told) c.sent_if_full.result) (sym c.in-None.is) c.sent_if_full.ensures.cause)
