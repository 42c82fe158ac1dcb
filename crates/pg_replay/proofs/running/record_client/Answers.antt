use Rattle.std.proofs.Common.{◌≡◌, ◌++◌, ◌∙◌, FitsSigned, w32, rules, inr, ap, sym}
use Rattle.std.proofs.lemmas.Int.{to_z-of_z}
use Rattle.pg_client.specs.Script.{origin_of}
use Rattle.pg_engine.specs.Serving.{counts_of}
use Rattle.pg_engine.proofs.Completing.{cause_of_calls}
use Rattle.replay_streams.specs.declared.sink.BytesSink.{BytesSink}
use Rattle.pg_replay.specs.Program.{turns}
use Rattle.pg_replay.proofs.Recorded.{answered_no, was_recorded}
use Rattle.pg_replay.proofs.running.record_client.Goals as goal

pub returns-clause-recorded : goal.returns-clause-recorded
returns-clause-recorded g c =
    let made = c.new-desk.result in
    let s = c.record_session-answer in
    let desk = s.new.desk in
    let answer = s.result.0 in
    let recorded = s.result.1 in
    let went = s.ensures.went in
    let told = s.ensures.recorded in
    let fits : FitsSigned w32 c.args.pid = search rules in
    let pid : made.pid ≡ c.args.pid = c.new-desk.ensures.pid ∙ to_z-of_z w32 c.args.pid fits in
    let key : made.key ≡ c.args.key.now = c.new-desk.ensures.key ∙ c.in-Ok.ensures in
    let registration : (made.pid, made.key) ≡ (c.args.pid, c.args.key.now) =
    ap (λ p. (p, made.key)) pid ∙ ap (λ k. (c.args.pid, k)) key in
    let gone : went.0 ≡ desk.calls = sym (went.1 ∙ ap (λ k. k ++ went.0) c.new-desk.ensures.calls) in
    let heard : told.0 ≡ desk.calls = sym (told.1 ∙ ap (λ k. k ++ told.0) c.new-desk.ensures.calls) in
    let answered = answered_no desk.script desk.answers desk.calls
    (ap (λ d. d.origin) s.ensures.serves.registration.grown ∙ ap origin_of (c.new-desk.ensures.script ∙ c.new.ensures))
    c.calls-calls.ensures.scripted in
    let cause = cause_of_calls answer turns made.calls desk.calls went.0
    (counts_of g.S.Source.reads g.S.Source.faults (λ (sink : BytesSink). 0) c.args.client.now s.new.sink)
    (counts_of g.S.Source.reads g.S.Source.faults (λ (sink : BytesSink). 0) s.new.source s.new.sink)
    went.1 s.ensures.cause in
    inr (
      answer,
      recorded,
      was_recorded (made.pid, made.key) c.args.pid c.args.key.now c.args.relations.now answer recorded (g.S.Source.left c.args.client.now)
          (g.S.Source.left s.new.source) c.new-2.result.items s.new.sink.bytes.items s.new.sink.refused desk.calls went.0 told.0
          (g.S.Source.reads c.args.client.now) (g.S.Source.reads s.new.source) (g.S.Source.faults c.args.client.now)
          (g.S.Source.faults s.new.source) (g.K.Sink.faults c.args.out.now) (g.K.Sink.faults c.write_recorded.new.out)
          registration c.new-2.ensures.items gone heard answered went.2 cause s.ensures.complete told.2 s.ensures.faithful,
      c.write_recorded.ensures.told,
    )
