use Rattle.std.proofs.Common.{◌≡◌, ◌++◌, ◌∙◌, FitsSigned, w32, rules, ap, subst}
use Rattle.std.proofs.lemmas.Int.{to_z-of_z}
use Rattle.pg_client.specs.Script.{origin_of}
use Rattle.pg_engine.specs.Serving.{counts_of}
use Rattle.pg_engine.proofs.Completing.{cause_of_calls}
use Rattle.cursor_serving.specs.Serving.{WentByCursors}
use Rattle.pg_cursor.proofs.Answering.{answered_no}
use Rattle.pg_cursor.proofs.running.serve_table.Goals as goal

pub returns-clause-served : goal.returns-clause-served
returns-clause-served g c =
    let made = c.new-desk.result in
    let answer = c.serve_cursors_on-answer.result in
    let desk = c.serve_cursors_on-answer.new.desk in
    let went = c.serve_cursors_on-answer.ensures.went in
    let fits : FitsSigned w32 c.args.service.pid = search rules in
    let pid : made.pid ≡ c.args.service.pid = c.new-desk.ensures.pid ∙ to_z-of_z w32 c.args.service.pid fits in
    let key : made.key ≡ c.args.service.key = c.new-desk.ensures.key in
    record {
      calls = went.0;
      answered = answered_no desk.script desk.answers desk.calls went.0
          (ap (λ d. d.origin) c.serve_cursors_on-answer.ensures.serves.registration.grown ∙ ap origin_of (c.new-desk.ensures.script ∙ c.new.ensures))
          c.calls-calls.ensures.scripted
          (went.1 ∙ ap (λ k. k ++ went.0) c.new-desk.ensures.calls);
      went = subst (λ k. WentByCursors c.args.relations.now (c.args.service.pid, k) answer (g.S.Source.left c.args.client.now)
          (g.S.Source.left c.serve_cursors_on-answer.new.source) (g.K.Sink.written c.args.out.now)
          (g.K.Sink.written c.serve_cursors_on-answer.new.sink) went.0) key
          (subst (λ p. WentByCursors c.args.relations.now (p, made.key) answer (g.S.Source.left c.args.client.now)
          (g.S.Source.left c.serve_cursors_on-answer.new.source) (g.K.Sink.written c.args.out.now)
          (g.K.Sink.written c.serve_cursors_on-answer.new.sink) went.0) pid went.2);
      cause = cause_of_calls answer c.args.service.turns made.calls desk.calls went.0
          (counts_of g.S.Source.reads g.S.Source.faults g.K.Sink.faults c.args.client.now c.args.out.now)
          (counts_of g.S.Source.reads g.S.Source.faults g.K.Sink.faults c.serve_cursors_on-answer.new.source
          c.serve_cursors_on-answer.new.sink)
          went.1 c.serve_cursors_on-answer.ensures.cause;
      calm = c.serve_cursors_on-answer.ensures.serves.calm;
      complete = c.serve_cursors_on-answer.ensures.complete;
      gave = c.serve_cursors_on-answer.ensures.serves.reads;
    }

pub returns-clause-never_falls : goal.returns-clause-never_falls
returns-clause-never_falls g c = c.serve_cursors_on-answer.ensures.serves.never_falls
