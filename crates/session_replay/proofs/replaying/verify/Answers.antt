use Rattle.std.proofs.Common.{◌<◌, ◌+◌, ◌^◌, ◌++◌, ◌∙◌, Some, FitsSigned, w32, rules, refl, ap, sym, subst, length}
use Rattle.std.proofs.lemmas.Int.{to_z-of_z}
use Rattle.std.proofs.lemmas.Result.{IfOk-weaker}
use Rattle.pg_client.specs.Answer.{answers_of}
use Rattle.conversation_table.specs.Questions.{questions}
use Rattle.pg_client.specs.Script.{origin_of}
use Rattle.pg_engine.specs.Serving.{Counts}
use Rattle.pg_engine.proofs.Completing.{cause_of_calls}
use Rattle.session_replay.specs.Verdicts.{IsVerdictOn}
use Rattle.session_replay.proofs.Judging.{one_script, scripted_calls, went_by, asked_more, judged}
use Rattle.session_replay.proofs.Replays.{same_exactly, verdict_of_each}
use Rattle.session_replay.proofs.replaying.verify.Goals as goal

pub judge-requires : goal.judge-requires
judge-requires c = λ limit.
    let recording = c.args.recording.now in
    let answer = c.serve_relations_on-answer.result in
    let went = c.serve_relations_on-answer.ensures.went in
    let turns = c.turns_of-turns.result in
    let before : Counts = record { reads = 0; read_faults = 0; write_faults = 0 } in
    let after : Counts = record { reads = c.serve_relations_on-answer.new.source.reads; read_faults = 0; write_faults = 0 } in
    let made = went.1 ∙ ap (λ k. k ++ went.0) c.new-desk.ensures.calls in
    let fits : turns < 2 ^ 64 = search rules in
    let cause = cause_of_calls answer turns c.new-desk.result.calls c.serve_relations_on-answer.new.desk.calls went.0 before after went.1
    c.serve_relations_on-answer.ensures.cause in
    subst (λ calls. questions recording.calls < questions calls) (sym (c.calls.ensures.calls ∙ made))
    (asked_more answer c.as_slice-2.result.now (Some c.serve_relations_on-answer.new.source.left.now) turns (questions recording.calls)
    (questions went.0) before after refl
    (c.turns_of-turns.ensures ∙ ap (λ bytes. length bytes + 1 + questions recording.calls) (sym c.as_slice-2.ensures)) fits
    c.serve_relations_on-answer.ensures.serves.reads cause limit)

pub returns : goal.returns
returns c =
    let relations = c.args.relations.now in
    let recording = c.args.recording.now in
    let answer = c.serve_relations_on-answer.result in
    let desk = c.serve_relations_on-answer.new.desk in
    let left = Some c.serve_relations_on-answer.new.source.left.now in
    let went = c.serve_relations_on-answer.ensures.went in
    let fits : FitsSigned w32 recording.pid = search rules in
    let made = c.calls.ensures.calls ∙ went.1 ∙ ap (λ k. k ++ went.0) c.new-desk.ensures.calls in
    let script = one_script desk.script (answers_of recording.calls)
    (ap (λ d. d.origin) c.serve_relations_on-answer.ensures.serves.registration.grown ∙ ap origin_of
    (c.new-desk.ensures.script ∙ c.in_ok-answers.ensures ∙ ap answers_of c.as_slice.ensures)) in
    let answered = scripted_calls desk.script desk.answers (answers_of recording.calls) desk.calls c.calls.result.now
    c.calls.ensures.scripted script c.calls.ensures.calls in
    let by_whole = went_by relations answer left recording.pid c.new-desk.result.pid recording.key c.new-desk.result.key recording.client
    c.as_slice-2.result.now c.new.result.items c.as_slice-3.result.now c.serve_relations_on-answer.new.sink.bytes.items c.calls.result.now
    went.0 (c.new-desk.ensures.pid ∙ to_z-of_z w32 recording.pid fits) (c.new-desk.ensures.key ∙ c.in_ok-key.ensures) c.as_slice-2.ensures
    c.new.ensures.items c.as_slice-3.ensures.value made went.2.whole in
    let on = judged relations recording left c.as_slice-3.result.now c.calls.result.now answered answer c.judge.result by_whole
    c.judge.ensures.ended c.judge.ensures.spent c.judge.ensures.given_up in
    record {
      same = IfOk-weaker c.judge.result (IsVerdictOn relations recording) _ (same_exactly relations recording) on;
      verdict = IfOk-weaker c.judge.result (IsVerdictOn relations recording) _ (verdict_of_each relations recording) on;
      exists = on;
    }
