use Rattle.std.proofs.Common.{◌≡◌, ◌∙◌, ◌<◌, ◌≤◌, ◌^◌, FitsSigned, length, min, IfOk, rules, subst, w32}
use Rattle.std.specs.Prelude.{IfSome}
use Rattle.std.proofs.lemmas.Int.{to_z-of_z}
use Rattle.session_recording.specs.Kept.{IsSentTo, IsTakenOf}
use Rattle.session_recording.specs.Making.{IsMadeOf}
use Rattle.session_recording.specs.Recorded.{IsRecorded, passage}
use Rattle.session_recording.proofs.Recordings.{recorded_so}
use Rattle.session_recording.proofs.recorder.record_in.Given.{Over}
use Rattle.session_recording.proofs.recorder.record_in.Goals as goal

recorded : (g : Over) (c : goal.After-recording_of g) → IsRecorded (g.D.CancelDesk.told c.args.desk.now).registration c.args.room
    c.serve_recorded-answer.result.0 c.recording_of.result
    (passage g.S.Source.left g.K.Sink.written g.K.Sink.refused g.K.Sink.sent c.args.source.now c.args.sink.now
    c.serve_recorded-answer.new.source c.serve_recorded-answer.new.sink) c.serve_recorded-answer.result.1.calls.items
recorded g c =
    let kept = c.serve_recorded-answer.result.1 in
    let answer = c.serve_recorded-answer.result.0 in
    let registration = (g.D.CancelDesk.told c.args.desk.now).registration in
    let space = c.args.space in
    let ready = c.requires in
    let pid = space.pid in
    let fits : FitsSigned w32 pid = search rules in
    let few_taken : kept.client.count < 2 ^ 64 = search rules in
    let few_sent : kept.replies.count < 2 ^ 64 = search rules in
    let client_room = ready.client.room_for in
    let replies_room = ready.replies.room_for in
    let client_within =
    subst (λ r. length kept.client.bytes.items ≤ r) (c.serve_recorded-answer.ensures.client_room ∙ client_room) kept.client.within in
    let replies_measured = subst (λ r. length kept.replies.bytes.items ≡ min r kept.replies.count)
    (c.serve_recorded-answer.ensures.replies_room ∙ replies_room) kept.replies.measured in
    let client = subst (λ r. IfSome (g.S.Source.left c.args.source.now)
    (λ text. IsTakenOf text (g.S.Source.left c.serve_recorded-answer.new.source) r kept.client.bytes.items kept.client.count))
    client_room c.serve_recorded-answer.ensures.client in
    let replies = subst (λ r. IfSome (g.K.Sink.written c.args.sink.now)
    (λ first. IsSentTo first (g.K.Sink.written c.serve_recorded-answer.new.sink) r kept.replies.bytes.items kept.replies.count
    kept.has_refused)) replies_room c.serve_recorded-answer.ensures.replies in
    recorded_so registration c.args.room kept (g.S.Source.left c.args.source.now)
    (g.S.Source.left c.serve_recorded-answer.new.source) (g.K.Sink.written c.args.sink.now)
    (g.K.Sink.written c.serve_recorded-answer.new.sink) (g.K.Sink.refused c.args.sink.now)
    (g.K.Sink.refused c.serve_recorded-answer.new.sink) (g.K.Sink.sent c.args.sink.now)
    (g.K.Sink.sent c.serve_recorded-answer.new.sink) ready.small few_taken few_sent
    client_within replies_measured client replies c.serve_recorded-answer.ensures.counted answer c.recording_of.result
    (subst (λ k. IfOk c.recording_of.result (IsMadeOf answer c.args.room registration.0 k kept)) ready.key
    (subst (λ p. IfOk c.recording_of.result (IsMadeOf answer c.args.room p space.key kept))
    (to_z-of_z w32 pid fits ∙ ready.pid) c.recording_of.ensures.made))
    c.recording_of.ensures.refused

pub returns-clause-recorded : goal.returns-clause-recorded
returns-clause-recorded g c =
    (c.serve_recorded-answer.result.1.calls.items, c.serve_recorded-answer.ensures.calls, recorded g c)
