use Rattle.std.proofs.Common.{◌≡◌, ◌∙◌, ◌∷◌, ◌++◌, ℕ, ap, drop, sym}
use Rattle.pg_client.specs.Desk.{DeskTold, GoesOn, narrowed}
use Rattle.client_services.specs.Served.{IsServedBy}
use Rattle.pg_engine.specs.Around.{around}
use Rattle.session_recording.specs.declared.keeping.FirstBytes.{FirstBytes}
use Rattle.session_recording.proofs.Origins.{IsSameRecorder, IsSameSink, known_again, made_are_kept, same_head, sink_known_again}
use Rattle.session_recording.proofs.Recordings.{counted_again, of_same, sent_again, taken_again}
use Rattle.session_recording.proofs.recorder.serve_recorded.Given.{Over}
use Rattle.session_recording.proofs.recorder.serve_recorded.Goals as goal

-- what a recorded desk tells goes on as what the desk under it tells does
goes_on_under : (old new : DeskTold) (name new_name n new_n : ℕ)
    → GoesOn (record { registration = old.registration; calls = old.calls; origin = name ∷ n ∷ old.origin })
    (record { registration = new.registration; calls = new.calls; origin = new_name ∷ new_n ∷ new.origin })
    → GoesOn old new
goes_on_under old new name new_name n new_n over =
    let made = over.made in
    let registration = ap (λ (d : DeskTold). d.registration) over.grown in
    let calls = ap (λ (d : DeskTold). d.calls) over.grown in
    let origin = ap (λ (d : DeskTold). drop 2 d.origin) over.grown in record {
      made = made;
      grown = ap (λ r. record { registration = r; calls = new.calls; origin = new.origin }) registration
          ∙ ap (λ k. record { registration = narrowed old.registration made; calls = k; origin = new.origin }) calls
          ∙ ap (λ o. record { registration = narrowed old.registration made; calls = old.calls ++ made; origin = o }) origin;
    }

-- the source's recorder is known again
source_known : (g : Over) (c : goal.After-sink-2-1 g) → let new = c.serve-answer.new.source in
    let old = c.new-source.result in
    IsSameRecorder old.source.ghost_name new.source.ghost_name old.kept.room new.kept.room (g.S.Source.origin old.source.now)
    (g.S.Source.origin new.source.now) (g.S.Source.left old.before.value) (g.S.Source.left new.before.value)
source_known g c =
    let new = c.serve-answer.new.source in
    let old = c.new-source.result in
    known_again old.source.ghost_name new.source.ghost_name old.kept.room new.kept.room (g.S.Source.origin old.source.now)
    (g.S.Source.origin new.source.now) (g.S.Source.left old.before.value) (g.S.Source.left new.before.value)
    c.serve-answer.ensures.serves.source

-- and so is the sink's
sink_known : (g : Over) (c : goal.After-sink-2-1 g) → let new = c.serve-answer.new.sink in
    let old = c.new-sink.result in
    IsSameSink (g.K.Sink.sent old.before.value) (g.K.Sink.sent new.before.value) (g.K.Sink.refused old.before.value)
    (g.K.Sink.refused new.before.value) old.sink.ghost_name new.sink.ghost_name old.kept.room new.kept.room (g.K.Sink.origin old.sink.now)
    (g.K.Sink.origin new.sink.now) (g.K.Sink.written old.before.value) (g.K.Sink.written new.before.value)
sink_known g c =
    let new = c.serve-answer.new.sink in
    let old = c.new-sink.result in
    sink_known_again (g.K.Sink.sent old.before.value) (g.K.Sink.sent new.before.value) (g.K.Sink.refused old.before.value)
    (g.K.Sink.refused new.before.value) old.sink.ghost_name new.sink.ghost_name old.kept.room new.kept.room (g.K.Sink.origin old.sink.now)
    (g.K.Sink.origin new.sink.now) (g.K.Sink.written old.before.value) (g.K.Sink.written new.before.value)
    c.serve-answer.ensures.serves.sink

-- so each was left as its recorder has it
source_left : (g : Over) (c : goal.After-sink-2-1 g) → c.source-2-1.given.0 ≡ c.serve-answer.new.source.source.now
source_left g c =
    c.source-2-1.given.1 (sym ((source_known g c).same_name ∙ c.new-source.ensures.same_reference)) ∙ c.give_back-2.ensures

sink_left : (g : Over) (c : goal.After-sink-2-1 g) → c.sink-2-1.given.0 ≡ c.serve-answer.new.sink.sink.now
sink_left g c = c.sink-2-1.given.1 (sym ((sink_known g c).same.same_name ∙ c.new-sink.ensures.same_reference)) ∙ c.give_back-3.ensures

desk_left : (g : Over) (c : goal.After-sink-2-1 g) → c.desk-2-1.given.0 ≡ c.serve-answer.new.desk.desk.now
desk_left g c =
    let origins = ap (λ (d : DeskTold). d.origin) c.serve-answer.ensures.serves.registration.grown in
    c.desk-2-1.given.1 (sym c.new-desk.ensures.same_reference ∙ same_head _ _ _ _ origins) ∙ c.give_back.ensures

pub returns-clause-client : goal.returns-clause-client
returns-clause-client g c =
    let new = c.serve-answer.new.source in
    let k = source_known g c in
    taken_again (g.S.Source.left c.args.source.now) (g.S.Source.left new.before.value) (g.S.Source.left new.source.now)
    (g.S.Source.left c.source-2-1.given.0) c.args.client.room new.kept.room new.kept.bytes.items new.kept.count
    (k.same_told ∙ ap g.S.Source.left c.new-source.ensures.before) (k.same_room ∙ ap (λ (b : FirstBytes). b.room) c.new-source.ensures.kept)
    (ap g.S.Source.left (source_left g c)) new.recorded

pub returns-clause-replies : goal.returns-clause-replies
returns-clause-replies g c =
    let new = c.serve-answer.new.sink in
    let k = (sink_known g c).same in
    sent_again (g.K.Sink.written c.args.sink.now) (g.K.Sink.written new.before.value) (g.K.Sink.written new.sink.now)
    (g.K.Sink.written c.sink-2-1.given.0) c.args.replies.room new.kept.room new.kept.bytes.items new.kept.count new.has_refused
    (k.same_told ∙ ap g.K.Sink.written c.new-sink.ensures.before) (k.same_room ∙ ap (λ (b : FirstBytes). b.room) c.new-sink.ensures.kept)
    (ap g.K.Sink.written (sink_left g c)) new.recorded

pub returns-clause-counted : goal.returns-clause-counted
returns-clause-counted g c =
    let new = c.serve-answer.new.sink in
    let k = sink_known g c in
    counted_again new.kept.count new.has_refused (g.K.Sink.sent c.args.sink.now) (g.K.Sink.sent new.before.value)
    (g.K.Sink.sent new.sink.now) (g.K.Sink.sent c.sink-2-1.given.0) (g.K.Sink.refused c.args.sink.now)
    (g.K.Sink.refused new.before.value) (g.K.Sink.refused new.sink.now) (g.K.Sink.refused c.sink-2-1.given.0)
    (k.same_sent ∙ ap g.K.Sink.sent c.new-sink.ensures.before) (ap g.K.Sink.sent (sink_left g c))
    (k.same_refused ∙ ap g.K.Sink.refused c.new-sink.ensures.before) (ap g.K.Sink.refused (sink_left g c)) new.agreed

pub returns-clause-client_room : goal.returns-clause-client_room
returns-clause-client_room g c = (source_known g c).same_room ∙ ap (λ (b : FirstBytes). b.room) c.new-source.ensures.kept

pub returns-clause-replies_room : goal.returns-clause-replies_room
returns-clause-replies_room g c = (sink_known g c).same.same_room ∙ ap (λ (b : FirstBytes). b.room) c.new-sink.ensures.kept

pub returns-clause-calls : goal.returns-clause-calls
returns-clause-calls g c =
    let new = c.serve-answer.new.desk in
    let old = c.new-desk.result in
    let went = c.serve-answer.ensures.serves.went in
    let origins = ap (λ (d : DeskTold). d.origin) c.serve-answer.ensures.serves.registration.grown in
    let kept = made_are_kept _ _ _ _ (g.D.CancelDesk.told old.desk.now).calls (g.D.CancelDesk.told new.desk.now).calls went.0
    old.kept.items new.kept.items origins c.new-desk.ensures.kept went.1 new.recorded in
    ap (λ d. (g.D.CancelDesk.told d).calls) (desk_left g c) ∙ went.1
    ∙ ap (λ d. (g.D.CancelDesk.told d).calls ++ went.0) c.new-desk.ensures.desk
    ∙ ap (λ k. (g.D.CancelDesk.told c.args.desk.now).calls ++ k) kept

-- the client was served as without recorders
pub returns-clause-served : goal.returns-clause-served
returns-clause-served g c =
    let service = c.args.service.now in
    let under = c.serve-answer.ensures in
    let through = under.serves in
    let told = g.D.CancelDesk.told in
    let round = around g.S.Source.left g.S.Source.reads g.S.Source.faults g.S.Source.origin g.K.Sink.written g.K.Sink.faults
    g.K.Sink.origin told in
    of_same (λ d e s t k l. IsServedBy (g.V.Service.rules service)
    (g.V.Service.begins service (told d).registration.0 (told d).registration.1) (g.V.Service.also service) c.args.turn_limit
    c.serve-answer.result (round s k d) (round t l e))
    c.new-desk.result.desk.now c.args.desk.now c.serve-answer.new.desk.desk.now c.desk-2-1.given.0 c.new-source.result.source.now
    c.args.source.now c.serve-answer.new.source.source.now c.source-2-1.given.0 c.new-sink.result.sink.now c.args.sink.now
    c.serve-answer.new.sink.sink.now c.sink-2-1.given.0 c.new-desk.ensures.desk (sym (desk_left g c)) c.new-source.ensures.source
    (sym (source_left g c)) c.new-sink.ensures.sink (sym (sink_left g c)) (record {
      first = under.first;
      begun = under.begun;
      serves = record {
        went = through.went;
        cause = through.cause;
        last = through.last;
        taken = through.taken;
        calm = through.calm;
        never_falls = through.never_falls;
        reads = through.reads;
        registration = goes_on_under _ _ _ _ _ _ through.registration;
        source = (source_known g c).same_origin;
        sink = (sink_known g c).same.same_origin;
      };
      calls = under.calls;
      grown = under.grown;
      promised = under.promised;
    })
