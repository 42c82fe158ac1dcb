use Rattle.std.proofs.Common.{◌≡◌, ◌∙◌, sym, ap, subst}
use mathlib.Core.List.{IsPrefix}
use Rattle.pg_cancel.specs.Connections.{calls_of}
use Rattle.client_services.specs.Served.{IsServedBy}
use Rattle.pg_serve.specs.Desk.{ConnectionGoesOn, desk_calls, desk_of}
use Rattle.pg_engine.specs.Around.{around}
use Rattle.pg_serve.proofs.Calls.{calls_made, desk_goes_on, goes_on_as, served_as}
use Rattle.many_clients.proofs.registered.serve_registered.Given.{Over}
use Rattle.many_clients.proofs.registered.serve_registered.Goals as goal

-- the connection is the same behind the calls of its desk
went_on : (g : Over) (c : goal.After-take_in g) → ConnectionGoesOn c.note-before.new.handle c.serve_at_desk-answer.new.handle
went_on g c =
    desk_goes_on 0 0 c.note-before.new.handle c.serve_at_desk-answer.new.handle c.serve_at_desk-answer.ensures.serves.registration

pub returns-clause-grown : goal.returns-clause-grown
returns-clause-grown g c =
    let note = c.note-before.result in
    let old = c.note-before.new.handle in
    let new = c.take_in.new.handle in
    let served = c.serve_at_desk-answer.ensures in
    let made = calls_made old.number note.seen new.seen old.mine new.mine served.serves.went.0 c.take_in.ensures.told
    (subst (λ h. calls_of h.number note.seen ≡ h.mine) (sym c.note-before.ensures.same) c.note-before.ensures.own)
    (ap (λ n. calls_of n new.seen) (sym (c.take_in.ensures.same.1 ∙ (went_on g c).number)) ∙ c.take_in.ensures.own)
    (ap desk_calls c.take_in.ensures.mine ∙ served.serves.went.1) in
    subst (λ h. IsPrefix h.mine new.mine) c.note-before.ensures.same (made.0, sym made.1)

served : (g : Over) (c : goal.After-take_in g) → let round = around g.S.Source.left g.S.Source.reads g.S.Source.faults g.S.Source.origin
    g.K.Sink.written g.K.Sink.faults g.K.Sink.origin desk_of in
    IsServedBy (g.V.Service.rules c.args.service.now)
    (g.V.Service.begins c.args.service.now c.args.handle.now.pid c.args.handle.now.key) (g.V.Service.also c.args.service.now)
    c.args.turn_limit c.serve_at_desk-answer.result
    (round c.args.source.now c.args.sink.now c.args.handle.now)
    (round c.serve_at_desk-answer.new.source c.serve_at_desk-answer.new.sink c.take_in.new.handle)
served g c =
    let rules = g.V.Service.rules c.args.service.now in
    let begins = g.V.Service.begins c.args.service.now in
    let also = g.V.Service.also c.args.service.now in
    let old = c.note-before.new.handle in
    let between = c.serve_at_desk-answer.new.handle in
    let new = c.take_in.new.handle in
    let round = around g.S.Source.left g.S.Source.reads g.S.Source.faults g.S.Source.origin g.K.Sink.written g.K.Sink.faults
    g.K.Sink.origin desk_of in
    let after = round c.serve_at_desk-answer.new.source c.serve_at_desk-answer.new.sink in
    let told = c.serve_at_desk-answer.ensures in
    subst (λ h. IsServedBy rules (begins h.pid h.key) also c.args.turn_limit c.serve_at_desk-answer.result
    (round c.args.source.now c.args.sink.now h) (after new))
    c.note-before.ensures.same
    (record {
      first = told.first;
      begun = told.begun;
      serves = served_as rules told.first c.args.turn_limit c.serve_at_desk-answer.result
          (round c.args.source.now c.args.sink.now old) (after between) between new c.take_in.ensures.same c.take_in.ensures.mine
          told.serves;
      calls = told.calls;
      grown = ap desk_calls c.take_in.ensures.mine ∙ told.grown;
      promised = told.promised;
    })

pub returns-clause-served : goal.returns-clause-served
returns-clause-served g c = served g c

pub returns-clause-cause : goal.returns-clause-cause
returns-clause-cause g c = (served g c).serves.cause

pub returns-clause-usable : goal.returns-clause-usable
returns-clause-usable g c =
    let on = subst (λ h. ConnectionGoesOn h c.serve_at_desk-answer.new.handle) c.note-before.ensures.same (went_on g c) in
    record {
      same = goes_on_as c.args.handle.now c.serve_at_desk-answer.new.handle c.take_in.new.handle on c.take_in.ensures.same
          c.take_in.ensures.mine;
      seen = subst (λ seen. IsPrefix seen c.take_in.new.handle.seen) c.note-before.ensures.seen c.take_in.ensures.told;
      legal = c.take_in.ensures.legal;
      own = c.take_in.ensures.own;
    }
