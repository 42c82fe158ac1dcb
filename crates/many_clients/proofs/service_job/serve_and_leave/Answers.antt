use Rattle.std.proofs.Common.{subst, sym}
use Rattle.client_services.specs.Served.{Promise}
use Rattle.pg_engine.specs.Serving.{HasCause, WentSo, counts_of}
use Rattle.pg_serve.specs.Desk.{desk_calls}
use Rattle.many_clients.proofs.Handles.{calls_are_made, left_behind, made_since, since_made, taken_made}
use Rattle.many_clients.proofs.service_job.serve_and_leave.Goals as goal

pub returns : goal.returns
returns g c =
    let old = c.args.handle in
    let new = c.serve_registered-answer.new.handle in
    let told = c.serve_registered-answer.ensures in
    let served = told.served in
    let result = c.serve_registered-answer.result in
    let left = g.S.Source.left c.args.source.now in
    let new_left = g.S.Source.left c.serve_registered-answer.new.source in
    let written = g.K.Sink.written c.args.sink.now in
    let new_written = g.K.Sink.written c.serve_registered-answer.new.sink in
    let before = counts_of g.S.Source.reads g.S.Source.faults g.K.Sink.faults c.args.source.now c.args.sink.now in
    let after = counts_of g.S.Source.reads g.S.Source.faults g.K.Sink.faults c.serve_registered-answer.new.source
    c.serve_registered-answer.new.sink in
    let rules = g.V.Service.rules c.args.service.now in
    let split = made_since old.mine new.mine told.grown in
    let made = split.0 in
    let is = split.1 in
    record {
      first = served.first;
      begun = served.begun;
      conversed = record {
        made = made;
        behind = left_behind old new made c.leave.result told.usable.same told.usable.seen is c.leave.ensures;
        went = subst (λ calls. WentSo rules served.first result left new_left written new_written calls)
            (calls_are_made old.mine new.mine made served.serves.went.0 is served.serves.went.1) served.serves.went.2;
        cause = subst (λ asked. HasCause result c.args.turn_limit asked before after) (since_made old.mine new.mine made is) told.cause;
        last = served.serves.last;
        taken = taken_made rules served.first result left new_left written new_written old.mine new.mine made is served.serves.taken;
        calm = served.serves.calm;
        never_falls = served.serves.never_falls;
        gave = served.serves.reads;
      };
      promised = subst (λ calls. g.V.Service.also c.args.service.now served.first c.args.turn_limit result left new_left calls before after)
          (calls_are_made old.mine new.mine made served.calls is served.grown) served.promised;
    }
