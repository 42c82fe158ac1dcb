use Rattle.std.proofs.Common.{subst}
use Rattle.pg_engine.specs.Serving.{HasCause, counts_of}
use Rattle.many_clients.proofs.Handles.{left_behind, since_made}
use Rattle.relation_server.proofs.connection_job.serve_and_leave.Goals as goal

pub returns : goal.returns
returns g c =
    let old = c.args.handle in
    let new = c.serve_relations-answer.new.handle in
    let served = c.serve_relations-answer.ensures in
    let made = served.went.0 in
    record {
      conversed = record {
        made = made;
        behind = left_behind old new made c.leave.result served.usable.same served.usable.seen served.went.1 c.leave.ensures;
        went = served.went.2;
        cause = subst (λ asked. HasCause c.serve_relations-answer.result c.args.turn_limit asked
            (counts_of g.S.Source.reads g.S.Source.faults g.K.Sink.faults c.args.source.now c.args.sink.now)
            (counts_of g.S.Source.reads g.S.Source.faults g.K.Sink.faults c.serve_relations-answer.new.source
            c.serve_relations-answer.new.sink))
            (since_made old.mine new.mine made served.went.1) served.cause;
        last = served.serves.last;
        calm = served.serves.calm;
        never_falls = served.serves.never_falls;
        complete = served.complete;
        gave = served.serves.reads;
      };
    }
