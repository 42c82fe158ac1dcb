use Rattle.relation_server.proofs.Registering.{counted}
use Rattle.relation_server.proofs.demo.serve_demo.Goals as goal

pub returns-clause-counted : goal.returns-clause-counted
returns-clause-counted g c =
    counted c.args.handle c.args.relations.now _ c.args.count c.len-length.result c.serve_and_leave-answer.result.0 c.args.client
    c.new-source.result.left c.new-replies.result.bytes c.serve_and_leave-answer.new.sink.bytes c.bytes.result.now _ _ _
    c.serve_and_leave-answer.result.1 c.tell_end-outcome.result _ _ _ _ c.new-source.ensures.left c.new-replies.ensures.bytes
    c.bytes.ensures
    c.len-length.ensures c.serve_and_leave-answer.ensures.conversed c.tell_end-outcome.ensures.ended c.tell_end-outcome.ensures.given_up
