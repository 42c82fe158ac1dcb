use Rattle.std.proofs.Common.{◌∷◌, []}
use Rattle.pg_messages.specs.declared.backend.PgWireBackendMessage.TheVariants as server
use Rattle.pg_replies.specs.Replies.{ready}
use Rattle.pg_replies.proofs.Sent.{sent_behind}
use Rattle.pg_handlers.proofs.query.simple.answer_blank.Goals as goal

pub returns-clause-ok : goal.returns-clause-ok
returns-clause-ok c =
    sent_behind c.args.outbox.now c.send_empty_query_response.new.outbox c.send_ready_for_query.new.outbox
    (server.EmptyQueryResponse (record {}) ∷ []) (ready c.args.status ∷ []) c.in_ok-send_empty_query_response.ensures.ok
    c.in_ok-send_ready_for_query.ensures.ok
