use Rattle.std.proofs.Common.{[], ◌∷◌, ◌∙◌, codes}
use Rattle.pg_messages.specs.declared.backend.PgWireBackendMessage.TheVariants as server
use Rattle.pg_replies.specs.Replies.{done_with}
use Rattle.pg_replies.proofs.Encodable.{copy_is_tag}
use Rattle.pg_replies.proofs.Sent.{one_behind, kept_in_front}
use Rattle.pg_replies.proofs.send.send_copy_end.Goals as goal

pub send_done-requires : goal.send_done-requires
send_done-requires c = copy_is_tag

pub returns-in_err-send_done-clause-kept : goal.returns-in_err-send_done-clause-kept
returns-in_err-send_done-clause-kept c = kept_in_front _ _ _ (c.in_err-send_done.ensures.err ∙ c.in_ok-push_reply.ensures.ok)

pub returns-clause-ok : goal.returns-clause-ok
returns-clause-ok c =
    one_behind _ _ _ (server.CopyDone (record {})) (done_with (codes "COPY") c.args.count ∷ []) c.in_ok-push_reply.ensures.ok
    c.in_ok-send_done.ensures.ok

pub returns-clause-kept : goal.returns-clause-kept
returns-clause-kept c = kept_in_front _ _ _ (one_behind _ _ _ (server.CopyDone (record {})) (done_with (codes "COPY") c.args.count ∷ [])
    c.in_ok-push_reply.ensures.ok c.in_ok-send_done.ensures.ok)
