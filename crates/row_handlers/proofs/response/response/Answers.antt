use Rattle.std.proofs.Common.{sym, subst}
use Rattle.conversation_table.specs.Good.{IsSendableResponse}
use Rattle.pg_replies.proofs.Encodable.{select_is_tag}
use Rattle.row_handlers.proofs.response.response.Goals as goal

pub returns-clause-sendable : goal.returns-clause-sendable
returns-clause-sendable g c =
    subst IsSendableResponse (sym c.in_ok-rows_under.ensures) (c.in_ok-fields.ensures.sendable, select_is_tag)
