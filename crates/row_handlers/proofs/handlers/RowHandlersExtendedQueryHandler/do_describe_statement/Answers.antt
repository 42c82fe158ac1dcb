use Rattle.std.proofs.Common.{sym, subst}
use Rattle.conversation_table.specs.Good.{IsSendableDescription}
use Rattle.row_handlers.proofs.Sendable.{types_sendable}
use Rattle.row_handlers.proofs.handlers.RowHandlersExtendedQueryHandler.do_describe_statement.Goals as goal

pub returns-clause-sendable : goal.returns-clause-sendable
returns-clause-sendable g c = subst IsSendableDescription (sym c.new.ensures) (record {
  parameters = types_sendable c.in_ok-types.types c.in_ok-types.ensures.few;
  fields = c.in_ok-fields.ensures.sendable;
})
