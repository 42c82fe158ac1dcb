-- The transaction status that ReadyForQuery tells (protocol: Message Flow, Extended Query).
use Rattle.pg_messages.specs.declared.response.TransactionStatus.{TransactionStatus}
use Rattle.pg_messages.specs.declared.response.TransactionStatus.TheVariants as status

-- An error fails a transaction, and outside of one changes nothing.
abbrev pub to_error_state : TransactionStatus → TransactionStatus
to_error_state status.Idle = status.Idle
to_error_state _ = status.Error

-- BEGIN begins a transaction, and changes nothing in one that has failed.
abbrev pub to_in_transaction_state : TransactionStatus → TransactionStatus
to_in_transaction_state status.Error = status.Error
to_in_transaction_state _ = status.Transaction
