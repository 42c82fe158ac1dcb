-- Whole conversation table: the answer to a message in a state, with any handlers (protocol: Message Flow).
use Rattle.std.specs.Prelude.{Bool, true, false, List, []}
use Rattle.pg_messages.specs.declared.frontend.PgWireFrontendMessage.{PgWireFrontendMessage}
use Rattle.pg_messages.specs.declared.frontend.PgWireFrontendMessage.TheVariants as client
use Rattle.pg_results.specs.declared.client.PgWireConnectionState.{PgWireConnectionState}
use Rattle.pg_results.specs.declared.client.PgWireConnectionState.TheVariants as phase
use Rattle.pg_client.specs.declared.ends.EndKind.TheVariants as end
use Rattle.pg_client.specs.Answer.{Table}
use Rattle.conversation_table.specs.Handlers.{Handlers, ExtendedTold}
use Rattle.pg_client.specs.State.{State}
use Rattle.pg_client.specs.Effect.{Effect, Called, Scope, UntilSync, AnswersReady, says, over, silent, settle}
use Rattle.pg_client.specs.StartupRows.{startup_row}
use Rattle.conversation_table.specs.ExtendedRows.{on_parse, on_bind, on_describe, on_close, on_sync}
use Rattle.conversation_table.specs.ExecuteRow.{on_execute}
use Rattle.conversation_table.specs.SimpleRows.{on_query}
use Rattle.conversation_table.specs.CopyRows.{copy_row}

-- Messages without a registry call, while the server is ready. Those of a COPY, and Flush, get no reply.
abbrev pub statement_row : {S : Type 0} → ExtendedTold S → State S → PgWireFrontendMessage → Effect S
statement_row h s (client.Parse m) = on_parse h s m
statement_row h s (client.Bind m) = on_bind h s m
statement_row h s (client.Describe m) = on_describe h s m
statement_row h s (client.Close m) = on_close s m
statement_row h s (client.PgSync m) = on_sync s
statement_row h s (client.Terminate m) = over end.Terminate
statement_row h s _ = says [] s

-- The server is ready.
abbrev pub ready_row : {S : Type 0} → Handlers S → List Bool → State S → PgWireFrontendMessage → Called S
ready_row h answers s (client.Query m) = on_query h.simple answers s m
ready_row h answers s (client.Execute m) = on_execute h.extended answers s m
ready_row h answers s m = silent (statement_row h.extended s m)

-- a message without a registry call while the server is ready, which doesn't end the conversation
abbrev pub IsPlain : PgWireFrontendMessage → Type 0
IsPlain (client.Query m) = ⊥
IsPlain (client.Execute m) = ⊥
IsPlain (client.Terminate m) = ⊥
IsPlain _ = Unit {0}

-- After an error in an extended message all is dropped until Sync.
abbrev pub awaiting_sync_row : {S : Type 0} → State S → PgWireFrontendMessage → Effect S
awaiting_sync_row s (client.PgSync m) = on_sync s
awaiting_sync_row s (client.Terminate m) = over end.Terminate
awaiting_sync_row s _ = says [] s

-- the row of a message in a phase
abbrev pub row : {S : Type 0} → Handlers S → List Bool → State S → PgWireFrontendMessage → PgWireConnectionState → Called S
row h answers s m phase.AwaitingStartup = startup_row answers s m
row h answers s m phase.ReadyForQuery = ready_row h answers s m
row h answers s m phase.AwaitingSync = silent (awaiting_sync_row s m)
row h answers s m (phase.CopyInProgress is_extended) = silent (copy_row h.copying is_extended s m)

abbrev pub message_row : {S : Type 0} → Handlers S → List Bool → State S → PgWireFrontendMessage → Called S
message_row h answers s m = row h answers s m s.info.state

-- what an error in a message ends, where the server is ready
abbrev pub scope_of : PgWireFrontendMessage → Scope
scope_of (client.Query m) = AnswersReady
scope_of _ = UntilSync

abbrev pub copy_scope : Bool → Scope
copy_scope true = UntilSync
copy_scope false = AnswersReady

-- what an error in a message ends
abbrev pub scope_in : PgWireConnectionState → PgWireFrontendMessage → Scope
scope_in phase.ReadyForQuery m = scope_of m
scope_in (phase.CopyInProgress is_extended) m = copy_scope is_extended
scope_in _ m = UntilSync

abbrev pub whole_table : {S : Type 0} → Handlers S → Table (State S)
whole_table h answers s m = settle (scope_in s.info.state m) (message_row h answers s m)

-- whether the startup packet is still awaited
abbrev pub is_startup_phase : PgWireConnectionState → Bool
is_startup_phase phase.AwaitingStartup = true
is_startup_phase _ = false

abbrev pub awaits : {S : Type 0} → State S → Bool
awaits s = is_startup_phase s.info.state
