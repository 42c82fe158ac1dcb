-- Cursor table: a conversation table in which a Query that is a cursor command is answered as a few extended messages are, with their
-- replies changed (protocol: Message Flow, Extended Query). Every other message is answered as before.
use Rattle.std.specs.Prelude.{Bool, true, false, List, Option, Some, None, if◌then◌else◌}
use Rattle.pg_messages.specs.declared.frontend.PgWireFrontendMessage.{PgWireFrontendMessage}
use Rattle.pg_messages.specs.declared.frontend.PgWireFrontendMessage.TheVariants as client
use Rattle.pg_results.specs.declared.client.PgWireConnectionState.{PgWireConnectionState}
use Rattle.pg_results.specs.declared.client.PgWireConnectionState.TheVariants as phase
use Rattle.pg_client.specs.Answer.{Answer, Table, conversation}
use Rattle.conversation_table.specs.Handlers.{Handlers}
use Rattle.pg_client.specs.State.{State}
use Rattle.conversation_table.specs.Table.{whole_table, awaits}
use Rattle.conversation_runs.specs.Run.{Rules}
use Rattle.cursor_commands.specs.declared.command.CursorCommand.{CursorCommand}
use Rattle.cursor_commands.specs.Commands.{command_of}
use Rattle.cursor_commands.specs.Cursors.{messages_of, replies_of}

-- The answer to a command: that to its messages in turn, with its replies changed. State and registry calls are theirs.
abbrev pub command_row : {T : Type 0} → Table T → List Bool → T → CursorCommand → Answer T
command_row table answers s command =
    let given = conversation table answers s (messages_of command) in
    record { replies = replies_of command given.replies; calls = given.calls; next = given.next }

-- the command that a message is
abbrev pub asked_command : PgWireFrontendMessage → Option CursorCommand
asked_command (client.Query m) = command_of m.query
asked_command _ = None

abbrev pub row_by : {T : Type 0} → Table T → List Bool → T → PgWireFrontendMessage → Option CursorCommand → Answer T
row_by table answers s m (Some command) = command_row table answers s command
row_by table answers s m None = table answers s m

-- A Query is a command only while the server is ready for one.
abbrev pub cursor_table : {T : Type 0} → (T → Bool) → Table T → Table T
cursor_table ready table answers s m = if ready s then row_by table answers s m (asked_command m) else table answers s m

abbrev pub is_ready_phase : PgWireConnectionState → Bool
is_ready_phase phase.ReadyForQuery = true
is_ready_phase _ = false

-- the server is ready for a query
abbrev pub is_ready : {S : Type 0} → State S → Bool
is_ready s = is_ready_phase s.info.state

-- the conversation with cursors by what handlers tell
abbrev pub cursor_rules : {S : Type 0} → Handlers S → Rules (State S)
cursor_rules h = record { table = cursor_table is_ready (whole_table h); awaits = awaits }
