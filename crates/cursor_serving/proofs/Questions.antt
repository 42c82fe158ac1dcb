-- A conversation with cursors asks no more questions than its messages that run a query, each as often as a relation is unready.
use Rattle.std.proofs.Common.{◌≡◌, ◌≤◌, ℕ, if◌then◌else◌, arith, Bool, true, false, List, Option, Some, None, refl}
use Rattle.std.specs.Prelude.{◌*◌}
use Rattle.std.proofs.Math.Nat.{one-mul}
use Rattle.std.proofs.lemmas.Nat.{mul-le}
use Rattle.pg_messages.specs.declared.frontend.PgWireFrontendMessage.{PgWireFrontendMessage}
use Rattle.pg_messages.specs.declared.frontend.PgWireFrontendMessage.TheVariants as client
use Rattle.pg_client.specs.Answer.{Table, conversation}
use Rattle.conversation_table.specs.Questions.{questions}
use Rattle.pg_client.specs.State.{State}
use Rattle.conversation_table.specs.Table.{whole_table}
use Rattle.cursor_commands.specs.declared.command.CursorCommand.{CursorCommand}
use Rattle.cursor_commands.specs.declared.command.CursorCommand.TheVariants.{Declare, Fetch, Close}
use Rattle.cursor_commands.specs.Commands.{command_of}
use Rattle.cursor_commands.specs.Cursors.{messages_of}
use Rattle.cursor_table.specs.CursorTable.{asked_command, row_by, cursor_table, is_ready}
use Rattle.relation_tables.specs.declared.Relation.{Relation}
use Rattle.relation_tables.specs.declared.RelationStatement.{RelationStatement}
use Rattle.relation_tables.specs.RelationHandler.{relation_handlers}
use Rattle.pg_engine.specs.Completeness.{runs}
use Rattle.relation_serving.specs.Completeness.{most_unready}
use Rattle.pg_engine.proofs.Questions.{may_ask, message_few, conversation_few}
use Rattle.relation_serving.proofs.Questions.{relations_owe, few_questions}

-- ---- the cursor table

-- a command runs a query once at most
command_runs : (command : CursorCommand) → runs (messages_of command) ≤ 1
command_runs (Declare name relation) = omega arith
command_runs (Fetch limit name) = omega arith
command_runs (Close name) = omega arith

module _ (relations : List Relation) where
  abbrev table : Table (State RelationStatement)
  table = whole_table (relation_handlers relations)

  abbrev most : ℕ
  most = most_unready relations

  plain_few : (answers : List Bool) (s : State RelationStatement) (m : PgWireFrontendMessage)
      → questions (table answers s m).calls ≤ may_ask most m
  plain_few answers s m = message_few (relation_handlers relations) most (relations_owe relations) answers s m

  command_few : (answers : List Bool) (s : State RelationStatement) (command : CursorCommand)
      → questions (conversation table answers s (messages_of command)).calls ≤ most
  command_few answers s command =
      let few = few_questions relations answers s (messages_of command) in
      let bound = mul-le (runs (messages_of command)) most 1 most (command_runs command) (omega arith) in
      let one = one-mul most in omega (arith, few, bound, one)

  query_few : (answers : List Bool) (s : State RelationStatement) (m : PgWireFrontendMessage) (command : Option CursorCommand)
      → may_ask most m ≡ most
      → questions (row_by table answers s m command).calls ≤ may_ask most m
  query_few answers s m (Some command) is = let few = command_few answers s command in omega (arith, few, is)
  query_few answers s m None is = plain_few answers s m

  asked_few : (answers : List Bool) (s : State RelationStatement) (m : PgWireFrontendMessage)
      → questions (row_by table answers s m (asked_command m)).calls ≤ may_ask most m
  asked_few answers s (client.Query m) = query_few answers s (client.Query m) (command_of m.query) refl
  asked_few answers s m = plain_few answers s m

  row_few : (answers : List Bool) (s : State RelationStatement) (m : PgWireFrontendMessage) (ready : Bool)
      → questions (if ready then row_by table answers s m (asked_command m) else table answers s m).calls ≤ may_ask most m
  row_few answers s m true = asked_few answers s m
  row_few answers s m false = plain_few answers s m

  pub few_cursor_questions : (answers : List Bool) (s : State RelationStatement) (messages : List PgWireFrontendMessage)
      → questions (conversation (cursor_table is_ready table) answers s messages).calls ≤ runs messages * most
  few_cursor_questions answers s messages =
      conversation_few (cursor_table is_ready table) most (λ given t m. row_few given t m (is_ready t)) answers s messages
