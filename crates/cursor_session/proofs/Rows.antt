-- The row of a command, and fronts of fronts.
use Rattle.std.proofs.Common.{◌≡◌, Bool, true, if◌then◌else◌, List, [], ◌∷◌, ◌++◌, Some, ap, ◌∙◌, append_assoc}
use Rattle.pg_messages.specs.declared.frontend.PgWireFrontendMessage.{PgWireFrontendMessage}
use Rattle.pg_client.specs.Answer.{Table, BeginsWith, conversation}
use Rattle.conversation_runs.proofs.Pieces.{conversation-one}
use Rattle.cursor_commands.specs.declared.command.CursorCommand.{CursorCommand}
use Rattle.cursor_table.specs.CursorTable.{cursor_table, command_row, row_by, asked_command}

pub begins_then : {A : Type 0} (a b c : List A) → BeginsWith a b → BeginsWith b c → BeginsWith a c
begins_then a b c x y = (y.0 ++ x.0, x.1 ∙ ap (λ l. l ++ x.0) y.1 ∙ append_assoc c y.0 x.0)

module _ {T : Type 0} (table : Table T) where
  -- the row of a command
  pub one_command : (ready : T → Bool) (answers : List Bool) (s : T) (m : PgWireFrontendMessage) (command : CursorCommand)
      → ready s ≡ true → asked_command m ≡ Some command
      → conversation (cursor_table ready table) answers s (m ∷ []) ≡ command_row table answers s command
  one_command ready answers s m command is_ready asked =
      conversation-one (cursor_table ready table) answers s m
      ∙ (ap (λ b. if b then row_by table answers s m (asked_command m) else table answers s m) is_ready
      ∙ ap (λ c. row_by table answers s m c) asked)
