-- The cursor table over a lawful table is lawful.
use Rattle.std.proofs.Common.{◌≡◌, Bool, true, false, if◌then◌else◌, List, ◌++◌, Option, Some, None, refl, ap, sym, ◌∙◌}
use Rattle.pg_messages.specs.declared.frontend.PgWireFrontendMessage.{PgWireFrontendMessage}
use Rattle.pg_messages.specs.declared.frontend.PgWireFrontendMessage.TheVariants as client
use Rattle.pg_messages.specs.Frames.{awaits_startup_after, awaits_startup_after_all}
use Rattle.pg_client.specs.Answer.{Table, Goes, answers_of, left_by}
use Rattle.conversation_table.specs.Handlers.{Handlers}
use Rattle.conversation_table.specs.Lawful.{IsMade, IsLawful}
use Rattle.conversation_runs.specs.Session.{whole_rules}
use Rattle.conversation_runs.proofs.Answering.{whole_lawful}
use Rattle.conversation_runs.proofs.Pieces.{conversation_awaits}
use Rattle.cursor_commands.specs.declared.command.CursorCommand.{CursorCommand}
use Rattle.cursor_commands.specs.declared.command.CursorCommand.TheVariants.{Declare, Fetch, Close}
use Rattle.cursor_commands.specs.Commands.{command_of}
use Rattle.cursor_commands.specs.Cursors.{messages_of, replies_of}
use Rattle.cursor_table.specs.CursorTable.{row_by, cursor_table, asked_command, cursor_rules, is_ready}
use Rattle.cursor_table.proofs.Turns.{turns_same, turns_taken}

module _ {T : Type 0} (ready awaits : T → Bool) (table : Table T) (lawful : IsLawful table awaits) where
  row_same : (answers more : List Bool) (s : T) (m : PgWireFrontendMessage) (command : Option CursorCommand)
      → IsMade (row_by table answers s m command).next → row_by table (answers ++ more) s m command ≡ row_by table answers s m command
  row_same answers more s m (Some command) made =
      ap (λ a. record { replies = replies_of command a.replies; calls = a.calls; next = a.next })
      (turns_same table awaits lawful (messages_of command) answers more s made)
  row_same answers more s m None made = lawful.same answers more s m made

  same_when : (answers more : List Bool) (s : T) (m : PgWireFrontendMessage) (b : Bool)
      → IsMade (if b then row_by table answers s m (asked_command m) else table answers s m).next
      → (if b then row_by table (answers ++ more) s m (asked_command m) else table (answers ++ more) s m)
      ≡ (if b then row_by table answers s m (asked_command m) else table answers s m)
  same_when answers more s m true made = row_same answers more s m (asked_command m) made
  same_when answers more s m false made = lawful.same answers more s m made

  row_taken : (answers : List Bool) (s : T) (m : PgWireFrontendMessage) (command : Option CursorCommand)
      → answers ≡ answers_of (row_by table answers s m command).calls ++ left_by (row_by table answers s m command).calls answers
  row_taken answers s m (Some command) = turns_taken table awaits lawful (messages_of command) answers s
  row_taken answers s m None = lawful.taken answers s m

  taken_when : (answers : List Bool) (s : T) (m : PgWireFrontendMessage) (b : Bool)
      → answers ≡ answers_of (if b then row_by table answers s m (asked_command m) else table answers s m).calls
      ++ left_by (if b then row_by table answers s m (asked_command m) else table answers s m).calls answers
  taken_when answers s m true = row_taken answers s m (asked_command m)
  taken_when answers s m false = lawful.taken answers s m

  stays_past : (command : CursorCommand) (b : Bool) → awaits_startup_after_all (messages_of command) b ≡ b
  stays_past (Declare name relation) b = refl
  stays_past (Fetch limit name) b = refl
  stays_past (Close name) b = refl

  query_follows : (answers : List Bool) (s t : T) (m : PgWireFrontendMessage) (command : Option CursorCommand)
      → ((b : Bool) → awaits_startup_after m b ≡ b) → (row_by table answers s m command).next ≡ Goes t
      → awaits t ≡ awaits_startup_after m (awaits s)
  query_follows answers s t m (Some command) stays e =
      conversation_awaits (record { table = table; awaits = awaits }) lawful answers s t (messages_of command) e
      ∙ (stays_past command (awaits s) ∙ sym (stays (awaits s)))
  query_follows answers s t m None stays e = lawful.follows answers s t m e

  row_follows : (answers : List Bool) (s t : T) (m : PgWireFrontendMessage)
      → (row_by table answers s m (asked_command m)).next ≡ Goes t → awaits t ≡ awaits_startup_after m (awaits s)
  row_follows answers s t (client.Query m) e = query_follows answers s t (client.Query m) (command_of m.query) (λ b. refl) e
  row_follows answers s t m e = lawful.follows answers s t m e

  follows_when : (answers : List Bool) (s t : T) (m : PgWireFrontendMessage) (b : Bool)
      → (if b then row_by table answers s m (asked_command m) else table answers s m).next ≡ Goes t
      → awaits t ≡ awaits_startup_after m (awaits s)
  follows_when answers s t m true e = row_follows answers s t m e
  follows_when answers s t m false e = lawful.follows answers s t m e

  pub cursors_lawful : IsLawful (cursor_table ready table) awaits
  cursors_lawful = record {
    same = λ answers more s m made. same_when answers more s m (ready s) made;
    taken = λ answers s m. taken_when answers s m (ready s);
    follows = λ answers s t m e. follows_when answers s t m (ready s) e;
  }

-- the conversation with cursors by what handlers tell is lawful
pub rules_lawful : {S : Type 0} (h : Handlers S) → IsLawful (cursor_rules h).table (cursor_rules h).awaits
rules_lawful h = cursors_lawful is_ready (whole_rules h).awaits (whole_rules h).table (whole_lawful h)
