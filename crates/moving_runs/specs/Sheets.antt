-- The conversation of handlers that change: each message is answered by the whole table over what the handlers tell of it.
-- What they tell of one message is its sheet.
use Rattle.std.specs.Prelude.{Bool, List, [], ◌∷◌}
use Rattle.pg_messages.specs.declared.frontend.PgWireFrontendMessage.{PgWireFrontendMessage}
use Rattle.pg_client.specs.Answer.{Answer, Table, Next, Goes, Ends, Stops}
use Rattle.pg_client.specs.State.{State}
use Rattle.conversation_table.specs.Handlers.{Handlers}
use Rattle.conversation_table.specs.Table.{whole_table, awaits}
use Rattle.conversation_runs.specs.Run.{Rules}

-- where a conversation stands: the sheets of the messages to come, in their order, and the client's state
pub record Ahead (S : Type 0) : Type 0 where
  pub sheets : List (Handlers S)
  pub state : State S

-- what comes next, with the sheets that are left
abbrev pub next_ahead : {S : Type 0} → List (Handlers S) → Next (State S) → Next (Ahead S)
next_ahead sheets (Goes s) = Goes (record { sheets = sheets; state = s })
next_ahead sheets (Ends kind) = Ends kind
next_ahead sheets Stops = Stops

-- the same answer, with the sheets that are left
abbrev pub answer_ahead : {S : Type 0} → List (Handlers S) → Answer (State S) → Answer (Ahead S)
answer_ahead sheets a = record { replies = a.replies; calls = a.calls; next = next_ahead sheets a.next }

-- the answer to a message by the first of the sheets; where there is none, it stops
abbrev pub by_first : {S : Type 0} → List (Handlers S) → List Bool → State S → PgWireFrontendMessage → Answer (Ahead S)
by_first [] answers s m = record { replies = []; calls = []; next = Stops }
by_first (h ∷ sheets) answers s m = answer_ahead sheets (whole_table h answers s m)

-- the conversation table of handlers that change
abbrev pub sheet_table : {S : Type 0} → Table (Ahead S)
sheet_table answers at m = by_first at.sheets answers at.state m

-- whether the startup packet is still awaited
abbrev pub awaits_ahead : {S : Type 0} → Ahead S → Bool
awaits_ahead at = awaits at.state

-- the rules of the conversation of handlers that change
abbrev pub sheet_rules : {S : Type 0} → Rules (Ahead S)
sheet_rules = record { table = sheet_table; awaits = awaits_ahead }
