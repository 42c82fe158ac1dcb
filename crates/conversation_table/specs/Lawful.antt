-- The law of conversation tables: a table takes the registry's answers from the front, and awaits the startup packet
-- until that has come.
use Rattle.std.specs.Prelude.{Bool, List, ◌++◌, ◌≡◌}
use Rattle.pg_messages.specs.declared.frontend.PgWireFrontendMessage.{PgWireFrontendMessage}
use Rattle.pg_messages.specs.Frames.{awaits_startup_after}
use Rattle.pg_client.specs.Answer.{Table, Next, Goes, Ends, Stops, answers_of, left_by}

-- it didn't stop because an answer was missing
abbrev pub IsMade : {T : Type 0} → Next T → Type 0
IsMade (Goes s) = Unit {0}
IsMade (Ends kind) = Unit {0}
IsMade Stops = ⊥

-- Further answers change nothing where none was missing, and the calls hold the answers that were taken. The startup
-- packet is awaited until it has come.
pub record IsLawful {T : Type 0} (table : Table T) (awaits : T → Bool) : Type 0 where
  pub same : (answers more : List Bool) (s : T) (m : PgWireFrontendMessage) → IsMade (table answers s m).next
      → table (answers ++ more) s m ≡ table answers s m
  pub taken : (answers : List Bool) (s : T) (m : PgWireFrontendMessage)
      → answers ≡ answers_of (table answers s m).calls ++ left_by (table answers s m).calls answers
  pub follows : (answers : List Bool) (s t : T) (m : PgWireFrontendMessage) → (table answers s m).next ≡ Goes t
      → awaits t ≡ awaits_startup_after m (awaits s)
