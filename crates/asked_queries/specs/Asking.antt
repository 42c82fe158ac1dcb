-- Which query a message asks for (protocol: Message Flow, Simple Query and Extended Query).
use Rattle.std.specs.Prelude.{ℕ, List, Option, Some, None, if◌then◌else◌}
use Rattle.std.specs.FinMap as fin
use Rattle.pg_messages.specs.declared.frontend.PgWireFrontendMessage.{PgWireFrontendMessage}
use Rattle.pg_messages.specs.declared.frontend.PgWireFrontendMessage.TheVariants as client
use Rattle.pg_results.specs.declared.client.PgWireConnectionState.{PgWireConnectionState}
use Rattle.pg_results.specs.declared.client.PgWireConnectionState.TheVariants as phase
use Rattle.pg_results.specs.Texts.{is_blank}
use Rattle.pg_portal.specs.Told.{BoundPortal, Stage, Unstarted, Started, Ended, TablePortal, value_under}
use Rattle.pg_client.specs.State.{State}

-- No query is asked for; or a simple one, by its text, which isn't blank; or that of a portal which isn't started.
pub data AskedFor (S : Type 0) : Type 0 where
  Nothing : AskedFor S
  Simple : List ℕ → AskedFor S
  Extended : BoundPortal S → AskedFor S

-- a portal's query is asked for until the portal is started
abbrev pub asked_at : {S : Type 0} → BoundPortal S → Stage → AskedFor S
asked_at p Unstarted = Extended p
asked_at p (Started r delivered) = Nothing
asked_at p (Ended delivered) = Nothing

abbrev pub asked_of : {S : Type 0} → Option (TablePortal S) → AskedFor S
asked_of None = Nothing
asked_of (Some p) = asked_at p.bound p.stage

-- a blank query is none
abbrev pub asked_simply : {S : Type 0} → List ℕ → AskedFor S
asked_simply query = if is_blank query then Nothing else Simple query

-- what a message asks for while the server is ready
abbrev pub asked_when_ready : {S : Type 0} → State S → PgWireFrontendMessage → AskedFor S
asked_when_ready s (client.Query m) = asked_simply m.query
asked_when_ready s (client.Execute m) = asked_of (value_under (fin.get s.portals m.name))
asked_when_ready s _ = Nothing

abbrev pub asked_in : {S : Type 0} → PgWireConnectionState → State S → PgWireFrontendMessage → AskedFor S
asked_in phase.ReadyForQuery s m = asked_when_ready s m
asked_in _ s m = Nothing

-- which query a message asks for: none while the server isn't ready
abbrev pub asked : {S : Type 0} → State S → PgWireFrontendMessage → AskedFor S
asked s m = asked_in s.info.state s m
