-- The text of a query that a message asks for is short.
use Rattle.std.proofs.Common.{◌≡◌, ℕ, Bool, true, false, if◌then◌else◌, List, Option, Some, None, subst, arith}
use Rattle.std.specs.FinMap as fin
use Rattle.pg_messages.specs.declared.frontend.PgWireFrontendMessage.{PgWireFrontendMessage}
use Rattle.pg_messages.specs.declared.frontend.PgWireFrontendMessage.TheVariants as client
use Rattle.pg_messages.specs.declared.simplequery.Query.{Query}
use Rattle.pg_messages.specs.Frames.{IsFrame}
use Rattle.pg_messages.proofs.Texts.{frame_texts}
use Rattle.pg_results.specs.Texts.{IsShortText, is_blank}
use Rattle.pg_results.specs.declared.client.PgWireConnectionState.{PgWireConnectionState}
use Rattle.pg_results.specs.declared.client.PgWireConnectionState.TheVariants as phase
use Rattle.pg_portal.specs.Told.{BoundPortal, Stage, Unstarted, Started, Ended, TablePortal, value_under}
use Rattle.pg_client.specs.State.{State}
use Rattle.conversation_runs.specs.Messages.{IsGivenIn}
use Rattle.conversation_table.specs.Table.{awaits}
use Rattle.asked_queries.specs.Asking.{AskedFor, Nothing, Simple, Extended, asked, asked_at, asked_in, asked_of, asked_simply, asked_when_ready}

query_short : (awaiting : Bool) (frame : List ℕ) (m : Query) → IsFrame awaiting frame (client.Query m) → IsShortText m.query
query_short true frame m f = absurd f.carries
query_short false frame m f =
    let text = (frame_texts false frame (client.Query m) f).0 in
    let limit = f.limit in
    record { len = omega (arith, text.1, limit); no_zero = text.0.no_zero }

-- a simple query that is asked for is short
abbrev AsksShort : {S : Type 0} → AskedFor S → Type 0
AsksShort Nothing = Unit {0}
AsksShort (Simple text) = IsShortText text
AsksShort (Extended p) = Unit {0}

simply_short : (S : Type 0) (query : List ℕ) → IsShortText query → AsksShort (asked_simply {S = S} query)
simply_short S query h = by_case (is_blank query)
  where
    by_case : (b : Bool) → AsksShort {S = S} (if b then Nothing else Simple query)
    by_case true = tt
    by_case false = h

at_short : {S : Type 0} (p : BoundPortal S) (stage : Stage) → AsksShort (asked_at p stage)
at_short p Unstarted = tt
at_short p (Started r delivered) = tt
at_short p (Ended delivered) = tt

portal_short : {S : Type 0} (found : Option (TablePortal S)) → AsksShort (asked_of found)
portal_short None = tt
portal_short (Some p) = at_short p.bound p.stage

ready_short : {S : Type 0} (awaiting : Bool) (frame : List ℕ) (s : State S) (m : PgWireFrontendMessage) → IsFrame awaiting frame m
    → AsksShort (asked_when_ready s m)
ready_short awaiting frame s (client.Query m) f = simply_short _ m.query (query_short awaiting frame m f)
ready_short awaiting frame s (client.Execute m) f = portal_short (value_under (fin.get s.portals m.name))
ready_short awaiting frame s _ f = tt

short_in : {S : Type 0} (now : PgWireConnectionState) (awaiting : Bool) (frame : List ℕ) (s : State S) (m : PgWireFrontendMessage)
    → IsFrame awaiting frame m → AsksShort (asked_in now s m)
short_in phase.ReadyForQuery awaiting frame s m f = ready_short awaiting frame s m f
short_in _ awaiting frame s m f = tt

-- the text of a simple query that a good frame asks for
pub asked_short : {S : Type 0} (s : State S) (m : PgWireFrontendMessage) (text : List ℕ) → IsGivenIn s m → asked s m ≡ Simple text
    → IsShortText text
asked_short s m text given is = subst AsksShort is (short_in s.info.state (awaits s) given.0 s m given.1)
