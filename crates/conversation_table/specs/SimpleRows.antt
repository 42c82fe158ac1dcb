-- Query (protocol: Message Flow, Simple Query).
use Rattle.std.specs.Prelude.{Bool, false, List, [], ◌∷◌, ◌++◌, ◌||◌, Option, Some, None, Result, Ok, Err, if◌then◌else◌}
use Rattle.pg_messages.specs.declared.simplequery.Query.{Query}
use Rattle.pg_messages.specs.declared.response.TransactionStatus.{TransactionStatus}
use Rattle.pg_messages.specs.declared.backend.PgWireBackendMessage.TheVariants as server
use Rattle.pg_results.specs.declared.error.PgWireError.{PgWireError}
use Rattle.pg_results.specs.declared.error.PgWireError.TheVariants as wire
use Rattle.pg_results.specs.declared.client.PgWireConnectionState.TheVariants as phase
use Rattle.pg_results.specs.Texts.{is_blank}
use Rattle.pg_results.specs.Responses.{ToldResponse}
use Rattle.pg_replies.specs.Replies.{ready}
use Rattle.conversation_table.specs.Questions.{Verdict, Passed, Canceled, Unanswered, started}
use Rattle.conversation_table.specs.Handlers.{SimpleTold, ToldQuery}
use Rattle.pg_client.specs.State.{State, in_phase, with_status}
use Rattle.pg_replies.specs.ResponseRows.{Sent, sent, responded}
use Rattle.pg_client.specs.Effect.{Effect, Called, says, refuses, stopped, silent, Failed}

-- what was sent of a response, and of those after it unless an error cut it short
abbrev pub followed : Sent → Option PgWireError → Sent → Sent
followed first None others = record {
  replies = first.replies ++ others.replies;
  status = others.status;
  copying = first.copying || others.copying;
  refusal = others.refusal;
}
followed first (Some e) others = first

-- each response in turn
abbrev pub responded_all : TransactionStatus → List ToldResponse → Sent
responded_all status [] = sent status []
responded_all status (r ∷ responses) =
    let first = responded status r in
    followed first first.refusal (responded_all first.status responses)

-- Where no COPY has begun, the status is set and the server is ready. Else both are left to the COPY, and the statuses are dropped.
abbrev pub answered : {S : Type 0} → State S → Sent → Option PgWireError → Effect S
answered s sent None =
    if sent.copying then says sent.replies (in_phase s (phase.CopyInProgress false))
    else says (sent.replies ++ ready sent.status ∷ []) (with_status s sent.status)
answered s sent (Some e) = record { replies = sent.replies; outcome = Failed s e }

abbrev pub answered_all : {S : Type 0} → State S → List ToldResponse → Effect S
answered_all s responses =
    let sent = responded_all s.info.status responses in
    answered s sent sent.refusal

abbrev pub query_polled : {S : Type 0} → State S → Verdict → Result (List ToldResponse) PgWireError → Effect S
query_polled s Unanswered outcome = stopped
query_polled s Canceled outcome = refuses s wire.QueryCanceled
query_polled s Passed (Ok responses) = answered_all s responses
query_polled s Passed (Err e) = refuses s e

-- one start, the questions of the polls that it owes, and then its responses
abbrev pub query_run : {S : Type 0} → List Bool → State S → ToldQuery (List ToldResponse) → Called S
query_run answers s query =
    let asked = started query.owes answers in
    record { calls = asked.calls; effect = query_polled s asked.verdict query.outcome }

-- Query: a blank one makes no call of the registry.
abbrev pub on_query : {S : Type 0} → SimpleTold → List Bool → State S → Query → Called S
on_query h answers s m =
    if is_blank m.query then silent (says (server.EmptyQueryResponse (record {}) ∷ ready s.info.status ∷ []) s)
    else query_run answers s (h s.info m.query)
