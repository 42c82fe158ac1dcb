-- What the beginning of a query comes to, and a query that waits for its next poll.
use Rattle.std.specs.Prelude.{suc, false, List, Some, Result, ◌≡◌}
use Rattle.std.specs.FinMap as fin
use Rattle.pg_messages.specs.declared.extendedquery.Execute.{Execute}
use Rattle.pg_messages.specs.declared.simplequery.Query.{Query}
use Rattle.pg_results.specs.declared.error.PgWireError.{PgWireError}
use Rattle.pg_results.specs.Responses.{ToldResponse}
use Rattle.pg_results.specs.Texts.{is_blank}
use Rattle.pg_portal.specs.Told.{TablePortal, Unstarted, value_under}
use Rattle.pg_client.specs.declared.ends.SessionError.{SessionError}
use Rattle.pg_client.specs.State.{State}
use Rattle.conversation_table.specs.Good.{AreSendable, IsSendableOutcome}
use Rattle.conversation_table.specs.Handlers.{ExtendedTold, QueryTold, SimpleTold, ToldQuery}
use Rattle.pg_handlers.specs.declared.query.Begun.{Begun}
use Rattle.pg_handlers.specs.declared.query.Begun.TheVariants.{Answered, Unready}

-- what holds of the answer, where the message was answered or refused
abbrev pub IfAnswered : {M Q : Type 0} → Begun M Q → (Result (Unit {0}) SessionError → Type 0) → Type 0
IfAnswered (Answered told) P = P told
IfAnswered (Unready kept waiting) P = Unit {0}

-- what holds of what is kept of the message and of the query that waits, where that was found unready
abbrev pub IfUnready : {M Q : Type 0} → Begun M Q → (M → Q → Type 0) → Type 0
IfUnready (Answered told) P = Unit {0}
IfUnready (Unready kept waiting) P = P kept waiting

-- A query was polled once, and found unready: one poll fewer is owed, and nothing else has changed.
pub record IsPolledOnce {A : Type 0} (first query : QueryTold A) : Type 0 where
  pub unspent : query.is_spent ≡ false
  pub owed : first.owes ≡ suc query.owes
  pub outcome : query.outcome ≡ first.outcome

-- A query was found unready by its first poll. Its handler tells one poll more than are owed still, and the outcome.
pub record IsUnready {A B : Type 0} (told : A → Result B PgWireError) (asked : ToldQuery B) (query : QueryTold A) : Type 0 where
  pub unspent : query.is_spent ≡ false
  pub polled : asked ≡ record { owes = suc query.owes; outcome = told query.outcome }

-- An Execute waits for this query, which is that of its portal. The portal isn't started.
pub record WaitsToExecute {S A : Type 0} (h : ExtendedTold S) (told : A → Result ToldResponse PgWireError) (s : State S) (m : Execute)
    (query : QueryTold A) : Type 0 where
  pub portal : TablePortal S
  pub found : value_under (fin.get s.portals m.name) ≡ Some portal
  pub fresh : portal.stage ≡ Unstarted
  pub unready : IsUnready told (h.query s.info portal.bound m.max_rows) query
  pub sendable : IsSendableOutcome (told query.outcome)

-- A Query waits for this query, which is that of its text. The text isn't blank.
pub record WaitsToQuery {S A : Type 0} (h : SimpleTold) (told : A → Result (List ToldResponse) PgWireError) (s : State S) (m : Query)
    (query : QueryTold A) : Type 0 where
  pub busy : is_blank m.query ≡ false
  pub unready : IsUnready told (h s.info m.query) query
  pub sendable : AreSendable (told query.outcome)
