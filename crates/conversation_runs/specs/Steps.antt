-- What messages do to a session: the outbox and the registry's calls grow by their answer, and the state is the next one.
use Rattle.std.specs.Prelude.{ℕ, Bool, true, List, [], ◌++◌, ◌≡◌, ◌≢◌, ◌≤◌, ◌<◌, ◌⊎◌, Option, Some, None, Result, Ok, Err, IfOk, IfErr, IfNone, IsErrOf, OnErr, length}
use Rattle.pg_messages.specs.declared.frontend.PgWireFrontendMessage.{PgWireFrontendMessage}
use Rattle.pg_messages.specs.declared.backend.PgWireBackendMessage.{PgWireBackendMessage}
use Rattle.pg_messages.specs.Frames.{IsUnfinished, DividesInto}
use Rattle.pg_messages.specs.Replies.{replies_bytes}
use Rattle.pg_client.specs.declared.desk.DeskCall.{DeskCall}
use Rattle.pg_client.specs.declared.ends.EndKind.{EndKind}
use Rattle.pg_client.specs.declared.ends.EndKind.TheVariants as end
use Rattle.pg_client.specs.declared.ends.SessionError.{SessionError}
use Rattle.pg_client.specs.declared.ends.SessionError.TheVariants as session
use Rattle.pg_client.specs.declared.ends.Turns.{Turns}
use Rattle.pg_client.specs.Desk.{DeskTold, GoesOn}
use Rattle.pg_client.specs.Ends.{IsAnswerableError, outcome_of}
use Rattle.pg_client.specs.Effect.{Scope, failed, IsRow, IsRefusedRow}
use Rattle.conversation_table.specs.Handlers.{Handlers}
use Rattle.conversation_table.specs.Good.{IsGoodState}
use Rattle.conversation_table.specs.Questions.{HasSpent, questions_since}
use Rattle.pg_client.specs.State.{State}
use Rattle.conversation_table.specs.Table.{message_row, whole_table, awaits}
use Rattle.pg_results.specs.Errors.{info_of}
use Rattle.pg_results.specs.declared.error.PgWireError.{PgWireError}
use Rattle.pg_results.specs.declared.error.PgWireError.TheVariants as wire
use Rattle.conversation_runs.specs.Messages.{next_of}
use Rattle.conversation_runs.specs.declared.ends.Progress.{Progress}
use Rattle.conversation_runs.specs.declared.ends.Progress.TheVariants as progress
use Rattle.conversation_runs.specs.declared.ends.ServeError.{ServeError}
use Rattle.conversation_runs.specs.declared.ends.ServeError.TheVariants as serve
use Rattle.pg_client.specs.Answer.{Answer, Table, Next, Goes, Stops, answers_of, conversation}
use Rattle.pg_client.specs.Answer.{BeginsWith, AsksNext}
use Rattle.conversation_runs.specs.Streams.{GrowsBy, GrowsByFront}
use Rattle.conversation_runs.specs.Run.{Rules, IsFed, EndsWith}
use Rattle.conversation_runs.specs.Session.{SessionValue, HasFed, goes_on, is_going, whole_rules}

-- ---- one message

-- The bytes that wait to be sent have grown by those of the replies.
pub record AppendsReplies (out new_out : List ℕ) (replies : List PgWireBackendMessage) : Type 0 where
  pub bytes : new_out ≡ out ++ replies_bytes replies

-- The answer was carried out: the bytes that wait and the calls have grown by it, and this comes next.
pub record IsCarriedOut {T : Type 0} (a : Answer T) (out new_out : List ℕ) (calls new_calls : List DeskCall) (next : Next T) : Type 0 where
  pub replied : AppendsReplies out new_out a.replies
  pub called : new_calls ≡ calls ++ a.calls
  pub goes_on : a.next ≡ next

-- A message was answered by the table, with exactly the answers that its calls hold.
pub record IsAnswered {T : Type 0} (table : Table T) (s : T) (m : PgWireFrontendMessage) (out new_out : List ℕ)
    (calls new_calls : List DeskCall) (next : Next T) : Type 0 where
  pub made : List DeskCall
  pub own : (table (answers_of made) s m).calls ≡ made
  pub carried : IsCarriedOut (table (answers_of made) s m) out new_out calls new_calls next

-- The answer to a message was cut off: the calls that were made are a front of those of the answer.
pub record IsCutAnswer {T : Type 0} (table : Table T) (s : T) (m : PgWireFrontendMessage) (calls new_calls : List DeskCall) : Type 0 where
  pub made : List DeskCall
  pub front : BeginsWith (table (answers_of made) s m).calls made
  pub grown : new_calls ≡ calls ++ made

-- The answer to a message stops at a question: all calls were made, and the next one is a question, whose answer isn't there.
pub record IsStoppedAnswer {T : Type 0} (table : Table T) (s : T) (m : PgWireFrontendMessage)
    (calls new_calls : List DeskCall) : Type 0 where
  pub made : List DeskCall
  pub own : (table (answers_of made) s m).calls ≡ made
  pub stops : (table (answers_of made) s m).next ≡ Stops
  pub asks : AsksNext (λ answers. (table answers s m).calls) made
  pub grown : new_calls ≡ calls ++ made

-- An error of a message, other than NoMemory, was told, and the conversation goes on or ends as its answer says.
pub record IsToldError {S : Type 0} (e : PgWireError) (scope : Scope) (s new_s : State S) (out new_out : List ℕ) (end : Option EndKind)
    : Type 0 where
  pub known : e ≢ wire.NoMemory
  pub replied : new_out ≡ out ++ replies_bytes (failed scope [] [] s (info_of e)).replies
  pub next : (failed scope [] [] s (info_of e)).next ≡ next_of end new_s

-- What became of an error: TurnLimit ends the serving; any other was told, or memory ran out.
abbrev pub FailedSo : {S : Type 0} → SessionError → Scope → State S → State S → List ℕ → List ℕ → Result (Option EndKind) ServeError
    → Type 0
FailedSo session.TurnLimit scope s new_s out new_out result = result ≡ Err serve.TurnLimit
FailedSo (session.Wire e) scope s new_s out new_out (Ok end) = IsToldError e scope s new_s out new_out end
FailedSo (session.Wire e) scope s new_s out new_out (Err error) = error ≡ serve.NoMemory

-- ---- a text

-- Bytes went through an outbox to a sink: some were sent, and the others wait.
pub record Flows (written new_written : Option (List ℕ)) (out new_out bytes : List ℕ) : Type 0 where
  pub sent : List ℕ
  pub grown : GrowsBy written new_written sent
  pub same : sent ++ new_out ≡ out ++ bytes

-- A text was served as far as it goes: its frames were answered, and they stay its frames whatever bytes follow. The
-- reply bytes went through the outbox, and the calls were made.
pub record IsServed {T : Type 0} (rules : Rules T) (s : T) (text rest : List ℕ) (next : Next T) (written new_written : Option (List ℕ))
    (out new_out : List ℕ) (calls new_calls : List DeskCall) : Type 0 where
  pub bytes : List ℕ
  pub called : List DeskCall
  pub fed : (more : List ℕ) → IsFed rules s (text ++ more) (rest ++ more) bytes called next
  pub flows : Flows written new_written out new_out bytes
  pub grown : new_calls ≡ calls ++ called

-- The serving of a text was cut off: the bytes that were written and the calls that were made are a front of the answer
-- to its frames, with exactly the answers that the calls hold.
pub record IsCutOff {T : Type 0} (rules : Rules T) (s : T) (text : List ℕ) (written new_written : Option (List ℕ)) (out : List ℕ)
    (calls new_calls : List DeskCall) : Type 0 where
  pub messages : List PgWireFrontendMessage
  pub rest : List ℕ
  pub made : List DeskCall
  pub given : Answer T
  pub division : DividesInto (rules.awaits s) text messages rest
  pub answered : conversation rules.table (answers_of made) s messages ≡ given
  pub cut : GrowsByFront written new_written (out ++ replies_bytes given.replies)
  pub front : BeginsWith given.calls made
  pub grown : new_calls ≡ calls ++ made

-- The serving of a text stops at a question for which no turn is left. With exactly the answers that the calls hold,
-- the answer to the text's frames has these calls and stops there. The bytes that were written are a front of its
-- replies.
pub record IsStopped {T : Type 0} (rules : Rules T) (s : T) (text : List ℕ) (written new_written : Option (List ℕ)) (out : List ℕ)
    (calls new_calls : List DeskCall) : Type 0 where
  pub messages : List PgWireFrontendMessage
  pub rest : List ℕ
  pub made : List DeskCall
  pub replies : List PgWireBackendMessage
  pub division : DividesInto (rules.awaits s) text messages rest
  pub answered : conversation rules.table (answers_of made) s messages ≡ record { replies = replies; calls = made; next = Stops }
  pub asks : AsksNext (λ answers. (conversation rules.table answers s messages).calls) made
  pub cut : GrowsByFront written new_written (out ++ replies_bytes replies)
  pub grown : new_calls ≡ calls ++ made

-- Where the conversation stands after a piece: it goes on and no whole frame is left, or it has ended, whatever bytes may follow.
abbrev pub Stands : {T : Type 0} → (T → Bool) → Next T → T → List ℕ → Progress → Type 0
Stands awaits next s rest progress.More = (next ≡ Goes s) × IsUnfinished (awaits s) rest
Stands awaits next s rest (progress.Ended kind) = (kind ≢ end.InputEnd) × ((more : List ℕ) → EndsWith awaits next (rest ++ more) kind)

-- the same after a step: where there is no progress to report, a message was answered and the conversation goes on
abbrev pub StandsAfterStep : {T : Type 0} → (T → Bool) → Next T → T → List ℕ → Option Progress → Type 0
StandsAfterStep awaits next s rest None = next ≡ Goes s
StandsAfterStep awaits next s rest (Some told) = Stands awaits next s rest told

-- What became of a text that a session was fed with. It was served as far as it goes, no reply waits, and the
-- conversation stands where the result says. Or its serving was cut off, at TurnLimit by a stop at a question.
abbrev pub WasFed : {T : Type 0} → Rules T → T → List ℕ → T → List ℕ → Option (List ℕ) → Option (List ℕ) → List ℕ → List DeskCall
    → List DeskCall → Result Progress ServeError → Type 0
WasFed {T} rules s text new_s rest written new_written out calls new_calls (Ok told) = (next : Next T)
    × IsServed rules s text rest next written new_written out [] calls new_calls × Stands rules.awaits next new_s rest told
WasFed rules s text new_s rest written new_written out calls new_calls (Err serve.TurnLimit) =
    IsStopped rules s text written new_written out calls new_calls
WasFed rules s text new_s rest written new_written out calls new_calls (Err e) =
    IsCutOff rules s text written new_written out calls new_calls

-- What became of a text in one round: it was served as far as it goes, and the conversation goes on; or a session was fed with it.
abbrev pub RoundSo : {T : Type 0} → Rules T → T → List ℕ → T → List ℕ → Option (List ℕ) → Option (List ℕ) → List ℕ → List ℕ → List DeskCall
    → List DeskCall → Option (Result Progress ServeError) → Type 0
RoundSo rules s text new_s rest written new_written out new_out calls new_calls None =
    IsServed rules s text rest (Goes new_s) written new_written out new_out calls new_calls
RoundSo rules s text new_s rest written new_written out new_out calls new_calls (Some told) =
    WasFed rules s text new_s rest written new_written out calls new_calls told

-- What was sent after a step. Where no other step follows, all that waits was sent and the step's result was returned,
-- or the sink failed. Where another follows, some of what waits may be sent, and the sink may fail. After an error of
-- the step nothing was sent.
abbrev pub SentBehind : Option (List ℕ) → Option (List ℕ) → List ℕ → List ℕ → Result (Option Progress) ServeError
    → Option (Result Progress ServeError) → Type 0
SentBehind written new_written out new_out (Ok (Some told)) (Some (Ok t)) = (t ≡ told) × (new_out ≡ []) × GrowsBy written new_written out
SentBehind written new_written out new_out (Ok (Some told)) (Some (Err e)) = GrowsByFront written new_written out
SentBehind written new_written out new_out (Ok None) None = Flows written new_written out new_out []
SentBehind written new_written out new_out (Ok None) (Some (Err e)) = GrowsByFront written new_written out
SentBehind written new_written out new_out (Err error) (Some (Err e)) = (e ≡ error) × (new_written ≡ written)
SentBehind written new_written out new_out _ _ = ⊥

-- ---- a session

-- What a message did to a client, before what follows an error: its row was carried out or refused, each error is one
-- that a call may return, the state is good, turns were spent on questions and on nothing else, and nothing of the desk
-- has changed but by calls.
pub record IsMessageRow {S : Type 0} (h : Handlers S) (m : PgWireFrontendMessage) (s t : State S) (out new_out : List ℕ)
    (desk new_desk : DeskTold) (before after : Turns) (result : Result (Option EndKind) SessionError) : Type 0 where
  pub ok : IfOk result (λ kind. IsRow (λ answers. message_row h answers s m) out new_out desk.calls new_desk.calls (outcome_of kind t))
  pub refused : IfErr result (IsRefusedRow (λ answers. message_row h answers s m) out new_out desk.calls new_desk.calls t)
  pub answerable : IfErr result IsAnswerableError
  pub ends : IfOk result (λ kind. kind ≢ Some end.InputEnd)
  pub good : IsGoodState h.extended.parser t
  pub turns : HasSpent before after (questions_since desk.calls new_desk.calls) result
  pub bounded : before.spent ≤ before.limit → after.spent ≤ after.limit
  pub registration : GoesOn desk new_desk

-- What a message did to a session: it was answered as the whole table says, or its answer was cut off, at TurnLimit by
-- a stop at a question. The session is open where the conversation goes on, and the bytes after the message are as they
-- were.
pub record IsResponse {H S : Type 0} (told : H → Handlers S) (m : PgWireFrontendMessage) (old new : SessionValue H S)
    (desk new_desk : DeskTold) (before after : Turns) (result : Result (Option EndKind) ServeError) : Type 0 where
  pub answer : IfOk result (λ end. IsAnswered (whole_table (told old.handlers)) old.state m old.unsent new.unsent desk.calls new_desk.calls
      (next_of end new.state))
  pub err : OnErr result (IsCutAnswer (whole_table (told old.handlers)) old.state m desk.calls new_desk.calls)
  pub stopped : IsErrOf result serve.TurnLimit → IsStoppedAnswer (whole_table (told old.handlers)) old.state m desk.calls new_desk.calls
  pub only : IfErr result (λ e. (e ≡ serve.NoMemory) ⊎ (e ≡ serve.TurnLimit))
  pub ends : IfOk result (λ kind. kind ≢ Some end.InputEnd)
  pub opened : new.is_open ≡ goes_on result
  pub handlers : new.handlers ≡ old.handlers
  pub rest : new.rest ≡ old.rest
  pub turns : HasFed before after (questions_since desk.calls new_desk.calls) result
  pub bounded : before.spent ≤ before.limit → after.spent ≤ after.limit
  pub registration : GoesOn desk new_desk

-- What follows an error of a message: the session is open where the conversation goes on, and nothing has changed but where it stands and
-- the replies that wait.
pub record FollowsError {H S E : Type 0} (old new : SessionValue H S) (result : Result (Option EndKind) E) : Type 0 where
  pub ends : IfOk result (λ kind. kind ≢ Some end.InputEnd)
  pub opened : new.is_open ≡ goes_on result
  pub handlers : new.handlers ≡ old.handlers
  pub rest : new.rest ≡ old.rest

-- What a step did to a text and to the session that holds it. A step sends nothing, so this holds whatever was written
-- before. The text was served as far as it goes, and the conversation stands where the result says; or its serving was
-- cut off, at TurnLimit by a stop at a question. A step after which another follows took bytes off the text. The
-- session is open where the conversation goes on.
pub record IsStep {H S : Type 0} (told : H → Handlers S) (text : List ℕ) (old new : SessionValue H S) (desk new_desk : DeskTold)
    (before after : Turns) (step : Result (Option Progress) ServeError) : Type 0 where
  pub served : IfOk step (λ p. (next : Next (State S)) × ((written : Option (List ℕ)) → IsServed (whole_rules (told old.handlers))
      old.state text new.rest next written written old.unsent new.unsent desk.calls new_desk.calls)
      × StandsAfterStep awaits next new.state new.rest p)
  pub cut_off : OnErr step ((written : Option (List ℕ)) → IsCutOff (whole_rules (told old.handlers)) old.state text written written old.unsent
      desk.calls new_desk.calls)
  pub stopped : IsErrOf step serve.TurnLimit → (written : Option (List ℕ)) → IsStopped (whole_rules (told old.handlers)) old.state text
      written written old.unsent desk.calls new_desk.calls
  pub only : IfErr step (λ e. (e ≡ serve.NoMemory) ⊎ (e ≡ serve.TurnLimit))
  pub opened : IfOk step (λ p. is_going p ≡ true → new.is_open ≡ true)
  pub handlers : new.handlers ≡ old.handlers
  pub shorter : IfOk step (λ p. IfNone p (length new.rest < length text))
  pub turns : HasFed before after (questions_since desk.calls new_desk.calls) step
  pub bounded : before.spent ≤ before.limit → after.spent ≤ after.limit
  pub registration : GoesOn desk new_desk
