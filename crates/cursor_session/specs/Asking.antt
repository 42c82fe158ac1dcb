-- What a session answers to messages that are handed to it in turn: the outbox and the registry's calls grow by their answer.
use Rattle.std.specs.Prelude.{ℕ, List, ◌++◌, ◌≡◌, ◌≢◌, ◌≤◌, ◌⊎◌, Option, Some, Result, IfOk, IfErr, OnErr, IsErrOf}
use Rattle.pg_messages.specs.declared.frontend.PgWireFrontendMessage.{PgWireFrontendMessage}
use Rattle.pg_messages.specs.declared.backend.PgWireBackendMessage.{PgWireBackendMessage}
use Rattle.pg_messages.specs.Replies.{replies_bytes}
use Rattle.pg_client.specs.declared.desk.DeskCall.{DeskCall}
use Rattle.pg_client.specs.declared.ends.EndKind.{EndKind}
use Rattle.pg_client.specs.declared.ends.EndKind.TheVariants as end
use Rattle.pg_client.specs.declared.ends.Turns.{Turns}
use Rattle.pg_client.specs.Answer.{Table, Next, Stops, BeginsWith, AsksNext, answers_of, conversation}
use Rattle.pg_client.specs.Desk.{DeskTold, GoesOn}
use Rattle.conversation_table.specs.Handlers.{Handlers}
use Rattle.conversation_table.specs.Questions.{questions_since}
use Rattle.conversation_table.specs.Table.{whole_table}
use Rattle.conversation_runs.specs.Messages.{next_of}
use Rattle.conversation_runs.specs.Session.{SessionValue, HasFed, goes_on}
use Rattle.conversation_runs.specs.declared.ends.ServeError.{ServeError}
use Rattle.conversation_runs.specs.declared.ends.ServeError.TheVariants as serve

-- Messages were answered by the table in turn, up to one that ends the conversation, under the very answers that their calls tell.
pub record AreAnswered {T : Type 0} (table : Table T) (s : T) (messages : List PgWireFrontendMessage) (out new_out : List ℕ)
    (calls new_calls : List DeskCall) (next : Next T) : Type 0 where
  pub replies : List PgWireBackendMessage
  pub made : List DeskCall
  pub answered : conversation table (answers_of made) s messages ≡ record { replies = replies; calls = made; next = next }
  pub replied : new_out ≡ out ++ replies_bytes replies
  pub grown : new_calls ≡ calls ++ made

-- The answer to messages was cut off: the calls that were made are a front of those of the answer.
pub record AreCutOff {T : Type 0} (table : Table T) (s : T) (messages : List PgWireFrontendMessage) (calls new_calls : List DeskCall)
    : Type 0 where
  pub made : List DeskCall
  pub front : BeginsWith (conversation table (answers_of made) s messages).calls made
  pub grown : new_calls ≡ calls ++ made

-- The answer to messages stops at a question: all calls were made, and the next one is a question, whose answer isn't there.
pub record AreStopped {T : Type 0} (table : Table T) (s : T) (messages : List PgWireFrontendMessage) (calls new_calls : List DeskCall)
    : Type 0 where
  pub replies : List PgWireBackendMessage
  pub made : List DeskCall
  pub answered : conversation table (answers_of made) s messages ≡ record { replies = replies; calls = made; next = Stops }
  pub asks : AsksNext (λ answers. (conversation table answers s messages).calls) made
  pub grown : new_calls ≡ calls ++ made

-- What messages did to a session: they were answered as the whole table says, up to one that ends the conversation; or their answer was cut
-- off, which for want of a turn is a stop at a question. The bytes behind them are left as they were.
pub record AreResponses {H S : Type 0} (told : H → Handlers S) (messages : List PgWireFrontendMessage) (old new : SessionValue H S)
    (desk new_desk : DeskTold) (before after : Turns) (result : Result (Option EndKind) ServeError) : Type 0 where
  pub answer : IfOk result (λ end. AreAnswered (whole_table (told old.handlers)) old.state messages old.unsent new.unsent desk.calls
      new_desk.calls (next_of end new.state))
  pub err : OnErr result (AreCutOff (whole_table (told old.handlers)) old.state messages desk.calls new_desk.calls)
  pub stopped : IsErrOf result serve.TurnLimit → AreStopped (whole_table (told old.handlers)) old.state messages desk.calls new_desk.calls
  pub only : IfErr result (λ e. (e ≡ serve.NoMemory) ⊎ (e ≡ serve.TurnLimit))
  pub ends : IfOk result (λ kind. kind ≢ Some end.InputEnd)
  pub opened : new.is_open ≡ goes_on result
  pub handlers : new.handlers ≡ old.handlers
  pub rest : new.rest ≡ old.rest
  pub turns : HasFed before after (questions_since desk.calls new_desk.calls) result
  pub bounded : before.spent ≤ before.limit → after.spent ≤ after.limit
  pub registration : GoesOn desk new_desk
