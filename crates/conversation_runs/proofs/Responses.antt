-- What a message did to a session, by what it did to the client, and by what became of its error.
use Rattle.std.proofs.Common.{◌≡◌, ◌≢◌, ◌≤◌, ◌∙◌, Option, Some, Result, Ok, Err}
use Rattle.pg_messages.specs.declared.frontend.PgWireFrontendMessage.{PgWireFrontendMessage}
use Rattle.pg_client.specs.declared.ends.EndKind.{EndKind}
use Rattle.pg_client.specs.declared.ends.EndKind.TheVariants as end
use Rattle.pg_client.specs.declared.ends.SessionError.{SessionError}
use Rattle.pg_client.specs.declared.ends.Turns.{Turns}
use Rattle.pg_client.specs.Desk.{DeskTold, GoesOn}
use Rattle.pg_client.specs.Effect.{Scope, IsRow, IsRefusedRow}
use Rattle.pg_client.specs.Ends.{outcome_of}
use Rattle.conversation_table.specs.Handlers.{Handlers}
use Rattle.conversation_table.specs.Questions.{HasSpent, questions_since}
use Rattle.conversation_table.specs.Table.{message_row, scope_in}
use Rattle.conversation_runs.specs.Session.{SessionValue, goes_on}
use Rattle.conversation_runs.specs.Steps.{FailedSo, FollowsError, IsResponse}
use Rattle.conversation_runs.specs.declared.ends.ServeError.{ServeError}
use Rattle.conversation_runs.specs.declared.ends.ServeError.TheVariants as serve
use Rattle.conversation_runs.proofs.Answering.{answered_by_row}
use Rattle.conversation_runs.proofs.Failing.{failed_answer, failed_cut, failed_stopped, failed_only, failed_turns}

-- an answer without an error stops at no limit
no_limit : {P : Type 0} (end : Option EndKind) → ◌≡◌ {A = Result (Option EndKind) ServeError} (Ok end) (Err serve.TurnLimit) → P
no_limit end is = cc

module _ {H S : Type 0} (told : H → Handlers S) (m : PgWireFrontendMessage) (old new : SessionValue H S) (desk new_desk : DeskTold)
    (before after : Turns) where
  -- The message was answered.
  pub done_response : (kind : Option EndKind)
      → IsRow (λ answers. message_row (told old.handlers) answers old.state m) old.unsent new.unsent desk.calls new_desk.calls
      (outcome_of kind new.state)
      → kind ≢ Some end.InputEnd
      → HasSpent {A = Option EndKind} before after (questions_since desk.calls new_desk.calls) (Ok kind)
      → (before.spent ≤ before.limit → after.spent ≤ after.limit) → GoesOn desk new_desk
      → new.is_open ≡ goes_on {E = ServeError} (Ok kind) → new.handlers ≡ old.handlers → new.rest ≡ old.rest
      → IsResponse told m old new desk new_desk before after (Ok kind)
  done_response kind ok ends turns bounded registration is_open handlers rest = record {
    answer = answered_by_row (told old.handlers) old.state m desk.calls new_desk.calls old.unsent new.unsent kind new.state ok;
    err = tt;
    stopped = no_limit kind;
    only = tt;
    ends = ends;
    opened = is_open;
    handlers = handlers;
    rest = rest;
    turns = turns;
    bounded = bounded;
    registration = registration;
  }

  -- The message was refused, and its error was told, or ended the serving.
  pub failed_response : (mid : SessionValue H S) (error : SessionError) (scope : Scope) (result : Result (Option EndKind) ServeError)
      → IsRefusedRow (λ answers. message_row (told old.handlers) answers old.state m) old.unsent mid.unsent desk.calls new_desk.calls
      mid.state error
      → HasSpent {A = Option EndKind} before after (questions_since desk.calls new_desk.calls) (Err error)
      → (before.spent ≤ before.limit → after.spent ≤ after.limit) → GoesOn desk new_desk
      → scope ≡ scope_in old.state.info.state m
      → FailedSo error scope mid.state new.state mid.unsent new.unsent result
      → FollowsError mid new result → mid.handlers ≡ old.handlers → mid.rest ≡ old.rest
      → IsResponse told m old new desk new_desk before after result
  failed_response mid error scope result refused turns bounded registration same failed behind handlers rest = record {
    answer = failed_answer (told old.handlers) old.state m desk.calls new_desk.calls old.unsent mid.unsent new.unsent mid.state new.state
        scope same error result refused failed;
    err = failed_cut (told old.handlers) old.state m desk.calls new_desk.calls old.unsent mid.unsent new.unsent mid.state new.state scope
        same error result refused;
    stopped = failed_stopped (told old.handlers) old.state m desk.calls new_desk.calls old.unsent mid.unsent new.unsent mid.state
        new.state scope same error result refused failed;
    only = failed_only error scope mid.state new.state mid.unsent new.unsent result failed;
    ends = behind.ends;
    opened = behind.opened;
    handlers = behind.handlers ∙ handlers;
    rest = behind.rest ∙ rest;
    turns = failed_turns (Option EndKind) error scope mid.state new.state mid.unsent new.unsent result before after _ failed turns;
    bounded = bounded;
    registration = registration;
  }
