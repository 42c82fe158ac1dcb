-- The handlers that implement nothing: they refuse queries and COPY with FATAL, and describe nothing.
use Rattle.std.specs.Prelude.{ℕ, Bool, true, false, List, [], Option, Some, None, Result, Ok, Err}
use Rattle.pg_messages.specs.declared.response.ErrorInfo.{ErrorInfo}
use Rattle.pg_results.specs.declared.error.PgWireError.{PgWireError}
use Rattle.pg_results.specs.declared.error.PgWireError.TheVariants as wire
use Rattle.pg_results.specs.Noop.{noop_told}
use Rattle.pg_client.specs.Errors.{copy_given_up, not_implemented}
use Rattle.conversation_table.specs.Handlers.{ExtendedTold, SimpleTold, CopyTold, CopyStep, ToldQuery, QueryTold}

abbrev pub noop_step : CopyStep
noop_step = record { replies = []; refusal = Some (wire.UserError not_implemented) }

abbrev pub noop_copy : CopyTold
noop_copy = record {
  on_data = λ client bytes. noop_step;
  on_done = λ client. noop_step;
  on_fail = λ client message. wire.UserError (copy_given_up message);
}

abbrev pub noop_query : {A : Type 0} → ToldQuery A
noop_query = record { owes = 0; outcome = Err (wire.UserError not_implemented) }

abbrev pub noop_simple : SimpleTold
noop_simple client query = noop_query

abbrev pub noop_extended : ExtendedTold (List ℕ)
noop_extended = record {
  parser = noop_told;
  query = λ client p limit. noop_query;
  describe_statement = λ client s. Ok (record { parameters = []; fields = [] });
  describe_portal = λ client p. Ok (record { fields = [] });
}

-- whether the refusal was given
abbrev pub is_given : Option ErrorInfo → Bool
is_given (Some info) = false
is_given None = true

-- the refusal, where it wasn't given yet
abbrev pub refusal : {A : Type 0} → Option ErrorInfo → Result A PgWireError
refusal (Some info) = Err (wire.UserError info)
refusal None = Err wire.NoMemory

-- a query that is ready at once with its refusal
abbrev pub refused_query : {A : Type 0} → Option ErrorInfo → QueryTold (Result A PgWireError)
refused_query info = record { is_spent = is_given info; owes = 0; outcome = refusal info }
