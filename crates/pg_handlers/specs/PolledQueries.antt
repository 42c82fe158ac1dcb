-- A query that gives its outcome once.
use Rattle.std.specs.Prelude.{ℕ, Bool, true, false, Option, Some, None, Result, Err}
use Rattle.pg_results.specs.declared.error.PgWireError.{PgWireError}
use Rattle.pg_results.specs.declared.error.PgWireError.TheVariants as wire
use Rattle.conversation_table.specs.Handlers.{QueryTold}

-- whether the outcome was given
abbrev pub is_given : {A : Type 0} → Option A → Bool
is_given (Some outcome) = false
is_given None = true

-- the outcome, where it wasn't given yet
abbrev pub outcome_of : {A : Type 0} → Option (Result A PgWireError) → Result A PgWireError
outcome_of (Some outcome) = outcome
outcome_of None = Err wire.NoMemory

-- the number of polls that find the query unready, and its outcome after them
abbrev pub query_told : {A : Type 0} → ℕ → Option (Result A PgWireError) → QueryTold (Result A PgWireError)
query_told unready outcome = record { is_spent = is_given outcome; owes = unready; outcome = outcome_of outcome }
