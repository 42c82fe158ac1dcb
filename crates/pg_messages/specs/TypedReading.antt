-- A body after the type byte of a `TypedMessage` is read as that message, or as none.
use Rattle.std.specs.Prelude.{◌≡◌, ℕ, Bool, true, false, List, length, Some, None, ◌==◌, if◌then◌else◌, refl}
use Rattle.pg_messages.specs.declared.frontend.PgWireFrontendMessage.TheVariants as client
use Rattle.pg_messages.specs.Reading.{message_at, told_as, whole, query_at, parse_at, bind_at, describe_at, execute_at, close_at, sync_at}

-- after Q, a Query
pub query_read : (body : List ℕ) → message_at false 81 body ≡ told_as client.Query (whole (query_at body))
unfolding message_at
query_read body = refl

-- after P, a Parse
pub parse_read : (body : List ℕ) → message_at false 80 body ≡ told_as client.Parse (whole (parse_at body))
unfolding message_at
parse_read body = refl

-- after B, a Bind
pub bind_read : (body : List ℕ) → message_at false 66 body ≡ told_as client.Bind (whole (bind_at body))
unfolding message_at
bind_read body = refl

-- after D, a Describe
pub describe_read : (body : List ℕ) → message_at false 68 body ≡ told_as client.Describe (whole (describe_at body))
unfolding message_at
describe_read body = refl

-- after E, an Execute
pub execute_read : (body : List ℕ) → message_at false 69 body ≡ told_as client.Execute (whole (execute_at body))
unfolding message_at
execute_read body = refl

-- after C, a Close
pub close_read : (body : List ℕ) → message_at false 67 body ≡ told_as client.Close (whole (close_at body))
unfolding message_at
close_read body = refl

-- after S, a Sync, which has no body
pub sync_read : (body : List ℕ) → message_at false 83 body ≡ told_as client.PgSync (whole (sync_at body))
unfolding message_at
sync_read body = at (length body == 0)
  where
    at : (b : Bool) → (if b then Some (client.PgSync (record {})) else None)
        ≡ told_as client.PgSync (if b then Some (record {}) else None)
    at true = refl
    at false = refl
