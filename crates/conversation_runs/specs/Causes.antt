-- What sending replies and feeding a session do to what they are lent: a sink, a desk and the turns.
use Rattle.std.specs.Prelude.{ℕ, Result, ◌≡◌, ◌≤◌}
use Rattle.pg_client.specs.declared.ends.Turns.{Turns}
use Rattle.pg_client.specs.Desk.{DeskTold, GoesOn}
use Rattle.conversation_table.specs.Questions.{questions_since}
use Rattle.conversation_runs.specs.Session.{HasFed}
use Rattle.conversation_runs.specs.Streams.{HasFlushed, HasSinkCause}
use Rattle.conversation_runs.specs.declared.ends.ServeError.{ServeError}

-- Replies were sent to a sink, of which the faults and the origin are told: an error has its cause in the sink, which is the same one.
pub record HasFlushedTo {K O T : Type 0} (faults : K → ℕ) (origin : K → O) (old new : K) (result : Result T ServeError) : Type 0 where
  pub cause : HasFlushed (faults old) (faults new) result
  pub sink : origin new ≡ origin old

-- A session was fed: each error has its cause; turns were spent on questions and on nothing else, no more than there are; of the desk nothing
-- but calls was asked; and the sink is the same one.
pub record HasCauses {K O T : Type 0} (faults : K → ℕ) (origin : K → O) (sink new_sink : K) (desk new_desk : DeskTold)
    (before after : Turns) (result : Result T ServeError) : Type 0 where
  pub cause : HasSinkCause (faults sink) (faults new_sink) result
  pub turns : HasFed before after (questions_since desk.calls new_desk.calls) result
  pub bounded : before.spent ≤ before.limit → after.spent ≤ after.limit
  pub registration : GoesOn desk new_desk
  pub same : origin new_sink ≡ origin sink
