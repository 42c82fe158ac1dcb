-- What becomes of a job that a thread runs.
use Rattle.std.specs.Prelude.{ℕ, List, Option, Result}
use Rattle.pg_cancel.specs.Connections.{Connection, Witness}
use Rattle.pg_client.specs.declared.ends.EndKind.{EndKind}
use Rattle.conversation_runs.specs.declared.ends.ServeError.{ServeError}
use Rattle.pg_engine.specs.Serving.{Counts}
use Rattle.relation_tables.specs.declared.Relation.{Relation}
use Rattle.relation_server.specs.Jobs.{HasConversed}

-- A job was run to its end: its client was served, and its registration then ended, whatever came of it.
pub record HasRun (h : Connection) (relations : List Relation) (turns : ℕ) (left old : Option (List ℕ)) (before : Counts) : Type 0 where
  pub answer : Result EndKind ServeError
  pub new_left : Option (List ℕ)
  pub new : Option (List ℕ)
  pub after : Counts
  pub note : Witness
  pub conversed : HasConversed h relations turns answer left new_left old new before after note
