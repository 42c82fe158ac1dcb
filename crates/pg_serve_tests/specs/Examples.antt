-- What is answered to a query that comes while the session awaits Sync (pgwire: `on_query`, `on_execute`).
use Rattle.std.specs.Prelude.{ℕ, [], ◌≡◌}
use Rattle.pg_results.specs.declared.error.PgWireError.TheVariants as wire
use Rattle.pg_results.specs.declared.client.PgWireConnectionState.TheVariants as phase
use Rattle.pg_client.specs.State.{State}
use Rattle.pg_client.specs.Effect.{Called, Failed, when_ready}

-- While the session awaits Sync, nothing is called and nothing replied, whatever the row would say: it is NotReadyForQuery.
abbrev pub IsNotExecutedBeforeSync : State ℕ → Called ℕ → Type 0
IsNotExecutedBeforeSync s row =
    s.info.state ≡ phase.AwaitingSync
    → when_ready s row ≡ (record { calls = []; effect = record { replies = []; outcome = Failed s wire.NotReadyForQuery } })
