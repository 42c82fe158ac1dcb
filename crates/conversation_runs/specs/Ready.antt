-- A session that is ready for a query.
use Rattle.std.specs.Prelude.{true, ◌≡◌}
use Rattle.pg_results.specs.declared.client.PgWireConnectionState.TheVariants as phase
use Rattle.conversation_runs.specs.Session.{SessionValue}

-- It is open, and awaits a query.
pub record IsReady {H S : Type 0} (s : SessionValue H S) : Type 0 where
  pub opened : s.is_open ≡ true
  pub ready : s.state.info.state ≡ phase.ReadyForQuery
