-- An example of a portal: three rows are to come, of no column.
use Rattle.std.specs.Prelude.{[], ◌∷◌, ◌≡◌, Some, Ok, codes}
use Rattle.std.specs.FinMap as fin
use Rattle.pg_messages.specs.declared.data.DataRow.{DataRow}
use Rattle.pg_messages.specs.declared.simplequery.Query.{Query}
use Rattle.pg_results.specs.declared.client.PgWireConnectionState.TheVariants as phase
use Rattle.pg_portal.specs.declared.store.Entry.TheVariants as entry
use Rattle.pg_results.specs.Told.{ToldRows}
use Rattle.pg_portal.specs.Told.{TablePortal, Started}
use Rattle.conversation_table.specs.Handlers.{Handlers}
use Rattle.pg_client.specs.State.{State}

abbrev pub three_rows : DataRow → DataRow → DataRow → ToldRows
three_rows one two three = record { command_tag = codes "SELECT"; fields = []; items = Ok one ∷ Ok two ∷ Ok three ∷ [] }

-- The server is ready, and of the portal `c` these rows are to come.
pub record HasThreeRows {S : Type 0} (h : Handlers S) (s : State S) (one two three : DataRow) : Type 0 where
  pub is_ready : s.info.state ≡ phase.ReadyForQuery
  pub portal : TablePortal S
  pub stored : fin.get s.portals (codes "c") ≡ Some (entry.Value portal)
  pub stage : portal.stage ≡ Started (three_rows one two three) 0
  pub described : h.extended.describe_portal s.info portal.bound ≡ Ok (record { fields = [] })

abbrev pub fetch_two : Query
fetch_two = record { query = codes "fetch 2 from c;" }
