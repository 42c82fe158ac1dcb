-- What the server of cursors owes its client: the answer of the cursor table over the relations.
use Rattle.std.specs.Prelude.{ℕ, ℤ, List, Option, Result}
use Rattle.pg_client.specs.declared.desk.DeskCall.{DeskCall}
use Rattle.pg_client.specs.declared.ends.EndKind.{EndKind}
use Rattle.pg_client.specs.State.{first_state}
use Rattle.conversation_table.specs.Handlers.{Handlers}
use Rattle.conversation_runs.specs.declared.ends.ServeError.{ServeError}
use Rattle.pg_engine.specs.Around.{Around, Serves}
use Rattle.pg_engine.specs.Serving.{WentSo}
use Rattle.cursor_table.specs.CursorTable.{cursor_rules}
use Rattle.relation_tables.specs.declared.Relation.{Relation}
use Rattle.relation_tables.specs.RelationHandler.{relation_handlers}

-- what was written and called is the cursor table's answer
abbrev pub WentByCursors : List Relation → ℤ × List ℕ → Result EndKind ServeError → Option (List ℕ) → Option (List ℕ) → Option (List ℕ)
    → Option (List ℕ)
    → List DeskCall → Type 0
WentByCursors relations registration answer left new_left old new calls =
    WentSo (cursor_rules (relation_handlers relations)) (first_state registration.0 registration.1) answer left new_left old new calls

-- A client was served with cursors, over handlers that tell so, by a session that begins with the pid and the key that the desk has.
abbrev pub ServesCursors : {S : Type 0} → Handlers S → ℕ → Result EndKind ServeError → Around → Around → Type 0
ServesCursors handlers turns result before after =
    Serves (cursor_rules handlers) (first_state before.desk.registration.0 before.desk.registration.1) turns result before after
