-- The states in which relations are served, and when an error is told.
use Rattle.std.specs.Prelude.{ℕ, Bool, List, Some, None, Result, ◌≡◌, ◌↔◌, map}
use Rattle.std.specs.FinMap as fin
use Rattle.pg_messages.specs.declared.frontend.PgWireFrontendMessage.{PgWireFrontendMessage}
use Rattle.pg_text.specs.declared.format.interval_style.IntervalStyle.{IntervalStyle}
use Rattle.pg_results.specs.declared.client.PgWireConnectionState.TheVariants as phase
use Rattle.pg_results.specs.declared.error.PgWireError.{PgWireError}
use Rattle.pg_results.specs.Told.{ToldRows}
use Rattle.pg_portal.specs.Told.{BoundPortal, TablePortal, Stage, Unstarted, Started, Ended, value_under}
use Rattle.pg_client.specs.State.{State}
use Rattle.relation_tables.specs.declared.Relation.{Relation}
use Rattle.relation_tables.specs.declared.RelationStatement.{RelationStatement}
use Rattle.relation_tables.specs.declared.RelationStatement.TheVariants as statement
use Rattle.relation_tables.specs.RelationHandler.{session_style, column_formats, row_item}
use Rattle.relation_tables.specs.Relations.{relation_at}
use Rattle.relation_laws.specs.Told.{TellsCode}
use Rattle.relation_laws.specs.Causes.{Cause, answer, last_rows}

-- The items to come of a started portal: one for each of the last rows of its relation, in this style and in the
-- portal's formats.
pub record IsRest (relations : List Relation) (style : Result IntervalStyle PgWireError) (p : BoundPortal RelationStatement)
    (r : ToldRows) : Type 0 where
  pub place : ℕ
  pub means : p.statement.statement ≡ statement.Relation place
  pub items : r.items ≡ map (row_item style (column_formats p.result_column_format (relation_at relations place).columns))
      (last_rows (relation_at relations place).rows r.items)

abbrev pub IsStageOf : List Relation → Result IntervalStyle PgWireError → BoundPortal RelationStatement → Stage → Type 0
IsStageOf relations style p Unstarted = Unit {0}
IsStageOf relations style p (Started r delivered) = IsRest relations style p r
IsStageOf relations style p (Ended delivered) = Unit {0}

-- A state in which relations are served: the items to come of each started portal are the last rows of its relation in
-- the session's style, and before the startup packet no portal is stored.
pub record IsServed (relations : List Relation) (s : State RelationStatement) : Type 0 where
  pub portals : (name : List ℕ) (p : TablePortal RelationStatement) → value_under (fin.get s.portals name) ≡ Some p
      → IsStageOf relations (session_style s.info) p.bound p.stage
  pub startup : s.info.state ≡ phase.AwaitingStartup → (name : List ℕ) → fin.get s.portals name ≡ None

-- In each such state, whatever the message and the registry's answers are, an ErrorResponse of this severity and with this code stands in
-- the answer exactly where the cause holds.
abbrev pub IsToldExactlyWhere : List ℕ → List ℕ → Cause → Type 0
IsToldExactlyWhere severity code Holds = (relations : List Relation) (answers : List Bool) (s : State RelationStatement)
    (m : PgWireFrontendMessage) → IsServed relations s
    → TellsCode severity code (answer relations answers s m).replies ↔ Holds relations answers s m
