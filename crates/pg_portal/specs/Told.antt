-- The statements and portals of a store, as contracts see them.
use Rattle.std.specs.Prelude.{ℕ, List, Option, Some, None}
use Rattle.std.specs.Arc.{arc_value}
use Rattle.pg_results.specs.declared.format.Format.{Format}
use Rattle.pg_portal.specs.declared.portal.Portal.{Portal}
use Rattle.pg_portal.specs.declared.portal.PortalExecutionState.{PortalExecutionState}
use Rattle.pg_portal.specs.declared.portal.PortalExecutionState.TheVariants.{Initial, Suspended, Finished}
use Rattle.pg_results.specs.declared.stmt.StoredStatement.{StoredStatement}
use Rattle.pg_portal.specs.declared.store.Entry.{Entry}
use Rattle.pg_portal.specs.declared.store.Entry.TheVariants.{Empty, Value}
use Rattle.pg_results.specs.Rows.{RowItem}
use Rattle.pg_results.specs.Told.{ToldRows, told_rows}

-- a portal as its Bind made it
pub record BoundPortal (S : Type 0) : Type 0 where
  pub name : List ℕ
  pub statement : StoredStatement S
  pub parameter_format : Format
  pub parameters : List (Option (List ℕ))
  pub result_column_format : Format

-- how far a portal has come: the rows to come, and how many were delivered since it was started
pub data Stage : Type 0 where
  Unstarted : Stage
  Started : ToldRows → ℕ → Stage
  Ended : ℕ → Stage

-- a portal of the table
pub record TablePortal (S : Type 0) : Type 0 where
  pub bound : BoundPortal S
  pub stage : Stage

abbrev pub stage_in : {R : Type 0} → (R → List RowItem) → PortalExecutionState R → ℕ → Stage
stage_in items Initial delivered = Unstarted
stage_in items (Suspended response) delivered = Started (told_rows items response) delivered
stage_in items Finished delivered = Ended delivered

abbrev pub stage_of : {S R : Type 0} → (R → List RowItem) → Portal S R → Stage
stage_of items portal = stage_in items portal.state portal.delivered

abbrev pub bound_of : {S R : Type 0} → Portal S R → BoundPortal S
bound_of portal = record {
  name = portal.name;
  statement = arc_value portal.statement;
  parameter_format = portal.parameter_format;
  parameters = portal.parameters;
  result_column_format = portal.result_column_format;
}

abbrev pub portal_of : {S R : Type 0} → (R → List RowItem) → Portal S R → TablePortal S
portal_of items portal = record { bound = bound_of portal; stage = stage_of items portal }

-- the value of an entry that isn't empty
abbrev pub value_of : {T : Type 0} → Entry T → Option T
value_of Empty = None
value_of (Value value) = Some value

abbrev pub value_under : {T : Type 0} → Option (Entry T) → Option T
value_under None = None
value_under (Some entry) = value_of entry

abbrev pub entry_map : {X Y : Type 0} → (X → Y) → Entry X → Entry Y
entry_map f Empty = Empty
entry_map f (Value x) = Value (f x)
