-- What a parser of queries gives, and a response with rows.
use Rattle.std.specs.Prelude.{ℕ, Bool, List, Option, Result, Err, ◌++◌, ◌≡◌, ◌⊎◌}
use Rattle.std.specs.Arc.{arc_value}
use Rattle.pg_types.specs.declared.pg_type.PgType.{PgType}
use Rattle.pg_results.specs.declared.error.PgWireError.{PgWireError}
use Rattle.pg_results.specs.declared.error.PgWireError.TheVariants.{NoMemory}
use Rattle.pg_results.specs.declared.client.ClientInfo.{ClientInfo}
use Rattle.pg_results.specs.declared.format.Format.{Format}
use Rattle.pg_results.specs.declared.response.QueryResponse.{QueryResponse}
use Rattle.pg_results.specs.Fields.{Field}
use Rattle.pg_results.specs.Rows.{RowItem}

-- the result is the outcome that was told, or NoMemory
abbrev pub IsOutcome : {A : Type 0} → Result A PgWireError → Result A PgWireError → Type 0
IsOutcome told result = (result ≡ told) ⊎ (result ≡ Err NoMemory)

-- A parser: which statements it can give; the statement that it makes of a client's query and the parameter types that
-- were given, where None is an empty statement; and the parameter types of a statement that it can give, and its
-- columns with formats and without.
pub record ParserTold (S : Type 0) : Type 0 where
  pub gives : S → Bool
  pub parse : ClientInfo → List ℕ → List (Option PgType) → Result (Option S) PgWireError
  pub parameter_types : S → Result (List PgType) PgWireError
  pub columns : S → Option Format → Result (List Field) PgWireError

-- a response with rows: its tag, its columns, and the items to come
pub record ToldRows : Type 0 where
  pub command_tag : List ℕ
  pub fields : List Field
  pub items : List RowItem

abbrev pub told_rows : {R : Type 0} → (R → List RowItem) → QueryResponse R → ToldRows
told_rows items response = record {
  command_tag = response.command_tag;
  fields = arc_value response.row_schema;
  items = items response.data_rows;
}

-- the items that are left of a response
abbrev pub with_items : ToldRows → List RowItem → ToldRows
with_items response items = record { command_tag = response.command_tag; fields = response.fields; items = items }

-- some of the items were taken, and the rest is left
abbrev pub IsRest : ToldRows → ToldRows → Type 0
IsRest old new = (taken : List RowItem) × (left : List RowItem) × (old.items ≡ taken ++ left) × (new ≡ with_items old left)
