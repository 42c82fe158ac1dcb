-- Descriptions of statements and portals (protocol: Extended Query, Describe).
use Rattle.std.specs.Prelude.{Bool, true, false, List, [], ◌∷◌, Option, Some, None, ◌&&◌}
use Rattle.pg_types.specs.declared.pg_type.PgType.{PgType}
use Rattle.pg_results.specs.Fields.{Field}

-- the parameters of a statement, and the columns
pub record Described : Type 0 where
  pub parameters : Option (List PgType)
  pub fields : List Field

abbrev pub is_empty_list : {A : Type 0} → List A → Bool
is_empty_list [] = true
is_empty_list (x ∷ xs) = false

-- whether there is no parameter
abbrev pub has_none : Option (List PgType) → Bool
has_none None = true
has_none (Some types) = is_empty_list types

-- no columns, and for a statement no parameters either
abbrev pub is_no_data : Described → Bool
is_no_data told = has_none told.parameters && is_empty_list told.fields

-- a statement has a list of parameters, and a portal none
abbrev pub no_parameters : Bool → Option (List PgType)
no_parameters true = Some []
no_parameters false = None

abbrev pub no_data : Bool → Described
no_data of_statement = record { parameters = no_parameters of_statement; fields = [] }
