-- Worked examples of what the handlers of relations tell.
use Rattle.std.proofs.Common.{◌≡◌, ℕ, pos, List, [], ◌∷◌, ◌++◌, Some, None, Ok, Err, codes, refl}
use Rattle.pg_interval.specs.declared.pg_interval.Interval.{Interval}
use Rattle.pg_interval.specs.Printed.{printed}
use Rattle.pg_interval.specs.Reading as styles
use Rattle.pg_types.specs.declared.field_format.FieldFormat.TheVariants as field
use Rattle.pg_text.specs.declared.format.interval_style.IntervalStyle.TheVariants as style
use Rattle.pg_results.specs.declared.error.PgWireError.TheVariants as wire
use Rattle.pg_results.specs.declared.format.Format.TheVariants as format
use Rattle.relation_tables.specs.declared.Relation.{Relation}
use Rattle.relation_tables.specs.declared.RelationStatement.TheVariants as statement
use Rattle.relation_tables.specs.Queries.{trimmed, words, copied_name}
use Rattle.relation_tables.specs.Relations.{meaning, binary_value, text_value}
use Rattle.relation_tables.specs.RelationHandler.{row_item, line_item, column_formats}

abbrev day : ℕ → Interval
day n = record { months = pos 0; days = pos n; microseconds = pos 0 }

abbrev relation : List ℕ → Relation
relation name = record { name = name; unready = 0; columns = codes "a" ∷ codes "b" ∷ []; rows = (day 1 ∷ day 2 ∷ []) ∷ [] }

abbrev relations : List Relation
relations = relation (codes "shifts") ∷ relation (codes "Wide") ∷ relation (codes "shifts") ∷ []

-- ---- what a text means

begin_in_any_case : meaning relations (codes " ;bEGin; ") ≡ Some statement.Begin
begin_in_any_case = refl

first_of_its_name : meaning relations (codes "shifts") ≡ Some (statement.Relation 0)
first_of_its_name = refl

by_its_very_name : meaning relations (codes "\nWide;") ≡ Some (statement.Relation 1)
by_its_very_name = refl

no_other_case : meaning relations (codes "wide") ≡ None
no_other_case = refl

copied : copied_name (words (trimmed (codes "; copy  Wide to Stdout ;"))) ≡ Some (codes "Wide")
copied = refl

not_copied : copied_name (words (codes "COPY Wide FROM STDIN")) ≡ None
not_copied = refl

-- ---- rows and lines

mixed : row_item (Ok style.Postgres) (field.Text ∷ field.Binary ∷ []) (day 1 ∷ day 2 ∷ [])
    ≡ Ok (record { payload = text_value (printed styles.Postgres (day 1)) ++ (binary_value (day 2) ++ []); field_count = pos 2 })
mixed = refl

-- A style that isn't one refuses a row with a text, and no other.
refused_text : row_item (Err (wire.InvalidOptionValue (codes "roman"))) (field.Binary ∷ field.Text ∷ []) (day 1 ∷ day 2 ∷ [])
    ≡ Err (wire.InvalidOptionValue (codes "roman"))
refused_text = refl

binary_alone : row_item (Err (wire.InvalidOptionValue (codes "roman"))) (field.Binary ∷ []) (day 1 ∷ [])
    ≡ Ok (record { payload = binary_value (day 1) ++ []; field_count = pos 1 })
binary_alone = refl

no_column : row_item (Err (wire.InvalidOptionValue (codes "roman"))) [] [] ≡ Ok (record { payload = []; field_count = pos 0 })
no_column = refl

-- A line without a text is of one byte.
no_text : line_item (Err (wire.InvalidOptionValue (codes "roman"))) [] ≡ Ok (record { payload = 10 ∷ [] })
no_text = refl

refused_line : line_item (Err (wire.InvalidOptionValue (codes "roman"))) (day 1 ∷ []) ≡ Err (wire.InvalidOptionValue (codes "roman"))
refused_line = refl

line_with_a_tab : line_item (Ok style.ISO8601) (day 1 ∷ day 2 ∷ [])
    ≡ Ok (record { payload = printed styles.Iso8601 (day 1) ++ 9 ∷ printed styles.Iso8601 (day 2) ++ 10 ∷ [] })
line_with_a_tab = refl

-- codes behind the columns count for nothing
formats_of_columns : column_formats (format.Individual (pos 1 ∷ pos 0 ∷ pos 1 ∷ [])) (codes "a" ∷ codes "b" ∷ [])
    ≡ field.Binary ∷ field.Text ∷ []
formats_of_columns = refl
