-- The columns of relations, which queries share.
use Rattle.std.specs.Prelude.{ℕ, List}
use Rattle.pg_results.specs.declared.format.Format.{Format}
use Rattle.pg_results.specs.declared.format.Format.TheVariants as format
use Rattle.relation_tables.specs.declared.Relation.{Relation}
use Rattle.relation_tables.specs.RelationHandler.{column_formats, columns_in}
use Rattle.relation_handlers.specs.Told.{ToldColumns}
use Rattle.relation_handlers.specs.declared.shared.SharedColumns.{SharedColumns}

-- the columns of these names in these formats
abbrev pub told_columns : Format → List (List ℕ) → ToldColumns
told_columns formats names = record { fields = columns_in formats names; formats = column_formats formats names }

-- the columns of these names where all are text, and where all are binary
abbrev pub shared_of : List (List ℕ) → SharedColumns
shared_of names = record { text = told_columns format.UnifiedText names; binary = told_columns format.UnifiedBinary names }

abbrev pub shared_columns : Relation → SharedColumns
shared_columns r = shared_of r.columns
