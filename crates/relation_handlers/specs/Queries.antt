-- Queries of statements.
use Rattle.std.specs.Prelude.{ℕ, List}
use Rattle.relation_tables.specs.declared.Relation.{Relation}
use Rattle.relation_tables.specs.declared.RelationStatement.{RelationStatement}
use Rattle.relation_tables.specs.declared.RelationStatement.TheVariants as statement
use Rattle.relation_tables.specs.Relations.{relation_at}

-- the polls that find a statement's query unready; BEGIN and COMMIT owe none
abbrev pub polls_of : List Relation → RelationStatement → ℕ
polls_of relations statement.Begin = 0
polls_of relations statement.Commit = 0
polls_of relations (statement.Relation place) = (relation_at relations place).unready
