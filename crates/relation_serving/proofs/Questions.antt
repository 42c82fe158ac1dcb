-- A conversation over relations asks no more questions than its messages that run a query, each as often as a relation is unready.
use Rattle.std.proofs.Common.{◌≤◌, ℕ, zero, suc, arith, Bool, List, [], ◌∷◌, Option, Some, None}
use Rattle.std.specs.Prelude.{◌*◌}
use Rattle.pg_messages.specs.declared.frontend.PgWireFrontendMessage.{PgWireFrontendMessage}
use Rattle.pg_results.specs.declared.client.ClientInfo.{ClientInfo}
use Rattle.pg_results.specs.declared.format.Format.{Format}
use Rattle.pg_results.specs.declared.format.Format.TheVariants as format
use Rattle.pg_client.specs.Answer.{conversation}
use Rattle.conversation_table.specs.Questions.{questions}
use Rattle.pg_client.specs.State.{State}
use Rattle.conversation_table.specs.Table.{whole_table}
use Rattle.relation_tables.specs.declared.Relation.{Relation}
use Rattle.relation_tables.specs.declared.RelationStatement.{RelationStatement}
use Rattle.relation_tables.specs.declared.RelationStatement.TheVariants as statement
use Rattle.relation_tables.specs.Queries.{trimmed, words, copied_name}
use Rattle.relation_tables.specs.Relations.{meaning, place_of, relation_at}
use Rattle.relation_tables.specs.RelationHandler.{relation_handlers, query_of, copy_of, copy_or_unknown, simple_of}
use Rattle.pg_engine.specs.Completeness.{OweAtMost, runs}
use Rattle.pg_engine.proofs.Questions.{handlers_few}
use Rattle.relation_serving.specs.Completeness.{most_unready}

-- ---- relations

-- no relation at a place is unready more often
unready_at : (relations : List Relation) (place : ℕ) → (relation_at relations place).unready ≤ most_unready relations
unready_at [] place = omega arith
unready_at (r ∷ relations) zero = omega arith
unready_at (r ∷ relations) (suc place) = let p = unready_at relations place in omega (arith, p)

query_of_few : (relations : List Relation) (client : ClientInfo) (formats : Format) (means : RelationStatement)
    → (query_of relations client formats means).owes ≤ most_unready relations
query_of_few relations client formats statement.Begin = omega arith
query_of_few relations client formats statement.Commit = omega arith
query_of_few relations client formats (statement.Relation place) = unready_at relations place

copy_few : (relations : List Relation) (client : ClientInfo) (name : List ℕ) (place : Option ℕ)
    → (copy_of relations client name place).owes ≤ most_unready relations
copy_few relations client name None = omega arith
copy_few relations client name (Some place) = unready_at relations place

copy_or_unknown_few : (relations : List Relation) (client : ClientInfo) (text : List ℕ) (name : Option (List ℕ))
    → (copy_or_unknown relations client text name).owes ≤ most_unready relations
copy_or_unknown_few relations client text None = omega arith
copy_or_unknown_few relations client text (Some name) = copy_few relations client name (place_of relations name)

simple_few : (relations : List Relation) (client : ClientInfo) (text : List ℕ) (means : Option RelationStatement)
    → (simple_of relations client text means).owes ≤ most_unready relations
simple_few relations client text None = copy_or_unknown_few relations client text (copied_name (words text))
simple_few relations client text (Some means) = query_of_few relations client format.UnifiedText means

pub relations_owe : (relations : List Relation) → OweAtMost (relation_handlers relations) (most_unready relations)
relations_owe relations = record {
  extended = λ client p limit. query_of_few relations client p.result_column_format p.statement.statement;
  simple = λ client query. simple_few relations client (trimmed query) (meaning relations query);
}

pub few_questions : (relations : List Relation) (answers : List Bool) (s : State RelationStatement) (messages : List PgWireFrontendMessage)
    → questions (conversation (whole_table (relation_handlers relations)) answers s messages).calls ≤ runs messages * most_unready relations
few_questions relations answers s messages =
    handlers_few (relation_handlers relations) (most_unready relations) (relations_owe relations) answers s messages
