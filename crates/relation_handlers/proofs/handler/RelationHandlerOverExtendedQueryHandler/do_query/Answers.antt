use Rattle.std.proofs.Common.{◌≡◌, ℕ, false, List, Option, Some, Result, Ok, subst, refl, sym, ap, ◌∙◌}
use Rattle.std.specs.Arc.{arc_value}
use Rattle.std.proofs.lemmas.Result.{err_from_is_err_and}
use Rattle.pg_handlers.specs.PolledQueries.{is_given, query_told}
use Rattle.pg_results.specs.declared.client.ClientInfo.{ClientInfo}
use Rattle.pg_results.specs.declared.error.PgWireError.{PgWireError}
use Rattle.pg_results.specs.declared.format.Format.{Format}
use Rattle.pg_results.specs.declared.response.Response.{Response}
use Rattle.pg_results.specs.Copying.{CopyItem}
use Rattle.pg_results.specs.Responses.{told_response}
use Rattle.pg_results.specs.Rows.{RowItem}
use Rattle.conversation_table.specs.Good.{IsSendableOutcome}
use Rattle.conversation_table.specs.Handlers.{told_one, told_query}
use Rattle.relation_tables.specs.declared.Relation.{Relation}
use Rattle.relation_tables.specs.declared.RelationStatement.{RelationStatement}
use Rattle.relation_tables.specs.declared.RelationStatement.TheVariants as statement
use Rattle.relation_tables.specs.Relations.{columns_of}
use Rattle.relation_tables.specs.RelationHandler.{query_of}
use Rattle.relation_handlers.specs.Queries.{polls_of}
use Rattle.relation_handlers.proofs.MadeLemmas.{gives_formats}
use Rattle.relation_handlers.proofs.handler.RelationHandlerOverExtendedQueryHandler.do_query.Goals as goal

module _ (relations : List Relation) (client : ClientInfo) (formats : Format) where
  -- a query owes its statement's polls
  owed : (means : RelationStatement) → polls_of relations means ≡ (query_of relations client formats means).owes
  owed statement.Begin = refl
  owed statement.Commit = refl
  owed (statement.Relation place) = refl

  polls_owed : (table named : List Relation) (means : RelationStatement) (polls : ℕ) → table ≡ relations → named ≡ table
      → polls ≡ polls_of named means → polls ≡ (query_of relations client formats means).owes
  polls_owed table named means polls e f g = g ∙ ap (λ r. polls_of r means) (f ∙ e) ∙ owed means

  -- a query of a statement that was read out of the portal
  told_once : {R C : Type 0} (rows : R → List RowItem) (items : C → List CopyItem) (read means : RelationStatement)
      (polls unready : ℕ)
      (made : Option (Result (Response R C) PgWireError)) (response : Response R C) → read ≡ means
      → polls ≡ (query_of relations client formats read).owes → unready ≡ polls → made ≡ Some (Ok response)
      → Ok (told_response rows items response) ≡ (query_of relations client formats read).outcome
      → told_query (told_one rows items) (query_told unready made) ≡ query_of relations client formats means
  told_once rows items read means polls unready made response same e owes is told =
      rw (sym same, owes, e, is) (ap (λ o. record { owes = (query_of relations client formats read).owes; outcome = o }) told)

  sendable_once : (read means : RelationStatement) → read ≡ means → IsSendableOutcome
      (query_of relations client formats read).outcome
      → IsSendableOutcome (query_of relations client formats means).outcome
  sendable_once read means same h = subst (λ m. IsSendableOutcome (query_of relations client formats m).outcome) same h

unspent : {A : Type 0} (made : Option A) (outcome : A) → made ≡ Some outcome → is_given made ≡ false
unspent made outcome e = rw e refl

pub response_of-requires-clause-formats : goal.response_of-requires-clause-formats
response_of-requires-clause-formats g c =
    rw c.deref.ensures
    (gives_formats c.args.portal.now.result_column_format
    (columns_of (g.B.ServedRelations.told c.args.self.now.relations) (arc_value c.args.portal.now.statement).statement)
    c.requires.good.codes)

pub response_of-requires-clause-given : goal.response_of-requires-clause-given
response_of-requires-clause-given g c = rw c.deref.ensures c.requires.good.statement.given

pub response_of-requires-clause-short_metadata : goal.response_of-requires-clause-short_metadata
response_of-requires-clause-short_metadata g c = c.requires.short_metadata

pub polls_of-requires : goal.polls_of-requires
polls_of-requires g c = rw (c.named.ensures, c.table.ensures, c.deref.ensures) c.requires.good.statement.given

pub returns : goal.returns
returns g c =
    let same : c.deref.result.now.statement ≡ (arc_value c.args.portal.now.statement).statement = rw c.deref.ensures refl in
    record {
      unspent = unspent c.new.result.outcome (Ok c.in_ok-response.response) c.new.ensures.outcome;
      told = told_once (g.B.ServedRelations.told c.args.self.now.relations) c.args.client.now
          c.args.portal.now.result_column_format
          g.B.Rows.RowSource.items g.B.Lines.CopySource.items c.deref.result.now.statement
          (arc_value c.args.portal.now.statement).statement c.polls_of.result c.new.result.unready c.new.result.outcome
          c.in_ok-response.response same
          (polls_owed (g.B.ServedRelations.told c.args.self.now.relations) c.args.client.now
          c.args.portal.now.result_column_format
          c.table.result.now c.named.result.now c.deref.result.now.statement c.polls_of.result c.table.ensures c.named.ensures
          c.polls_of.ensures)
          c.new.ensures.unready c.new.ensures.outcome c.in_ok-response.ensures.told;
      sendable = sendable_once (g.B.ServedRelations.told c.args.self.now.relations) c.args.client.now
          c.args.portal.now.result_column_format c.deref.result.now.statement (arc_value c.args.portal.now.statement).statement
          same
          c.in_ok-response.ensures.sendable;
    }

pub returns-in_err-response : goal.returns-in_err-response
returns-in_err-response g c =
    let p = err_from_is_err_and c.from_residual.result c.from_residual.ensures.1 in
    rw p.1 (record { unspent = tt; told = tt; sendable = tt })
