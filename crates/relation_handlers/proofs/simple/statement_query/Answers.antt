use Rattle.std.proofs.Common.{◌≡◌, ℕ, false, List, [], ◌∷◌, Option, Some, Result, Ok, Err, refl, ap, ◌∙◌}
use Rattle.std.proofs.lemmas.Result.{err_from_is_err_and}
use Rattle.pg_handlers.specs.PolledQueries.{is_given, query_told}
use Rattle.pg_results.specs.declared.client.ClientInfo.{ClientInfo}
use Rattle.pg_results.specs.declared.error.PgWireError.{PgWireError}
use Rattle.pg_results.specs.declared.format.Format.TheVariants as format
use Rattle.pg_results.specs.declared.response.Response.{Response}
use Rattle.pg_results.specs.Copying.{CopyItem}
use Rattle.pg_results.specs.Responses.{ToldResponse, told_response}
use Rattle.pg_results.specs.Rows.{RowItem}
use Rattle.conversation_table.specs.Good.{AreSendable, IsSendableOutcome}
use Rattle.conversation_table.specs.Handlers.{ToldQuery, told_all, told_query}
use Rattle.relation_tables.specs.declared.Relation.{Relation}
use Rattle.relation_tables.specs.declared.RelationStatement.{RelationStatement}
use Rattle.relation_tables.specs.declared.RelationStatement.TheVariants as statement
use Rattle.relation_tables.specs.RelationHandler.{alone, query_of}
use Rattle.relation_handlers.specs.Queries.{polls_of}
use Rattle.relation_handlers.proofs.simple.statement_query.Goals as goal

-- a query owes its statement's polls
owed : (relations : List Relation) (client : ClientInfo) (means : RelationStatement)
    → polls_of relations means ≡ (query_of relations client format.UnifiedText means).owes
owed relations client statement.Begin = refl
owed relations client statement.Commit = refl
owed relations client (statement.Relation place) = refl

polls_owed : (relations table named : List Relation) (client : ClientInfo) (means : RelationStatement) (polls : ℕ)
    → table ≡ relations
    → named ≡ table → polls ≡ polls_of named means → polls ≡ (query_of relations client format.UnifiedText means).owes
polls_owed relations table named client means polls e f g =
    g ∙ ap (λ r. polls_of r means) (f ∙ e) ∙ owed relations client means

-- a query of one response
told_alone : {R C : Type 0} (rows : R → List RowItem) (items : C → List CopyItem) (polls unready : ℕ)
    (made : Option (Result (List (Response R C)) PgWireError)) (responses : List (Response R C)) (response : Response R C)
    (q : ToldQuery ToldResponse) → polls ≡ q.owes → unready ≡ polls → made ≡ Some (Ok responses) → responses ≡ response ∷ []
    → Ok (told_response rows items response) ≡ q.outcome
    → told_query (told_all rows items) (query_told unready made) ≡ record { owes = q.owes; outcome = alone q.outcome }
told_alone rows items polls unready made responses response q e owes is one told =
    rw (owes, e, is, one) (ap (λ o. record { owes = q.owes; outcome = alone o }) told)

unspent : {A : Type 0} (made : Option A) (outcome : A) → made ≡ Some outcome → is_given made ≡ false
unspent made outcome e = rw e refl

sendable_alone : (outcome : Result ToldResponse PgWireError) → IsSendableOutcome outcome → AreSendable (alone outcome)
sendable_alone (Ok r) h = (h, tt)
sendable_alone (Err e) h = h

pub returns : goal.returns
returns g c = record {
  unspent = unspent c.new.result.outcome (Ok c.in_ok-responses.responses) c.new.ensures.outcome;
  told = told_alone g.B.Rows.RowSource.items g.B.Lines.CopySource.items c.polls_of.result c.new.result.unready
      c.new.result.outcome
      c.in_ok-responses.responses c.in_ok-response.response
      (query_of (g.B.ServedRelations.told c.args.served.now) c.args.client.now format.UnifiedText c.args.means)
      (polls_owed (g.B.ServedRelations.told c.args.served.now) c.table.result.now c.named.result.now c.args.client.now
      c.args.means
      c.polls_of.result c.table.ensures c.named.ensures c.polls_of.ensures)
      c.new.ensures.unready c.new.ensures.outcome c.in_ok-responses.ensures c.in_ok-response.ensures.told;
  sendable = sendable_alone
      (query_of (g.B.ServedRelations.told c.args.served.now) c.args.client.now format.UnifiedText c.args.means).outcome
      c.in_ok-response.ensures.sendable;
}

pub returns-in_err-response : goal.returns-in_err-response
returns-in_err-response g c =
    let p = err_from_is_err_and c.from_residual.result c.from_residual.ensures.1 in
    rw p.1 (record { unspent = tt; told = tt; sendable = tt })

pub returns-in_err-responses : goal.returns-in_err-responses
returns-in_err-responses g c =
    let p = err_from_is_err_and c.from_residual-in_err-responses.result c.from_residual-in_err-responses.ensures.1 in
    rw p.1 (record { unspent = tt; told = tt; sendable = tt })

pub response_of-requires : goal.response_of-requires
response_of-requires g c =
    record { given = c.requires.given; formats = λ index inside. refl; short_metadata = c.requires.short_metadata }

pub polls_of-requires : goal.polls_of-requires
polls_of-requires g c = rw (c.named.ensures, c.table.ensures) c.requires.given
