use Rattle.std.proofs.Common.{◌≡◌, ℕ, ◌≤◌, false, List, [], ◌∷◌, Option, Some, None, Result, Ok, length, subst, refl, sym, ap, ◌∙◌, arith}
use Rattle.std.proofs.lemmas.Result.{err_from_is_err_and}
use Rattle.pg_handlers.specs.PolledQueries.{is_given, query_told}
use Rattle.pg_results.specs.declared.client.ClientInfo.{ClientInfo}
use Rattle.pg_results.specs.declared.error.PgWireError.{PgWireError}
use Rattle.pg_results.specs.declared.response.Response.{Response}
use Rattle.pg_results.specs.Copying.{CopyItem}
use Rattle.pg_results.specs.Responses.{told_responses}
use Rattle.pg_results.specs.Rows.{RowItem}
use Rattle.conversation_table.specs.Good.{AreSendable}
use Rattle.conversation_table.specs.Handlers.{told_all, told_query}
use Rattle.relation_tables.specs.declared.Relation.{Relation}
use Rattle.relation_tables.specs.Relations.{place_of, relation_at}
use Rattle.relation_tables.specs.RelationHandler.{copy_of, copy_response}
use Rattle.relation_tables.proofs.GoodColumns.{good_columns}
use Rattle.relation_tables.proofs.Meanings.{place_inside}
use Rattle.relation_handlers.specs.Tables.{IsSound}
use Rattle.relation_handlers.proofs.simple.copy_query.Goals as goal

-- the place that was found among the relations as they are served
found_at : (relations table named : List Relation) (name : List ℕ) (found place : Option ℕ) → table ≡ relations → named ≡ table
    → found ≡ place_of named name → found ≡ place → place_of relations name ≡ place
found_at relations table named name found place e f g h = sym (ap (λ r. place_of r name) (f ∙ e)) ∙ sym g ∙ h

read_at : (relations table named : List Relation) (place : ℕ) (r : Relation) → table ≡ relations → named ≡ table
    → r ≡ relation_at named place → r ≡ relation_at relations place
read_at relations table named place r e f g = g ∙ ap (λ l. relation_at l place) (f ∙ e)

-- a query of the lines of a relation
told_lines : {R C : Type 0} (rows : R → List RowItem) (items : C → List CopyItem) (relations : List Relation)
    (client : ClientInfo)
    (name : List ℕ) (place unready : ℕ) (r : Relation) (made : Option (Result (List (Response R C)) PgWireError))
    (responses : List (Response R C)) → place_of relations name ≡ Some place → r ≡ relation_at relations place
    → unready ≡ r.unready
    → made ≡ Some (Ok responses) → told_responses rows items responses ≡ copy_response client (relation_at relations place) ∷ []
    → told_query (told_all rows items) (query_told unready made) ≡ copy_of relations client name (place_of relations name)
told_lines rows items relations client name place unready r made responses some e owes is told = rw (some, owes, e, is, told) refl

few : (r : Relation) → IsSound r → length r.columns ≤ 32767
few r sound = omega (arith, (good_columns r.columns sound.columns).0)

sendable_lines : (relations : List Relation) (client : ClientInfo) (name : List ℕ) (place : ℕ) (r : Relation)
    → place_of relations name ≡ Some place → r ≡ relation_at relations place → IsSound r
    → AreSendable (copy_of relations client name (place_of relations name)).outcome
sendable_lines relations client name place r some e sound =
    rw some (few (relation_at relations place) (subst (λ x. IsSound x) e sound), tt)

unspent : {A : Type 0} (made : Option A) (outcome : A) → made ≡ Some outcome → is_given made ≡ false
unspent made outcome e = rw e refl

pub copy_responses-requires-clause-place : goal.copy_responses-requires-clause-place
copy_responses-requires-clause-place g c =
    place_inside (g.B.ServedRelations.told c.args.served.now) c.args.name.now c.in-Some.place
    (found_at (g.B.ServedRelations.told c.args.served.now) c.table.result.now c.named-relations.result.now c.args.name.now
    c.find.result
    (Some c.in-Some.place) c.table.ensures c.named-relations.ensures c.find.ensures c.in-Some.is)

pub at-requires : goal.at-requires
at-requires g c =
    place_inside c.named-relations.result.now c.args.name.now c.in-Some.place (sym c.find.ensures ∙ c.in-Some.is)

pub returns-in_ok-responses-in-Some : goal.returns-in_ok-responses-in-Some
returns-in_ok-responses-in-Some g c =
    let some : place_of (g.B.ServedRelations.told c.args.served.now) c.args.name.now ≡ Some c.in-Some.place =
    found_at (g.B.ServedRelations.told c.args.served.now) c.table.result.now c.named-relations.result.now c.args.name.now
    c.find.result (Some c.in-Some.place) c.table.ensures c.named-relations.ensures c.find.ensures c.in-Some.is in
    let read : c.at.result.now ≡ relation_at (g.B.ServedRelations.told c.args.served.now) c.in-Some.place =
    read_at (g.B.ServedRelations.told c.args.served.now) c.table.result.now c.named-relations.result.now c.in-Some.place
    c.at.result.now c.table.ensures c.named-relations.ensures c.at.ensures.relation in
    record {
      unspent = unspent c.new.result.outcome (Ok c.in_ok-responses-in-Some.responses) c.new.ensures.outcome;
      told = told_lines g.B.Rows.RowSource.items g.B.Lines.CopySource.items (g.B.ServedRelations.told c.args.served.now)
          c.args.client.now c.args.name.now c.in-Some.place c.new.result.unready c.at.result.now c.new.result.outcome
          c.in_ok-responses-in-Some.responses some read c.new.ensures.unready c.new.ensures.outcome
          c.in_ok-responses-in-Some.ensures;
      sendable = sendable_lines (g.B.ServedRelations.told c.args.served.now) c.args.client.now c.args.name.now c.in-Some.place
          c.at.result.now some read c.at.ensures.sound;
    }

pub returns-in_err-responses-in-Some : goal.returns-in_err-responses-in-Some
returns-in_err-responses-in-Some g c =
    let p = err_from_is_err_and c.from_residual.result c.from_residual.ensures.1 in
    rw p.1 (record { unspent = tt; told = tt; sendable = tt })

pub returns-in-None : goal.returns-in-None
returns-in-None g c =
    rw (found_at (g.B.ServedRelations.told c.args.served.now) c.table.result.now c.named-relations.result.now c.args.name.now
    c.find.result None c.table.ensures c.named-relations.ensures c.find.ensures c.in-None.is) c.refused_query.ensures

pub refused_query-requires : goal.refused_query-requires
refused_query-requires g c = c.requires.short_name
