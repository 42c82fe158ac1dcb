use Rattle.std.proofs.Common.{rules, [], subst, IfSome, ◌≡◌, ℕ, List, false, true, ◌∙◌, inl, inr, refl, sym, ap, Bor, Option, None, Some, Global}
use Rattle.std.specs.Prelude.{Bool, is_none, is_some, not}
use Rattle.std.specs.Arc.{arc_value}
use Rattle.std.specs.FinMap as fin
use Rattle.std.specs.Option.{option_map}
use Rattle.std.proofs.lemmas.List.{append-nil}
use Rattle.std.proofs.lemmas.Result.{err_from_is_err_and}
use Rattle.pg_messages.specs.declared.extendedquery.Describe.{Describe}
use Rattle.pg_messages.specs.Replies.{IsEncodable}
use Rattle.pg_messages.specs.Frames.{statement_target}
use Rattle.pg_results.specs.declared.error.PgWireError.{PgWireError}
use Rattle.pg_results.specs.declared.error.PgWireError.TheVariants as wire
use Rattle.std.specs.declared.sync.Arc.{Arc}
use Rattle.pg_results.specs.declared.stmt.StoredStatement.{StoredStatement}
use Rattle.pg_portal.specs.declared.store.Entry.{Entry}
use Rattle.pg_portal.specs.declared.store.Entry.TheVariants as entry
use Rattle.pg_portal.specs.Told.{entry_map}
use Rattle.pg_client.specs.Effect.{IsRefusedEffect}
use Rattle.pg_client.specs.State.{State, state_of}
use Rattle.pg_replies.specs.Replies.{parameter_description, row_description}
use Rattle.conversation_table.specs.ExtendedRows.{on_describe}
use Rattle.conversation_table.specs.Handlers.{ExtendedTold}
use Rattle.conversation_table.proofs.Describing.{empty_described}
use Rattle.conversation_table.proofs.GoodStores.{empty_under}
use Rattle.pg_handlers.proofs.query.describing.describe_no_statement.Goals as goal

no_columns : IsEncodable (row_description [])
no_columns = search rules

no_parameters : IsEncodable (parameter_description [])
no_parameters = search rules

-- no statement has this name
none_described : {S : Type 0} (h : ExtendedTold S) (s : State S) (m : Describe) (out : List ℕ) (e : PgWireError)
    → m.target_type ≡ statement_target → fin.get s.statements m.name ≡ None → e ≡ wire.StatementNotFound m.name
    → IsRefusedEffect (on_describe h s m) out out s e
none_described h s m out e i j is = rw (is, i, j) (inr (record { replied = sym (append-nil out); came = refl }))

none_under : {X Y : Type 0} (f : X → Y) (found : Option (Entry X)) (told : Option (Entry Y)) (none : Bool)
    → option_map (entry_map f) found ≡ told → is_some found ≡ not none → none ≡ true → told ≡ None
none_under f None told none e i is = sym e
none_under f (Some x) told none e i is = absurd (let k : true ≡ false = i ∙ ap not is in cc)

some_under : {X : Type 0} (found : Option X) (none : Bool) → is_some found ≡ not none → none ≡ false → is_none found ≡ false
some_under None none i is = absurd (let k : false ≡ true = i ∙ ap not is in cc)
some_under (Some x) none i is = refl

pub returns-clause-ok : goal.returns-clause-ok
returns-clause-ok g c = λ h.
    let s = state_of g.St.PortalStore.maps c.args.client.now in
    let some = some_under c.get_statement.result _ c.is_none.ensures c.if-is_none.false in
    let found : fin.get s.statements c.args.message.name ≡ Some entry.Empty =
    empty_under (λ (s : Bor (Arc (StoredStatement g.row.St-Statement.Denot) Global)). arc_value s.now) c.get_statement.result _
    (c.get_statement.ensures ∙ ap (fin.get s.statements) c.as_str.ensures) some c.requires.none in
    empty_described h s c.args.message c.args.client.now.outbox c.send_described.new.outbox _ c.requires.target found
    c.no_data-described.ensures c.in_ok-send_described.ensures.ok

pub returns-then-is_none : goal.returns-then-is_none
returns-then-is_none g c =
    let s = state_of g.St.PortalStore.maps c.args.client.now in
    let none : fin.get s.statements c.args.message.name ≡ None =
    none_under (λ (s : Bor (Arc (StoredStatement g.row.St-Statement.Denot) Global)). arc_value s.now) c.get_statement.result _ _
    (c.get_statement.ensures ∙ ap (fin.get s.statements) c.as_str.ensures) c.is_none.ensures c.if-is_none.true in
    record {
      ok = λ h. tt;
      refused = λ h. none_described h s c.args.message c.args.client.now.outbox c.missing_statement.result c.requires.target none
          c.missing_statement.ensures.error;
      answerable = c.missing_statement.ensures.answerable;
      same = refl;
      waiting = refl;
    }

pub returns-in_err-send_described : goal.returns-in_err-send_described
returns-in_err-send_described g c =
    let p = err_from_is_err_and c.from_residual.result c.from_residual.ensures.1 in
    rw p.1 (record {
      ok = λ h. tt;
      refused = λ h. inl p.2;
      answerable = inl p.2;
      same = refl;
      waiting = c.in_err-send_described.ensures.err;
    })

pub returns-clause-refused : goal.returns-clause-refused
returns-clause-refused g c = λ h. tt

pub returns-clause-answerable : goal.returns-clause-answerable
returns-clause-answerable g c = tt

pub returns-clause-same : goal.returns-clause-same
returns-clause-same g c = refl

pub returns-clause-waiting : goal.returns-clause-waiting
returns-clause-waiting g c = tt

pub send_described-requires : goal.send_described-requires
send_described-requires g c = record {
  parameters = subst (λ d. IfSome d.parameters (λ types. IsEncodable (parameter_description types))) (sym c.no_data-described.ensures)
      no_parameters;
  fields = subst (λ d. IsEncodable (row_description d.fields)) (sym c.no_data-described.ensures) no_columns;
}
