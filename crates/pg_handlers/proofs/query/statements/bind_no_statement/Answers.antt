use Rattle.std.proofs.Common.{◌≡◌, ◌∙◌, ℕ, List, true, false, Option, None, Some, Bor, Global, OnOk, IfErr, refl, sym, ap, subst, inr}
use Rattle.std.specs.Prelude.{Bool, is_none, is_some, not}
use Rattle.std.specs.Arc.{arc_value}
use Rattle.std.specs.FinMap as fin
use Rattle.std.specs.Option.{option_map}
use Rattle.std.specs.declared.sync.Arc.{Arc}
use Rattle.std.proofs.lemmas.List.{append-nil}
use Rattle.pg_messages.specs.declared.extendedquery.Bind.{Bind}
use Rattle.pg_results.specs.declared.error.PgWireError.{PgWireError}
use Rattle.pg_results.specs.declared.error.PgWireError.TheVariants as wire
use Rattle.pg_results.specs.declared.stmt.StoredStatement.{StoredStatement}
use Rattle.pg_portal.specs.declared.store.Entry.{Entry}
use Rattle.pg_portal.specs.declared.store.Entry.TheVariants as entry
use Rattle.pg_portal.specs.Told.{entry_map}
use Rattle.pg_client.specs.Effect.{Done, Effect, IsEffect, IsRefusedEffect}
use Rattle.pg_client.specs.State.{State, state_of}
use Rattle.conversation_table.specs.ExtendedRows.{on_bind, bound, bound_empty}
use Rattle.conversation_table.specs.Handlers.{ExtendedTold}
use Rattle.conversation_table.proofs.GoodStores.{empty_under}
use Rattle.pg_handlers.proofs.query.statements.bind_no_statement.Goals as goal

-- no statement has this name
none_bound : {S : Type 0} (h : ExtendedTold S) (s : State S) (m : Bind) (out : List ℕ) (e : PgWireError)
    → fin.get s.statements m.statement_name ≡ None → e ≡ wire.StatementNotFound m.statement_name
    → IsRefusedEffect (on_bind h s m) out out s e
none_bound h s m out e none is = rw (is, none) (inr (record { replied = sym (append-nil out); came = refl }))

-- an empty statement has it
empty_bound : {S : Type 0} (h : ExtendedTold S) (s : State S) (m : Bind) → fin.get s.statements m.statement_name ≡ Some entry.Empty
    → bound_empty s m ≡ on_bind h s m
empty_bound h s m found = sym (ap (bound h s m) found)

none_under : {X Y : Type 0} (f : X → Y) (found : Option (Entry X)) (told : Option (Entry Y)) (none : Bool)
    → option_map (entry_map f) found ≡ told → is_some found ≡ not none → none ≡ true → told ≡ None
none_under f None told none e i is = sym e
none_under f (Some x) told none e i is = absurd (let k : true ≡ false = i ∙ ap not is in cc)

some_under : {X : Type 0} (found : Option X) (none : Bool) → is_some found ≡ not none → none ≡ false → is_none found ≡ false
some_under None none i is = absurd (let k : false ≡ true = i ∙ ap not is in cc)
some_under (Some x) none i is = refl

pub no_statement-requires : goal.no_statement-requires
no_statement-requires g c = c.requires.given

pub bind_empty-bound-requires : goal.bind_empty-bound-requires
bind_empty-bound-requires g c = record { given = c.requires.given }

pub returns-then-is_none : goal.returns-then-is_none
returns-then-is_none g c =
    let s = state_of g.St.PortalStore.maps c.args.client.now in
    let none : fin.get s.statements c.args.message.statement_name ≡ None =
    none_under (λ (s : Bor (Arc (StoredStatement g.row.St-Statement.Denot) Global)). arc_value s.now) c.get_statement.result _ _
    (c.get_statement.ensures ∙ ap (fin.get s.statements) c.as_str.ensures) c.is_none.ensures c.if-is_none.true in
    record {
      ok = λ h. tt;
      refused = λ h. none_bound h s c.args.message c.args.client.now.outbox c.no_statement.result none c.no_statement.ensures.error;
      answerable = c.no_statement.ensures.answerable;
      kept = record { state = refl; waiting = refl };
      good = λ parser good. good;
    }

pub returns : goal.returns
returns g c =
    let s = state_of g.St.PortalStore.maps c.args.client.now in
    let t = state_of g.St.PortalStore.maps c.bind_empty-bound.new.client in
    let out = c.args.client.now.outbox in
    let new = c.bind_empty-bound.new.client.outbox in
    let some = some_under c.get_statement.result _ c.is_none.ensures c.if-is_none.false in
    let found : fin.get s.statements c.args.message.statement_name ≡ Some entry.Empty =
    empty_under (λ (s : Bor (Arc (StoredStatement g.row.St-Statement.Denot) Global)). arc_value s.now) c.get_statement.result _
    (c.get_statement.ensures ∙ ap (fin.get s.statements) c.as_str.ensures) some c.requires.none in
    let told = c.bind_empty-bound.ensures in
    record {
      ok = λ h. subst (λ (effect : Effect g.row.St-Statement.Denot). OnOk c.bind_empty-bound.result (IsEffect effect out new (Done t)))
          (empty_bound h s c.args.message found) told.ok;
      refused = λ h. subst (λ (effect : Effect g.row.St-Statement.Denot). IfErr c.bind_empty-bound.result (IsRefusedEffect effect out new t))
          (empty_bound h s c.args.message found) told.refused;
      answerable = told.answerable;
      kept = told.kept;
      good = told.good;
    }
