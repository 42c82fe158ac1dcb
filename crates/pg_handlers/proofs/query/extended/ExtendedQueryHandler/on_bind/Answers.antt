use Rattle.std.proofs.Common.{◌≡◌, ◌<◌, ◌∙◌, ◌⊎◌, length, inl, refl, ap, sym, subst, Result, Ok, Err, Some}
use Rattle.std.specs.Prelude.{IfErr, OnOk}
use Rattle.std.specs.Arc.{arc_value}
use Rattle.std.specs.FinMap as fin
use Rattle.pg_results.specs.declared.error.PgWireError.{PgWireError}
use Rattle.pg_results.specs.declared.error.PgWireError.TheVariants as wire
use Rattle.pg_results.specs.Rows.{IsTellable}
use Rattle.pg_portal.specs.Told.{value_under}
use Rattle.pg_client.specs.Effect.{Done, Effect, Failed, IsEffect, IsRefusedEffect}
use Rattle.conversation_table.specs.Good.{IsGoodState, IsGoodStatement}
use Rattle.pg_client.specs.State.{state_of}
use Rattle.conversation_table.specs.ExtendedRows.{on_bind}
use Rattle.conversation_table.proofs.Binds.{binds, binds_few, few_are_enough}
use Rattle.pg_handlers.proofs.query.extended.ExtendedQueryHandler.on_bind.Goals as goal

-- the only error is want of memory
wanting : {A : Type 0} (P : PgWireError → Type 0) (r : Result A PgWireError) → IfErr r (λ e. e ≡ wire.NoMemory)
    → IfErr r (λ e. (e ≡ wire.NoMemory) ⊎ P e)
wanting P (Ok x) none = tt
wanting P (Err e) none = inl none

pub returns-in_default-clause-ok : goal.returns-in_default-clause-ok
returns-in_default-clause-ok g c = c.bind_no_statement.ensures.ok (g.Self.ExtendedQueryHandler.told c.args.self.now)

pub returns-in_default-clause-refused : goal.returns-in_default-clause-refused
returns-in_default-clause-refused g c = c.bind_no_statement.ensures.refused (g.Self.ExtendedQueryHandler.told c.args.self.now)

pub returns-in_default-clause-good : goal.returns-in_default-clause-good
returns-in_default-clause-good g c =
    c.bind_no_statement.ensures.good (g.Self.ExtendedQueryHandler.told c.args.self.now).parser c.requires.good

pub returns-then-len-lt2-clause-ok : goal.returns-then-len-lt2-clause-ok
returns-then-len-lt2-clause-ok g c =
    let s = state_of g.St.PortalStore.maps c.args.client.now in
    let found : value_under (fin.get s.statements c.args.message.statement_name) ≡ Some (arc_value c.in-Some.statement.now) =
    ap (λ n. value_under (fin.get s.statements n)) (sym c.as_str.ensures) ∙ sym c.in-Some.ensures in
    let few : length c.args.message.result_column_format_codes < 2 = subst (λ n. n < 2) c.len.ensures c.if-len-lt2.true in
    subst (λ (effect : Effect g.row.Self-Statement.Denot). OnOk c.bind_statement.result (IsEffect effect c.args.client.now.outbox
    c.bind_statement.new.client.outbox (Done (state_of g.St.PortalStore.maps c.bind_statement.new.client))))
    (binds_few (g.Self.ExtendedQueryHandler.told c.args.self.now) s c.args.message _ found (arc_value c.in-Ok.statement) few
    c.in-Ok.ensures.cases) c.bind_statement.ensures.ok

pub returns-then-len-lt2-clause-good : goal.returns-then-len-lt2-clause-good
returns-then-len-lt2-clause-good g c =
    let parser = (g.Self.ExtendedQueryHandler.told c.args.self.now).parser in
    let good = c.requires.good.statements c.as_str.result.now (arc_value c.in-Some.statement.now) (sym c.in-Some.ensures) in
    let few : length c.args.message.result_column_format_codes < 2 = subst (λ n. n < 2) c.len.ensures c.if-len-lt2.true in
    c.bind_statement.ensures.good parser (subst (IsGoodStatement parser) (sym c.in-Ok.ensures.cases) good) (few_are_enough _ _ few)
    c.requires.good

pub bind_checked-requires-clause-good : goal.bind_checked-requires-clause-good
bind_checked-requires-clause-good g c =
    let parser = (g.Self.ExtendedQueryHandler.told c.args.self.now).parser in
    let good = c.requires.good.statements c.as_str.result.now (arc_value c.in-Some.statement.now) (sym c.in-Some.ensures) in
    subst (λ p. IsGoodStatement p (arc_value c.in-Ok.statement)) (sym c.in-Ok-query_parser.ensures)
    (subst (IsGoodStatement parser) (sym c.in-Ok.ensures.cases) good)

pub returns-clause-ok : goal.returns-clause-ok
returns-clause-ok g c =
    let s = state_of g.St.PortalStore.maps c.args.client.now in
    let found : value_under (fin.get s.statements c.args.message.statement_name) ≡ Some (arc_value c.in-Some.statement.now) =
    ap (λ n. value_under (fin.get s.statements n)) (sym c.as_str.ensures) ∙ sym c.in-Some.ensures in
    subst (λ (effect : Effect g.row.Self-Statement.Denot). OnOk c.bind_checked.result (IsEffect effect c.args.client.now.outbox
    c.bind_checked.new.client.outbox (Done (state_of g.St.PortalStore.maps c.bind_checked.new.client))))
    (binds (g.Self.ExtendedQueryHandler.told c.args.self.now) s c.args.message _ found _ (arc_value c.in-Ok.statement)
    c.in-Ok-query_parser.ensures c.in-Ok.ensures.cases) c.bind_checked.ensures.ok

pub returns-clause-refused : goal.returns-clause-refused
returns-clause-refused g c =
    let s = state_of g.St.PortalStore.maps c.args.client.now in
    let found : value_under (fin.get s.statements c.args.message.statement_name) ≡ Some (arc_value c.in-Some.statement.now) =
    ap (λ n. value_under (fin.get s.statements n)) (sym c.as_str.ensures) ∙ sym c.in-Some.ensures in
    subst (λ (effect : Effect g.row.Self-Statement.Denot). IfErr c.bind_checked.result (IsRefusedEffect effect c.args.client.now.outbox
    c.bind_checked.new.client.outbox (state_of g.St.PortalStore.maps c.bind_checked.new.client)))
    (binds (g.Self.ExtendedQueryHandler.told c.args.self.now) s c.args.message _ found _ (arc_value c.in-Ok.statement)
    c.in-Ok-query_parser.ensures c.in-Ok.ensures.cases) c.bind_checked.ensures.refused

pub returns-in_default-clause-answerable : goal.returns-in_default-clause-answerable
returns-in_default-clause-answerable g c = c.bind_no_statement.ensures.answerable

pub returns-in_default-clause-kept : goal.returns-in_default-clause-kept
returns-in_default-clause-kept g c = c.bind_no_statement.ensures.kept

pub returns-then-len-lt2-clause-kept : goal.returns-then-len-lt2-clause-kept
returns-then-len-lt2-clause-kept g c = c.bind_statement.ensures.kept

pub returns-clause-answerable : goal.returns-clause-answerable
returns-clause-answerable g c = c.bind_checked.ensures.answerable

pub returns-clause-kept : goal.returns-clause-kept
returns-clause-kept g c = c.bind_checked.ensures.kept

pub returns-then-len-lt2-clause-refused : goal.returns-then-len-lt2-clause-refused
returns-then-len-lt2-clause-refused g c =
    let maps = g.St.PortalStore.maps in let s = state_of maps c.args.client.now in let r = c.bind_statement in
    wanting (λ e. IsEffect (on_bind (g.Self.ExtendedQueryHandler.told c.args.self.now) s c.args.message) c.args.client.now.outbox
    r.new.client.outbox (Failed (state_of maps r.new.client) e)) r.result r.ensures.refused

pub returns-then-len-lt2-clause-answerable : goal.returns-then-len-lt2-clause-answerable
returns-then-len-lt2-clause-answerable g c = wanting IsTellable c.bind_statement.result c.bind_statement.ensures.refused

pub returns-clause-good : goal.returns-clause-good
returns-clause-good g c =
    let s = state_of g.St.PortalStore.maps c.args.client.now in
    subst (λ p. IsGoodState p (state_of g.St.PortalStore.maps c.bind_checked.new.client)) c.in-Ok-query_parser.ensures
    (c.bind_checked.ensures.good (subst (λ p. IsGoodState p s) (sym c.in-Ok-query_parser.ensures) c.requires.good))

pub returns-in_default-clone : goal.returns-in_default-clone
returns-in_default-clone g c = rw c.out_of_memory.ensures (record {
  ok = tt;
  refused = inl refl;
  answerable = inl refl;
  kept = record { state = refl; waiting = refl };
  good = c.requires.good;
})

pub returns-in_default-query_parser : goal.returns-in_default-query_parser
returns-in_default-query_parser g c = rw c.out_of_memory-in_default-query_parser.ensures (record {
  ok = tt;
  refused = inl refl;
  answerable = inl refl;
  kept = record { state = refl; waiting = refl };
  good = c.requires.good;
})

pub bind_no_statement-requires : goal.bind_no_statement-requires
bind_no_statement-requires g c =
    let s = state_of g.St.PortalStore.maps c.args.client.now in
    record {
      given = c.requires.given;
      none = ap (λ name. value_under (fin.get s.statements name)) (sym c.as_str.ensures) ∙ sym c.in_default.ensures;
    }

pub bind_checked-requires-clause-given : goal.bind_checked-requires-clause-given
bind_checked-requires-clause-given g c = c.requires.given
