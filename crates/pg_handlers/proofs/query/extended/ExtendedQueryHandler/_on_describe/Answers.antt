use Rattle.std.proofs.Common.{rules, ◌≡◌, ◌≢◌, ◌∙◌, List, ℕ, Result, Ok, Err, inr, refl, sym, ap, subst}
use Rattle.std.specs.Prelude.{OnOk, OnErr, IfErr}
use Rattle.std.specs.FinMap as fin
use Rattle.std.proofs.lemmas.Bool.{ne_eqb}
use Rattle.std.proofs.lemmas.List.{append-nil}
use Rattle.std.proofs.lemmas.Result.{IfOk-weaker}
use Rattle.pg_messages.specs.declared.extendedquery.Describe.{Describe}
use Rattle.pg_messages.specs.declared.frontend.PgWireFrontendMessage.TheVariants as frontend
use Rattle.pg_messages.specs.Frames.{statement_target, portal_target}
use Rattle.pg_results.specs.declared.error.PgWireError.{PgWireError}
use Rattle.pg_results.specs.declared.error.PgWireError.TheVariants as wire
use Rattle.pg_portal.specs.Told.{portal_of, value_under}
use Rattle.pg_client.specs.Effect.{Done, Effect, IsEffect, IsRefusedEffect}
use Rattle.pg_client.specs.State.{State, state_of}
use Rattle.conversation_table.specs.ExtendedRows.{on_describe, statement_description, portal_description}
use Rattle.conversation_table.specs.Good.{IsGiven, IsGoodState, IsSendableDescription}
use Rattle.conversation_table.specs.Handlers.{ExtendedTold}
use Rattle.pg_client.proofs.Before.{as_before}
use Rattle.conversation_table.proofs.Telling.{describes_statement, describes_portal, told_ok, told_refused}
use Rattle.pg_handlers.proofs.query.extended.ExtendedQueryHandler._on_describe.Goals as goal

-- what holds anyway holds behind an error
behind_error : {A E P : Type 0} (r : Result A E) → P → OnErr r P
behind_error (Ok x) p = tt
behind_error (Err e) p = p

-- neither a statement nor a portal is refused
other_refused : {S : Type 0} (h : ExtendedTold S) (s : State S) (m : Describe) (out : List ℕ) (e : PgWireError)
    → m.target_type ≢ statement_target → m.target_type ≢ portal_target → e ≡ wire.InvalidTargetType m.target_type
    → IsRefusedEffect (on_describe h s m) out out s e
other_refused h s m out e i j is = rw (is, ne_eqb m.target_type statement_target i, ne_eqb m.target_type portal_target j)
    (inr (record { replied = sym (append-nil out); came = refl }))

pub do_describe_statement-told-requires-clause-good : goal.do_describe_statement-told-requires-clause-good
do_describe_statement-told-requires-clause-good g c =
    c.requires.good.statements c.args.message.name c.in-Ok.statement.now c.in-Ok.ensures.found

pub do_describe_portal-told-requires-clause-good : goal.do_describe_portal-told-requires-clause-good
do_describe_portal-told-requires-clause-good g c =
    c.requires.good.portals c.args.message.name _ c.in-Ok-described_portal.ensures.found

pub returns-in-Ok-clause-ok : goal.returns-in-Ok-clause-ok
returns-in-Ok-clause-ok g c =
    let s = state_of g.St.PortalStore.maps c.args.client.now in
    let h = g.Self.ExtendedQueryHandler.told c.args.self.now in
    subst (λ (effect : Effect g.row.Self-Statement.Denot). OnOk c.send_told.result (IsEffect effect c.args.client.now.outbox
    c.send_told.new.outbox (Done s)))
    (describes_statement h s c.args.message c.in-Ok.statement.now c.in-83.is c.in-Ok.ensures.found)
    (told_ok s statement_description c.args.client.now.outbox c.send_told.new.outbox
    (h.describe_statement s.info c.in-Ok.statement.now) c.do_describe_statement-told.result c.send_told.result
    c.do_describe_statement-told.ensures.outcome c.send_told.ensures.sent)

pub returns-in-Ok-clause-refused : goal.returns-in-Ok-clause-refused
returns-in-Ok-clause-refused g c =
    let s = state_of g.St.PortalStore.maps c.args.client.now in
    let h = g.Self.ExtendedQueryHandler.told c.args.self.now in
    subst (λ (effect : Effect g.row.Self-Statement.Denot). IfErr c.send_told.result (λ e. IsRefusedEffect effect
    c.args.client.now.outbox c.send_told.new.outbox s e))
    (describes_statement h s c.args.message c.in-Ok.statement.now c.in-83.is c.in-Ok.ensures.found)
    (told_refused s statement_description c.args.client.now.outbox c.send_told.new.outbox
    (h.describe_statement s.info c.in-Ok.statement.now) c.do_describe_statement-told.result c.send_told.result
    c.do_describe_statement-told.ensures.outcome c.send_told.ensures.sent)

pub returns-in-Ok-described_portal-clause-ok : goal.returns-in-Ok-described_portal-clause-ok
returns-in-Ok-described_portal-clause-ok g c =
    let s = state_of g.St.PortalStore.maps c.args.client.now in
    let h = g.Self.ExtendedQueryHandler.told c.args.self.now in
    let p = portal_of g.Self.Rows.RowSource.items c.in-Ok-described_portal.portal.now in
    let sent = c.send_told-in-Ok-described_portal in
    subst (λ (effect : Effect g.row.Self-Statement.Denot). OnOk sent.result (IsEffect effect c.args.client.now.outbox
    sent.new.outbox (Done s)))
    (describes_portal h s c.args.message p c.in-80.is c.in-Ok-described_portal.ensures.found)
    (told_ok s portal_description c.args.client.now.outbox sent.new.outbox (h.describe_portal s.info p.bound)
    c.do_describe_portal-told.result sent.result c.do_describe_portal-told.ensures.outcome sent.ensures.sent)

pub returns-in-Ok-described_portal-clause-refused : goal.returns-in-Ok-described_portal-clause-refused
returns-in-Ok-described_portal-clause-refused g c =
    let s = state_of g.St.PortalStore.maps c.args.client.now in
    let h = g.Self.ExtendedQueryHandler.told c.args.self.now in
    let p = portal_of g.Self.Rows.RowSource.items c.in-Ok-described_portal.portal.now in
    let sent = c.send_told-in-Ok-described_portal in
    subst (λ (effect : Effect g.row.Self-Statement.Denot). IfErr sent.result (λ e. IsRefusedEffect effect
    c.args.client.now.outbox sent.new.outbox s e))
    (describes_portal h s c.args.message p c.in-80.is c.in-Ok-described_portal.ensures.found)
    (told_refused s portal_description c.args.client.now.outbox sent.new.outbox (h.describe_portal s.info p.bound)
    c.do_describe_portal-told.result sent.result c.do_describe_portal-told.ensures.outcome sent.ensures.sent)

pub returns-in-Ok-clause-answerable : goal.returns-in-Ok-clause-answerable
returns-in-Ok-clause-answerable g c = c.send_told.ensures.answerable

pub returns-in-Ok-clause-kept : goal.returns-in-Ok-clause-kept
returns-in-Ok-clause-kept g c =
    let now = c.args.client.now in
    as_before g.St.PortalStore.maps now (record now { outbox = c.send_told.new.outbox }) c.send_told.result (behind_error c.send_told.result refl)
    c.send_told.ensures.waiting

pub returns-in-Ok-clause-good : goal.returns-in-Ok-clause-good
returns-in-Ok-clause-good g c = c.requires.good

pub returns-in-Ok-described_portal-clause-answerable : goal.returns-in-Ok-described_portal-clause-answerable
returns-in-Ok-described_portal-clause-answerable g c = c.send_told-in-Ok-described_portal.ensures.answerable

pub returns-in-Ok-described_portal-clause-kept : goal.returns-in-Ok-described_portal-clause-kept
returns-in-Ok-described_portal-clause-kept g c =
    let now = c.args.client.now in let r = c.send_told-in-Ok-described_portal in
    as_before g.St.PortalStore.maps now (record now { outbox = r.new.outbox }) r.result (behind_error r.result refl) r.ensures.waiting

pub returns-in-Ok-described_portal-clause-good : goal.returns-in-Ok-described_portal-clause-good
returns-in-Ok-described_portal-clause-good g c = c.requires.good

pub describe_no_statement-requires : goal.describe_no_statement-requires
describe_no_statement-requires g c =
    let maps = g.St.PortalStore.maps c.args.client.now.store in let same = c.in-Err.ensures.same in
    record {
      given = subst (λ m. IsGiven (frontend.Describe m)) (sym same) c.requires.given;
      target = ap (λ m. m.target_type) same ∙ c.in-83.is;
      none = ap (λ m. value_under (fin.get maps.statements m.name)) same ∙ c.in-Err.ensures.none;
    }

pub returns-in-Err : goal.returns-in-Err
returns-in-Err g c =
    let maps = g.St.PortalStore.maps in let s = state_of maps c.args.client.now in
    let h = g.Self.ExtendedQueryHandler.told c.args.self.now in let out = c.args.client.now.outbox in
    let r = c.describe_no_statement in let same = c.in-Err.ensures.same in
    record {
      ok = subst (λ m. OnOk r.result (IsEffect (on_describe h s m) out r.new.client.outbox (Done (state_of maps r.new.client))))
          same (r.ensures.ok h);
      refused = subst (λ m. IfErr r.result (IsRefusedEffect (on_describe h s m) out r.new.client.outbox
          (state_of maps r.new.client))) same (r.ensures.refused h);
      answerable = r.ensures.answerable;
      kept = as_before maps c.args.client.now r.new.client r.result (behind_error r.result r.ensures.same) r.ensures.waiting;
      good = subst (IsGoodState h.parser) (sym r.ensures.same) c.requires.good;
    }

pub describe_no_portal-requires : goal.describe_no_portal-requires
describe_no_portal-requires g c =
    let maps = g.St.PortalStore.maps c.args.client.now.store in let same = c.in-Err-described_portal.ensures.same in
    record {
      given = subst (λ m. IsGiven (frontend.Describe m)) (sym same) c.requires.given;
      target = ap (λ m. m.target_type) same ∙ c.in-80.is;
      none = ap (λ m. value_under (fin.get maps.portals m.name)) same ∙ c.in-Err-described_portal.ensures.none;
    }

pub returns-in-Err-described_portal : goal.returns-in-Err-described_portal
returns-in-Err-described_portal g c =
    let maps = g.St.PortalStore.maps in let s = state_of maps c.args.client.now in
    let h = g.Self.ExtendedQueryHandler.told c.args.self.now in let out = c.args.client.now.outbox in
    let r = c.describe_no_portal in let same = c.in-Err-described_portal.ensures.same in
    record {
      ok = subst (λ m. OnOk r.result (IsEffect (on_describe h s m) out r.new.client.outbox (Done (state_of maps r.new.client))))
          same (r.ensures.ok h);
      refused = subst (λ m. IfErr r.result (IsRefusedEffect (on_describe h s m) out r.new.client.outbox
          (state_of maps r.new.client))) same (r.ensures.refused h);
      answerable = r.ensures.answerable;
      kept = as_before maps c.args.client.now r.new.client r.result (behind_error r.result r.ensures.same) r.ensures.waiting;
      good = subst (IsGoodState h.parser) (sym r.ensures.same) c.requires.good;
    }

pub returns-in_default-clause-refused : goal.returns-in_default-clause-refused
returns-in_default-clause-refused g c =
    let m = c.args.message in
    let no_statement : m.target_type ≢ statement_target = search rules in
    let no_portal : m.target_type ≢ portal_target = search rules in
    other_refused (g.Self.ExtendedQueryHandler.told c.args.self.now) (state_of g.St.PortalStore.maps c.args.client.now) m
    c.args.client.now.outbox c.invalid_target.result no_statement no_portal c.invalid_target.ensures.error

pub returns-in_default-clause-ok : goal.returns-in_default-clause-ok
returns-in_default-clause-ok g c = tt

pub returns-in_default-clause-answerable : goal.returns-in_default-clause-answerable
returns-in_default-clause-answerable g c = c.invalid_target.ensures.answerable

pub returns-in_default-clause-kept : goal.returns-in_default-clause-kept
returns-in_default-clause-kept g c = record { state = refl; waiting = refl }

pub returns-in_default-clause-good : goal.returns-in_default-clause-good
returns-in_default-clause-good g c = c.requires.good

pub do_describe_statement-told-requires-clause-short_metadata : goal.do_describe_statement-told-requires-clause-short_metadata
do_describe_statement-told-requires-clause-short_metadata g c = c.requires.good.metadata

pub do_describe_portal-told-requires-clause-short_metadata : goal.do_describe_portal-told-requires-clause-short_metadata
do_describe_portal-told-requires-clause-short_metadata g c = c.requires.good.metadata

pub send_told-requires : goal.send_told-requires
send_told-requires g c =
    let r = c.do_describe_statement-told in
    record {
      parameters = IfOk-weaker r.result IsSendableDescription _ (λ d x. x.parameters) r.ensures.sendable;
      fields = IfOk-weaker r.result IsSendableDescription _ (λ d x. x.fields) r.ensures.sendable;
      answerable = r.ensures.answerable;
    }

pub send_told-requires-in-Ok-described_portal : goal.send_told-requires-in-Ok-described_portal
send_told-requires-in-Ok-described_portal g c =
    let r = c.do_describe_portal-told in
    record {
      parameters = IfOk-weaker r.result _ _ (λ d x. tt) r.ensures.sendable;
      fields = r.ensures.sendable;
      answerable = r.ensures.answerable;
    }
