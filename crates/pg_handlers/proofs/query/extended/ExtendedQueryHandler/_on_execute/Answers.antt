use Rattle.std.proofs.Common.{List, Result, sym, subst}
use Rattle.std.specs.Prelude.{IfErr, OnOk}
use Rattle.pg_messages.specs.declared.extendedquery.Execute.{Execute}
use Rattle.pg_messages.specs.declared.frontend.PgWireFrontendMessage.TheVariants as frontend
use Rattle.pg_portal.specs.Maps.{Maps}
use Rattle.pg_client.specs.declared.client.Client.{Client}
use Rattle.pg_client.specs.declared.desk.DeskCall.{DeskCall}
use Rattle.pg_client.specs.declared.ends.SessionError.{SessionError}
use Rattle.pg_client.specs.Effect.{Done, IsRefusedRow, IsRow}
use Rattle.pg_client.specs.State.{state_of}
use Rattle.conversation_table.specs.ExecuteRow.{on_execute}
use Rattle.conversation_table.specs.Good.{IsGiven}
use Rattle.conversation_table.specs.Handlers.{ExtendedTold, told_one}
use Rattle.conversation_table.specs.Waiting.{IsQueryError, KeptByExecute}
use Rattle.conversation_table.proofs.Starting.{unstarted_under}
use Rattle.pg_handlers.specs.Beginning.{WaitsToExecute}
use Rattle.pg_handlers.proofs.Beginning.{run_executed}
use Rattle.pg_handlers.proofs.query.extended.ExtendedQueryHandler._on_execute.Goals as goal

-- what an Execute did to a client
record IsDone {S St : Type 0} (h : ExtendedTold S) (maps : St → Maps S) (new : Client St) (calls new_calls : List DeskCall)
    (result : Result (Unit {0}) SessionError) (old : Client St) (m : Execute) : Type 0 where
  pub ok : OnOk result (IsRow (λ answers. on_execute h answers (state_of maps old) m) old.outbox new.outbox calls new_calls
      (Done (state_of maps new)))
  pub refused : IfErr result (IsRefusedRow (λ answers. on_execute h answers (state_of maps old) m) old.outbox new.outbox calls
      new_calls (state_of maps new))
  pub errors : IfErr result (IsQueryError maps old new)
  pub kept : KeptByExecute maps m.name old new result

pub returns-in-Answered : goal.returns-in-Answered
returns-in-Answered g c =
    let e = c.in-Answered.ensures in
    record {
      ok = e.ok;
      refused = e.refused;
      errors = e.errors;
      kept = e.kept;
      good = e.good;
      waited = e.waited c.args.turns.now;
    }

pub finish_unstarted-requires-clause-given : goal.finish_unstarted-requires-clause-given
finish_unstarted-requires-clause-given g c =
    subst (λ m. IsGiven (frontend.Execute m)) (sym c.in-Unready.ensures.unready.0) c.requires.given

pub finish_unstarted-requires-clause-portal : goal.finish_unstarted-requires-clause-portal
finish_unstarted-requires-clause-portal g c =
    let u = c.in-Unready.ensures in
    let h = g.Self.ExtendedQueryHandler.told c.args.self.now in
    let one = told_one g.Self.Rows.RowSource.items g.Self.CopyRows.CopySource.items in
    let query = g.Self.Query.QueryState.told c.in-Unready.query in
    let w = subst (λ m. WaitsToExecute h one (state_of g.St.PortalStore.maps c.begin_execute.new.client) m query) (sym u.unready.0)
    (subst (λ k. WaitsToExecute h one (state_of g.St.PortalStore.maps k) c.args.message query) (sym u.same) u.unready.1) in
    unstarted_under (g.St.PortalStore.maps c.begin_execute.new.client.store) c.in-Unready.message.name w.portal w.found w.fresh

pub finish_unstarted-requires-clause-unspent : goal.finish_unstarted-requires-clause-unspent
finish_unstarted-requires-clause-unspent g c = c.in-Unready.ensures.unready.1.unready.unspent

pub finish_unstarted-requires-clause-sendable : goal.finish_unstarted-requires-clause-sendable
finish_unstarted-requires-clause-sendable g c = c.in-Unready.ensures.unready.1.sendable

pub returns-in-Unready : goal.returns-in-Unready
returns-in-Unready g c =
    let maps = g.St.PortalStore.maps in
    let told = g.D.CancelDesk.told in
    let first = told c.args.desk.now in
    let u = c.in-Unready.ensures in
    let h = g.Self.ExtendedQueryHandler.told c.args.self.now in
    let one = told_one g.Self.Rows.RowSource.items g.Self.CopyRows.CopySource.items in
    let query = g.Self.Query.QueryState.told c.in-Unready.query in
    let w = subst (λ m. WaitsToExecute h one (state_of g.St.PortalStore.maps c.begin_execute.new.client) m query) (sym u.unready.0)
    (subst (λ k. WaitsToExecute h one (state_of g.St.PortalStore.maps k) c.args.message query) (sym u.same) u.unready.1) in
    let r = c.finish_unstarted in let e = r.ensures in
    let last = told r.new.desk in
    let d = run_executed h maps c.begin_execute.new.client r.new.client c.in-Unready.message w.portal w.found w.fresh u.good _
    (sym w.unready.polled) first (told c.begin_execute.new.desk) last u.started c.args.turns.now r.new.turns r.result e.ran e.errors
    e.kept e.good e.waited in
    let x : IsDone h maps r.new.client first.calls last.calls r.result c.begin_execute.new.client c.in-Unready.message = record {
      ok = d.ok;
      refused = d.refused;
      errors = e.errors;
      kept = e.kept;
    } in
    let y = subst (λ m. IsDone h maps r.new.client first.calls last.calls r.result c.args.client.now m) u.unready.0
    (subst (λ k. IsDone h maps r.new.client first.calls last.calls r.result k c.in-Unready.message) u.same x) in
    record {
      ok = y.ok;
      refused = y.refused;
      errors = y.errors;
      kept = y.kept;
      good = e.good h.parser u.good;
      waited = record { caused = d.caused; turns = d.spent; bounded = d.bounded; keeps = d.keeps };
    }
