use Rattle.std.proofs.Common.{List, Result, sym, subst}
use Rattle.std.specs.Prelude.{IfErr, OnOk}
use Rattle.pg_messages.specs.declared.simplequery.Query.{Query}
use Rattle.pg_portal.specs.Maps.{Maps}
use Rattle.pg_client.specs.declared.client.Client.{Client}
use Rattle.pg_client.specs.declared.desk.DeskCall.{DeskCall}
use Rattle.pg_client.specs.declared.ends.SessionError.{SessionError}
use Rattle.pg_client.specs.Effect.{Done, IsRefusedRow, IsRow}
use Rattle.pg_client.specs.State.{state_of}
use Rattle.conversation_table.specs.Handlers.{SimpleTold, told_all}
use Rattle.conversation_table.specs.SimpleRows.{on_query}
use Rattle.conversation_table.specs.Waiting.{IsQueryError, OnlyAnswers}
use Rattle.pg_handlers.specs.Beginning.{WaitsToQuery}
use Rattle.conversation_table.specs.Good.{AreSendable}
use Rattle.pg_handlers.proofs.Beginning.{run_queried}
use Rattle.pg_handlers.proofs.Waiting.{verdict_err, verdict_ok}
use Rattle.pg_handlers.proofs.query.simple.SimpleQueryHandler._on_query.Goals as goal

-- what a Query did to a client
record IsDone {S St : Type 0} (h : SimpleTold) (maps : St → Maps S) (new : Client St) (calls new_calls : List DeskCall)
    (result : Result (Unit {0}) SessionError) (m : Query) (old : Client St) : Type 0 where
  pub ok : OnOk result (IsRow (λ answers. on_query h answers (state_of maps old) m) old.outbox new.outbox calls new_calls
      (Done (state_of maps new)))
  pub refused : IfErr result (IsRefusedRow (λ answers. on_query h answers (state_of maps old) m) old.outbox new.outbox calls
      new_calls (state_of maps new))
  pub errors : IfErr result (IsQueryError maps old new)
  pub kept : OnlyAnswers old new result

pub returns-in-Answered : goal.returns-in-Answered
returns-in-Answered g c =
    let e = c.in-Answered.ensures in
    record { ok = e.ok; refused = e.refused; errors = e.errors; kept = e.kept; waited = e.waited c.args.turns.now }

pub wait_for-waited-requires : goal.wait_for-waited-requires
wait_for-waited-requires g c = c.in-Unready.ensures.unready.unready.unspent

pub answer_waited-requires-clause-sendable : goal.answer_waited-requires-clause-sendable
answer_waited-requires-clause-sendable g c =
    let x = c.wait_for-waited.ensures in
    verdict_ok (g.Self.Query.QueryState.told c.in-Unready.waiting).outcome x.asked.0
    (λ out. AreSendable (told_all g.Self.Rows.RowSource.items g.Self.CopyRows.CopySource.items out)) c.wait_for-waited.result x.asked.2
    c.in-Unready.ensures.unready.sendable

pub answer_waited-requires-clause-answerable : goal.answer_waited-requires-clause-answerable
answer_waited-requires-clause-answerable g c =
    let x = c.wait_for-waited.ensures in
    verdict_err (g.Self.Query.QueryState.told c.in-Unready.waiting).outcome x.asked.0 c.wait_for-waited.result x.asked.2

pub returns-in-Unready : goal.returns-in-Unready
returns-in-Unready g c =
    let maps = g.St.PortalStore.maps in let told = g.D.CancelDesk.told in
    let h = g.Self.SimpleQueryHandler.told c.args.self.now in
    let all = told_all g.Self.Rows.RowSource.items g.Self.CopyRows.CopySource.items in
    let first = told c.args.desk.now in
    let u = c.in-Unready.ensures in
    let query = g.Self.Query.QueryState.told c.in-Unready.waiting in
    let m = c.args.query in
    let is = subst (λ k. WaitsToQuery h all (state_of maps k) m query) (sym u.same) u.unready in
    let w = c.wait_for-waited in let x = w.ensures in let r = c.answer_waited in let a = r.ensures in
    let begun = told c.begin_query.new.desk in
    let last = told w.new.desk in
    let waited = a.told begun last c.args.turns.now w.new.turns x.waited in
    let d = run_queried h maps c.begin_query.new.client r.new.client m is.busy _ (sym is.unready.polled) first begun last u.started
    c.args.turns.now w.new.turns r.result (x.asked.0, x.asked.1, a.ran x.asked.0 query.outcome x.asked.2) a.errors a.kept waited in
    let z : IsDone h maps r.new.client first.calls last.calls r.result m c.begin_query.new.client = record {
      ok = d.ok;
      refused = d.refused;
      errors = a.errors;
      kept = a.kept;
    } in
    let y = subst (IsDone h maps r.new.client first.calls last.calls r.result m) u.same z in
    record {
      ok = y.ok;
      refused = y.refused;
      errors = y.errors;
      kept = y.kept;
      waited = record { caused = d.caused; turns = d.spent; bounded = d.bounded; keeps = d.keeps };
    }
