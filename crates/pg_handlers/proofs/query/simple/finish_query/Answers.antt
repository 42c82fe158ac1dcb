use Rattle.std.proofs.Common.{◌≡◌, ◌∷◌, [], sym}
use Rattle.pg_messages.specs.declared.simplequery.Query.{Query}
use Rattle.pg_client.specs.declared.desk.DeskCall.TheVariants as call
use Rattle.pg_client.specs.Desk.{DeskTold, after_calls}
use Rattle.pg_handlers.specs.Beginning.{WaitsToQuery}
use Rattle.conversation_table.specs.Good.{AreSendable}
use Rattle.conversation_table.specs.Handlers.{told_all}
use Rattle.pg_client.specs.State.{state_of}
use Rattle.pg_handlers.proofs.Beginning.{run_queried}
use Rattle.pg_handlers.proofs.Waiting.{verdict_err, verdict_ok}
use Rattle.pg_handlers.proofs.query.simple.finish_query.Goals as goal

pub wait_for-waited-requires : goal.wait_for-waited-requires
wait_for-waited-requires g c = c.requires.unready.1.unready.unspent

pub answer_waited-requires-clause-sendable : goal.answer_waited-requires-clause-sendable
answer_waited-requires-clause-sendable g c =
    let x = c.wait_for-waited.ensures in
    verdict_ok (g.H.Query.QueryState.told c.args.waiting).outcome x.asked.0
    (λ out. AreSendable (told_all g.H.Rows.RowSource.items g.H.CopyRows.CopySource.items out)) c.wait_for-waited.result x.asked.2
    c.requires.unready.1.sendable

pub answer_waited-requires-clause-answerable : goal.answer_waited-requires-clause-answerable
answer_waited-requires-clause-answerable g c =
    let x = c.wait_for-waited.ensures in
    verdict_err (g.H.Query.QueryState.told c.args.waiting).outcome x.asked.0 c.wait_for-waited.result x.asked.2

pub returns : goal.returns
returns g c =
    let maps = g.St.PortalStore.maps in let told = g.D.CancelDesk.told in
    let h = g.H.SimpleQueryHandler.told c.args.handler.now in
    let w = c.wait_for-waited in let x = w.ensures in let r = c.answer_waited in let a = r.ensures in
    let outcome = (g.H.Query.QueryState.told c.args.waiting).outcome in
    let waited = a.told (told c.args.desk.now) (told w.new.desk) c.args.turns.now w.new.turns x.waited in
    let all = told_all g.H.Rows.RowSource.items g.H.CopyRows.CopySource.items in
    let y = λ (m : Query) (first : DeskTold) (is : WaitsToQuery h all (state_of maps c.args.client.now) m
    (g.H.Query.QueryState.told c.args.waiting)) (starts : told c.args.desk.now ≡ after_calls first (call.Start ∷ [])). run_queried h maps c.args.client.now r.new.client m is.busy _ (sym is.unready.polled) first
    (told c.args.desk.now) (told w.new.desk) starts c.args.turns.now w.new.turns r.result
    (x.asked.0, x.asked.1, a.ran x.asked.0 outcome x.asked.2) a.errors a.kept waited in
    record {
      ok = λ m first is starts. (y m first is starts).ok;
      refused = λ m first is starts. (y m first is starts).refused;
      errors = a.errors;
      kept = a.kept;
      waited = λ m first is starts.
          let z = y m first is starts in record { caused = z.caused; turns = z.spent; bounded = z.bounded; keeps = z.keeps };
    }
