use Rattle.std.proofs.Common.{◌≡◌, subst}
use Rattle.std.specs.Prelude.{IfErr, OnOk}
use Rattle.pg_messages.specs.declared.frontend.PgWireFrontendMessage.TheVariants as client
use Rattle.pg_client.specs.Effect.{Done, IsRefusedRow, IsRow}
use Rattle.pg_client.specs.State.{state_of}
use Rattle.pg_handlers.specs.Beginning.{IfAnswered, IfUnready, WaitsToExecute}
use Rattle.conversation_table.specs.ExecuteRow.{on_execute}
use Rattle.conversation_table.specs.Good.{IsGoodState}
use Rattle.conversation_table.specs.Handlers.{told_one}
use Rattle.pg_session.proofs.Begun.{answered_always, begun_row, execute_cut, unready_by}
use Rattle.pg_session.proofs.messages.queries.ExecuteQueryMessage.begin.Goals as goal

pub returns : goal.returns
returns g c =
    let maps = g.St.PortalStore.maps in
    let h = g.H.PgWireServerHandlers.told c.args.handlers.now in
    let old = c.args.client.now in
    let r = c.begin_execute in let new = r.new.client in let e = r.ensures in
    let s = state_of maps old in let t = state_of maps new in
    let desk = g.D.CancelDesk.told c.args.desk.now in let begun = g.D.CancelDesk.told r.new.desk in
    let same = c.extended_query_handler.ensures in
    let m = c.args.message in
    let b = r.result in
    let one = told_one g.H.Extended.Rows.RowSource.items g.H.Extended.CopyRows.CopySource.items in
    let told = g.H.Extended.Query.QueryState.told in
    let ok = subst (λ x. IfAnswered b (λ done. OnOk done (IsRow (λ answers. on_execute x answers s m) old.outbox new.outbox desk.calls
    begun.calls (Done t)))) same e.ok in
    let refused = subst (λ x. IfAnswered b (λ done. IfErr done (IsRefusedRow (λ answers. on_execute x answers s m) old.outbox new.outbox
    desk.calls begun.calls t))) same e.refused in
    let good = subst (λ x. IsGoodState x.parser t) same e.good in
    let waits = subst (λ x. IfUnready b (λ kept waiting. (kept ≡ m) × WaitsToExecute x one s m (told waiting))) same e.unready in
    record {
      answered = begun_row h maps old new (client.Execute m) desk begun b c.requires.ready ok refused e.errors e.waited
          (answered_always b _ good);
      unready = unready_by b _ _ _ (λ kept waiting w starts. (w.0, c.requires.given, w.1)) waits e.started;
      started = e.started;
      cut = unready_by b _ _ _ (λ kept waiting w starts. execute_cut h s c.requires.ready desk begun starts (told waiting) m one w.1) waits
          e.started;
      same = e.same;
      good = good;
    }
