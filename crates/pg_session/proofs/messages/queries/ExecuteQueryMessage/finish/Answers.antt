use Rattle.std.proofs.Common.{sym, subst}
use Rattle.std.specs.Prelude.{IfErr, OnOk}
use Rattle.pg_messages.specs.declared.frontend.PgWireFrontendMessage.TheVariants as client
use Rattle.pg_client.specs.Effect.{Done, IsRefusedRow, IsRow}
use Rattle.pg_client.specs.State.{state_of}
use Rattle.pg_handlers.specs.Beginning.{WaitsToExecute}
use Rattle.conversation_table.specs.ExecuteRow.{on_execute}
use Rattle.conversation_table.specs.Good.{IsGiven, IsGoodState}
use Rattle.conversation_table.specs.Handlers.{told_one}
use Rattle.conversation_table.proofs.QueryErrors.{query_answerable}
use Rattle.conversation_runs.proofs.MessageRows.{called_row}
use Rattle.pg_session.proofs.messages.queries.ExecuteQueryMessage.finish.Goals as goal

pub finish_execute-requires-clause-given : goal.finish_execute-requires-clause-given
finish_execute-requires-clause-given g c =
    let u = c.requires.unready in subst (λ m. IsGiven (client.Execute m)) (sym u.1.0) u.1.1

pub finish_execute-requires-clause-good : goal.finish_execute-requires-clause-good
finish_execute-requires-clause-good g c =
    let s = state_of g.St.PortalStore.maps c.args.client.now in
    subst (λ x. IsGoodState x.parser s) (sym c.extended_query_handler-handler.ensures) c.requires.good

pub finish_execute-requires-clause-unready : goal.finish_execute-requires-clause-unready
finish_execute-requires-clause-unready g c =
    let s = state_of g.St.PortalStore.maps c.args.client.now in
    let h = g.H.PgWireServerHandlers.told c.args.handlers.now in
    let one = told_one g.H.Extended.Rows.RowSource.items g.H.Extended.CopyRows.CopySource.items in
    let query = g.H.Extended.Query.QueryState.told c.args.waiting in
    let u = c.requires.unready in
    subst (λ x. WaitsToExecute x one s c.args.kept query) (sym c.extended_query_handler-handler.ensures)
    (subst (λ m. WaitsToExecute h.extended one s m query) (sym u.1.0) u.1.2)

pub returns : goal.returns
returns g c =
    let maps = g.St.PortalStore.maps in
    let h = g.H.PgWireServerHandlers.told c.args.handlers.now in
    let old = c.args.client.now in
    let r = c.finish_execute in let new = r.new.client in let f = r.ensures in
    let s = state_of maps old in let t = state_of maps new in
    let last = g.D.CancelDesk.told r.new.desk in
    let same = c.extended_query_handler-handler.ensures in
    let good = subst (λ x. IsGoodState x.parser t) same f.good in
    let answerable = query_answerable maps old new r.result f.errors in
    record {
      row = λ m first w starts.
          let ok = subst (λ k. OnOk r.result (IsRow (λ answers. on_execute h.extended answers s k) old.outbox new.outbox first.calls
          last.calls (Done t))) w.0 (subst (λ x. OnOk r.result (IsRow (λ answers. on_execute x answers s c.args.kept) old.outbox
          new.outbox first.calls last.calls (Done t))) same (f.ok first starts)) in
          let refused = subst (λ k. IfErr r.result (IsRefusedRow (λ answers. on_execute h.extended answers s k) old.outbox new.outbox
          first.calls last.calls t)) w.0 (subst (λ x. IfErr r.result (IsRefusedRow (λ answers. on_execute x answers s c.args.kept)
          old.outbox new.outbox first.calls last.calls t)) same (f.refused first starts)) in
          let waited = f.waited first starts in
          called_row h s t (client.Execute m) old.outbox new.outbox first last c.args.turns.now r.new.turns r.result c.requires.ready ok
          refused answerable good waited.turns waited.bounded waited.keeps;
      answerable = answerable;
      good = good;
    }
