use Rattle.std.proofs.Common.{ap, sym, subst}
use Rattle.std.specs.Prelude.{IfErr, OnOk}
use Rattle.pg_messages.specs.declared.frontend.PgWireFrontendMessage.TheVariants as client
use Rattle.pg_client.specs.Effect.{Done, IsRefusedRow, IsRow}
use Rattle.pg_client.specs.State.{state_of}
use Rattle.pg_handlers.specs.Beginning.{WaitsToQuery}
use Rattle.conversation_table.specs.Handlers.{told_all}
use Rattle.conversation_table.specs.SimpleRows.{on_query}
use Rattle.conversation_table.proofs.GoodStores.{good_parts}
use Rattle.conversation_table.proofs.QueryErrors.{query_answerable}
use Rattle.conversation_runs.proofs.MessageRows.{called_row}
use Rattle.pg_session.proofs.messages.queries.QueryQueryMessage.finish.Goals as goal

pub finish_query-requires : goal.finish_query-requires
finish_query-requires g c =
    let s = state_of g.St.PortalStore.maps c.args.client.now in
    let all = told_all g.H.Simple.Rows.RowSource.items g.H.Simple.CopyRows.CopySource.items in
    let query = g.H.Simple.Query.QueryState.told c.args.waiting in
    let u = c.requires.unready in
    record { unready = (u.0, subst (λ x. WaitsToQuery x all s u.0 query) (sym c.simple_query_handler-handler.ensures) u.1) }

pub returns : goal.returns
returns g c =
    let maps = g.St.PortalStore.maps in
    let h = g.H.PgWireServerHandlers.told c.args.handlers.now in
    let old = c.args.client.now in
    let r = c.finish_query in let new = r.new.client in let f = r.ensures in
    let s = state_of maps old in let t = state_of maps new in
    let last = g.D.CancelDesk.told r.new.desk in
    let same = c.simple_query_handler-handler.ensures in
    let all = told_all g.H.Simple.Rows.RowSource.items g.H.Simple.CopyRows.CopySource.items in
    let query = g.H.Simple.Query.QueryState.told c.args.waiting in
    let good = good_parts h.extended.parser s t.info t.statements t.portals f.kept.metadata (ap (λ st. (maps st).statements) f.kept.store)
    (ap (λ st. (maps st).portals) f.kept.store) c.requires.good in
    let answerable = query_answerable maps old new r.result f.errors in
    record {
      row = λ m first w starts.
          let waits = subst (λ x. WaitsToQuery x all s m query) (sym same) w in
          let ok = subst (λ x. OnOk r.result (IsRow (λ answers. on_query x answers s m) old.outbox new.outbox first.calls last.calls
          (Done t))) same (f.ok m first waits starts) in
          let refused = subst (λ x. IfErr r.result (IsRefusedRow (λ answers. on_query x answers s m) old.outbox new.outbox first.calls
          last.calls t)) same (f.refused m first waits starts) in
          let waited = f.waited m first waits starts in
          called_row h s t (client.Query m) old.outbox new.outbox first last c.args.turns.now r.new.turns r.result c.requires.ready ok
          refused answerable good waited.turns waited.bounded waited.keeps;
      answerable = answerable;
      good = good;
    }
