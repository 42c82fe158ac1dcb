use Rattle.std.proofs.Common.{ap, subst}
use Rattle.std.specs.Prelude.{IfErr, OnOk}
use Rattle.pg_messages.specs.declared.frontend.PgWireFrontendMessage.TheVariants as client
use Rattle.pg_client.specs.Effect.{Done, IsRefusedRow, IsRow}
use Rattle.pg_client.specs.State.{state_of}
use Rattle.pg_handlers.specs.Beginning.{IfAnswered, IfUnready, WaitsToQuery}
use Rattle.conversation_table.specs.Good.{IsGoodState}
use Rattle.conversation_table.specs.Handlers.{told_all}
use Rattle.conversation_table.specs.SimpleRows.{on_query}
use Rattle.conversation_table.proofs.GoodStores.{good_parts}
use Rattle.pg_session.proofs.Begun.{answered_by, begun_good, begun_row, query_cut, unready_by}
use Rattle.pg_session.proofs.messages.queries.QueryQueryMessage.begin.Goals as goal

pub returns : goal.returns
returns g c =
    let maps = g.St.PortalStore.maps in
    let h = g.H.PgWireServerHandlers.told c.args.handlers.now in
    let old = c.args.client.now in
    let r = c.begin_query in let new = r.new.client in let e = r.ensures in
    let s = state_of maps old in let t = state_of maps new in
    let desk = g.D.CancelDesk.told c.args.desk.now in let begun = g.D.CancelDesk.told r.new.desk in
    let same = c.simple_query_handler.ensures in
    let m = c.args.message in
    let b = r.result in
    let all = told_all g.H.Simple.Rows.RowSource.items g.H.Simple.CopyRows.CopySource.items in
    let told = g.H.Simple.Query.QueryState.told in
    let ok = subst (λ x. IfAnswered b (λ done. OnOk done (IsRow (λ answers. on_query x answers s m) old.outbox new.outbox desk.calls
    begun.calls (Done t)))) same e.ok in
    let refused = subst (λ x. IfAnswered b (λ done. IfErr done (IsRefusedRow (λ answers. on_query x answers s m) old.outbox new.outbox
    desk.calls begun.calls t))) same e.refused in
    let good = answered_by b _ (λ done. IsGoodState h.extended.parser t) (λ done k. good_parts h.extended.parser s t.info t.statements
    t.portals k.metadata (ap (λ st. (maps st).statements) k.store) (ap (λ st. (maps st).portals) k.store) c.requires.good) e.kept in
    let waits = subst (λ x. IfUnready b (λ kept waiting. WaitsToQuery x all s m (told waiting))) same e.unready in
    record {
      answered = begun_row h maps old new (client.Query m) desk begun b c.requires.ready ok refused e.errors e.waited good;
      unready = waits;
      started = e.started;
      cut = unready_by b _ _ _ (λ kept waiting w starts. query_cut h s c.requires.ready desk begun starts (told waiting) m all w) waits
          e.started;
      same = e.same;
      good = begun_good maps old new (IsGoodState h.extended.parser) c.requires.good b good e.same;
    }
