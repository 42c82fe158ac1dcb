use Rattle.std.proofs.Common.{◌≡◌, false, w32, IfSome, Result, Some, refl, ap, sym, subst, ◌∙◌}
use Rattle.std.specs.FinMap as fin
use Rattle.std.specs.Prelude.{IfErr, OnOk}
use Rattle.std.proofs.lemmas.Int.{to_z-of_z}
use Rattle.pg_portal.specs.Told.{portal_of, value_under}
use Rattle.pg_client.specs.declared.ends.SessionError.{SessionError}
use Rattle.pg_client.specs.declared.ends.Turns.{Turns}
use Rattle.pg_client.specs.Effect.{Done, IsRefusedRow, IsRow}
use Rattle.conversation_table.specs.ExecuteRow.{on_execute}
use Rattle.conversation_table.specs.Executing.{is_unstarted}
use Rattle.conversation_table.specs.Good.{HasGoodTag, IsSendableOutcome}
use Rattle.conversation_table.specs.Handlers.{told_one}
use Rattle.conversation_table.specs.Waiting.{HasWaited}
use Rattle.pg_client.specs.State.{state_of}
use Rattle.pg_client.proofs.Desks.{keeps_none}
use Rattle.conversation_table.proofs.Executed.{IsExecuted, none_begun, none_started, returned}
use Rattle.conversation_table.proofs.QueryErrors.{query_error}
use Rattle.conversation_table.proofs.Starting.{started_there, unstarted_under}
use Rattle.pg_handlers.proofs.Beginning.{answered_by, begun_executed, unready_always, unready_by, waits_to_execute}
use Rattle.pg_handlers.proofs.Waiting.{no_turns}
use Rattle.pg_handlers.proofs.query.extended.ExtendedQueryHandler.begin_execute.Goals as goal

pub execute_started-requires-clause-started : goal.execute_started-requires-clause-started
execute_started-requires-clause-started g c =
    let s = state_of g.St.PortalStore.maps c.args.client.now in let m = c.args.message in
    started_there (λ p. is_unstarted p.stage ≡ false) (λ p. HasGoodTag p.stage) (value_under (fin.get s.portals m.name))
    (subst (λ n. IfSome (value_under (fin.get s.portals n)) (λ p. is_unstarted p.stage ≡ false)) c.as_str.ensures
    (c.unstarted_portal.ensures.none c.in_default.is)) (λ p found. (c.requires.good.portals m.name p found).tag)

pub returns-in_default : goal.returns-in_default
returns-in_default g c =
    let x = λ (turns : Turns). c.execute_started.ensures (g.Self.ExtendedQueryHandler.told c.args.self.now) (g.D.CancelDesk.told c.args.desk.now)
    turns c.requires.good in
    let e = x no_turns in
    record {
      ok = e.0;
      refused = e.1;
      errors = query_error g.St.PortalStore.maps c.args.client.now c.execute_started.new.client c.execute_started.result e.2 e.4;
      kept = record { info = e.5; left = e.6; kept = e.7 };
      waited = λ turns. record { caused = e.3; turns = (x turns).9; bounded = λ h. h; keeps = keeps_none _ };
      unready = tt;
      started = tt;
      same = tt;
      good = e.8;
    }

pub returns-in_default-start : goal.returns-in_default-start
returns-in_default-start g c =
    let maps = g.St.PortalStore.maps in let told = g.D.CancelDesk.told in
    let s = state_of maps c.args.client.now in let h = g.Self.ExtendedQueryHandler.told c.args.self.now in let m = c.args.message in
    let y = λ (turns : Turns). returned c.query_out_of_memory.ensures (none_started h m s s c.args.client.now.outbox (told c.args.desk.now)
    (told c.start.new.self) turns c.requires.good refl c.in_default-start.ensures.err) in
    let x = y no_turns in
    record {
      ok = x.ok;
      refused = x.refused;
      errors = query_error maps c.args.client.now c.args.client.now c.query_out_of_memory.result x.answerable x.limit;
      kept = record { info = x.info; left = x.left; kept = x.kept };
      waited = λ turns. let z = y turns in record { caused = z.caused; turns = z.spent; bounded = z.bounded; keeps = z.keeps };
      unready = tt;
      started = tt;
      same = tt;
      good = x.good;
    }

pub do_query-requires-clause-good : goal.do_query-requires-clause-good
do_query-requires-clause-good g c = c.requires.good.portals c.as_str.result.now _ c.in-Some.ensures.found

pub returns-in_default-do_query : goal.returns-in_default-do_query
returns-in_default-do_query g c =
    let R = g.Self.Rows.RowSource.items in let maps = g.St.PortalStore.maps in let told = g.D.CancelDesk.told in
    let s = state_of maps c.args.client.now in let h = g.Self.ExtendedQueryHandler.told c.args.self.now in let m = c.args.message in
    let p = portal_of R c.in-Some.portal.now in
    let found : value_under (fin.get s.portals m.name) ≡ Some p =
    ap (λ n. value_under (fin.get s.portals n)) (sym c.as_str.ensures) ∙ c.in-Some.ensures.found in
    let y = λ (turns : Turns). returned c.query_out_of_memory-in_default-do_query.ensures (none_begun h m s p found c.in-Some.ensures.unstarted
    c.requires.good (told c.args.desk.now) (told c.start.new.self) c.in-Ok.ensures.ok turns c.args.client.now.outbox s refl) in
    let x = y no_turns in
    record {
      ok = x.ok;
      refused = x.refused;
      errors = query_error maps c.args.client.now c.args.client.now c.query_out_of_memory-in_default-do_query.result x.answerable x.limit;
      kept = record { info = x.info; left = x.left; kept = x.kept };
      waited = λ turns. let z = y turns in record { caused = z.caused; turns = z.spent; bounded = z.bounded; keeps = z.keeps };
      unready = tt;
      started = tt;
      same = tt;
      good = x.good;
    }

pub begin_unstarted-requires-clause-portal : goal.begin_unstarted-requires-clause-portal
begin_unstarted-requires-clause-portal g c =
    let R = g.Self.Rows.RowSource.items in let maps = g.St.PortalStore.maps in
    let s = state_of maps c.args.client.now in let m = c.args.message in
    let p = portal_of R c.in-Some.portal.now in
    let found : value_under (fin.get s.portals m.name) ≡ Some p =
    ap (λ n. value_under (fin.get s.portals n)) (sym c.as_str.ensures) ∙ c.in-Some.ensures.found in
    unstarted_under (maps c.args.client.now.store) m.name p found c.in-Some.ensures.unstarted

pub returns : goal.returns
returns g c =
    let R = g.Self.Rows.RowSource.items in let maps = g.St.PortalStore.maps in let told = g.D.CancelDesk.told in
    let s = state_of maps c.args.client.now in let h = g.Self.ExtendedQueryHandler.told c.args.self.now in let m = c.args.message in
    let one = told_one R g.Self.CopyRows.CopySource.items in
    let p = portal_of R c.in-Some.portal.now in
    let found : value_under (fin.get s.portals m.name) ≡ Some p =
    ap (λ n. value_under (fin.get s.portals n)) (sym c.as_str.ensures) ∙ c.in-Some.ensures.found in
    let limit_is = to_z-of_z w32 m.max_rows c.requires.given.1.carries.2.max_rows in
    let told_is = c.in-Ok-do_query.ensures.told ∙ ap (h.query s.info p.bound) limit_is in
    let sendable = subst (λ n. IsSendableOutcome (h.query s.info p.bound n).outcome) limit_is c.in-Ok-do_query.ensures.sendable in
    let r = c.begin_unstarted in let e = r.ensures in let now = c.args.client.now in
    let desk = told c.args.desk.now in let begun = told c.start.new.self in
    let first = g.Self.Query.QueryState.told c.in-Ok-do_query.query in
    let b = r.result in
    let x = begun_executed h maps now r.new.client m p found c.in-Some.ensures.unstarted c.requires.good _ told_is desk begun
    c.in-Ok.ensures.ok b e.ran e.errors e.kept e.good e.calm in
    let whole = λ (done : Result (Unit {0}) SessionError). (turns : Turns) → IsExecuted h m s (state_of maps r.new.client) now.outbox r.new.client.outbox desk begun turns
    turns done in
    record {
      ok = answered_by b whole (λ done. OnOk done (IsRow (λ answers. on_execute h answers s m) now.outbox r.new.client.outbox desk.calls
          begun.calls (Done (state_of maps r.new.client)))) (λ done y. (y no_turns).ok) x;
      refused = answered_by b whole (λ done. IfErr done (IsRefusedRow (λ answers. on_execute h answers s m) now.outbox
          r.new.client.outbox desk.calls begun.calls (state_of maps r.new.client))) (λ done y. (y no_turns).refused) x;
      errors = e.errors;
      kept = e.kept;
      waited = answered_by b whole (λ done. (turns : Turns) → HasWaited desk begun turns turns done) (λ done y turns. record {
        caused = (y turns).caused;
        turns = (y turns).spent;
        bounded = (y turns).bounded;
        keeps = (y turns).keeps;
      }) x;
      unready = unready_by b _ _ (λ kept waiting y. (
        y.0,
        waits_to_execute h one s m p found c.in-Some.ensures.unstarted first (g.Self.Query.QueryState.told waiting) told_is
            (subst IsSendableOutcome (sym (ap (λ t. t.outcome) told_is)) sendable) y.1,
      )) e.unready;
      started = unready_always b _ c.in-Ok.ensures.ok;
      same = e.same;
      good = e.good h.parser c.requires.good;
    }
