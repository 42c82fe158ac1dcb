use Rattle.std.proofs.Common.{◌≡◌, false, true, Result, Err, refl, ap, sym, subst, ◌∙◌}
use Rattle.std.specs.Prelude.{IfErr, OnOk}
use Rattle.pg_results.specs.declared.error.PgWireError.TheVariants as wire
use Rattle.pg_results.specs.Texts.{is_blank}
use Rattle.pg_client.specs.declared.ends.SessionError.{SessionError}
use Rattle.pg_client.specs.declared.ends.SessionError.TheVariants as session
use Rattle.pg_client.specs.declared.ends.Turns.{Turns}
use Rattle.pg_client.specs.Effect.{Done, IsRefusedRow, IsRow}
use Rattle.pg_client.specs.State.{state_of}
use Rattle.conversation_table.specs.Good.{AreSendable}
use Rattle.conversation_table.specs.Handlers.{told_all}
use Rattle.conversation_table.specs.SimpleRows.{on_query}
use Rattle.conversation_table.specs.Waiting.{HasWaited}
use Rattle.conversation_table.proofs.Queried.{IsQueried, blank_queried, none_begun, none_started, returned}
use Rattle.conversation_table.proofs.QueryErrors.{query_error}
use Rattle.pg_handlers.proofs.Beginning.{answered_by, begun_queried, unready_always, unready_by, waits_to_query}
use Rattle.pg_handlers.proofs.Waiting.{no_turns}
use Rattle.pg_handlers.proofs.query.simple.SimpleQueryHandler.begin_query.Goals as goal

pub returns-then-is_blank : goal.returns-then-is_blank
returns-then-is_blank g c =
    let maps = g.St.PortalStore.maps in let told = g.D.CancelDesk.told in let s = state_of maps c.args.client.now in
    let h = g.Self.SimpleQueryHandler.told c.args.self.now in let m = c.args.query in let out = c.args.client.now.outbox in
    let blank : is_blank m.query ≡ true = ap is_blank (sym c.as_str.ensures) ∙ sym c.is_blank.ensures ∙ c.if-is_blank.true in
    let a = c.answer_blank-blank in
    let e = a.ensures in
    let y = λ (turns : Turns). returned c.session_outcome.ensures (blank_queried h m s out a.new.outbox (told c.args.desk.now) turns
    a.result blank e.ok e.refused e.kept) in
    let x = y no_turns in
    record {
      ok = x.ok;
      refused = x.refused;
      errors = query_error maps c.args.client.now (record c.args.client.now { outbox = a.new.outbox }) c.session_outcome.result x.answerable x.limit;
      kept = record { info = x.info; kept = x.kept; store = refl; metadata = refl };
      waited = λ turns. let z = y turns in record { caused = z.caused; turns = z.spent; bounded = z.bounded; keeps = z.keeps };
      unready = tt;
      started = tt;
      same = tt;
    }

pub returns-in_default : goal.returns-in_default
returns-in_default g c =
    let maps = g.St.PortalStore.maps in let told = g.D.CancelDesk.told in let s = state_of maps c.args.client.now in
    let h = g.Self.SimpleQueryHandler.told c.args.self.now in let m = c.args.query in let out = c.args.client.now.outbox in
    let y = λ (turns : Turns). returned c.query_out_of_memory.ensures (none_started h m s out (told c.args.desk.now) (told c.start.new.self) turns
    c.in_default.ensures.err) in
    let x = y no_turns in
    record {
      ok = x.ok;
      refused = x.refused;
      errors = query_error maps c.args.client.now c.args.client.now c.query_out_of_memory.result x.answerable x.limit;
      kept = record { info = x.info; kept = x.kept; store = refl; metadata = refl };
      waited = λ turns. let z = y turns in record { caused = z.caused; turns = z.spent; bounded = z.bounded; keeps = z.keeps };
      unready = tt;
      started = tt;
      same = tt;
    }

pub returns-in-Err : goal.returns-in-Err
returns-in-Err g c =
    let maps = g.St.PortalStore.maps in let told = g.D.CancelDesk.told in let s = state_of maps c.args.client.now in
    let h = g.Self.SimpleQueryHandler.told c.args.self.now in let m = c.args.query in let out = c.args.client.now.outbox in
    let busy : is_blank m.query ≡ false = ap is_blank (sym c.as_str.ensures) ∙ sym c.is_blank.ensures ∙ c.if-is_blank.false in
    let result : Result (Unit {0}) SessionError = Err c.from.result in
    let is : result ≡ Err (session.Wire wire.NoMemory) = ap Err c.from.ensures in
    let y = λ (turns : Turns). returned is (none_begun h m s busy (told c.args.desk.now) (told c.start.new.self)
    c.in-Ok.ensures.ok turns out) in
    let x = y no_turns in
    record {
      ok = tt;
      refused = x.refused;
      errors = query_error maps c.args.client.now c.args.client.now result x.answerable x.limit;
      kept = record { info = x.info; kept = x.kept; store = refl; metadata = refl };
      waited = λ turns. let z = y turns in record { caused = z.caused; turns = z.spent; bounded = z.bounded; keeps = z.keeps };
      unready = tt;
      started = tt;
      same = tt;
    }

pub begin_run-requires-clause-sendable : goal.begin_run-requires-clause-sendable
begin_run-requires-clause-sendable g c =
    let h = g.Self.SimpleQueryHandler.told c.args.self.now in let info = c.args.client.now.info in
    subst AreSendable (sym (ap (λ t. t.outcome) (c.in-Ok-begun.ensures.told ∙ ap (h info) c.as_str-2.ensures)))
    (subst (λ text. AreSendable (h info text).outcome) c.as_str-2.ensures c.in-Ok-begun.ensures.sendable)

pub returns-in-Ok-begun : goal.returns-in-Ok-begun
returns-in-Ok-begun g c =
    let maps = g.St.PortalStore.maps in let told = g.D.CancelDesk.told in let s = state_of maps c.args.client.now in
    let h = g.Self.SimpleQueryHandler.told c.args.self.now in let m = c.args.query in
    let all = told_all g.Self.Rows.RowSource.items g.Self.CopyRows.CopySource.items in
    let busy : is_blank m.query ≡ false = ap is_blank (sym c.as_str.ensures) ∙ sym c.is_blank.ensures ∙ c.if-is_blank.false in
    let q = c.in-Ok-begun in
    let told_is = q.ensures.told ∙ ap (h s.info) c.as_str-2.ensures in
    let sendable = subst AreSendable (sym (ap (λ t. t.outcome) told_is))
    (subst (λ text. AreSendable (h s.info text).outcome) c.as_str-2.ensures q.ensures.sendable) in
    let r = c.begin_run in let e = r.ensures in let now = c.args.client.now in
    let desk = told c.args.desk.now in let begun = told c.start.new.self in
    let first = g.Self.Query.QueryState.told q.state in
    let b = r.result in
    let x = begun_queried h maps now r.new.client m busy _ told_is desk begun c.in-Ok.ensures.ok b e.ran e.errors e.kept e.calm in
    let whole = λ (done : Result (Unit {0}) SessionError). (turns : Turns) → IsQueried h m s (state_of maps r.new.client) now.outbox r.new.client.outbox desk begun turns
    turns done in
    record {
      ok = answered_by b whole (λ done. OnOk done (IsRow (λ answers. on_query h answers s m) now.outbox r.new.client.outbox desk.calls
          begun.calls (Done (state_of maps r.new.client)))) (λ done y. (y no_turns).ok) x;
      refused = answered_by b whole (λ done. IfErr done (IsRefusedRow (λ answers. on_query h answers s m) now.outbox
          r.new.client.outbox desk.calls begun.calls (state_of maps r.new.client))) (λ done y. (y no_turns).refused) x;
      errors = e.errors;
      kept = e.kept;
      waited = answered_by b whole (λ done. (turns : Turns) → HasWaited desk begun turns turns done) (λ done y turns. record {
        caused = (y turns).caused;
        turns = (y turns).spent;
        bounded = (y turns).bounded;
        keeps = (y turns).keeps;
      }) x;
      unready = unready_by b _ _ (λ kept waiting once. waits_to_query h all s m busy first (g.Self.Query.QueryState.told waiting) told_is
          sendable once) e.unready;
      started = unready_always b _ c.in-Ok.ensures.ok;
      same = e.same;
    }
