use Rattle.std.proofs.Common.{subst, sym}
use Rattle.conversation_table.specs.CopyRows.{copy_row}
use Rattle.conversation_table.specs.Good.{IsGoodStatement, IsGoodPortal}
use Rattle.pg_client.specs.State.{state_of}
use Rattle.conversation_table.specs.Table.{awaiting_sync_row}
use Rattle.conversation_table.proofs.GoodStores.{Each}
use Rattle.conversation_runs.proofs.StartupTurns.{startup_turns}
use Rattle.conversation_runs.proofs.MessageRows.{silent_message}
use Rattle.conversation_runs.proofs.ToldRows.{startup_ok, startup_refused, sync_row, copy_phase_row, last_phase}
use Rattle.pg_session.proofs.messages.unready.on_unready.Goals as goal

pub returns-in-AwaitingStartup : goal.returns-in-AwaitingStartup
returns-in-AwaitingStartup g c = λ turns.
    let h = g.H.PgWireServerHandlers.told c.args.handlers.now in
    let old = c.args.client.now in
    let answered = c.on_startup_phase in
    let s = state_of g.St.PortalStore.maps old in
    let t = state_of g.St.PortalStore.maps answered.new.client in
    let calls = (g.D.CancelDesk.told c.args.desk.now).calls in
    let new_calls = (g.D.CancelDesk.told answered.new.desk).calls in
    let behind = answered.ensures in
    record {
      ok = startup_ok h s c.args.message old.outbox answered.new.client.outbox calls new_calls t answered.result c.in-AwaitingStartup.is
          behind.ok;
      refused = startup_refused h s c.args.message old.outbox answered.new.client.outbox calls new_calls t answered.result
          c.in-AwaitingStartup.is behind.refused;
      answerable = behind.answerable;
      ends = behind.ends;
      good = record {
        statements = subst (λ st. Each (IsGoodStatement h.extended.parser) (g.St.PortalStore.maps st).statements) (sym behind.stays.store)
            c.requires.good.statements;
        portals = subst (λ st. Each (IsGoodPortal h.extended.parser) (g.St.PortalStore.maps st).portals) (sym behind.stays.store)
            c.requires.good.portals;
        metadata = behind.stays.metadata c.requires.good.metadata;
      };
      turns = startup_turns s t c.args.message turns old.outbox answered.new.client.outbox calls new_calls answered.result behind.ok
          behind.refused behind.unlimited;
      bounded = λ within. within;
      registration = behind.stays.registration;
    }

pub returns-in-CopyInProgress : goal.returns-in-CopyInProgress
returns-in-CopyInProgress g c = λ turns.
    let h = g.H.PgWireServerHandlers.told c.args.handlers.now in
    let s = state_of g.St.PortalStore.maps c.args.client.now in
    let answered = c.on_copy in
    let is_extended = c.in-CopyInProgress.is_extended in
    let calls = (g.D.CancelDesk.told c.args.desk.now).calls in
    rw c.with_session_error.ensures (silent_message h s c.args.message (copy_row h.copying is_extended s c.args.message) c.args.client.now.outbox
    answered.new.client.outbox (g.D.CancelDesk.told c.args.desk.now) turns (state_of g.St.PortalStore.maps answered.new.client)
    answered.result (λ answers. copy_phase_row h answers s c.args.message is_extended c.in-CopyInProgress.is) answered.ensures.ok
    answered.ensures.refused answered.ensures.answerable answered.ensures.ends answered.ensures.good)

pub returns-in_default : goal.returns-in_default
returns-in_default g c = λ turns.
    let h = g.H.PgWireServerHandlers.told c.args.handlers.now in
    let s = state_of g.St.PortalStore.maps c.args.client.now in
    let answered = c.on_awaiting_sync in
    let is = last_phase s.info.state c.in_default.not-AwaitingStartup c.in_default.not-CopyInProgress c.requires.unready in
    rw c.with_session_error-in_default.ensures (silent_message h s c.args.message (awaiting_sync_row s c.args.message) c.args.client.now.outbox
    answered.new.client.outbox (g.D.CancelDesk.told c.args.desk.now) turns (state_of g.St.PortalStore.maps answered.new.client)
    answered.result (λ answers. sync_row h answers s c.args.message is) answered.ensures.ok
    answered.ensures.refused answered.ensures.answerable answered.ensures.ends answered.ensures.good)
