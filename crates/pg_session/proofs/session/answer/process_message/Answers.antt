use Rattle.std.proofs.Common.{IfOk, IfErr, ap, subst, sym, ◌∙◌}
use Rattle.pg_client.specs.Effect.{IsRow, IsRefusedRow}
use Rattle.pg_client.specs.Ends.{outcome_of}
use Rattle.pg_client.specs.State.{state_of}
use Rattle.conversation_table.specs.Table.{message_row}
use Rattle.conversation_runs.specs.Messages.{IsGivenIn}
use Rattle.conversation_runs.proofs.Rows.{row_as, refused_as}
use Rattle.pg_session.proofs.session.answer.process_message.Goals as goal

pub invariant_of-session : goal.invariant_of-session
invariant_of-session g c = λ _. rw c.deref-handlers.ensures at c.on_message-outcome.ensures.good

pub returns-clause-ok : goal.returns-clause-ok
returns-clause-ok g c =
    let answered = c.on_message-outcome in
    let old = c.session.inside.client in
    let s = state_of g.St.PortalStore.maps old in
    let new = state_of g.St.PortalStore.maps answered.new.client in
    let calls = (g.D.CancelDesk.told c.args.desk.now).calls in
    let new_calls = (g.D.CancelDesk.told answered.new.desk).calls in
    row_as g.H.PgWireServerHandlers.told _ c.args.session.now c.args.message answered.new.client.outbox calls new_calls new
    answered.result c.session.view_is
    (subst (λ (x : g.row.H.Denot). IfOk answered.result (λ end. IsRow
    (λ answers. message_row (g.H.PgWireServerHandlers.told x) answers s c.args.message) old.outbox answered.new.client.outbox
    calls new_calls (outcome_of end new))) c.deref-handlers.ensures answered.ensures.ok)

pub returns-clause-refused : goal.returns-clause-refused
returns-clause-refused g c =
    let answered = c.on_message-outcome in
    let old = c.session.inside.client in
    let s = state_of g.St.PortalStore.maps old in
    let new = state_of g.St.PortalStore.maps answered.new.client in
    let calls = (g.D.CancelDesk.told c.args.desk.now).calls in
    let new_calls = (g.D.CancelDesk.told answered.new.desk).calls in
    refused_as g.H.PgWireServerHandlers.told _ c.args.session.now c.args.message answered.new.client.outbox calls new_calls new
    answered.result c.session.view_is
    (subst (λ (x : g.row.H.Denot). IfErr answered.result (IsRefusedRow
    (λ answers. message_row (g.H.PgWireServerHandlers.told x) answers s c.args.message) old.outbox answered.new.client.outbox
    calls new_calls new)) c.deref-handlers.ensures answered.ensures.refused)

pub on_message-outcome-requires-clause-given : goal.on_message-outcome-requires-clause-given
on_message-outcome-requires-clause-given g c =
    subst (λ v. IsGivenIn v.state c.args.message) (sym c.session.view_is) c.requires.given

pub on_message-outcome-requires-clause-good : goal.on_message-outcome-requires-clause-good
on_message-outcome-requires-clause-good g c =
    rw c.deref-handlers.ensures (c.session.invariant (ap (λ v. v.is_open) c.session.view_is ∙ c.requires.«open»))

pub returns-clause-answerable : goal.returns-clause-answerable
returns-clause-answerable g c = c.on_message-outcome.ensures.answerable

pub returns-clause-ends : goal.returns-clause-ends
returns-clause-ends g c = c.on_message-outcome.ensures.ends

pub returns-clause-open : goal.returns-clause-open
returns-clause-open g c = c.stays_open-session-inside.ensures

pub returns-clause-handlers : goal.returns-clause-handlers
returns-clause-handlers g c = ap (λ v. v.handlers) c.session.view_is

pub returns-clause-rest : goal.returns-clause-rest
returns-clause-rest g c = ap (λ v. v.rest) c.session.view_is

pub returns-clause-turns : goal.returns-clause-turns
returns-clause-turns g c = c.on_message-outcome.ensures.turns

pub returns-clause-bounded : goal.returns-clause-bounded
returns-clause-bounded g c = c.on_message-outcome.ensures.bounded

pub returns-clause-registration : goal.returns-clause-registration
returns-clause-registration g c = c.on_message-outcome.ensures.registration
