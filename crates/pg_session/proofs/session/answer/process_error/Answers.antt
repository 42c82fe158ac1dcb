use Rattle.std.proofs.Common.{◌≡◌, ◌++◌, ◌∙◌, [], ap, subst, true, IfOk, OnOk}
use Rattle.std.specs.Arc.{arc_value}
use Rattle.pg_messages.specs.Replies.{replies_bytes}
use Rattle.pg_results.specs.Errors.{info_of}
use Rattle.pg_client.specs.Effect.{failed}
use Rattle.pg_client.specs.State.{state_of}
use Rattle.conversation_table.proofs.GoodStores.{good_parts}
use Rattle.conversation_runs.specs.Messages.{scope_for, next_of}
use Rattle.pg_session.proofs.session.answer.process_error.Goals as goal

pub invariant_of-session : goal.invariant_of-session
invariant_of-session g c = λ _.
    let maps = g.St.PortalStore.maps in
    let old = c.session.inside.client in
    let told = c.error_told-outcome in
    let new = state_of maps told.new.client in
    let was_open : c.session.inside.opened ≡ true = ap (λ v. v.is_open) c.session.view_is ∙ c.requires.«open» in
    good_parts (g.H.PgWireServerHandlers.told (arc_value c.session.inside.handlers)).extended.parser
    (state_of maps old) new.info new.statements new.portals told.ensures.metadata (ap (λ st. (maps st).statements) told.ensures.store)
    (ap (λ st. (maps st).portals) told.ensures.store) (c.session.invariant was_open)

pub returns-clause-replied : goal.returns-clause-replied
returns-clause-replied g c =
    let told = c.error_told-outcome in
    subst (λ v. OnOk told.result (told.new.client.outbox ≡ v.unsent
    ++ replies_bytes (failed (scope_for c.args.wait_for_sync) [] [] v.state (info_of c.args.error)).replies)) c.session.view_is
    told.ensures.replied

pub returns-clause-next : goal.returns-clause-next
returns-clause-next g c =
    let told = c.error_told-outcome in
    subst (λ v. IfOk told.result (λ end. (failed (scope_for c.args.wait_for_sync) [] [] v.state (info_of c.args.error)).next
    ≡ next_of end (state_of g.St.PortalStore.maps told.new.client))) c.session.view_is told.ensures.next

pub returns-clause-ends : goal.returns-clause-ends
returns-clause-ends g c = c.error_told-outcome.ensures.ends

pub returns-clause-open : goal.returns-clause-open
returns-clause-open g c = c.goes_on-session-inside.ensures

pub returns-clause-handlers : goal.returns-clause-handlers
returns-clause-handlers g c = ap (λ v. v.handlers) c.session.view_is

pub returns-clause-rest : goal.returns-clause-rest
returns-clause-rest g c = ap (λ v. v.rest) c.session.view_is
