use Rattle.std.proofs.Common.{◌≡◌, ◌≢◌, List, ℕ, [], ◌∷◌, Bool, Option, None, Some, inl, refl, sym, ap, subst, ◌∙◌}
use Rattle.std.proofs.lemmas.List.{append-nil}
use Rattle.std.proofs.lemmas.Result.{err_from_is_err_and}
use Rattle.pg_messages.specs.declared.frontend.PgWireFrontendMessage.{PgWireFrontendMessage}
use Rattle.pg_results.specs.Rows.{IsAnswerable}
use Rattle.pg_results.specs.declared.error.PgWireError.{PgWireError}
use Rattle.pg_results.specs.declared.error.PgWireError.TheVariants as wire
use Rattle.pg_client.specs.declared.desk.DeskCall.{DeskCall}
use Rattle.pg_client.specs.declared.ends.EndKind.{EndKind}
use Rattle.pg_client.specs.declared.ends.EndKind.TheVariants.{InputEnd}
use Rattle.pg_client.specs.declared.ends.SessionError.{SessionError}
use Rattle.pg_client.specs.declared.ends.SessionError.TheVariants as session
use Rattle.pg_client.specs.Answer.{answers_of}
use Rattle.pg_client.specs.Effect.{Called, Done, Effect, IsEffect, IsRow, says, silent}
use Rattle.pg_client.specs.Ends.{IsAnswerableError}
use Rattle.pg_client.specs.StartupRows.{no_encryption, startup_row}
use Rattle.pg_client.specs.State.{State, state_of}
use Rattle.pg_client.proofs.Desks.{goes_on_none}
use Rattle.pg_startup.proofs.Starting.{row_without_memory, packet_answered, packet_refused}
use Rattle.pg_startup.proofs.startup.on_startup_phase.Goals as goal

-- a row that calls nothing
silent_answered : {S : Type 0} (s t : State S) (m : PgWireFrontendMessage) (e : Effect S) (out new_out : List ℕ)
    (calls : List DeskCall) → ((answers : List Bool) → startup_row answers s m ≡ silent e) → IsEffect e out new_out (Done t)
    → IsRow (λ answers. startup_row answers s m) out new_out calls calls (Done t)
silent_answered {S} s t m e out new_out calls same x = record {
  made = [];
  own = ap (λ (r : Called S). r.calls) (same (answers_of []));
  called = sym (append-nil calls);
  effect = subst (λ (r : Called S). IsEffect r.effect out new_out (Done t)) (sym (same (answers_of []))) x;
}

answerable_as : (e : SessionError) (w : PgWireError) → e ≡ session.Wire w → IsAnswerable w → IsAnswerableError e
answerable_as e w is x = subst IsAnswerableError (sym is) x

no_limit : (e : SessionError) (w : PgWireError) → e ≡ session.Wire w → e ≢ session.TurnLimit
no_limit e w is = λ limit. absurd (let k = sym is ∙ limit in cc)

no_end_yet : ◌≢◌ {A = Option EndKind} None (Some InputEnd)
no_end_yet = λ end. absurd (let k = end in cc)

pub returns-in_err-push_no_encryption-in-SslNegotiation : goal.returns-in_err-push_no_encryption-in-SslNegotiation
returns-in_err-push_no_encryption-in-SslNegotiation g c =
    let p = err_from_is_err_and c.from_residual.result c.from_residual.ensures.1 in
    let s = state_of g.St.PortalStore.maps c.args.client.now in
    rw p.1 (record {
      ok = tt;
      refused = row_without_memory (λ answers. startup_row answers s c.args.message) c.args.client.now.outbox
          c.push_no_encryption.new.outbox _ _ _ p.0 refl p.2;
      answerable = answerable_as p.0 wire.NoMemory p.2 (inl refl);
      unlimited = no_limit p.0 wire.NoMemory p.2;
      ends = tt;
      stays = record { store = refl; metadata = λ short. short; registration = goes_on_none _ };
    })

pub returns-in_ok-push_no_encryption-in-SslNegotiation : goal.returns-in_ok-push_no_encryption-in-SslNegotiation
returns-in_ok-push_no_encryption-in-SslNegotiation g c =
    let s = state_of g.St.PortalStore.maps c.args.client.now in
    record {
      ok = silent_answered s s c.args.message (says (no_encryption c.in-SslNegotiation.kind ∷ []) s) c.args.client.now.outbox
          c.push_no_encryption.new.outbox (g.D.CancelDesk.told c.args.desk.now).calls (λ answers. rw c.in-SslNegotiation.is refl)
          (record { replied = c.in_ok-push_no_encryption-in-SslNegotiation.ensures; came = refl });
      refused = tt;
      answerable = tt;
      unlimited = tt;
      ends = no_end_yet;
      stays = record { store = refl; metadata = λ short. short; registration = goes_on_none _ };
    }

pub returns-in_err-cancel-in-CancelRequest : goal.returns-in_err-cancel-in-CancelRequest
returns-in_err-cancel-in-CancelRequest g c =
    let from = c.from_residual-in_err-cancel-in-CancelRequest in
    let p = err_from_is_err_and from.result from.ensures.1 in
    let s = state_of g.St.PortalStore.maps c.args.client.now in
    rw p.1 (record {
      ok = tt;
      refused = row_without_memory (λ answers. startup_row answers s c.args.message) c.args.client.now.outbox
          c.args.client.now.outbox _ _ _ p.0 c.in_err-cancel-in-CancelRequest.ensures.err p.2;
      answerable = answerable_as p.0 wire.NoMemory p.2 (inl refl);
      unlimited = no_limit p.0 wire.NoMemory p.2;
      ends = tt;
      stays = record { store = refl; metadata = λ short. short; registration = c.in_err-cancel-in-CancelRequest.ensures.registration };
    })

pub returns-in_err-on_startup-in-Startup : goal.returns-in_err-on_startup-in-Startup
returns-in_err-on_startup-in-Startup g c =
    let from = c.from_residual-in_err-on_startup-in-Startup in
    let p = err_from_is_err_and from.result from.ensures.1 in
    let s = state_of g.St.PortalStore.maps c.args.client.now in
    let e = c.in_err-on_startup-in-Startup.ensures in
    rw p.1 (record {
      ok = tt;
      refused = packet_refused s _ c.args.message c.in-Startup.startup c.in-Startup.is c.args.client.now.outbox
          c.on_startup.new.client.outbox (g.D.CancelDesk.told c.args.desk.now).calls
          (g.D.CancelDesk.told c.on_startup.new.desk).calls _ p.0 p.2 e.refused;
      answerable = answerable_as p.0 _ p.2 e.answerable;
      unlimited = no_limit p.0 _ p.2;
      ends = tt;
      stays = e.stays;
    })

pub returns-in_ok-on_startup-in-Startup : goal.returns-in_ok-on_startup-in-Startup
returns-in_ok-on_startup-in-Startup g c =
    let s = state_of g.St.PortalStore.maps c.args.client.now in
    let e = c.in_ok-on_startup-in-Startup.ensures in
    record {
      ok = packet_answered s _ c.args.message c.in-Startup.startup c.in-Startup.is c.args.client.now.outbox
          c.on_startup.new.client.outbox (g.D.CancelDesk.told c.args.desk.now).calls
          (g.D.CancelDesk.told c.on_startup.new.desk).calls e.ok;
      refused = tt;
      answerable = tt;
      unlimited = tt;
      ends = no_end_yet;
      stays = e.stays;
    }

pub returns-in_default-clause-stays : goal.returns-in_default-clause-stays
returns-in_default-clause-stays g c = record { store = refl; metadata = λ short. short; registration = goes_on_none _ }

pub returns-in_ok-cancel-in-CancelRequest-clause-stays : goal.returns-in_ok-cancel-in-CancelRequest-clause-stays
returns-in_ok-cancel-in-CancelRequest-clause-stays g c = record {
  store = refl;
  metadata = λ short. short;
  registration = c.in_ok-cancel-in-CancelRequest.ensures.registration;
}

pub returns-in_default-clause-ends : goal.returns-in_default-clause-ends
returns-in_default-clause-ends g c = no_end_yet
