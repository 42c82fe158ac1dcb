use Rattle.std.proofs.Common.{◌≡◌, ◌⊎◌, ⊎_elim, ℕ, List, Bool, refl, sym, ap, inl, inr, append-nil}
use Rattle.pg_messages.specs.declared.copy.CopyData.{CopyData}
use Rattle.pg_messages.specs.declared.copy.CopyDone.{CopyDone}
use Rattle.pg_messages.specs.declared.copy.CopyFail.{CopyFail}
use Rattle.pg_messages.specs.declared.frontend.PgWireFrontendMessage.{PgWireFrontendMessage}
use Rattle.pg_messages.specs.declared.frontend.PgWireFrontendMessage.TheVariants as client
use Rattle.pg_messages.specs.declared.startup.Terminate.{Terminate}
use Rattle.pg_results.specs.declared.error.PgWireError.{PgWireError}
use Rattle.pg_results.specs.declared.error.PgWireError.TheVariants as wire
use Rattle.pg_client.specs.Effect.{Done, Failed, IsEffect, IsRefusedEffect, refuses}
use Rattle.pg_client.specs.State.{State, state_of}
use Rattle.conversation_table.specs.CopyRows.{copy_row}
use Rattle.conversation_table.specs.Handlers.{CopyTold}
use Rattle.conversation_table.proofs.GoodStores.{good_parts}
use Rattle.pg_session.proofs.messages.unready.on_copied.Goals as goal

-- the error of a COPY that the client gives up
given_up : {S : Type 0} (s : State S) (told e : PgWireError) (out : List ℕ) → (e ≡ told) ⊎ (e ≡ wire.NoMemory)
    → IsRefusedEffect (refuses s told) out out s e
given_up s told e out x =
    ⊎_elim (λ same. inr (record { replied = sym (append-nil out); came = ap (λ w. Failed s w) (sym same) })) (λ none. inl none) x

-- what is no message of a COPY is answered with nothing
dropped_in_copy : {S : Type 0} (h : CopyTold) (is_extended : Bool) (s : State S) (m : PgWireFrontendMessage) (out : List ℕ)
    → ((t : Terminate) → m ≡ client.Terminate t → ⊥) → ((d : CopyData) → m ≡ client.CopyData d → ⊥)
    → ((d : CopyDone) → m ≡ client.CopyDone d → ⊥) → ((f : CopyFail) → m ≡ client.CopyFail f → ⊥)
    → IsEffect (copy_row h is_extended s m) out out (Done s)
dropped_in_copy h is_extended s (client.Terminate m) out t d done f = absurd (t m refl)
dropped_in_copy h is_extended s (client.CopyData m) out t d done f = absurd (d m refl)
dropped_in_copy h is_extended s (client.CopyDone m) out t d done f = absurd (done m refl)
dropped_in_copy h is_extended s (client.CopyFail m) out t d done f = absurd (f m refl)
dropped_in_copy h is_extended s _ out t d done f = record { replied = sym (append-nil out); came = refl }

pub returns-in-CopyData-clause-ok : goal.returns-in-CopyData-clause-ok
returns-in-CopyData-clause-ok g c = rw c.in-CopyData.is (rw (← c.copy_handler.ensures) c.on_copy_data.ensures.ok)

pub returns-in-CopyData-clause-refused : goal.returns-in-CopyData-clause-refused
returns-in-CopyData-clause-refused g c = rw c.in-CopyData.is (rw (← c.copy_handler.ensures) c.on_copy_data.ensures.refused)

pub returns-in-CopyData-clause-answerable : goal.returns-in-CopyData-clause-answerable
returns-in-CopyData-clause-answerable g c = c.on_copy_data.ensures.answerable

pub returns-in-CopyData-clause-good : goal.returns-in-CopyData-clause-good
returns-in-CopyData-clause-good g c =
    let s = state_of g.St.PortalStore.maps c.args.client.now in
    let n = state_of g.St.PortalStore.maps c.on_copy_data.new.client in
    let told = c.on_copy_data.ensures in
    good_parts (g.H.PgWireServerHandlers.told c.args.handlers.now).extended.parser s n.info n.statements n.portals
    (ap (λ i. i.metadata) told.info) (ap (λ m. m.statements) told.store) (ap (λ m. m.portals) told.store) c.requires.good

pub returns-in-CopyDone-clause-ok : goal.returns-in-CopyDone-clause-ok
returns-in-CopyDone-clause-ok g c = rw c.in-CopyDone.is c.copy_done.ensures.ok

pub returns-in-CopyDone-clause-refused : goal.returns-in-CopyDone-clause-refused
returns-in-CopyDone-clause-refused g c = rw c.in-CopyDone.is c.copy_done.ensures.refused

pub returns-in-CopyDone-clause-answerable : goal.returns-in-CopyDone-clause-answerable
returns-in-CopyDone-clause-answerable g c = c.copy_done.ensures.answerable

pub returns-in-CopyDone-clause-good : goal.returns-in-CopyDone-clause-good
returns-in-CopyDone-clause-good g c = c.copy_done.ensures.good

pub returns-in-CopyFail-clause-ok : goal.returns-in-CopyFail-clause-ok
returns-in-CopyFail-clause-ok g c = tt

pub returns-in-CopyFail-clause-refused : goal.returns-in-CopyFail-clause-refused
returns-in-CopyFail-clause-refused g c =
    rw c.in-CopyFail.is (rw (← c.copy_handler-in-CopyFail.ensures) (rw c.on_copy_fail.ensures.same
    (given_up (state_of g.St.PortalStore.maps c.args.client.now) _ c.on_copy_fail.result c.args.client.now.outbox
    c.on_copy_fail.ensures.error)))

pub returns-in-CopyFail-clause-answerable : goal.returns-in-CopyFail-clause-answerable
returns-in-CopyFail-clause-answerable g c = c.on_copy_fail.ensures.answerable

pub returns-in-CopyFail-clause-good : goal.returns-in-CopyFail-clause-good
returns-in-CopyFail-clause-good g c = rw c.on_copy_fail.ensures.same c.requires.good

pub returns-in_default : goal.returns-in_default
returns-in_default g c =
    record {
      ok = dropped_in_copy (g.H.PgWireServerHandlers.told c.args.handlers.now).copying c.args.is_extended
          (state_of g.St.PortalStore.maps c.args.client.now) c.args.message c.args.client.now.outbox c.requires.goes_on
          c.in_default.not-CopyData c.in_default.not-CopyDone c.in_default.not-CopyFail;
      refused = tt;
      answerable = tt;
      good = c.requires.good;
    }

pub on_copy_data-requires-clause-given : goal.on_copy_data-requires-clause-given
on_copy_data-requires-clause-given g c = rw c.in-CopyData.is at c.requires.given

pub on_copy_data-requires-clause-short_metadata : goal.on_copy_data-requires-clause-short_metadata
on_copy_data-requires-clause-short_metadata g c = c.requires.good.metadata

pub on_copy_fail-requires-clause-given : goal.on_copy_fail-requires-clause-given
on_copy_fail-requires-clause-given g c = rw c.in-CopyFail.is at c.requires.given

pub on_copy_fail-requires-clause-short_metadata : goal.on_copy_fail-requires-clause-short_metadata
on_copy_fail-requires-clause-short_metadata g c = c.requires.good.metadata

pub copy_done-requires-clause-given : goal.copy_done-requires-clause-given
copy_done-requires-clause-given g c = rw c.in-CopyDone.is at c.requires.given

pub copy_done-requires-clause-good : goal.copy_done-requires-clause-good
copy_done-requires-clause-good g c = c.requires.good
