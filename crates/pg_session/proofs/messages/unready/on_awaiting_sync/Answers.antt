use Rattle.std.proofs.Common.{◌≡◌, ◌≢◌, ℕ, List, Option, Some, None, refl, sym, append-nil}
use Rattle.std.proofs.lemmas.Result.{err_from_is_err_and}
use Rattle.pg_messages.specs.declared.extendedquery.PgSync.{PgSync}
use Rattle.pg_messages.specs.declared.frontend.PgWireFrontendMessage.{PgWireFrontendMessage}
use Rattle.pg_messages.specs.declared.frontend.PgWireFrontendMessage.TheVariants as client
use Rattle.pg_messages.specs.declared.startup.Terminate.{Terminate}
use Rattle.pg_client.specs.declared.ends.EndKind.{EndKind}
use Rattle.pg_client.specs.declared.ends.EndKind.TheVariants as end
use Rattle.pg_client.specs.Effect.{Done, IsEffect}
use Rattle.pg_client.specs.State.{State, state_of}
use Rattle.conversation_table.specs.Table.{awaiting_sync_row}
use Rattle.pg_session.proofs.messages.unready.on_awaiting_sync.Goals as goal

-- Terminate is no end of the input, and what goes on is no end.
terminate_is_other : ◌≢◌ {A = Option EndKind} (Some end.Terminate) (Some end.InputEnd)
terminate_is_other is = cc

no_end : ◌≢◌ {A = Option EndKind} None (Some end.InputEnd)
no_end is = cc

-- what is neither of both is answered with nothing
dropped_until_sync : {S : Type 0} (s : State S) (m : PgWireFrontendMessage) (out : List ℕ)
    → ((t : Terminate) → m ≡ client.Terminate t → ⊥) → ((y : PgSync) → m ≡ client.PgSync y → ⊥)
    → IsEffect (awaiting_sync_row s m) out out (Done s)
dropped_until_sync s (client.Terminate m) out t y = absurd (t m refl)
dropped_until_sync s (client.PgSync m) out t y = absurd (y m refl)
dropped_until_sync s _ out t y = record { replied = sym (append-nil out); came = refl }

pub returns-in-Terminate : goal.returns-in-Terminate
returns-in-Terminate g c =
    record {
      ok = rw c.in-Terminate.is (record { replied = sym (append-nil c.args.client.now.outbox); came = refl });
      refused = tt;
      answerable = tt;
      ends = terminate_is_other;
      good = c.requires.good;
    }

pub returns-in_err-on_sync-in-PgSync : goal.returns-in_err-on_sync-in-PgSync
returns-in_err-on_sync-in-PgSync g c =
    let p = err_from_is_err_and c.from_residual.result c.from_residual.ensures.1 in
    let told = c.in_err-on_sync-in-PgSync.ensures in
    rw (p.1, p.2) (record {
      ok = tt;
      refused = rw c.in-PgSync.is told.refused;
      answerable = told.answerable;
      ends = tt;
      good = rw (← c.extended_query_handler.ensures) told.good;
    })

pub returns-in_ok-on_sync-in-PgSync : goal.returns-in_ok-on_sync-in-PgSync
returns-in_ok-on_sync-in-PgSync g c =
    let told = c.in_ok-on_sync-in-PgSync.ensures in
    record {
      ok = rw c.in-PgSync.is told.ok;
      refused = tt;
      answerable = tt;
      ends = no_end;
      good = rw (← c.extended_query_handler.ensures) told.good;
    }

pub returns-in_default : goal.returns-in_default
returns-in_default g c =
    record {
      ok = dropped_until_sync (state_of g.St.PortalStore.maps c.args.client.now) c.args.message c.args.client.now.outbox
          c.in_default.not-Terminate c.in_default.not-PgSync;
      refused = tt;
      answerable = tt;
      ends = no_end;
      good = c.requires.good;
    }

pub on_sync-requires-clause-given : goal.on_sync-requires-clause-given
on_sync-requires-clause-given g c = rw c.in-PgSync.is at c.requires.given

pub on_sync-requires-clause-good : goal.on_sync-requires-clause-good
on_sync-requires-clause-good g c = rw c.extended_query_handler.ensures c.requires.good
