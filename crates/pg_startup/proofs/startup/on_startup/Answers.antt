use Rattle.std.proofs.Common.{◌≡◌, inl, inr, refl, sym, ap, ◌∙◌}
use Rattle.std.proofs.lemmas.Result.{err_from_is_err_and}
use Rattle.pg_client.specs.declared.ends.SessionError.TheVariants as session
use Rattle.pg_client.specs.StartupRows.{on_startup}
use Rattle.pg_client.specs.State.{state_of}
use Rattle.pg_client.proofs.Desks.{goes_on_none}
use Rattle.pg_startup.proofs.Starting.{row_without_memory, spoken_answered, spoken_refused, unspoken_refused}
use Rattle.pg_startup.proofs.startup.on_startup.Goals as goal

pub returns-in_err-unsupported : goal.returns-in_err-unsupported
returns-in_err-unsupported g c =
    let p = err_from_is_err_and c.from_residual.result c.from_residual.ensures.1 in
    let s = state_of g.St.PortalStore.maps c.args.client.now in
    rw p.1 (record {
      ok = tt;
      refused = row_without_memory (λ answers. on_startup s c.args.message) c.args.client.now.outbox c.args.client.now.outbox
          _ _ s (session.Wire p.0) refl (ap session.Wire p.2);
      answerable = inl p.2;
      stays = record { store = refl; metadata = λ short. short; registration = goes_on_none _ };
    })

pub returns-in_default : goal.returns-in_default
returns-in_default g c =
    let s = state_of g.St.PortalStore.maps c.args.client.now in
    let calls = (g.D.CancelDesk.told c.args.desk.now).calls in
    record {
      ok = tt;
      refused = unspoken_refused s s c.args.message c.args.client.now.outbox c.args.client.now.outbox calls calls
          (sym c.in_default.is ∙ c.spoken_version.ensures) c.in_ok-unsupported.field-0 c.in_ok-unsupported.ensures.error refl refl refl;
      answerable = inr c.in_ok-unsupported.ensures.tellable;
      stays = record { store = refl; metadata = λ short. short; registration = goes_on_none _ };
    }

pub returns-in_err-accept : goal.returns-in_err-accept
returns-in_err-accept g c =
    let from = c.from_residual-in_err-accept in
    let p = err_from_is_err_and from.result from.ensures.1 in
    let maps = g.St.PortalStore.maps in
    let told = g.D.CancelDesk.told in let e = c.in_err-accept.ensures in
    rw p.1 (record {
      ok = tt;
      refused = spoken_refused (state_of maps c.args.client.now) (state_of maps c.accept.new.client) c.args.message
          c.args.client.now.outbox c.accept.new.client.outbox (told c.args.desk.now).calls (told c.accept.new.desk).calls
          c.in-Some.protocol (sym c.in-Some.is ∙ c.spoken_version.ensures) p.0 p.2 e.cut;
      answerable = inl p.2;
      stays = e.stays;
    })

pub returns : goal.returns
returns g c =
    let maps = g.St.PortalStore.maps in
    let told = g.D.CancelDesk.told in let e = c.in_ok-accept.ensures in
    record {
      ok = spoken_answered (state_of maps c.args.client.now) (state_of maps c.accept.new.client) c.args.message
          c.args.client.now.outbox c.accept.new.client.outbox (told c.args.desk.now).calls (told c.accept.new.desk).calls
          c.in-Some.protocol (sym c.in-Some.is ∙ c.spoken_version.ensures) e.ok;
      refused = tt;
      answerable = tt;
      stays = e.stays;
    }
