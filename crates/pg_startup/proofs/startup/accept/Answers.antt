use Rattle.std.proofs.Common.{ap, refl, sym, subst}
use Rattle.std.specs.FinMap as fin
use Rattle.std.specs.List.{AllByRecursion}
use Rattle.pg_client.specs.State.{state_of}
use Rattle.pg_client.proofs.Desks.{goes_on_none, goes_on_as, goes_on_after}
use Rattle.pg_startup.proofs.Starting.{on_err_always, IsShortPair, metadata_short, accept_cut_first, accept_cut}
use Rattle.pg_startup.proofs.startup.accept.Goals as goal

pub returns-in_err-metadata-clause-cut : goal.returns-in_err-metadata-clause-cut
returns-in_err-metadata-clause-cut g c =
    let calls = (g.D.CancelDesk.told c.args.desk.now).calls in
    on_err_always c.from_residual.result (accept_cut_first (state_of g.St.PortalStore.maps c.args.client.now) c.args.protocol
    c.args.message calls calls refl)

pub returns-in_err-metadata-clause-stays : goal.returns-in_err-metadata-clause-stays
returns-in_err-metadata-clause-stays g c = record { store = refl; metadata = λ short. short; registration = goes_on_none _ }

pub returns-in_err-narrow-clause-cut : goal.returns-in_err-narrow-clause-cut
returns-in_err-narrow-clause-cut g c =
    on_err_always c.from_residual-in_err-narrow.result (accept_cut_first (state_of g.St.PortalStore.maps c.args.client.now) c.args.protocol
    c.args.message (g.D.CancelDesk.told c.args.desk.now).calls (g.D.CancelDesk.told c.narrow.new.desk).calls
    (ap (λ d. d.calls) c.in_err-narrow.ensures.err))

pub returns-in_err-narrow-clause-stays : goal.returns-in_err-narrow-clause-stays
returns-in_err-narrow-clause-stays g c = record { store = refl; metadata = λ short. short; registration = goes_on_as _ _ c.in_err-narrow.ensures.err }

pub returns-in_err-push_startup-clause-cut : goal.returns-in_err-push_startup-clause-cut
returns-in_err-push_startup-clause-cut g c =
    on_err_always c.from_residual-in_err-push_startup.result (accept_cut (state_of g.St.PortalStore.maps c.args.client.now)
    c.args.protocol c.args.message (g.D.CancelDesk.told c.args.desk.now).calls (g.D.CancelDesk.told c.narrow.new.desk).calls
    (ap (λ d. d.calls) c.in_ok-narrow.ensures.registration))

pub returns-in_err-push_startup-clause-stays : goal.returns-in_err-push_startup-clause-stays
returns-in_err-push_startup-clause-stays g c = record { store = refl; metadata = λ short. short; registration = goes_on_after _ _ _ c.in_ok-narrow.ensures.registration }

pub returns-clause-stays : goal.returns-clause-stays
returns-clause-stays g c = record {
  store = refl;
  metadata = λ before. subst (λ metadata. AllByRecursion IsShortPair (fin.entries metadata)) (sym c.in_ok-metadata.ensures)
      (metadata_short c.requires.0 c.args.message c.requires.1);
  registration = goes_on_after _ _ _ c.in_ok-narrow.ensures.registration;
}
