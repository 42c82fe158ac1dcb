use Rattle.pg_results.specs.declared.error.PgWireError.TheVariants as wire
use Rattle.pg_results.specs.Errors.{info_of}
use Rattle.relation_laws.proofs.Runs.{talk_is, stays_served, served_code, never_early, never_unstarted}
use Rattle.relation_laws.proofs.laws.served_states_are_kept.Goals as goal

pub returns-clause-served : goal.returns-clause-served
returns-clause-served c relations registration answers messages s e =
    stays_served relations registration.0 registration.1 answers messages s e

pub returns-clause-told : goal.returns-clause-told
returns-clause-told c relations registration answers messages info at =
    served_code info ((talk_is relations registration.0 registration.1 answers messages).0 info at)

pub returns-clause-too_early : goal.returns-clause-too_early
returns-clause-too_early c relations registration answers messages at =
    never_early ((talk_is relations registration.0 registration.1 answers messages).0 (info_of wire.NotReadyForQuery) at)

pub returns-clause-not_started : goal.returns-clause-not_started
returns-clause-not_started c relations registration answers messages at =
    never_unstarted ((talk_is relations registration.0 registration.1 answers messages).0 (info_of wire.PortalNotStarted) at)
