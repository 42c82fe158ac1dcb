use Rattle.std.proofs.Common.{◌≢◌, ◌∙◌, ◌+◌, ℕ, Result, Ok, Err, arith, add-one, refl}
use Rattle.std.proofs.lemmas.Result.{err_from_is_err_and}
use Rattle.std.specs.Arc.{arc_value}
use Rattle.pg_cancel.proofs.Prefixes.{prefix_self, prefix_trans}
use Rattle.many_clients.specs.declared.accept_loop.ListenError.{ListenError}
use Rattle.many_clients.specs.declared.accept_loop.ListenError.TheVariants.{PidTaken}
use Rattle.many_clients.specs.Listening.{taking_of}
use Rattle.many_clients.proofs.Serving.{goes_on, none_yet, served}
use Rattle.many_clients.proofs.Taking.{exactly_refused, gives_up, none_registered, none_started, one_more, refused_never}
use Rattle.many_clients.proofs.accept_loop.listen_with.Goals as goal

no_refusal : (count m : ℕ) → ◌≢◌ {A = Result ℕ ListenError} (Ok count) (Err (PidTaken m))
no_refusal count m is = absurd (let k = is in cc)

pub connections-init : goal.connections-init
connections-init g c = record {
  below = omega arith;
  registered = none_registered c.args.door.now.seen;
  accepted = omega arith;
  started = omega arith;
  served = none_yet (g.M.JobMaker.makes (g.M.JobMaker.common c.args.maker.now)) (arc_value c.args.manager)
      (g.A.Acceptor.coming c.args.acceptor.now) (g.P.Spawner.taken c.args.spawner.now);
  falls = (omega arith, omega arith);
  seen = prefix_self c.args.door.now.seen;
  issued = refl;
}

pub connections-preserved : goal.connections-preserved
connections-preserved g c =
    let i = c.connections.invariant in
    let t = c.in_ok-take_in.ensures.taken in
    record {
      below = omega (arith, c.connections-test.true);
      registered = one_more c.args.door.now.seen c.connections.door.seen c.take_in.new.door.seen c.connections.pid (c.connections.pid + 1)
          (add-one c.connections.pid) i.registered t.1;
      accepted = omega (arith, t.0.0, i.accepted);
      started = omega (arith, t.0.1, i.started);
      served = goes_on (g.M.JobMaker.makes (g.M.JobMaker.common c.args.maker.now)) (arc_value c.args.manager)
          (g.A.Acceptor.coming c.args.acceptor.now)
          (g.A.Acceptor.coming c.connections.acceptor) (g.A.Acceptor.coming c.take_in.new.acceptor)
          (g.P.Spawner.taken c.args.spawner.now) (g.P.Spawner.taken c.connections.spawner) (g.P.Spawner.taken c.take_in.new.spawner)
          c.connections.pid (c.connections.pid + 1) refl i.served c.in_ok-take_in.ensures.job;
      falls = (
        omega (arith, i.falls.0, c.take_in.ensures.goes_on.never_falls.0),
        omega (arith, i.falls.1, c.take_in.ensures.goes_on.never_falls.1),
      );
      seen = prefix_trans c.args.door.now.seen c.connections.door.seen c.take_in.new.door.seen i.seen c.take_in.ensures.goes_on.door.0;
      issued = c.take_in.ensures.goes_on.door.1 ∙ i.issued;
    }

pub returns-in_err-take_in-clause-ended : goal.returns-in_err-take_in-clause-ended
returns-in_err-take_in-clause-ended g c =
    let p = err_from_is_err_and c.from_residual.result c.from_residual.ensures.1 in
    let i = c.connections.invariant in
    rw (p.1, p.2) (gives_up c.in_err-take_in.field-0.0 c.args.count
    (taking_of g.A.Acceptor.accepted g.A.Acceptor.faults g.P.Spawner.started g.P.Spawner.faults c.args.acceptor.now c.args.spawner.now)
    (taking_of g.A.Acceptor.accepted g.A.Acceptor.faults g.P.Spawner.started g.P.Spawner.faults c.connections.acceptor
    c.connections.spawner)
    (taking_of g.A.Acceptor.accepted g.A.Acceptor.faults g.P.Spawner.started g.P.Spawner.faults c.take_in.new.acceptor
    c.take_in.new.spawner)
    c.args.door.now.seen c.connections.door.seen c.take_in.new.door.seen c.connections.pid (c.connections.pid + 1) refl
    (omega (arith, c.connections-test.true, c.most_connections-most.ensures.count)) (i.accepted, i.started) i.registered i.falls
    c.take_in.ensures.goes_on.never_falls c.in_err-take_in.ensures.taken)

pub returns-in_err-take_in-clause-jobs : goal.returns-in_err-take_in-clause-jobs
returns-in_err-take_in-clause-jobs g c =
    let i = c.connections.invariant in
    let none = none_started c.in_err-take_in.field-0.0 (c.connections.pid + 1)
    (taking_of g.A.Acceptor.accepted g.A.Acceptor.faults g.P.Spawner.started g.P.Spawner.faults c.connections.acceptor
    c.connections.spawner)
    (taking_of g.A.Acceptor.accepted g.A.Acceptor.faults g.P.Spawner.started g.P.Spawner.faults c.take_in.new.acceptor
    c.take_in.new.spawner)
    c.connections.door.seen c.take_in.new.door.seen c.in_err-take_in.ensures.taken in (
      c.connections.pid,
      none ∙ i.started,
      served (g.M.JobMaker.makes (g.M.JobMaker.common c.args.maker.now)) (arc_value c.args.manager)
          (g.A.Acceptor.coming c.args.acceptor.now)
          (g.A.Acceptor.coming c.connections.acceptor)
          (g.P.Spawner.taken c.args.spawner.now) (g.P.Spawner.taken c.connections.spawner) (g.P.Spawner.taken c.take_in.new.spawner)
          c.connections.pid i.served c.in_err-take_in.ensures.untaken,
    )

pub returns-in_err-take_in-clause-exactly : goal.returns-in_err-take_in-clause-exactly
returns-in_err-take_in-clause-exactly g c m =
    exactly_refused m c.from_residual.result c.args.count
    (taking_of g.A.Acceptor.accepted g.A.Acceptor.faults g.P.Spawner.started g.P.Spawner.faults c.args.acceptor.now c.args.spawner.now)
    (taking_of g.A.Acceptor.accepted g.A.Acceptor.faults g.P.Spawner.started g.P.Spawner.faults c.take_in.new.acceptor
    c.take_in.new.spawner)
    c.args.door.now.seen c.take_in.new.door.seen (returns-in_err-take_in-clause-ended g c)

pub returns-in_err-take_in-clause-seen : goal.returns-in_err-take_in-clause-seen
returns-in_err-take_in-clause-seen g c =
    prefix_trans c.args.door.now.seen c.connections.door.seen c.take_in.new.door.seen c.connections.invariant.seen
    c.take_in.ensures.goes_on.door.0

pub returns-in_err-take_in-clause-issued : goal.returns-in_err-take_in-clause-issued
returns-in_err-take_in-clause-issued g c = c.take_in.ensures.goes_on.door.1 ∙ c.connections.invariant.issued

pub returns-in_err-take_in-clause-never_falls : goal.returns-in_err-take_in-clause-never_falls
returns-in_err-take_in-clause-never_falls g c =
    let i = c.connections.invariant in
    let t = c.take_in.ensures.goes_on.never_falls in
    (omega (arith, i.falls.0, t.0), omega (arith, i.falls.1, t.1))

pub returns-clause-jobs : goal.returns-clause-jobs
returns-clause-jobs g c =
    let i = c.connections.invariant in (
      c.connections.pid,
      i.started,
      served (g.M.JobMaker.makes (g.M.JobMaker.common c.args.maker.now)) (arc_value c.args.manager)
          (g.A.Acceptor.coming c.args.acceptor.now)
          (g.A.Acceptor.coming c.connections.acceptor)
          (g.P.Spawner.taken c.args.spawner.now) (g.P.Spawner.taken c.connections.spawner) (g.P.Spawner.taken c.connections.spawner)
          c.connections.pid i.served refl,
    )

pub returns-clause-exactly : goal.returns-clause-exactly
returns-clause-exactly g c m = (
  λ is. absurd (no_refusal _ m is),
  λ f. absurd (refused_never m c.connections.pid c.args.door.now.seen c.connections.door.seen c.connections.invariant.registered f),
)

pub returns-clause-seen : goal.returns-clause-seen
returns-clause-seen g c = c.connections.invariant.seen
