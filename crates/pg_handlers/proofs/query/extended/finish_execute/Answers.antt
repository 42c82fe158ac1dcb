use Rattle.std.proofs.Common.{◌≡◌, ◌∷◌, [], sym}
use Rattle.pg_client.specs.declared.desk.DeskCall.TheVariants as call
use Rattle.pg_client.specs.Desk.{DeskTold, after_calls}
use Rattle.conversation_table.proofs.Starting.{unstarted_under}
use Rattle.pg_handlers.proofs.Beginning.{run_executed}
use Rattle.pg_handlers.proofs.query.extended.finish_execute.Goals as goal

pub finish_unstarted-requires-clause-portal : goal.finish_unstarted-requires-clause-portal
finish_unstarted-requires-clause-portal g c =
    let w = c.requires.unready in
    unstarted_under (g.St.PortalStore.maps c.args.client.now.store) c.args.message.name w.portal w.found w.fresh

pub finish_unstarted-requires-clause-unspent : goal.finish_unstarted-requires-clause-unspent
finish_unstarted-requires-clause-unspent g c = c.requires.unready.unready.unspent

pub finish_unstarted-requires-clause-sendable : goal.finish_unstarted-requires-clause-sendable
finish_unstarted-requires-clause-sendable g c = c.requires.unready.sendable

pub returns : goal.returns
returns g c =
    let maps = g.St.PortalStore.maps in let told = g.D.CancelDesk.told in
    let h = g.H.ExtendedQueryHandler.told c.args.handler.now in let m = c.args.message in
    let w = c.requires.unready in let r = c.finish_unstarted in let e = r.ensures in
    let x = λ (first : DeskTold) (starts : told c.args.desk.now ≡ after_calls first (call.Start ∷ [])). run_executed h maps c.args.client.now r.new.client m w.portal w.found w.fresh c.requires.good _
    (sym w.unready.polled) first (told c.args.desk.now) (told r.new.desk) starts c.args.turns.now r.new.turns r.result e.ran e.errors
    e.kept e.good e.waited in
    record {
      ok = λ first starts. (x first starts).ok;
      refused = λ first starts. (x first starts).refused;
      errors = e.errors;
      kept = e.kept;
      good = e.good h.parser c.requires.good;
      waited = λ first starts.
          let y = x first starts in record { caused = y.caused; turns = y.spent; bounded = y.bounded; keeps = y.keeps };
    }
