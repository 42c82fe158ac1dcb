use Rattle.std.proofs.Common.{subst}
use Rattle.moving_session.specs.Moved.{MayHaveMet}
use Rattle.moving_session.proofs.Responses.{unmet_response}
use Rattle.moving_session.proofs.behind.SheetSessionMetSession.answer.Goals as goal

pub returns-in-Err : goal.returns-in-Err
returns-in-Err g c =
    let meets = g.M.MovingHandlers.meets in
    let world = g.M.MovingHandlers.world in
    let m = c.args.message in
    let old = c.args.self.now in
    let new = c.tell_met.new.session in
    let v = world c.tell_met.new.handlers in
    let may = subst (λ s. MayHaveMet meets (world s.handlers) s.state m v) c.self.view_is c.in-Err.ensures.err in
    unmet_response g.M.Sheet.PgWireServerHandlers.told meets m (g.D.CancelDesk.told c.args.desk.now) c.args.turns.now (world old.handlers) v
    old.state new.state old.unsent new.unsent old.is_open new.is_open c.unmet.result c.unmet.ensures may
