use Rattle.std.proofs.Common.{sym, subst}
use Rattle.conversation_table.specs.Good.{IsGoodState}
use Rattle.pg_session.proofs.Stores.{alike_back, good_alike}
use Rattle.moving_session.proofs.behind.tell_met.Goals as goal

pub meet-requires-clause-good : goal.meet-requires-clause-good
meet-requires-clause-good g c =
    let session = c.args.session.now in
    let parser = g.M.MovingHandlers.parser c.args.handlers.now in
    let under = (g.M.Sheet.PgWireServerHandlers.told session.handlers).extended.parser in
    subst (λ s. IsGoodState parser s) (sym c.client.ensures.state)
    (good_alike under parser (alike_back parser under c.requires.alike) session.state (c.client.ensures.good c.requires.«open»))
