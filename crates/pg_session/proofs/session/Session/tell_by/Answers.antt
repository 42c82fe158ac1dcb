use Rattle.std.proofs.Common.{sym, subst}
use Rattle.std.specs.Arc.{arc_value}
use Rattle.pg_client.specs.State.{state_of}
use Rattle.pg_session.specs.Stored.{StoresAlike}
use Rattle.pg_session.proofs.Stores.{good_alike}
use Rattle.pg_session.proofs.session.Session.tell_by.Goals as goal

pub invariant_of-self : goal.invariant_of-self
invariant_of-self g c = λ is_open.
    let told = g.H.PgWireServerHandlers.told in
    let one = (told (arc_value c.self.inside.handlers)).extended.parser in
    let other = (told (arc_value c.args.handlers)).extended.parser in
    good_alike one other (subst (λ s. StoresAlike (told s.handlers).extended.parser other) (sym c.self.view_is) c.requires.alike)
    (state_of g.St.PortalStore.maps c.self.inside.client) (c.self.invariant is_open)
