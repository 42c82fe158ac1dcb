use Rattle.std.proofs.Common.{refl}
use Rattle.relation_server.proofs.Registering.{not_registered, shown}
use Rattle.relation_server.proofs.demo.show_demo.Goals as goal

pub returns-in-Err-clause-shown : goal.returns-in-Err-clause-shown
returns-in-Err-clause-shown g c =
    λ file client faults reads read_faults.
    not_registered c.args.manager.now c.args.load c.in-Err.outcome _ _ c.in-Err.ensures.refused (refl, refl, refl)

pub returns-clause-shown : goal.returns-clause-shown
returns-clause-shown g c =
    λ file client faults reads read_faults.
    let h = c.in-Ok-register_client.handle in
    let told = c.in-Ok-register_client.ensures in
    shown c.args.manager.now c.args.load h h.number c.in-Ok.relations c.in-Ok.client c.serve_demo.result.0 c.serve_demo.result.1 _ _
    c.in-Ok.ensures.table c.in-Ok.ensures.client told.handle told.registered c.serve_demo.ensures.counted
