use Rattle.std.proofs.Common.{◌≡◌, [], ◌∷◌, ◌++◌, subst, w32}
use Rattle.std.proofs.lemmas.Int.{to_z-of_z}
use Rattle.std.proofs.lemmas.Result.{on_ok_weaker}
use Rattle.pg_messages.specs.Replies.{replies_bytes}
use Rattle.pg_messages.specs.declared.backend.PgWireBackendMessage.TheVariants as server
use Rattle.pg_startup.proofs.Starting.{started}
use Rattle.pg_startup.proofs.startup.push_startup.Goals as goal

pub returns : goal.returns
returns c =
    let key = subst (λ pid. c.push_key.new.outbox ≡ c.push_parameter-4.new.outbox
    ++ replies_bytes (server.BackendKeyData (record { pid = pid; secret_key = c.args.key.now }) ∷ []))
    (to_z-of_z w32 c.args.pid c.ranges.pid) c.in_ok-push_key.ensures in
    on_ok_weaker c.send_ready_for_query.result (λ last. started c.args.pid c.args.key.now c.args.outbox.now c.push.new.self
    c.push_parameter.new.outbox c.push_parameter-2.new.outbox c.push_parameter-3.new.outbox c.push_parameter-4.new.outbox
    c.push_key.new.outbox c.send_ready_for_query.new.outbox
    c.in_ok-push.ensures.ok c.in_ok-push_parameter.ensures c.in_ok-push_parameter-2.ensures c.in_ok-push_parameter-3.ensures
    c.in_ok-push_parameter-4.ensures key last) c.send_ready_for_query.ensures.ok
