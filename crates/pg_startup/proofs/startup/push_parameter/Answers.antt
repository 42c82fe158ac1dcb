use Rattle.std.proofs.Common.{◌++◌, List, ℕ, ap, ◌∙◌}
use Rattle.std.proofs.lemmas.Result.{on_ok_weaker}
use Rattle.pg_startup.proofs.Parameters.{status_appended}
use Rattle.pg_startup.proofs.startup.push_parameter.Goals as goal

pub returns : goal.returns
returns c =
    let named = c.in_ok-push_bytes-2.ensures.ok ∙ ap (λ (l : List ℕ). c.push_bytes.new.self ++ l) c.as_bytes.ensures.value in
    let told = c.in_ok-push_bytes-4.ensures.ok ∙ ap (λ (l : List ℕ). c.push_bytes-3.new.self ++ l) c.as_bytes-2.ensures.value in
    on_ok_weaker c.push_bytes-5.result (λ last. status_appended c.args.name.now c.args.value.now c.args.outbox.now _ _ _ _ _ _
    c.status_head.ensures c.in_ok-push_bytes.ensures.ok named c.in_ok-push_bytes-3.ensures.ok told last) c.push_bytes-5.ensures.ok
