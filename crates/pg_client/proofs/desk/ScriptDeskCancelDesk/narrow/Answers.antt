use Rattle.std.proofs.Common.{drop, sym, subst, refl}
use Rattle.pg_client.specs.declared.desk.DeskCall.TheVariants as desk
use Rattle.pg_client.specs.Script.{IsScripted}
use Rattle.pg_client.proofs.Scripts.{scripted_kept}
use Rattle.pg_client.proofs.desk.ScriptDeskCancelDesk.narrow.Goals as goal

pub invariant_of-self-2 : goal.invariant_of-self-2
invariant_of-self-2 c =
    let script = c.self.inside.answers in let left = drop c.self.inside.taken script in
    subst (λ calls. IsScripted script left calls) (sym c.in_ok-push.ensures.items)
    (scripted_kept script left c.self.inside.calls.items desk.Narrow refl c.self.invariant)
