use Rattle.std.proofs.Common.{◌≡◌, ◌++◌, [], ◌∷◌, drop, sym, ap, subst, rules}
use Rattle.pg_client.specs.declared.desk.DeskCall.TheVariants as desk
use Rattle.pg_client.specs.Script.{first_or_no, IsScripted}
use Rattle.pg_client.proofs.Scripts.{scripted_used}
use Rattle.pg_client.proofs.desk.ScriptDeskCancelDesk.ask.Goals as goal

pub invariant_of-self-2 : goal.invariant_of-self-2
invariant_of-self-2 c =
    let script = c.self.inside.answers in let left = drop c.self.inside.taken script in
    let first : c.next_answer-yes.result ≡ first_or_no left = search rules in
    let used = scripted_used script left c.self.inside.calls.items (desk.Ask c.next_answer-yes.result) (ap (λ yes. yes ∷ []) first)
    c.self.invariant in
    let behind : drop c.behind_next-self-inside.result script ≡ drop 1 left = rw c.as_slice.ensures at c.behind_next-self-inside.ensures in
    subst (λ calls. IsScripted script (drop c.behind_next-self-inside.result script) calls) (sym c.in_ok-push.ensures.items)
    (subst (λ rest. IsScripted script rest (c.self.inside.calls.items ++ desk.Ask c.next_answer-yes.result ∷ [])) (sym behind) used)
