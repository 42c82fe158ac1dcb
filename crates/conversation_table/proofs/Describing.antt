-- Describe of an empty statement, and of an empty portal.
use Rattle.std.proofs.Common.{◌≡◌, ℕ, List, ◌++◌, true, false, Some, refl, ap, ◌∙◌}
use Rattle.std.specs.FinMap as fin
use Rattle.pg_messages.specs.declared.extendedquery.Describe.{Describe}
use Rattle.pg_messages.specs.Replies.{replies_bytes}
use Rattle.pg_messages.specs.Frames.{statement_target, portal_target}
use Rattle.pg_portal.specs.declared.store.Entry.TheVariants as entry
use Rattle.pg_results.specs.Describing.{Described, no_data}
use Rattle.pg_client.specs.Effect.{IsEffect, Done}
use Rattle.pg_replies.specs.Descriptions.{description}
use Rattle.conversation_table.specs.ExtendedRows.{on_describe}
use Rattle.conversation_table.specs.Handlers.{ExtendedTold}
use Rattle.pg_client.specs.State.{State}

pub empty_described : {S : Type 0} (h : ExtendedTold S) (s : State S) (m : Describe) (out new_out : List ℕ) (d : Described)
    → m.target_type ≡ statement_target
    → fin.get s.statements m.name ≡ Some entry.Empty → d ≡ no_data true → new_out ≡ out ++ replies_bytes (description d)
    → IsEffect (on_describe h s m) out new_out (Done s)
empty_described h s m out new_out d i j k e = rw (i, j)
    (record { replied = e ∙ ap (λ x. out ++ replies_bytes (description x)) k; came = refl })

pub empty_portal_described : {S : Type 0} (h : ExtendedTold S) (s : State S) (m : Describe) (out new_out : List ℕ) (d : Described)
    → m.target_type ≡ portal_target
    → fin.get s.portals m.name ≡ Some entry.Empty → d ≡ no_data false → new_out ≡ out ++ replies_bytes (description d)
    → IsEffect (on_describe h s m) out new_out (Done s)
empty_portal_described h s m out new_out d i j k e = rw (i, j)
    (record { replied = e ∙ ap (λ x. out ++ replies_bytes (description x)) k; came = refl })
