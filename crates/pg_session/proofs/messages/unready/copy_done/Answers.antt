use Rattle.pg_client.specs.State.{State, state_of}
use Rattle.conversation_table.proofs.GoodStores.{good_parts}
use Rattle.std.proofs.Common.{◌≡◌, ◌++◌, ◌∙◌, ⊎_elim, ℕ, List, [], Bool, Option, Some, None, ap, sym, subst, inl}
use Rattle.std.proofs.Common.{append-nil, append_assoc}
use Rattle.std.proofs.lemmas.Result.{err_from_is_err_and}
use Rattle.pg_messages.specs.Replies.{replies_bytes}
use Rattle.pg_replies.specs.Replies.{Replies}
use Rattle.pg_results.specs.declared.error.PgWireError.{PgWireError}
use Rattle.pg_client.specs.Effect.{Effect, Done, IsEffect, IsRefusedEffect, says}
use Rattle.conversation_table.specs.CopyRows.{copied, stepped}
use Rattle.conversation_runs.proofs.ReplyBytes.{replies_bytes-append}
use Rattle.pg_session.proofs.messages.unready.copy_done.Goals as goal

-- the replies of both
two_replied : (out mid new : List ℕ) (a b : Replies) → mid ≡ out ++ replies_bytes (a ++ []) → new ≡ mid ++ replies_bytes b
    → new ≡ out ++ replies_bytes (a ++ b)
two_replied out mid new a b first last =
    let first_is : mid ≡ out ++ replies_bytes a = first ∙ ap (λ r. out ++ replies_bytes r) (append-nil a) in
    last ∙ ap (λ w. w ++ replies_bytes b) first_is ∙ append_assoc out (replies_bytes a) (replies_bytes b)
    ∙ ap (λ w. out ++ w) (sym (replies_bytes-append a b))

-- what the handler refuses is the same, whatever would follow
step_refused : {S : Type 0} (s t : State S) (replies : Replies) (refusal : Option PgWireError) (others : Effect S)
    (out new : List ℕ) (e : PgWireError) → IsRefusedEffect (stepped s replies refusal (says [] s)) out new t e
    → IsRefusedEffect (stepped s replies refusal others) out new t e
step_refused s t replies None others out new e x = ⊎_elim (λ none. inl none) (λ told. absurd (let k = told.came in cc)) x
step_refused s t replies (Some w) others out new e x = x

-- where it doesn't refuse, the end of the COPY follows
step_done : {S : Type 0} (s t u : State S) (replies : Replies) (refusal : Option PgWireError) (is_extended : Bool)
    (out mid new : List ℕ) → IsEffect (stepped s replies refusal (says [] s)) out mid (Done t)
    → IsEffect (copied is_extended t) mid new (Done u)
    → IsEffect (stepped s replies refusal (copied is_extended s)) out new (Done u)
step_done s t u replies None is_extended out mid new first last =
    let same : t ≡ s = let k = first.came in cc in
    let others = (copied is_extended s).replies in
    let behind = subst (λ v. IsEffect (copied is_extended v) mid new (Done u)) same last in
    record { replied = two_replied out mid new replies others first.replied behind.replied; came = behind.came }
step_done s t u replies (Some w) is_extended out mid new first last = absurd (let k = first.came in cc)

pub returns-in_err-end_copy-clause-good : goal.returns-in_err-end_copy-clause-good
returns-in_err-end_copy-clause-good g c =
    let s = state_of g.St.PortalStore.maps c.args.client.now in
    let n = state_of g.St.PortalStore.maps c.end_copy.new.client in
    let first = c.in_ok-on_copy_done.ensures in
    let behind = c.in_err-end_copy.ensures in
    good_parts (g.H.PgWireServerHandlers.told c.args.handlers.now).extended.parser s n.info n.statements n.portals
    (behind.metadata ∙ ap (λ i. i.metadata) first.info) (ap (λ st. (g.St.PortalStore.maps st).statements) behind.store
    ∙ ap (λ m. m.statements) first.store) (ap (λ st. (g.St.PortalStore.maps st).portals) behind.store
    ∙ ap (λ m. m.portals) first.store) c.requires.good

pub returns-clause-good : goal.returns-clause-good
returns-clause-good g c =
    let s = state_of g.St.PortalStore.maps c.args.client.now in
    let n = state_of g.St.PortalStore.maps c.end_copy.new.client in
    let first = c.in_ok-on_copy_done.ensures in
    let behind = c.in_ok-end_copy.ensures in
    good_parts (g.H.PgWireServerHandlers.told c.args.handlers.now).extended.parser s n.info n.statements n.portals
    (behind.metadata ∙ ap (λ i. i.metadata) first.info) (ap (λ st. (g.St.PortalStore.maps st).statements) behind.store
    ∙ ap (λ m. m.statements) first.store) (ap (λ st. (g.St.PortalStore.maps st).portals) behind.store
    ∙ ap (λ m. m.portals) first.store) c.requires.good

pub returns-in_err-on_copy_done-clause-ok : goal.returns-in_err-on_copy_done-clause-ok
returns-in_err-on_copy_done-clause-ok g c = rw (err_from_is_err_and c.from_residual.result c.from_residual.ensures.1).1 tt

pub returns-in_err-on_copy_done-clause-answerable : goal.returns-in_err-on_copy_done-clause-answerable
returns-in_err-on_copy_done-clause-answerable g c =
    let p = err_from_is_err_and c.from_residual.result c.from_residual.ensures.1 in
    rw (p.1, p.2) c.in_err-on_copy_done.ensures.answerable

pub returns-in_err-on_copy_done-clause-refused : goal.returns-in_err-on_copy_done-clause-refused
returns-in_err-on_copy_done-clause-refused g c =
    let p = err_from_is_err_and c.from_residual.result c.from_residual.ensures.1 in
    let s = state_of g.St.PortalStore.maps c.args.client.now in
    let step = (g.H.Copying.CopyHandler.told c.copy_handler.result.now).on_done s.info in
    let mid = c.on_copy_done.new.client in
    rw (p.1, p.2) (rw (← c.copy_handler.ensures) (step_refused s (state_of g.St.PortalStore.maps mid) step.replies step.refusal
    (copied c.args.is_extended s) c.args.client.now.outbox mid.outbox _ c.in_err-on_copy_done.ensures.refused))

pub returns-in_err-on_copy_done-clause-good : goal.returns-in_err-on_copy_done-clause-good
returns-in_err-on_copy_done-clause-good g c =
    let s = state_of g.St.PortalStore.maps c.args.client.now in
    let n = state_of g.St.PortalStore.maps c.on_copy_done.new.client in
    let told = c.in_err-on_copy_done.ensures in
    good_parts (g.H.PgWireServerHandlers.told c.args.handlers.now).extended.parser s n.info n.statements n.portals
    (ap (λ i. i.metadata) told.info) (ap (λ m. m.statements) told.store) (ap (λ m. m.portals) told.store) c.requires.good

pub returns-in_err-end_copy-clause-ok : goal.returns-in_err-end_copy-clause-ok
returns-in_err-end_copy-clause-ok g c =
    let from = c.from_residual-in_err-end_copy in
    rw (err_from_is_err_and from.result from.ensures.1).1 tt

pub returns-in_err-end_copy-clause-refused : goal.returns-in_err-end_copy-clause-refused
returns-in_err-end_copy-clause-refused g c =
    let from = c.from_residual-in_err-end_copy in
    let p = err_from_is_err_and from.result from.ensures.1 in
    rw p.1 (inl p.2)

pub returns-in_err-end_copy-clause-answerable : goal.returns-in_err-end_copy-clause-answerable
returns-in_err-end_copy-clause-answerable g c =
    let from = c.from_residual-in_err-end_copy in
    let p = err_from_is_err_and from.result from.ensures.1 in
    rw p.1 (inl p.2)

pub returns-clause-ok : goal.returns-clause-ok
returns-clause-ok g c =
    let s = state_of g.St.PortalStore.maps c.args.client.now in
    let step = (g.H.Copying.CopyHandler.told c.copy_handler.result.now).on_done s.info in
    let mid = c.on_copy_done.new.client in
    let last = c.end_copy.new.client in
    rw (← c.copy_handler.ensures) (step_done s (state_of g.St.PortalStore.maps mid) (state_of g.St.PortalStore.maps last)
    step.replies step.refusal c.args.is_extended c.args.client.now.outbox mid.outbox last.outbox c.in_ok-on_copy_done.ensures.ok
    c.in_ok-end_copy.ensures.ok)

pub returns-clause-refused : goal.returns-clause-refused
returns-clause-refused g c = tt

pub returns-clause-answerable : goal.returns-clause-answerable
returns-clause-answerable g c = tt

pub on_copy_done-requires-clause-given : goal.on_copy_done-requires-clause-given
on_copy_done-requires-clause-given g c = c.requires.given

pub on_copy_done-requires-clause-short_metadata : goal.on_copy_done-requires-clause-short_metadata
on_copy_done-requires-clause-short_metadata g c = c.requires.good.metadata
