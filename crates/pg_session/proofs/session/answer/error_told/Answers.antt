use Rattle.std.proofs.Common.{◌≡◌, ◌++◌, ℕ, Bool, true, List, [], codes, IsTrue, refl, ap, sym, inl, inr, ◌∙◌, append-nil}
use Rattle.std.specs.Prelude.{◌↔◌}
use Rattle.std.proofs.lemmas.Result.{err_from_is_err_and}
use Rattle.std.proofs.lemmas.Slice.Eq.{bytes_eq-Decides}
use Rattle.pg_messages.specs.declared.response.ErrorInfo.{ErrorInfo}
use Rattle.pg_messages.specs.Replies.{replies_bytes, reply_bytes}
use Rattle.pg_client.specs.Answer.{Ends}
use Rattle.pg_client.specs.Effect.{Scope, failed}
use Rattle.pg_client.specs.Errors.{is_fatal}
use Rattle.pg_replies.specs.Replies.{error_reply}
use Rattle.pg_client.specs.State.{State}
use Rattle.pg_client.specs.declared.ends.EndKind.TheVariants as end
use Rattle.conversation_runs.specs.Messages.{scope_for}
use Rattle.pg_results.specs.Errors.{info_of}
use Rattle.pg_client.specs.State.{state_of}
use Rattle.conversation_runs.proofs.ToldErrors.{told_ready, told_waiting, next_waiting, next_ready}
use Rattle.pg_session.proofs.session.answer.error_told.Goals as goal

-- ---- an error whose severity is FATAL

is_fatal_so : (info : ErrorInfo) (b : Bool) → (IsTrue b ↔ (info.severity ≡ codes "FATAL")) → b ≡ true → is_fatal info ≡ true
is_fatal_so info b told on = (bytes_eq-Decides info.severity (codes "FATAL")).1 (told.0 on)

fatal_told : {S : Type 0} (scope : Scope) (s : State S) (info : ErrorInfo) (out new : List ℕ) → is_fatal info ≡ true
    → new ≡ out ++ reply_bytes (error_reply info) → new ≡ out ++ replies_bytes (failed scope [] [] s info).replies
fatal_told scope s info out new fatal pushed =
    rw fatal (pushed ∙ ap (λ l. out ++ l) (sym (append-nil (reply_bytes (error_reply info)))))

fatal_ends : {S : Type 0} (scope : Scope) (s : State S) (info : ErrorInfo) → is_fatal info ≡ true
    → (failed scope [] [] s info).next ≡ Ends end.Fatal
fatal_ends scope s info fatal = rw fatal refl

pub returns-then-branch-clause-replied : goal.returns-then-branch-clause-replied
returns-then-branch-clause-replied g c =
    let old = c.args.client.now in
    let told = info_of c.args.error in
    fatal_told (scope_for c.args.wait_for_sync) (state_of g.St.PortalStore.maps old) told old.outbox c.tell_error.new.outbox
    (is_fatal_so told _ c.in_ok-tell_error.ensures.fatal c.if-branch.true) c.in_ok-tell_error.ensures.replied

pub returns-then-branch-clause-next : goal.returns-then-branch-clause-next
returns-then-branch-clause-next g c =
    let told = info_of c.args.error in
    fatal_ends (scope_for c.args.wait_for_sync) (state_of g.St.PortalStore.maps c.args.client.now) told
    (is_fatal_so told _ c.in_ok-tell_error.ensures.fatal c.if-branch.true)

pub returns-then-branch-clause-ends : goal.returns-then-branch-clause-ends
returns-then-branch-clause-ends g c = inr refl

-- ---- where memory runs out

pub returns-in_err-tell_error-clause-replied : goal.returns-in_err-tell_error-clause-replied
returns-in_err-tell_error-clause-replied g c =
    let p = err_from_is_err_and c.from_residual.result c.from_residual.ensures.1 in rw p.1 tt

pub returns-in_err-tell_error-clause-next : goal.returns-in_err-tell_error-clause-next
returns-in_err-tell_error-clause-next g c =
    let p = err_from_is_err_and c.from_residual.result c.from_residual.ensures.1 in rw p.1 tt

pub returns-in_err-tell_error-clause-ends : goal.returns-in_err-tell_error-clause-ends
returns-in_err-tell_error-clause-ends g c =
    let p = err_from_is_err_and c.from_residual.result c.from_residual.ensures.1 in rw p.1 tt

pub returns-in_err-send_ready_for_query-clause-replied : goal.returns-in_err-send_ready_for_query-clause-replied
returns-in_err-send_ready_for_query-clause-replied g c =
    let r = c.from_residual-in_err-send_ready_for_query in
    let p = err_from_is_err_and r.result r.ensures.1 in rw p.1 tt

pub returns-in_err-send_ready_for_query-clause-next : goal.returns-in_err-send_ready_for_query-clause-next
returns-in_err-send_ready_for_query-clause-next g c =
    let r = c.from_residual-in_err-send_ready_for_query in
    let p = err_from_is_err_and r.result r.ensures.1 in rw p.1 tt

pub returns-in_err-send_ready_for_query-clause-ends : goal.returns-in_err-send_ready_for_query-clause-ends
returns-in_err-send_ready_for_query-clause-ends g c =
    let r = c.from_residual-in_err-send_ready_for_query in
    let p = err_from_is_err_and r.result r.ensures.1 in rw p.1 tt

-- ---- an error that isn't fatal

pub returns-then-wait_for_sync-clause-ends : goal.returns-then-wait_for_sync-clause-ends
returns-then-wait_for_sync-clause-ends g c = inl refl

pub returns-clause-ends : goal.returns-clause-ends
returns-clause-ends g c = inl refl

pub returns-clause-replied : goal.returns-clause-replied
returns-clause-replied g c =
    let old = c.args.client.now in
    let told = info_of c.args.error in
    told_ready c.args.wait_for_sync (state_of g.St.PortalStore.maps old) told told
    c.to_error_state-status.result old.outbox c.tell_error.new.outbox c.send_ready_for_query.new.outbox _ refl
    c.in_ok-tell_error.ensures.fatal c.if-branch.false c.if-wait_for_sync.false c.to_error_state-status.ensures.meant
    c.in_ok-tell_error.ensures.replied c.in_ok-send_ready_for_query.ensures.ok

pub returns-then-wait_for_sync-clause-replied : goal.returns-then-wait_for_sync-clause-replied
returns-then-wait_for_sync-clause-replied g c =
    let old = c.args.client.now in
    let told = info_of c.args.error in
    told_waiting c.args.wait_for_sync (state_of g.St.PortalStore.maps old) told told
    c.to_error_state-status.result _ refl c.in_ok-tell_error.ensures.fatal
    c.if-branch.false old.outbox c.tell_error.new.outbox c.if-wait_for_sync.true c.in_ok-tell_error.ensures.replied

pub returns-then-wait_for_sync-clause-next : goal.returns-then-wait_for_sync-clause-next
returns-then-wait_for_sync-clause-next g c =
    let told = info_of c.args.error in
    next_waiting c.args.wait_for_sync (state_of g.St.PortalStore.maps c.args.client.now) told told c.to_error_state-status.result
    _ refl c.in_ok-tell_error.ensures.fatal c.if-branch.false c.if-wait_for_sync.true c.to_error_state-status.ensures.meant

pub returns-clause-next : goal.returns-clause-next
returns-clause-next g c =
    let told = info_of c.args.error in
    next_ready c.args.wait_for_sync (state_of g.St.PortalStore.maps c.args.client.now) told told c.to_error_state-status.result
    _ refl c.in_ok-tell_error.ensures.fatal c.if-branch.false c.if-wait_for_sync.false c.to_error_state-status.ensures.meant
