-- What a client is told of an error after which the server is ready.
use Rattle.std.proofs.Common.{◌≡◌, ℕ, Bool, true, false, List, [], ◌∷◌, ◌++◌, IsTrue, codes, refl, ap, sym, subst, ◌∙◌, append_assoc, append-nil}
use Rattle.std.specs.Prelude.{◌↔◌, bytes_eq}
use Rattle.std.proofs.lemmas.Slice.Eq.{bytes_eq-Decides}
use Rattle.pg_messages.specs.declared.response.ErrorInfo.{ErrorInfo}
use Rattle.pg_messages.specs.declared.response.TransactionStatus.{TransactionStatus}
use Rattle.pg_messages.specs.Replies.{replies_bytes, reply_bytes}
use Rattle.pg_messages.specs.Status.{to_error_state}
use Rattle.pg_results.specs.declared.client.PgWireConnectionState.TheVariants as phase
use Rattle.pg_client.specs.Answer.{Goes}
use Rattle.pg_client.specs.Errors.{is_fatal}
use Rattle.pg_replies.specs.Replies.{error_reply, ready}
use Rattle.pg_client.specs.Effect.{failed}
use Rattle.pg_client.specs.State.{State}
use Rattle.conversation_runs.specs.Messages.{scope_for}

-- a severity that isn't FATAL
not_fatal : (info : ErrorInfo) (b : Bool) → (IsTrue b ↔ (info.severity ≡ codes "FATAL")) → b ≡ false → is_fatal info ≡ false
not_fatal info b told off = by_test (bytes_eq info.severity (codes "FATAL")) refl
  where
    by_test : (t : Bool) → is_fatal info ≡ t → is_fatal info ≡ false
    by_test false e = e
    by_test true e = let wrong : IsTrue false = subst IsTrue off (told.1 (same e)) in cc
      where
        same : bytes_eq info.severity (codes "FATAL") ≡ true → info.severity ≡ codes "FATAL"
        same e = (bytes_eq-Decides info.severity (codes "FATAL")).0 e

pub told_ready : {S : Type 0} (w : Bool) (s : State S) (told info : ErrorInfo) (status : TransactionStatus) (out mid final : List ℕ)
    (b : Bool) → info ≡ told
    → (IsTrue b ↔ (info.severity ≡ codes "FATAL")) → b ≡ false → w ≡ false → status ≡ to_error_state s.info.status
    → mid ≡ out ++ reply_bytes (error_reply info) → final ≡ mid ++ replies_bytes (ready status ∷ [])
    → final ≡ out ++ replies_bytes (failed (scope_for w) [] [] s told).replies
told_ready w s told info status out mid final b is fatal off waits meant pushed sent =
    let plain = not_fatal told b (subst (λ i. IsTrue b ↔ (i.severity ≡ codes "FATAL")) is fatal) off in
    rw (waits, plain) (sent ∙ ap (λ m. m ++ replies_bytes (ready status ∷ [])) pushed
    ∙ append_assoc out (reply_bytes (error_reply info)) (replies_bytes (ready status ∷ []))
    ∙ ap (λ i. out ++ (reply_bytes (error_reply i) ++ replies_bytes (ready status ∷ []))) is
    ∙ ap (λ t. out ++ (reply_bytes (error_reply told) ++ replies_bytes (ready t ∷ []))) meant)

-- ---- an error after which messages are dropped until Sync

module _ {S : Type 0} (w : Bool) (s : State S) (told info : ErrorInfo) (status : TransactionStatus) (b : Bool) (is : info ≡ told)
    (fatal : IsTrue b ↔ (info.severity ≡ codes "FATAL")) (off : b ≡ false) where
  plain : is_fatal told ≡ false
  plain = not_fatal told b (subst (λ i. IsTrue b ↔ (i.severity ≡ codes "FATAL")) is fatal) off

  pub told_waiting : (out mid : List ℕ) → w ≡ true → mid ≡ out ++ reply_bytes (error_reply info)
      → mid ≡ out ++ replies_bytes (failed (scope_for w) [] [] s told).replies
  told_waiting out mid waits pushed =
      rw (waits, plain) (pushed ∙ ap (λ i. out ++ reply_bytes (error_reply i)) is
      ∙ ap (λ l. out ++ l) (sym (append-nil (reply_bytes (error_reply told)))))

  pub next_waiting : w ≡ true → status ≡ to_error_state s.info.status
      → (failed (scope_for w) [] [] s told).next
      ≡ Goes (record s { info = record s.info { status = status; state = phase.AwaitingSync } })
  next_waiting waits meant =
      rw (waits, plain) (ap (λ t. Goes (record s { info = record s.info { status = t; state = phase.AwaitingSync } })) (sym meant))

  pub next_ready : w ≡ false → status ≡ to_error_state s.info.status
      → (failed (scope_for w) [] [] s told).next
      ≡ Goes (record s { info = record s.info { status = status; state = phase.ReadyForQuery } })
  next_ready waits meant =
      rw (waits, plain) (ap (λ t. Goes (record s { info = record s.info { status = t; state = phase.ReadyForQuery } })) (sym meant))
