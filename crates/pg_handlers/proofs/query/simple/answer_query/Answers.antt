use Rattle.std.proofs.Common.{◌≡◌, ◌++◌, ◌∷◌, [], ℕ, ◌⊎◌, inl, inr, true, false, List, Option, None, Some, Err, refl, ap, sym, ◌∙◌}
use Rattle.std.proofs.lemmas.Result.{err_from_is_err_and}
use Rattle.pg_messages.specs.Replies.{replies_bytes}
use Rattle.pg_results.specs.declared.client.PgWireConnectionState.TheVariants as phase
use Rattle.pg_results.specs.declared.error.PgWireError.{PgWireError}
use Rattle.pg_results.specs.declared.error.PgWireError.TheVariants as wire
use Rattle.pg_results.specs.Responses.{told_responses}
use Rattle.pg_handlers.specs.declared.query.respond.Behind.{Behind}
use Rattle.pg_client.specs.Effect.{Done, IsEffect, IsRefusedEffect}
use Rattle.pg_replies.specs.Replies.{ready}
use Rattle.pg_replies.specs.ResponseRows.{Sent}
use Rattle.pg_handlers.specs.Sending.{behind}
use Rattle.conversation_table.specs.SimpleRows.{answered, responded_all}
use Rattle.pg_client.specs.State.{State, in_phase, state_of, with_status}
use Rattle.pg_replies.proofs.Sent.{kept_as, kept_in_front, kept_through, sent_behind}
use Rattle.pg_handlers.proofs.query.simple.answer_query.Goals as goal

module _ {S : Type 0} (s : State S) (sent : Sent) (refusal : Option PgWireError) (out : List ℕ) where
  -- an error in the place of a row or of data
  cut_off : (new : List ℕ) (e : PgWireError)
      → (e ≡ wire.NoMemory) ⊎ ((refusal ≡ Some e) × (new ≡ out ++ replies_bytes sent.replies))
      → IsRefusedEffect (answered s sent refusal) out new s e
  cut_off new e (inl none) = inl none
  cut_off new e (inr x) = inr (rw x.0 (record { replied = x.1; came = refl }))

  module _ (left : Behind) (is : left ≡ behind sent) (new : List ℕ) (whole : refusal ≡ None) where
    -- a COPY has begun
    copy_begun : new ≡ out ++ replies_bytes sent.replies → left.copying ≡ true
        → IsEffect (answered s sent refusal) out new (Done (in_phase s (phase.CopyInProgress false)))
    copy_begun came copying =
        let begun : sent.copying ≡ true = ap (λ (b : Behind). b.copying) (sym is) ∙ copying in
        rw (whole, begun) (record { replied = came; came = refl })

    -- none has
    ready_again : (mid : List ℕ) → mid ≡ out ++ replies_bytes sent.replies → left.copying ≡ false
        → new ≡ mid ++ replies_bytes (ready left.status ∷ [])
        → IsEffect (answered s sent refusal) out new (Done (with_status s left.status))
    ready_again mid came copying last =
        let none : sent.copying ≡ false = ap (λ (b : Behind). b.copying) (sym is) ∙ copying in
        let status : sent.status ≡ left.status = ap (λ (b : Behind). b.status) (sym is) in
        rw (whole, none, status) (record {
          replied = sent_behind out mid new sent.replies (ready left.status ∷ []) came last;
          came = refl;
        })

pub returns-in_err-left : goal.returns-in_err-left
returns-in_err-left g c =
    let s = state_of g.St.PortalStore.maps c.args.client.now in
    let responses = told_responses g.R.RowSource.items g.C.CopySource.items c.args.responses in
    let sent = responded_all s.info.status responses in
    let e = c.in_err-left.ensures in
    let u = err_from_is_err_and c.from_residual.result c.from_residual.ensures.1 in
    let is = u.1 ∙ ap Err u.2 in
    record {
      ok = rw is tt;
      refused = rw is (cut_off s sent sent.refusal c.args.client.now.outbox c.send_responses.new.outbox c.in_err-left.field-0.0 e.sent);
      answerable = rw is e.answerable;
      kept = record { info = rw is refl; kept = e.kept; store = refl; metadata = refl };
    }

pub returns-then-left : goal.returns-then-left
returns-then-left g c =
    let s = state_of g.St.PortalStore.maps c.args.client.now in
    let responses = told_responses g.R.RowSource.items g.C.CopySource.items c.args.responses in
    let sent = responded_all s.info.status responses in
    let e = c.in_ok-left.ensures in
    record {
      ok = copy_begun s sent sent.refusal c.args.client.now.outbox c.in_ok-left.left e.left c.send_responses.new.outbox e.sent.0 e.sent.1
          c.if-left.true;
      refused = tt;
      answerable = tt;
      kept = record { info = tt; kept = e.kept; store = refl; metadata = refl };
    }

pub returns-in_err-send_ready_for_query : goal.returns-in_err-send_ready_for_query
returns-in_err-send_ready_for_query g c =
    let out = c.args.client.now.outbox in let mid = c.send_responses.new.outbox in let new = c.send_ready_for_query.new.outbox in
    let r = c.from_residual-in_err-send_ready_for_query in
    let u = err_from_is_err_and r.result r.ensures.1 in
    let is = u.1 ∙ ap Err u.2 in
    record {
      ok = rw is tt;
      refused = rw is (inl refl);
      answerable = rw is (inl refl);
      kept = record { info = rw is refl; kept = kept_through out mid new c.in_ok-left.ensures.kept (kept_as mid new c.in_err-send_ready_for_query.ensures.err); store = refl; metadata = refl };
    }

pub returns : goal.returns
returns g c =
    let s = state_of g.St.PortalStore.maps c.args.client.now in
    let responses = told_responses g.R.RowSource.items g.C.CopySource.items c.args.responses in
    let sent = responded_all s.info.status responses in
    let out = c.args.client.now.outbox in let mid = c.send_responses.new.outbox in let new = c.send_ready_for_query.new.outbox in
    let e = c.in_ok-left.ensures in let last = c.in_ok-send_ready_for_query.ensures.ok in
    record {
      ok = ready_again s sent sent.refusal out c.in_ok-left.left e.left new e.sent.0 mid e.sent.1 c.if-left.false last;
      refused = tt;
      answerable = tt;
      kept = record { info = tt; kept = kept_through out mid new e.kept (kept_in_front mid new (replies_bytes (ready c.in_ok-left.left.status ∷ [])) last); store = refl; metadata = refl };
    }
