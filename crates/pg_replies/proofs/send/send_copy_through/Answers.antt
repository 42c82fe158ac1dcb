use Rattle.std.proofs.Common.{rules, ◌≡◌, Err, Some, List, ℕ, inl, inr, length, take, refl, ap, subst, ◌∙◌}
use Rattle.std.specs.Prelude.{IfSome}
use Rattle.std.proofs.lemmas.Result.{err_from_is_err_and}
use Rattle.pg_messages.specs.Replies.{replies_bytes}
use Rattle.pg_results.specs.Copying.{CopyItem, IsSendableCopy}
use Rattle.pg_results.specs.Responses.{told_copy}
use Rattle.pg_replies.specs.ResponseRows.{copy_items, copy_replies, not_empty}
use Rattle.pg_replies.proofs.Copied.{IsCopied, copying_goes_on, all_copied, copied_until}
use Rattle.pg_replies.proofs.Sent.{kept_as, kept_in_front, kept_through}
use Rattle.pg_replies.proofs.send.send_copy_through.Goals as goal

-- what waited in front of the data stays there
kept_so_far : {old : List CopyItem} {out : List ℕ} {items : List CopyItem} {new : List ℕ} {count : ℕ} → IsCopied old out items new count
    → take (length out) new ≡ out
kept_so_far {out = out} {new = new} x = kept_in_front out new (replies_bytes (copy_replies (not_empty x.copied))) x.replied

pub returns-in-None-clause-sent : goal.returns-in-None-clause-sent
returns-in-None-clause-sent g c =
    all_copied _ _ _ _ _ c.loop-outbox.invariant (let taken = c.in_ok-next_data.ensures.next in search rules)

pub returns-in-Some-Err-clause-refused : goal.returns-in-Some-Err-clause-refused
returns-in-Some-Err-clause-refused g c =
    inr (copied_until _ _ _ _ _ c.loop-outbox.invariant c.in-Some-Err.error
    (copy_items (told_copy g.C.CopySource.items c.next_data.new.resp))
    (let taken = c.in_ok-next_data.ensures.next in search rules))

pub loop-outbox-preserved : goal.loop-outbox-preserved
loop-outbox-preserved g c =
    copying_goes_on _ _ _ _ _ c.loop-outbox.invariant c.in-Some-Ok.copied _ _ _ (let taken = c.in_ok-next_data.ensures.next in search rules)
    c.in_ok-count-in-Some-Ok.ensures.pushed c.in_ok-count-in-Some-Ok.ensures.counted c.in_ok-count-in-Some-Ok.ensures.fewer

pub loop-outbox-preserved-then-branch : goal.loop-outbox-preserved-then-branch
loop-outbox-preserved-then-branch g c =
    copying_goes_on _ _ _ _ _ c.loop-outbox.invariant c.next_copied.new._copied _ _ _
    (let taken = rw c.if-branch.true at c.in_ok-next_copied.ensures.next in search rules)
    c.in_ok-count.ensures.pushed c.in_ok-count.ensures.counted c.in_ok-count.ensures.fewer

pub returns-in-None-clause-kept : goal.returns-in-None-clause-kept
returns-in-None-clause-kept g c = kept_so_far c.loop-outbox.invariant

pub returns-in-Some-Err-clause-answerable : goal.returns-in-Some-Err-clause-answerable
returns-in-Some-Err-clause-answerable g c =
    inr (subst (λ found. IfSome found IsSendableCopy) (c.in-Some-Err.is ∙ ap Some c.in-Some-Err.field-0-is)
    c.in_ok-next_data.ensures.sendable)

pub returns-in-Some-Err-clause-kept : goal.returns-in-Some-Err-clause-kept
returns-in-Some-Err-clause-kept g c = kept_so_far c.loop-outbox.invariant

pub returns-in_err-count : goal.returns-in_err-count
returns-in_err-count g c =
    let u = err_from_is_err_and c.from_residual-in_err-count.result c.from_residual-in_err-count.ensures.1 in
    let is = u.1 ∙ ap Err u.2 in
    record {
      sent = rw is tt;
      refused = rw is (inl refl);
      answerable = rw is (inl refl);
      kept = kept_through c.args.outbox.now c.loop-outbox.outbox c.push_data.new.outbox (kept_so_far c.loop-outbox.invariant)
          (kept_as c.loop-outbox.outbox c.push_data.new.outbox c.in_err-count.ensures.err);
    }

pub returns-in_err-count-in-Some-Ok : goal.returns-in_err-count-in-Some-Ok
returns-in_err-count-in-Some-Ok g c =
    let u = err_from_is_err_and c.from_residual-in_err-count-in-Some-Ok.result c.from_residual-in_err-count-in-Some-Ok.ensures.1 in
    let is = u.1 ∙ ap Err u.2 in
    record {
      sent = rw is tt;
      refused = rw is (inl refl);
      answerable = rw is (inl refl);
      kept = kept_through c.args.outbox.now c.loop-outbox.outbox c.push_data-in-Some-Ok.new.outbox (kept_so_far c.loop-outbox.invariant)
          (kept_as c.loop-outbox.outbox c.push_data-in-Some-Ok.new.outbox c.in_err-count-in-Some-Ok.ensures.err);
    }

pub returns-in_err-next_copied : goal.returns-in_err-next_copied
returns-in_err-next_copied g c =
    let u = err_from_is_err_and c.from_residual.result c.from_residual.ensures.1 in
    let is = u.1 ∙ ap Err u.2 in
    record {
      sent = rw is tt;
      refused = rw is (inl refl);
      answerable = rw is (inl refl);
      kept = kept_so_far c.loop-outbox.invariant;
    }

pub returns-in_err-next_data : goal.returns-in_err-next_data
returns-in_err-next_data g c =
    let u = err_from_is_err_and c.from_residual-in_err-next_data.result c.from_residual-in_err-next_data.ensures.1 in
    let is = u.1 ∙ ap Err u.2 in
    record {
      sent = rw is tt;
      refused = rw is (inl refl);
      answerable = rw is (inl refl);
      kept = kept_so_far c.loop-outbox.invariant;
    }
