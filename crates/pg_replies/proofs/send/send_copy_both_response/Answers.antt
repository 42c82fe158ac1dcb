use Rattle.std.proofs.Common.{true, inl, Err, refl, ap, ◌∙◌}
use Rattle.std.proofs.lemmas.Result.{err_from_is_err_and}
use Rattle.pg_results.specs.Responses.{told_copy}
use Rattle.pg_replies.specs.ResponseRows.{copy_both_reply}
use Rattle.pg_replies.proofs.Copied.{copy_is_refused, copy_is_sent}
use Rattle.pg_replies.proofs.Sent.{kept_as, kept_behind, kept_through}
use Rattle.pg_replies.proofs.send.send_copy_both_response.Goals as goal

pub returns-in_err-send_copy_both_head : goal.returns-in_err-send_copy_both_head
returns-in_err-send_copy_both_head g c =
    let u = err_from_is_err_and c.from_residual.result c.from_residual.ensures.1 in
    let is = u.1 ∙ ap Err u.2 in
    record {
      sent = λ now. rw is (inl refl);
      answerable = rw is (inl refl);
      kept = kept_as c.args.outbox.now c.send_copy_both_head.new.outbox c.in_err-send_copy_both_head.ensures.err;
    }

pub returns-in_err-count : goal.returns-in_err-count
returns-in_err-count g c =
    let r = c.from_residual-in_err-count in
    let u = err_from_is_err_and r.result r.ensures.1 in
    let told = told_copy g.C.CopySource.items c.args.resp in
    record {
      sent = λ now. rw (u.1, u.2) (copy_is_refused now true (copy_both_reply told) told c.args.outbox.now c.send_copy_both_head.new.outbox
          c.send_copy_data.new.outbox c.in_ok-send_copy_both_head.ensures.ok c.in_err-count.field-0.0 c.in_err-count.ensures.refused);
      answerable = rw (u.1, u.2) c.in_err-count.ensures.answerable;
      kept = kept_behind _ _ _ _ c.in_ok-send_copy_both_head.ensures.ok c.in_err-count.ensures.kept;
    }

pub returns-in_err-send_copy_end : goal.returns-in_err-send_copy_end
returns-in_err-send_copy_end g c =
    let r = c.from_residual-in_err-send_copy_end in
    let u = err_from_is_err_and r.result r.ensures.1 in
    let is = u.1 ∙ ap Err u.2 in
    record {
      sent = λ now. rw is (inl refl);
      answerable = rw is (inl refl);
      kept = kept_behind _ _ _ _ c.in_ok-send_copy_both_head.ensures.ok
          (kept_through _ _ _ c.in_ok-count.ensures.kept c.in_err-send_copy_end.ensures.kept);
    }

pub returns : goal.returns
returns g c =
    let told = told_copy g.C.CopySource.items c.args.resp in
    record {
      sent = λ now. copy_is_sent now true (copy_both_reply told) told c.args.outbox.now _ _ _ c.in_ok-send_copy_both_head.ensures.ok
          c.in_ok-count.count c.in_ok-count.ensures.sent c.in_ok-send_copy_end.ensures.ok;
      answerable = tt;
      kept = kept_behind _ _ _ _ c.in_ok-send_copy_both_head.ensures.ok
          (kept_through _ _ _ c.in_ok-count.ensures.kept c.in_ok-send_copy_end.ensures.kept);
    }
