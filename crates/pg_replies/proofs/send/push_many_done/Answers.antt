use Rattle.std.proofs.Common.{◌++◌, List, ℕ, ap, ◌∙◌}
use Rattle.pg_replies.proofs.Pieces.{behind, many_fit, many_appended, no_ok, on_err}
use Rattle.pg_replies.proofs.Sent.{kept_as, kept_in_front}
use Rattle.pg_replies.proofs.send.push_many_done.Goals as goal

pub done_head-requires : goal.done_head-requires
done_head-requires c =
    many_fit c.args.command.now c.format-digits.result.now c.args.rows c.ranges.rows.fits c.format-digits.ensures.text c.requires

pub returns-in_err-push_bytes : goal.returns-in_err-push_bytes
returns-in_err-push_bytes c =
    let r = c.from_residual in
    record {
      ok = no_ok r.result _ r.ensures.0;
      err = on_err r.result (kept_as _ _ c.in_err-push_bytes.ensures.err);
    }

pub returns-in_err-push_bytes-2 : goal.returns-in_err-push_bytes-2
returns-in_err-push_bytes-2 c =
    let r = c.from_residual-in_err-push_bytes-2 in
    record {
      ok = no_ok r.result _ r.ensures.0;
      err = on_err r.result (kept_in_front _ _ _ (c.in_err-push_bytes-2.ensures.err ∙ c.in_ok-push_bytes.ensures.ok));
    }

pub returns-in_err-push_bytes-3 : goal.returns-in_err-push_bytes-3
returns-in_err-push_bytes-3 c =
    let r = c.from_residual-in_err-push_bytes-3 in
    let named = behind c.args.outbox.now c.push_bytes.new.self c.push_bytes-2.new.self c.done_head.result c.as_bytes.result.now
    c.in_ok-push_bytes.ensures.ok c.in_ok-push_bytes-2.ensures.ok in
    record {
      ok = no_ok r.result _ r.ensures.0;
      err = on_err r.result (kept_in_front _ _ _ (c.in_err-push_bytes-3.ensures.err ∙ named));
    }

pub returns-in_err-push_bytes-4 : goal.returns-in_err-push_bytes-4
returns-in_err-push_bytes-4 c =
    let r = c.from_residual-in_err-push_bytes-4 in
    let named = behind c.args.outbox.now c.push_bytes.new.self c.push_bytes-2.new.self c.done_head.result c.as_bytes.result.now
    c.in_ok-push_bytes.ensures.ok c.in_ok-push_bytes-2.ensures.ok in
    let apart = behind c.args.outbox.now c.push_bytes-2.new.self c.push_bytes-3.new.self _ _ named c.in_ok-push_bytes-3.ensures.ok in
    record {
      ok = no_ok r.result _ r.ensures.0;
      err = on_err r.result (kept_in_front _ _ _ (c.in_err-push_bytes-4.ensures.err ∙ apart));
    }

pub returns-in_err-push_bytes-5 : goal.returns-in_err-push_bytes-5
returns-in_err-push_bytes-5 c =
    let r = c.from_residual-in_err-push_bytes-5 in
    let named = behind c.args.outbox.now c.push_bytes.new.self c.push_bytes-2.new.self c.done_head.result c.as_bytes.result.now
    c.in_ok-push_bytes.ensures.ok c.in_ok-push_bytes-2.ensures.ok in
    let apart = behind c.args.outbox.now c.push_bytes-2.new.self c.push_bytes-3.new.self _ _ named c.in_ok-push_bytes-3.ensures.ok in
    let counted = behind c.args.outbox.now c.push_bytes-3.new.self c.push_bytes-4.new.self _ _ apart c.in_ok-push_bytes-4.ensures.ok in
    record {
      ok = no_ok r.result _ r.ensures.0;
      err = on_err r.result (kept_in_front _ _ _ (c.in_err-push_bytes-5.ensures.err ∙ counted));
    }

pub returns : goal.returns
returns c =
    let named = c.in_ok-push_bytes-2.ensures.ok ∙ ap (λ (l : List ℕ). c.push_bytes.new.self ++ l) c.as_bytes.ensures.value in
    let counted = c.in_ok-push_bytes-4.ensures.ok ∙ ap (λ (l : List ℕ). c.push_bytes-3.new.self ++ l) c.as_bytes-2.ensures.value in
    record {
      ok = many_appended c.args.command.now c.format-digits.result.now c.args.rows c.args.outbox.now _ _ _ _ _ _
          c.format-digits.ensures.text c.done_head.ensures c.in_ok-push_bytes.ensures.ok named c.in_ok-push_bytes-3.ensures.ok counted
          c.in_ok-push_bytes-5.ensures.ok;
      err = tt;
    }
