use Rattle.std.proofs.Common.{◌∙◌, ◌++◌, List, ℕ, ap}
use Rattle.pg_replies.proofs.Pieces.{behind, few_fit, few_appended, no_ok, on_err}
use Rattle.pg_replies.proofs.Sent.{kept_as, kept_in_front}
use Rattle.pg_replies.proofs.send.push_few_done.Goals as goal

pub done_head-requires : goal.done_head-requires
done_head-requires c = few_fit c.args.command.now c.args.rows c.requires.few c.requires.tag

pub returns-in_err-push_bytes : goal.returns-in_err-push_bytes
returns-in_err-push_bytes c =
    let r = c.from_residual in
    record {
      ok = no_ok r.result _ r.ensures.0;
      err = on_err r.result (kept_as _ _ c.in_err-push_bytes.ensures.err);
    }

pub returns-in_err-push_bytes-2 : goal.returns-in_err-push_bytes-2
returns-in_err-push_bytes-2 c =
    let r = c.from_residual-in_err-push_bytes-2 in
    record {
      ok = no_ok r.result _ r.ensures.0;
      err = on_err r.result (kept_in_front _ _ _ (c.in_err-push_bytes-2.ensures.err ∙ c.in_ok-push_bytes.ensures.ok));
    }

pub returns-in_err-push_bytes-3 : goal.returns-in_err-push_bytes-3
returns-in_err-push_bytes-3 c =
    let r = c.from_residual-in_err-push_bytes-3 in
    let named = behind c.args.outbox.now c.push_bytes.new.self c.push_bytes-2.new.self c.done_head.result c.as_bytes.result.now
    c.in_ok-push_bytes.ensures.ok c.in_ok-push_bytes-2.ensures.ok in
    record {
      ok = no_ok r.result _ r.ensures.0;
      err = on_err r.result (kept_in_front _ _ _ (c.in_err-push_bytes-3.ensures.err ∙ named));
    }

pub returns : goal.returns
returns c =
    let named = c.in_ok-push_bytes-2.ensures.ok ∙ ap (λ (l : List ℕ). c.push_bytes.new.self ++ l) c.as_bytes.ensures.value in
    record {
      ok = few_appended c.args.command.now c.args.rows c.args.outbox.now _ _ _ _ c.requires.few c.done_head.ensures
          c.in_ok-push_bytes.ensures.ok named c.in_ok-push_bytes-3.ensures.ok;
      err = tt;
    }
