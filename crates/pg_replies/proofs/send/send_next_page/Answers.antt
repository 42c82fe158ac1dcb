use Rattle.std.proofs.Common.{arith, ◌≡◌, ◌++◌, ◌≤◌, ℕ, List, inl, Err, length, refl, ap, sym, subst, ◌∙◌}
use Rattle.pg_results.specs.Page.{delivered_after, item_page}
use Rattle.std.proofs.lemmas.Int.{to_z-of_z}
use Rattle.std.proofs.lemmas.List.{length-append}
use Rattle.std.proofs.lemmas.Result.{err_from_is_err_and, IfOk-from_err}
use Rattle.pg_results.specs.Told.{told_rows}
use Rattle.pg_replies.specs.Replies.{IsTag}
use Rattle.pg_replies.proofs.PagesSent.{ended_so, page_sent_as}
use Rattle.pg_replies.proofs.Pieces.{behind, no_ok}
use Rattle.pg_replies.proofs.Sent.{cut_met, cut_left, fewer_than_bytes, kept_in_front}
use Rattle.pg_replies.proofs.send.send_next_page.Goals as goal

no_shorter : (out new more : List ℕ) → new ≡ out ++ more → length out ≤ length new
no_shorter out new more e = omega (arith, ap length e ∙ length-append out more)

pub send_page_end-requires : goal.send_page_end-requires
send_page_end-requires g c = subst IsTag (sym c.as_str.ensures) c.requires

pub returns-in_err-page : goal.returns-in_err-page
returns-in_err-page g c =
    let r = c.from_residual in
    let p = err_from_is_err_and r.result r.ensures.1 in
    let fits = c.ranges.max_rows in
    let x = simp to_z-of_z at c.in_err-page.ensures.cut_short in
    record {
      page = IfOk-from_err r.result _ r.ensures.0;
      delivered = IfOk-from_err r.result _ r.ensures.0;
      replied = no_ok r.result _ r.ensures.0;
      fewer = no_ok r.result _ r.ensures.0;
      refused = rw (p.1, p.2) (cut_met (told_rows g.R.RowSource.items c.args.results.now) (g.R.RowSource.items c.deliver_to.new.rows) _ refl
          c.args.max_rows x.0 c.in_err-page.field-0.0 x.1 c.args.outbox.now _ x.2);
      answerable = rw (p.1, p.2) c.in_err-page.ensures.own;
      tag = refl;
      fields = refl;
      left = rw p.1 (cut_left (told_rows g.R.RowSource.items c.args.results.now) (g.R.RowSource.items c.deliver_to.new.rows) _ refl
          c.args.max_rows x.0 c.in_err-page.field-0.0 x.1);
      begins = no_shorter _ _ _ x.2;
      kept = kept_in_front _ _ _ x.2;
    }

pub returns-in_err-send_page_end : goal.returns-in_err-send_page_end
returns-in_err-send_page_end g c =
    let r = c.from_residual-in_err-send_page_end in
    let p = err_from_is_err_and r.result r.ensures.1 in
    let is = p.1 ∙ ap Err p.2 in
    let fits = c.ranges.max_rows in
    let taken = simp to_z-of_z at c.in_ok-page.ensures.taken in
    let sent = c.in_err-send_page_end.ensures.err ∙ c.in_ok-page.ensures.sent in
    record {
      page = IfOk-from_err r.result _ r.ensures.0;
      delivered = IfOk-from_err r.result _ r.ensures.0;
      replied = no_ok r.result _ r.ensures.0;
      fewer = no_ok r.result _ r.ensures.0;
      refused = rw is (inl refl);
      answerable = rw is (inl refl);
      tag = refl;
      fields = refl;
      left = rw p.1 (_, _, taken, refl);
      begins = no_shorter _ _ _ sent;
      kept = kept_in_front _ _ _ sent;
    }

pub returns : goal.returns
returns g c =
    let fits = c.ranges.max_rows in
    let ends = simp to_z-of_z at c.in_ok-page.ensures.ended in
    let sent = simp to_z-of_z at c.in_ok-page.ensures.sent in
    let number = simp to_z-of_z at c.in_ok-page.ensures.delivered in
    let page = item_page c.args.max_rows (g.R.RowSource.items c.args.results.now.data_rows) in
    let all = behind c.args.outbox.now c.deliver_to.new.outbox c.send_page_end.new.outbox _ _ sent c.in_ok-send_page_end.ensures.ok in
    record {
      page = ended_so (told_rows g.R.RowSource.items c.args.results.now) (g.R.RowSource.items c.deliver_to.new.rows) _ refl _ _ ends;
      delivered = number;
      replied = page_sent_as c.as_str.result.now c.args.results.now.command_tag c.in_ok-page.page.delivered
          (delivered_after c.args.delivered (length page.rows)) page.rows page.ending c.in_ok-page.page.suspended
          (g.R.RowSource.items c.deliver_to.new.rows) c.args.outbox.now c.deliver_to.new.outbox c.send_page_end.new.outbox
          c.as_str.ensures number ends sent c.in_ok-send_page_end.ensures.ok;
      fewer = fewer_than_bytes _ c.args.outbox.now _ c.len-waiting.result c.len-waiting.ensures c.len-waiting.type_inv sent;
      refused = tt;
      answerable = tt;
      tag = refl;
      fields = refl;
      left = tt;
      begins = no_shorter _ _ _ all;
      kept = kept_in_front _ _ _ all;
    }
