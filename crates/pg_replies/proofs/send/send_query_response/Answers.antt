use Rattle.std.proofs.Common.{◌≡◌, ◌++◌, ◌∷◌, [], ℕ, ◌⊎◌, inl, inr, Bool, true, false, List, Option, None, Some, Err, length, refl, ap, sym, ◌∙◌, append_assoc}
use Rattle.std.proofs.lemmas.List.{append-nil}
use Rattle.std.proofs.lemmas.Result.{err_from_is_err_and}
use Rattle.pg_messages.specs.declared.response.TransactionStatus.{TransactionStatus}
use Rattle.pg_messages.specs.Replies.{replies_bytes}
use Rattle.pg_results.specs.declared.error.PgWireError.{PgWireError}
use Rattle.pg_results.specs.declared.error.PgWireError.TheVariants as wire
use Rattle.pg_results.specs.Page.{before_error, ended_page, first_error}
use Rattle.pg_results.specs.Rows.{RowItem}
use Rattle.pg_results.specs.Told.{ToldRows, told_rows}
use Rattle.pg_replies.specs.PageEnd.{page_replies}
use Rattle.pg_replies.specs.Replies.{Replies, done_with, row_description, row_replies}
use Rattle.pg_replies.specs.ResponseRows.{Sent, rows_front, unless_error}
use Rattle.pg_replies.specs.Sending.{IsMetError, IsSentPage}
use Rattle.pg_replies.proofs.Sent.{kept_as, kept_in_front, kept_through, sent_behind}
use Rattle.pg_replies.proofs.send.send_query_response.Goals.{then-send_describe+in_ok-send_row_description, else-send_describe}
use Rattle.pg_replies.proofs.send.send_query_response.Goals as goal

module _ (r left : ToldRows) (front : Replies) (now : TransactionStatus) (out mid new : List ℕ)
    (begun : mid ≡ out ++ replies_bytes front) where
  abbrev rows_sent : Option (PgWireError × List RowItem) → Sent
  rows_sent error =
      let rows = before_error r.items in
      unless_error now false (front ++ row_replies rows) (done_with r.command_tag (length rows) ∷ []) error

  -- all rows were sent, and the tag behind them
  all_sent : (error : Option (PgWireError × List RowItem)) (suspended : Bool)
      → (let page = ended_page (before_error r.items) error in
      IsSentPage r page.ending suspended left
      × (new ≡ mid ++ replies_bytes (page_replies r.command_tag (length page.rows) page.rows page.ending)))
      → ((rows_sent error).refusal ≡ None) × (new ≡ out ++ replies_bytes (rows_sent error).replies)
  all_sent None suspended h =
      let rows = row_replies (before_error r.items) in
      let last = done_with r.command_tag (length (before_error r.items)) ∷ [] in (
        refl,
        sent_behind out mid new front (rows ++ last) begun h.1 ∙ ap (λ l. out ++ replies_bytes l) (sym (append_assoc front rows last)),
      )
  all_sent (Some e) suspended h = absurd h.0

  -- an error stood in the place of a row
  met_sent : (error : Option (PgWireError × List RowItem)) (e : PgWireError)
      → (e ≡ wire.NoMemory) ⊎ IsMetError r (ended_page (before_error r.items) error).ending e left mid new
      → (e ≡ wire.NoMemory) ⊎ (((rows_sent error).refusal ≡ Some e) × (new ≡ out ++ replies_bytes (rows_sent error).replies))
  met_sent error e (inl none) = inl none
  met_sent None e (inr x) = let met = x.met in absurd cc
  met_sent (Some error) e (inr x) =
      let met = x.met in inr (cc, sent_behind out mid new front (row_replies (before_error r.items)) begun x.rows)

-- RowDescription stands in front
described_first : (r : ToldRows) (describe : Bool) (out mid begun : List ℕ) → describe ≡ true → mid ≡ begun
    → begun ≡ out ++ replies_bytes (row_description r.fields ∷ []) → mid ≡ out ++ replies_bytes (rows_front describe r)
described_first r describe out mid begun d m e = rw d (m ∙ e)

-- nothing does
none_first : (r : ToldRows) (describe : Bool) (out mid : List ℕ) → describe ≡ false → mid ≡ out
    → mid ≡ out ++ replies_bytes (rows_front describe r)
none_first r describe out mid d m = rw d (m ∙ sym (append-nil out))

pub returns-in_err-send_row_description : goal.returns-in_err-send_row_description
returns-in_err-send_row_description g c =
    let u = err_from_is_err_and c.from_residual.result c.from_residual.ensures.1 in
    let is = u.1 ∙ ap Err u.2 in
    record {
      sent = λ now. rw is (inl refl);
      answerable = rw is (inl refl);
      kept = kept_as c.args.outbox.now c.send_row_description.new.outbox c.in_err-send_row_description.ensures.err;
    }

pub returns-in_err-send_partial_query_response : goal.returns-in_err-send_partial_query_response
returns-in_err-send_partial_query_response g c =
    let r = told_rows g.R.RowSource.items c.args.results in
    let out = c.args.outbox.now in let mid = c.if-send_describe.outbox in let new = c.send_partial_query_response.new.outbox in
    let e = c.in_err-send_partial_query_response.ensures in
    let a = c.from_residual-in_err-send_partial_query_response in
    let u = err_from_is_err_and a.result a.ensures.1 in
    let is = u.1 ∙ ap Err u.2 in
    let front = rows_front c.args.send_describe r in
    let begun : mid ≡ out ++ replies_bytes front = elim c.if-send_describe.branch [
      | then-send_describe+in_ok-send_row_description w ↦ described_first r c.args.send_describe out mid
          w.send_row_description.new.outbox w.if-send_describe.true w.outbox-is
          (w.in_ok-send_row_description.ensures.ok
          ∙ ap (λ f. out ++ replies_bytes (row_description f ∷ [])) (w.as_slice.ensures ∙ w.deref.ensures))
      | else-send_describe w ↦ none_first r c.args.send_describe out mid w.if-send_describe.false w.outbox-is
    ] in
    record {
      sent = λ now. rw is (met_sent r (told_rows g.R.RowSource.items c.send_partial_query_response.new.results) front now out mid new begun
          (first_error r.items) c.in_err-send_partial_query_response.field-0.0 e.refused);
      answerable = rw is e.answerable;
      kept = kept_through out mid new (kept_in_front out mid (replies_bytes front) begun) e.kept;
    }

pub returns : goal.returns
returns g c =
    let r = told_rows g.R.RowSource.items c.args.results in
    let out = c.args.outbox.now in let mid = c.if-send_describe.outbox in let new = c.send_partial_query_response.new.outbox in
    let e = c.in_ok-send_partial_query_response.ensures in
    let front = rows_front c.args.send_describe r in
    let begun : mid ≡ out ++ replies_bytes front = elim c.if-send_describe.branch [
      | then-send_describe+in_ok-send_row_description w ↦ described_first r c.args.send_describe out mid
          w.send_row_description.new.outbox w.if-send_describe.true w.outbox-is
          (w.in_ok-send_row_description.ensures.ok
          ∙ ap (λ f. out ++ replies_bytes (row_description f ∷ [])) (w.as_slice.ensures ∙ w.deref.ensures))
      | else-send_describe w ↦ none_first r c.args.send_describe out mid w.if-send_describe.false w.outbox-is
    ] in
    record {
      sent = λ now. all_sent r (told_rows g.R.RowSource.items c.send_partial_query_response.new.results) front now out mid new begun
          (first_error r.items) c.in_ok-send_partial_query_response.field-0 (e.page, e.replied);
      answerable = tt;
      kept = kept_through out mid new (kept_in_front out mid (replies_bytes front) begun) e.kept;
    }
