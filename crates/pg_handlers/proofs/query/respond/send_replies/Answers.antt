use Rattle.std.proofs.Common.{◌≡◌, ◌++◌, ℕ, List, None, Result, Ok, Err, inl, length, take, refl, ap, sym, subst, ◌∙◌}
use Rattle.std.specs.Prelude.{IfErr, OnErr, OnOk}
use Rattle.std.proofs.lemmas.Result.{err_from_is_err_and}
use Rattle.pg_messages.specs.Replies.{replies_bytes}
use Rattle.pg_results.specs.declared.error.PgWireError.{PgWireError}
use Rattle.pg_results.specs.declared.error.PgWireError.TheVariants as wire
use Rattle.pg_results.specs.Responses.{told_response}
use Rattle.pg_results.specs.Rows.{IsAnswerableItem}
use Rattle.pg_replies.specs.ResponseRows.{Sent, responded}
use Rattle.pg_replies.specs.Sending.{IsAllSent}
use Rattle.pg_replies.proofs.Sent.{kept_as, kept_in_front}
use Rattle.pg_handlers.proofs.query.respond.send_replies.Goals as goal

-- one reply was sent, or memory is wanting
reply_sent : (out new : List ℕ) (result : Result (Unit {0}) PgWireError) (s : Sent) → s.refusal ≡ None
    → OnOk result (new ≡ out ++ replies_bytes s.replies) → IfErr result (λ e. e ≡ wire.NoMemory)
    → IsAllSent s out new result
reply_sent out new (Ok x) s whole ok refused = (whole, ok)
reply_sent out new (Err e) s whole ok refused = inl refused

reply_kept : (out new more : List ℕ) (result : Result (Unit {0}) PgWireError) → OnOk result (new ≡ out ++ more)
    → OnErr result (new ≡ out) → take (length out) new ≡ out
reply_kept out new more (Ok x) ok err = kept_in_front out new more ok
reply_kept out new more (Err e) ok err = kept_as out new err

reply_answerable : (result : Result (Unit {0}) PgWireError) → IfErr result (λ e. e ≡ wire.NoMemory) → IfErr result IsAnswerableItem
reply_answerable (Ok x) refused = tt
reply_answerable (Err e) refused = inl refused

pub returns-in-Query-clause-sent : goal.returns-in-Query-clause-sent
returns-in-Query-clause-sent g c = λ now. rw c.in-Query.is (c.send_query_response.ensures.sent now)

pub returns-in-CopyOut-clause-sent : goal.returns-in-CopyOut-clause-sent
returns-in-CopyOut-clause-sent g c = λ now. rw c.in-CopyOut.is (c.send_copy_out_response.ensures.sent now)

pub returns-in-CopyBoth-clause-sent : goal.returns-in-CopyBoth-clause-sent
returns-in-CopyBoth-clause-sent g c = λ now. rw c.in-CopyBoth.is (c.send_copy_both_response.ensures.sent now)

pub returns-in-Query-clause-answerable : goal.returns-in-Query-clause-answerable
returns-in-Query-clause-answerable g c = c.send_query_response.ensures.answerable

pub returns-in-Query-clause-kept : goal.returns-in-Query-clause-kept
returns-in-Query-clause-kept g c = c.send_query_response.ensures.kept

pub returns-in-CopyOut-clause-answerable : goal.returns-in-CopyOut-clause-answerable
returns-in-CopyOut-clause-answerable g c = c.send_copy_out_response.ensures.answerable

pub returns-in-CopyOut-clause-kept : goal.returns-in-CopyOut-clause-kept
returns-in-CopyOut-clause-kept g c = c.send_copy_out_response.ensures.kept

pub returns-in-CopyBoth-clause-answerable : goal.returns-in-CopyBoth-clause-answerable
returns-in-CopyBoth-clause-answerable g c = c.send_copy_both_response.ensures.answerable

pub returns-in-CopyBoth-clause-kept : goal.returns-in-CopyBoth-clause-kept
returns-in-CopyBoth-clause-kept g c = c.send_copy_both_response.ensures.kept

pub returns-in-EmptyQuery : goal.returns-in-EmptyQuery
returns-in-EmptyQuery g c =
    let R = g.R.RowSource.items in let C = g.C.CopySource.items in
    let out = c.args.outbox.now in let new = c.send_empty_query_response.new.outbox in let e = c.send_empty_query_response.ensures in
    record {
      sent = λ now. reply_sent out new c.send_empty_query_response.result (responded now (told_response R C c.args.response))
          (ap (λ r. (responded now (told_response R C r)).refusal) c.in-EmptyQuery.is)
          (subst (λ r. OnOk c.send_empty_query_response.result (new ≡ out ++ replies_bytes (responded now (told_response R C r)).replies)) (sym c.in-EmptyQuery.is) e.ok)
          e.refused;
      answerable = reply_answerable c.send_empty_query_response.result e.refused;
      kept = reply_kept out new _ c.send_empty_query_response.result e.ok e.err;
    }

pub returns-in-Error : goal.returns-in-Error
returns-in-Error g c =
    let R = g.R.RowSource.items in let C = g.C.CopySource.items in
    let out = c.args.outbox.now in let new = c.send_error.new.outbox in let e = c.send_error.ensures in
    record {
      sent = λ now. reply_sent out new c.send_error.result (responded now (told_response R C c.args.response))
          (ap (λ r. (responded now (told_response R C r)).refusal) c.in-Error.is)
          (subst (λ r. OnOk c.send_error.result (new ≡ out ++ replies_bytes (responded now (told_response R C r)).replies)) (sym c.in-Error.is) e.ok)
          e.refused;
      answerable = reply_answerable c.send_error.result e.refused;
      kept = reply_kept out new _ c.send_error.result e.ok e.err;
    }

pub returns-in_err-send_copy_in-in-CopyIn : goal.returns-in_err-send_copy_in-in-CopyIn
returns-in_err-send_copy_in-in-CopyIn g c =
    let u = err_from_is_err_and c.from_residual.result c.from_residual.ensures.1 in
    let is = u.1 ∙ ap Err u.2 in
    record {
      sent = λ now. rw is (inl refl);
      answerable = rw is (inl refl);
      kept = kept_as c.args.outbox.now c.send_copy_in.new.outbox c.in_err-send_copy_in-in-CopyIn.ensures.err;
    }

pub returns-in_ok-send_copy_in-in-CopyIn-clause-answerable : goal.returns-in_ok-send_copy_in-in-CopyIn-clause-answerable
returns-in_ok-send_copy_in-in-CopyIn-clause-answerable g c = tt

pub returns-in_ok-send_copy_in-in-CopyIn-clause-kept : goal.returns-in_ok-send_copy_in-in-CopyIn-clause-kept
returns-in_ok-send_copy_in-in-CopyIn-clause-kept g c = kept_in_front c.args.outbox.now c.send_copy_in.new.outbox _ c.in_ok-send_copy_in-in-CopyIn.ensures.ok

pub returns-in_err-send_execution_response-in-Execution : goal.returns-in_err-send_execution_response-in-Execution
returns-in_err-send_execution_response-in-Execution g c =
    let u = err_from_is_err_and c.from_residual-in_err-send_execution_response-in-Execution.result c.from_residual-in_err-send_execution_response-in-Execution.ensures.1 in
    let is = u.1 ∙ ap Err u.2 in
    record {
      sent = λ now. rw is (inl refl);
      answerable = rw is (inl refl);
      kept = kept_as c.args.outbox.now c.send_execution_response.new.outbox c.in_err-send_execution_response-in-Execution.ensures.err;
    }

pub returns-in_ok-send_execution_response-in-Execution-clause-answerable : goal.returns-in_ok-send_execution_response-in-Execution-clause-answerable
returns-in_ok-send_execution_response-in-Execution-clause-answerable g c = tt

pub returns-in_ok-send_execution_response-in-Execution-clause-kept : goal.returns-in_ok-send_execution_response-in-Execution-clause-kept
returns-in_ok-send_execution_response-in-Execution-clause-kept g c = kept_in_front c.args.outbox.now c.send_execution_response.new.outbox _ c.in_ok-send_execution_response-in-Execution.ensures.ok

pub returns-in_ok-send_copy_in-in-CopyIn-clause-sent : goal.returns-in_ok-send_copy_in-in-CopyIn-clause-sent
returns-in_ok-send_copy_in-in-CopyIn-clause-sent g c = λ now. rw c.in-CopyIn.is (refl, c.in_ok-send_copy_in-in-CopyIn.ensures.ok)
