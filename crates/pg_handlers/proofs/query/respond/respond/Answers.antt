use Rattle.std.proofs.Common.{◌≡◌, List, inl, inr, refl, sym, ap}
use Rattle.std.proofs.lemmas.List.{append-nil}
use Rattle.std.proofs.lemmas.Result.{err_from_is_err_and}
use Rattle.pg_messages.specs.declared.response.ErrorInfo.{ErrorInfo}
use Rattle.pg_results.specs.Responses.{told_response}
use Rattle.pg_results.specs.Copying.{CopyItem}
use Rattle.pg_results.specs.Rows.{RowItem}
use Rattle.pg_results.specs.declared.response.Response.{Response}
use Rattle.pg_results.specs.declared.response.Response.TheVariants as response
use Rattle.pg_results.specs.declared.tag.Tag.{Tag}
use Rattle.pg_client.specs.State.{State, state_of}
use Rattle.conversation_table.specs.ExecuteRow.{executed_other, executed_without_rows}
use Rattle.pg_replies.proofs.Sent.{kept_as, kept_in_front}
use Rattle.pg_handlers.proofs.query.respond.respond.Goals as goal

-- Only an error, and the end of a transaction, are more than what any other response without rows is.
as_other : {S R C : Type 0} (rows : R → List RowItem) (items : C → List CopyItem) (s : State S) (r : Response R C)
    → ((info : ErrorInfo) → r ≡ response.Error info → ⊥) → ((tag : Tag) → r ≡ response.TransactionEnd tag → ⊥)
    → executed_without_rows s (told_response rows items r) ≡ executed_other s (told_response rows items r)
as_other rows items s response.EmptyQuery no_error no_end = refl
as_other rows items s (response.Query query) no_error no_end = refl
as_other rows items s (response.Execution tag) no_error no_end = refl
as_other rows items s (response.TransactionStart tag) no_error no_end = refl
as_other rows items s (response.TransactionEnd tag) no_error no_end = absurd (no_end tag refl)
as_other rows items s (response.Error info) no_error no_end = absurd (no_error info refl)
as_other rows items s (response.CopyIn copy) no_error no_end = refl
as_other rows items s (response.CopyOut copy) no_error no_end = refl
as_other rows items s (response.CopyBoth copy) no_error no_end = refl

pub returns-in-Error-clause-refused : goal.returns-in-Error-clause-refused
returns-in-Error-clause-refused g c =
    rw c.in-Error.is (inr (record { replied = sym (append-nil c.args.client.now.outbox); came = refl }))

pub returns-in-Error-clause-store : goal.returns-in-Error-clause-store
returns-in-Error-clause-store g c = inl refl

pub returns-in-Error-clause-kept : goal.returns-in-Error-clause-kept
returns-in-Error-clause-kept g c = kept_as c.args.client.now.outbox _ refl

pub returns-in_err-send_execution_response-in-TransactionEnd : goal.returns-in_err-send_execution_response-in-TransactionEnd
returns-in_err-send_execution_response-in-TransactionEnd g c =
    let p = err_from_is_err_and c.from_residual.result c.from_residual.ensures.1 in
    rw p.1 (record {
      ok = tt;
      refused = inl p.2;
      answerable = inl p.2;
      metadata = refl;
      store = inl refl;
      left = refl;
      info = refl;
      kept = kept_as c.args.client.now.outbox _ c.in_err-send_execution_response-in-TransactionEnd.ensures.err;
    })

pub returns-in_ok-send_execution_response-in-TransactionEnd-clause-store :
    goal.returns-in_ok-send_execution_response-in-TransactionEnd-clause-store
returns-in_ok-send_execution_response-in-TransactionEnd-clause-store g c = inr c.rm_portal.ensures

pub returns-in_ok-send_execution_response-in-TransactionEnd-clause-kept :
    goal.returns-in_ok-send_execution_response-in-TransactionEnd-clause-kept
returns-in_ok-send_execution_response-in-TransactionEnd-clause-kept g c =
    kept_in_front c.args.client.now.outbox _ _ c.in_ok-send_execution_response-in-TransactionEnd.ensures.ok

pub returns-in_default-clause-answerable : goal.returns-in_default-clause-answerable
returns-in_default-clause-answerable g c = c.respond_otherwise.ensures.answerable

pub returns-in_default-clause-metadata : goal.returns-in_default-clause-metadata
returns-in_default-clause-metadata g c = c.respond_otherwise.ensures.kept.metadata

pub returns-in_default-clause-store : goal.returns-in_default-clause-store
returns-in_default-clause-store g c = inl (ap g.St.PortalStore.maps c.respond_otherwise.ensures.kept.store)

pub returns-in_default-clause-info : goal.returns-in_default-clause-info
returns-in_default-clause-info g c = c.respond_otherwise.ensures.kept.info

pub returns-in_default-clause-kept : goal.returns-in_default-clause-kept
returns-in_default-clause-kept g c = c.respond_otherwise.ensures.kept.kept

pub returns-in_default-clause-ok : goal.returns-in_default-clause-ok
returns-in_default-clause-ok g c =
    rw (as_other g.St.Rows.RowSource.items g.C.CopySource.items (state_of g.St.PortalStore.maps c.args.client.now) c.args.response
    c.in_default.not-Error c.in_default.not-TransactionEnd) c.respond_otherwise.ensures.ok

pub returns-in_default-clause-refused : goal.returns-in_default-clause-refused
returns-in_default-clause-refused g c =
    rw (as_other g.St.Rows.RowSource.items g.C.CopySource.items (state_of g.St.PortalStore.maps c.args.client.now) c.args.response
    c.in_default.not-Error c.in_default.not-TransactionEnd) c.respond_otherwise.ensures.refused
