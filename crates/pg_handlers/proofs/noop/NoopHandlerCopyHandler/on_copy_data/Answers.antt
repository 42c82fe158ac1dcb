use Rattle.std.proofs.Common.{◌≡◌, ℕ, List, inl, inr, refl, sym}
use Rattle.std.proofs.lemmas.List.{append-nil}
use Rattle.std.proofs.lemmas.Result.{err_from_is_err_and}
use Rattle.pg_messages.specs.declared.response.ErrorInfo.{ErrorInfo}
use Rattle.pg_results.specs.declared.error.PgWireError.TheVariants as wire
use Rattle.pg_client.specs.Effect.{IsRefusedEffect}
use Rattle.pg_client.specs.Errors.{not_implemented}
use Rattle.pg_client.specs.State.{State, state_of}
use Rattle.pg_replies.proofs.Sent.{kept_as}
use Rattle.conversation_table.specs.CopyRows.{copy_step}
use Rattle.conversation_table.specs.Noop.{noop_step}
use Rattle.pg_handlers.proofs.noop.NoopHandlerCopyHandler.on_copy_data.Goals as goal

data_refused : {S : Type 0} (s : State S) (out : List ℕ) (info : ErrorInfo) → info ≡ not_implemented
    → IsRefusedEffect (copy_step s noop_step) out out s (wire.UserError info)
data_refused s out info is = rw is (inr (record { replied = sym (append-nil out); came = refl }))

pub returns-in_err-not_implemented : goal.returns-in_err-not_implemented
returns-in_err-not_implemented g c =
    let p = err_from_is_err_and c.from_residual.result c.from_residual.ensures.1 in let out = c.args._client.now.outbox in
    rw p.1 (record {
      ok = tt;
      refused = inl p.2;
      answerable = inl p.2;
      info = refl;
      kept = kept_as out out refl;
      store = refl;
    })

pub returns : goal.returns
returns g c =
    let out = c.args._client.now.outbox in
    record {
      ok = tt;
      refused = data_refused (state_of g.St.PortalStore.maps c.args._client.now) out _ c.in_ok-not_implemented.ensures.info;
      answerable = inr c.in_ok-not_implemented.ensures.tellable;
      info = refl;
      kept = kept_as out out refl;
      store = refl;
    }
