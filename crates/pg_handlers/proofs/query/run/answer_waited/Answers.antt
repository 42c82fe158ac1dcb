use Rattle.std.proofs.Common.{◌≡◌, inl, inr, List, ℕ, Result, Ok, Err, refl, ap, sym, subst, ◌∙◌}
use Rattle.std.proofs.lemmas.List.{append-nil}
use Rattle.std.proofs.lemmas.Result.{err_from_is_err_and}
use Rattle.std.specs.Prelude.{IfErr, IfOk}
use Rattle.pg_messages.specs.declared.extendedquery.Execute.{Execute}
use Rattle.pg_results.specs.declared.error.PgWireError.{PgWireError}
use Rattle.pg_results.specs.Responses.{ToldResponse, told_response}
use Rattle.pg_results.specs.Rows.{IsAnswerableItem}
use Rattle.pg_portal.specs.Told.{TablePortal}
use Rattle.pg_client.specs.Effect.{Done, IsEffect, IsRefusedEffect}
use Rattle.pg_client.specs.Ends.{IsAnswerableError}
use Rattle.conversation_table.specs.ExecuteRow.{execute_polled, executed}
use Rattle.conversation_table.specs.Good.{IsSendableOutcome}
use Rattle.conversation_table.specs.Handlers.{told_one}
use Rattle.conversation_table.specs.Questions.{IsVerdict, Passed, Verdict}
use Rattle.pg_client.specs.State.{State, state_of}
use Rattle.conversation_table.proofs.Causes.{item_answerable}
use Rattle.conversation_table.proofs.QueryErrors.{query_error}
use Rattle.pg_replies.proofs.Sent.{kept_as}
use Rattle.conversation_table.proofs.Waits.{at_limit, wait_ran}
use Rattle.pg_handlers.proofs.Waiting.{waited_done, waited_err, waited_item}
use Rattle.pg_handlers.proofs.query.run.answer_waited.Goals as goal

module _ {S : Type 0} (s : State S) (m : Execute) (p : TablePortal S) (verdict : Verdict) (told : Result ToldResponse PgWireError)
    (out : List ℕ) (passed : verdict ≡ Passed) where
  -- an error as the outcome
  refused_ran : (e : PgWireError) → told ≡ Err e → IsRefusedEffect (execute_polled s m p verdict told) out out s e
  refused_ran e t = rw (passed, t) (inr (record { replied = sym (append-nil out); came = refl }))

  -- a response as the outcome, which was sent
  answer_ran : (r : ToldResponse) (new : List ℕ) (s' : State S) → told ≡ Ok r → IsEffect (executed s m p r) out new (Done s')
      → IsEffect (execute_polled s m p verdict told) out new (Done s')
  answer_ran r new s' t x = rw (passed, t) x

  -- one that was refused
  answer_refused : (r : ToldResponse) (new : List ℕ) (s' : State S) (e : PgWireError) → told ≡ Ok r
      → IsRefusedEffect (executed s m p r) out new s' e
      → IsRefusedEffect (execute_polled s m p verdict told) out new s' e
  answer_refused r new s' e t x = rw (passed, t) x

pub returns-in-Err : goal.returns-in-Err
returns-in-Err g c =
    let out = c.args.client.now.outbox in
    let s = state_of g.St.PortalStore.maps c.args.client.now in
    let one = told_one g.St.Rows.RowSource.items g.C.CopySource.items in
    let e = c.in-Err.error in
    record {
      ran = λ p q verdict outcome v.
          wait_ran s out (λ verdict. execute_polled s c.args.message p verdict (one outcome)) refl refl verdict outcome e
          (subst (IsVerdict outcome verdict) c.in-Err.is v);
      errors = query_error {A = Unit {0}} g.St.PortalStore.maps c.args.client.now c.args.client.now (Err e)
          (subst (λ w. IfErr w IsAnswerableError) c.in-Err.is c.requires.answerable) (at_limit e ((s ≡ s) × (out ≡ out)) (refl, refl));
      kept = record { info = refl; left = inl refl; kept = kept_as out out refl };
      good = λ parser good. good;
      told = λ desk new_desk before after w. waited_err _ _ desk new_desk before after c.args.waited w e c.in-Err.is;
    }

pub returns-in-Ok-Err : goal.returns-in-Ok-Err
returns-in-Ok-Err g c =
    let out = c.args.client.now.outbox in
    let one = told_one g.St.Rows.RowSource.items g.C.CopySource.items in
    let e = c.in-Ok-Err.error in
    let is = c.in-Ok-Err.is in
    let item : IsAnswerableItem e = inr (subst IsSendableOutcome (ap one c.in-Ok-Err.field-0-is)
    (subst (λ w. IfOk w (λ outcome. IsSendableOutcome (one outcome))) is c.requires.sendable)) in
    record {
      ran = λ p q verdict outcome v.
          let came = subst (IsVerdict outcome verdict) is v in
          refused_ran (state_of g.St.PortalStore.maps c.args.client.now) c.args.message p verdict (one outcome) out came.0 e
          (ap one (sym came.1 ∙ c.in-Ok-Err.field-0-is));
      errors = item_answerable e item;
      kept = record { info = refl; left = inl refl; kept = kept_as out out refl };
      good = λ parser good. good;
      told = λ desk new_desk before after w. waited_item _ _ desk new_desk before after c.args.waited w _ e is item;
    }

pub returns-in_err-answer-in-Ok-Ok : goal.returns-in_err-answer-in-Ok-Ok
returns-in_err-answer-in-Ok-Ok g c =
    let maps = g.St.PortalStore.maps in
    let one = told_one g.St.Rows.RowSource.items g.C.CopySource.items in
    let e = c.in_err-answer-in-Ok-Ok.field-0.0 in
    let a = c.in_err-answer-in-Ok-Ok.ensures in
    let u = err_from_is_err_and c.from_residual.result c.from_residual.ensures.1 in
    let is = u.1 ∙ ap Err u.2 in
    record {
      ran = λ p q verdict outcome v.
          let came = subst (IsVerdict outcome verdict) c.in-Ok-Ok.is v in
          rw is (answer_refused (state_of maps c.args.client.now) c.args.message p verdict (one outcome) c.args.client.now.outbox came.0
          (told_response g.St.Rows.RowSource.items g.C.CopySource.items c.in-Ok-Ok.response) c.answer.new.client.outbox
          (state_of maps c.answer.new.client) e (ap one (sym came.1 ∙ c.in-Ok-Ok.field-0-is)) (a.refused p q));
      errors = rw is (item_answerable e a.answerable);
      kept = rw is (record { info = a.kept.info; left = a.kept.left; kept = a.kept.kept });
      good = a.good;
      told = λ desk new_desk before after w.
          rw is (waited_item _ _ desk new_desk before after c.args.waited w _ e c.in-Ok-Ok.is a.answerable);
    }

pub returns-in_ok-answer-in-Ok-Ok : goal.returns-in_ok-answer-in-Ok-Ok
returns-in_ok-answer-in-Ok-Ok g c =
    let maps = g.St.PortalStore.maps in
    let one = told_one g.St.Rows.RowSource.items g.C.CopySource.items in
    let a = c.in_ok-answer-in-Ok-Ok.ensures in
    record {
      ran = λ p q verdict outcome v.
          let came = subst (IsVerdict outcome verdict) c.in-Ok-Ok.is v in
          answer_ran (state_of maps c.args.client.now) c.args.message p verdict (one outcome) c.args.client.now.outbox came.0
          (told_response g.St.Rows.RowSource.items g.C.CopySource.items c.in-Ok-Ok.response) c.answer.new.client.outbox
          (state_of maps c.answer.new.client) (ap one (sym came.1 ∙ c.in-Ok-Ok.field-0-is)) (a.ok p q);
      errors = tt;
      kept = record { info = tt; left = tt; kept = a.kept.kept };
      good = a.good;
      told = λ desk new_desk before after w. waited_done _ _ desk new_desk before after c.args.waited w _ tt c.in-Ok-Ok.is;
    }
