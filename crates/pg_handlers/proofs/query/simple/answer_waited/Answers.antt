use Rattle.std.proofs.Common.{◌≡◌, ℕ, inr, List, Result, Ok, Err, refl, ap, sym, subst, ◌∙◌}
use Rattle.std.specs.Prelude.{IfErr, IfOk, OnOk}
use Rattle.std.proofs.lemmas.List.{append-nil}
use Rattle.std.proofs.lemmas.Result.{err_from_is_err_and}
use Rattle.pg_results.specs.declared.error.PgWireError.{PgWireError}
use Rattle.pg_results.specs.Responses.{ToldResponse, told_responses}
use Rattle.pg_results.specs.Rows.{IsAnswerableItem}
use Rattle.pg_client.specs.declared.client.Client.{Client}
use Rattle.pg_client.specs.declared.ends.SessionError.{SessionError}
use Rattle.pg_client.specs.declared.ends.Turns.{Turns}
use Rattle.pg_client.specs.Desk.{DeskTold}
use Rattle.pg_client.specs.Effect.{Done, IsEffect, IsRefusedEffect}
use Rattle.pg_client.specs.Ends.{IsAnswerableError}
use Rattle.pg_client.specs.State.{State, state_of}
use Rattle.conversation_table.specs.Good.{AreSendable}
use Rattle.conversation_table.specs.Handlers.{told_all}
use Rattle.conversation_table.specs.Outcomes.{IsRunEnd, session_outcome}
use Rattle.conversation_table.specs.Questions.{IsVerdict, Passed, Verdict}
use Rattle.conversation_table.specs.SimpleRows.{answered_all, query_polled}
use Rattle.conversation_table.specs.Waiting.{HasWaited, IsQueryError, OnlyAnswers}
use Rattle.conversation_table.proofs.Causes.{item_answerable}
use Rattle.conversation_table.proofs.QueryErrors.{query_error}
use Rattle.conversation_table.proofs.Waits.{at_limit, wait_ran}
use Rattle.pg_replies.proofs.Sent.{kept_as}
use Rattle.pg_handlers.proofs.Waiting.{waited_done, waited_err, waited_item}
use Rattle.pg_handlers.proofs.query.simple.answer_waited.Goals as goal

module _ {S : Type 0} (s : State S) (verdict : Verdict) (told : Result (List ToldResponse) PgWireError) (out : List ℕ)
    (passed : verdict ≡ Passed) where
  -- an error as the outcome
  refused_ran : (e : PgWireError) → told ≡ Err e → IsRefusedEffect (query_polled s verdict told) out out s e
  refused_ran e t = rw (passed, t) (inr (record { replied = sym (append-nil out); came = refl }))

  -- responses as the outcome
  answer_ran : (responses : List ToldResponse) (s' : State S) (new : List ℕ) → told ≡ Ok responses → (r : Result (Unit {0}) PgWireError)
      → OnOk r (IsEffect (answered_all s responses) out new (Done s'))
      → IfErr r (IsRefusedEffect (answered_all s responses) out new s')
      → IsRunEnd (query_polled s verdict told) verdict out new s' (session_outcome r)
  answer_ran responses s' new t (Ok x) ok refused = rw (passed, t) ok
  answer_ran responses s' new t (Err e) ok refused = rw (passed, t) refused

answer_error : {S St : Type 0} (maps : St → _) (old new : Client St) (r : Result (Unit {0}) PgWireError) → IfErr r IsAnswerableItem
    → IfErr (session_outcome r) (IsQueryError {S = S} maps old new)
answer_error maps old new (Ok x) answerable = tt
answer_error maps old new (Err e) answerable = item_answerable e answerable

answer_kept : {St : Type 0} (old new : Client St) (r : Result (Unit {0}) PgWireError) → OnlyAnswers old new r
    → OnlyAnswers old new (session_outcome r)
answer_kept old new (Ok x) kept = record { info = tt; kept = kept.kept; store = kept.store; metadata = kept.metadata }
answer_kept old new (Err e) kept = record { info = kept.info; kept = kept.kept; store = kept.store; metadata = kept.metadata }

answer_told : {A : Type 0} (desk new_desk : DeskTold) (before after : Turns) (waited : Result A SessionError)
    → HasWaited desk new_desk before after waited → (out : A) → waited ≡ Ok out → (r : Result (Unit {0}) PgWireError)
    → IfErr r IsAnswerableItem → HasWaited desk new_desk before after (session_outcome r)
answer_told desk new_desk before after waited w out is (Ok x) answerable =
    waited_done _ _ desk new_desk before after waited w out x is
answer_told desk new_desk before after waited w out is (Err e) answerable =
    waited_item _ _ desk new_desk before after waited w out e is answerable

pub returns-in_err-waited : goal.returns-in_err-waited
returns-in_err-waited g c =
    let u = err_from_is_err_and c.from_residual.result c.from_residual.ensures.1 in
    let is = u.1 ∙ ap Err u.2 in
    let maps = g.St.PortalStore.maps in let old = c.args.client.now in let out = old.outbox in
    let s = state_of maps old in
    let all = told_all g.R.RowSource.items g.C.CopySource.items in
    let e = c.in_err-waited.field-0.0 in
    record {
      ran = λ verdict outcome v. rw is (wait_ran s out (λ v. query_polled s v (all outcome)) refl refl verdict outcome e
          (subst (IsVerdict outcome verdict) c.in_err-waited.was v));
      errors = rw is (query_error {A = Unit {0}} maps old old (Err e)
          (subst (λ w. IfErr w IsAnswerableError) c.in_err-waited.was c.requires.answerable)
          (at_limit e ((s ≡ s) × (out ≡ out)) (refl, refl)));
      kept = rw is (record { info = refl; kept = kept_as out out refl; store = refl; metadata = refl });
      told = λ desk new_desk before after w. rw is (waited_err _ _ desk new_desk before after c.args.waited w e c.in_err-waited.was);
    }

pub returns-in_err-responses : goal.returns-in_err-responses
returns-in_err-responses g c =
    let u = err_from_is_err_and c.from_residual-in_err-responses.result c.from_residual-in_err-responses.ensures.1 in
    let is = u.1 ∙ ap Err u.2 in
    let maps = g.St.PortalStore.maps in let old = c.args.client.now in let out = old.outbox in
    let all = told_all g.R.RowSource.items g.C.CopySource.items in
    let e = c.in_err-responses.field-0.0 in
    let item : IsAnswerableItem e = inr (subst AreSendable (ap all c.in_err-responses.was)
    (subst (λ w. IfOk w (λ outcome. AreSendable (all outcome))) c.in_ok-waited.was c.requires.sendable)) in
    record {
      ran = λ verdict outcome v.
          let came = subst (IsVerdict outcome verdict) c.in_ok-waited.was v in
          rw is (refused_ran (state_of maps old) verdict (all outcome) out came.0 e (ap all (sym came.1 ∙ c.in_err-responses.was)));
      errors = rw is (item_answerable e item);
      kept = rw is (record { info = refl; kept = kept_as out out refl; store = refl; metadata = refl });
      told = λ desk new_desk before after w. rw is (waited_item _ _ desk new_desk before after c.args.waited w _ e c.in_ok-waited.was item);
    }

pub returns : goal.returns
returns g c =
    let maps = g.St.PortalStore.maps in let old = c.args.client.now in let new = c.answer_query.new.client in
    let all = told_all g.R.RowSource.items g.C.CopySource.items in let a = c.answer_query.ensures in
    let is = c.session_outcome.ensures in
    record {
      ran = λ verdict outcome v.
          let came = subst (IsVerdict outcome verdict) c.in_ok-waited.was v in
          rw is (answer_ran (state_of maps old) verdict (all outcome) old.outbox came.0
          (told_responses g.R.RowSource.items g.C.CopySource.items c.in_ok-responses.responses) (state_of maps new) new.outbox
          (ap all (sym came.1 ∙ c.in_ok-responses.was)) c.answer_query.result a.ok a.refused);
      errors = rw is (answer_error maps old new c.answer_query.result a.answerable);
      kept = rw is (answer_kept old new c.answer_query.result a.kept);
      told = λ desk new_desk before after w. rw is (answer_told desk new_desk before after c.args.waited w _ c.in_ok-waited.was
          c.answer_query.result a.answerable);
    }
