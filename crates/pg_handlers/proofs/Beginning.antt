-- What the beginning of a query promises: where the message was answered by it, and where the query waits.
use Rattle.std.proofs.Common.{suc, ◌≡◌, ◌∷◌, ◌∙◌, [], false, List, Some, Result, ap, sym, subst}
use Rattle.std.specs.FinMap as fin
use Rattle.std.specs.Prelude.{IfErr}
use Rattle.pg_messages.specs.declared.extendedquery.Execute.{Execute}
use Rattle.pg_messages.specs.declared.simplequery.Query.{Query}
use Rattle.pg_results.specs.declared.error.PgWireError.{PgWireError}
use Rattle.pg_results.specs.Responses.{ToldResponse}
use Rattle.pg_results.specs.Texts.{is_blank}
use Rattle.pg_results.specs.Told.{ParserTold}
use Rattle.pg_portal.specs.Maps.{Maps}
use Rattle.pg_portal.specs.Told.{TablePortal, Unstarted, value_under}
use Rattle.pg_client.specs.declared.client.Client.{Client}
use Rattle.pg_client.specs.declared.desk.DeskCall.{DeskCall}
use Rattle.pg_client.specs.declared.desk.DeskCall.TheVariants as call
use Rattle.pg_client.specs.declared.ends.SessionError.{SessionError}
use Rattle.pg_client.specs.declared.ends.Turns.{Turns}
use Rattle.pg_client.specs.Desk.{DeskTold, after_calls}
use Rattle.pg_client.specs.State.{State, state_of}
use Rattle.pg_handlers.specs.declared.query.Begun.{Begun}
use Rattle.pg_handlers.specs.declared.query.Begun.TheVariants.{Answered, Unready}
use Rattle.pg_handlers.specs.Beginning.{IfAnswered, IfUnready, IsPolledOnce, WaitsToExecute, WaitsToQuery}
use Rattle.conversation_table.specs.ExecuteRow.{execute_polled}
use Rattle.conversation_table.specs.Executing.{portal_under}
use Rattle.conversation_table.specs.Good.{AreSendable, IsGoodState, IsSendableOutcome}
use Rattle.conversation_table.specs.Handlers.{ExtendedTold, QueryTold, SimpleTold, ToldQuery, told_query}
use Rattle.conversation_table.specs.Outcomes.{IsRunEnd}
use Rattle.conversation_table.specs.Questions.{IsAsked, Verdict}
use Rattle.conversation_table.specs.SimpleRows.{query_polled}
use Rattle.conversation_table.specs.Waiting.{HasWaited, IsQueryError, KeptByExecute, OnlyAnswers}
use Rattle.conversation_table.proofs.Executed.{IsExecuted, query_executed}
use Rattle.conversation_table.proofs.Queried.{IsQueried, query_ran}
use Rattle.conversation_table.proofs.QueryErrors.{query_answerable, query_limit}

-- what holds of the answer, by what else holds of it
pub answered_by : {K W : Type 0} (b : Begun K W) (P Q : Result (Unit {0}) SessionError → Type 0)
    → ((done : Result (Unit {0}) SessionError) → P done → Q done) → IfAnswered b P → IfAnswered b Q
answered_by (Answered done) P Q f x = f done x
answered_by (Unready kept waiting) P Q f x = tt

-- what holds of what waits, by what else holds of it
pub unready_by : {K W : Type 0} (b : Begun K W) (P Q : K → W → Type 0) → ((kept : K) (waiting : W) → P kept waiting → Q kept waiting)
    → IfUnready b P → IfUnready b Q
unready_by (Answered done) P Q f x = tt
unready_by (Unready kept waiting) P Q f x = f kept waiting x

pub unready_always : {K W : Type 0} (b : Begun K W) (P : Type 0) → P → IfUnready b (λ kept waiting. P)
unready_always (Answered done) P p = tt
unready_always (Unready kept waiting) P p = p

-- what was told of a query, and polled once
told_once : {A B : Type 0} (told : A → Result B PgWireError) (first query : QueryTold A) → IsPolledOnce first query
    → told_query told first ≡ record { owes = suc query.owes; outcome = told query.outcome }
told_once {A} {B} told first query x =
    ap (λ n. let t : ToldQuery B = record { owes = n; outcome = told first.outcome } in t) x.owed
    ∙ ap (λ (out : A). let t : ToldQuery B = record { owes = suc query.owes; outcome = told out } in t) (sym x.outcome)

-- ---- Execute

module _ {S St : Type 0} (h : ExtendedTold S) (maps : St → Maps S) (old new : Client St) (m : Execute) (p : TablePortal S)
    (found : value_under (fin.get (state_of maps old).portals m.name) ≡ Some p) (fresh : p.stage ≡ Unstarted)
    (good : IsGoodState h.parser (state_of maps old)) (query : ToldQuery ToldResponse)
    (query_is : query ≡ h.query old.info p.bound m.max_rows) where
  -- it ran, behind the start
  pub run_executed : (desk begun new_desk : DeskTold) → begun ≡ after_calls desk (call.Start ∷ []) → (turns new_turns : Turns)
      → (done : Result (Unit {0}) SessionError)
      → ((q : TablePortal S) → portal_under (maps old.store) m.name ≡ Some q → (verdict : Verdict)
      × IsAsked query.owes begun.calls new_desk.calls verdict
      × IsRunEnd (execute_polled (state_of maps old) m q verdict query.outcome) verdict old.outbox new.outbox (state_of maps new) done)
      → IfErr done (IsQueryError maps old new) → KeptByExecute maps m.name old new done
      → ((parser : ParserTold S) → IsGoodState parser (state_of maps old) → IsGoodState parser (state_of maps new))
      → HasWaited begun new_desk turns new_turns done
      → IsExecuted h m (state_of maps old) (state_of maps new) old.outbox new.outbox desk new_desk turns new_turns done
  run_executed desk begun new_desk starts turns new_turns done ran errors kept stays w =
      query_executed h m (state_of maps old) p found fresh good desk begun starts turns old.outbox query query_is (state_of maps new)
      new.outbox new_desk new_turns done ran (query_answerable maps old new done errors) w.caused (query_limit maps old new done errors)
      kept.info kept.left kept.kept stays w.turns w.bounded w.keeps

  pub begun_executed : {K W : Type 0} (desk begun : DeskTold) → begun ≡ after_calls desk (call.Start ∷ []) → (b : Begun K W)
      → IfAnswered b (λ done. (q : TablePortal S) → portal_under (maps old.store) m.name ≡ Some q → (calls : List DeskCall)
      → (verdict : Verdict) × IsAsked query.owes calls calls verdict
      × IsRunEnd (execute_polled (state_of maps old) m q verdict query.outcome) verdict old.outbox new.outbox (state_of maps new) done)
      → IfAnswered b (λ done. IfErr done (IsQueryError maps old new)) → IfAnswered b (λ done. KeptByExecute maps m.name old new done)
      → ((parser : ParserTold S) → IsGoodState parser (state_of maps old) → IsGoodState parser (state_of maps new))
      → IfAnswered b (λ done. (d : DeskTold) (turns : Turns) → HasWaited d d turns turns done)
      → IfAnswered b (λ done. (turns : Turns) → IsExecuted h m (state_of maps old) (state_of maps new) old.outbox new.outbox desk begun turns
      turns done)
  begun_executed desk begun starts (Answered done) ran errors kept stays calm =
      λ turns. run_executed desk begun begun starts turns turns done (λ q e. ran q e begun.calls) errors kept stays (calm begun turns)
  begun_executed desk begun starts (Unready kept_of waiting) ran errors kept stays calm = tt

pub waits_to_execute : {S A : Type 0} (h : ExtendedTold S) (told : A → Result ToldResponse PgWireError) (s : State S) (m : Execute)
    (p : TablePortal S) → value_under (fin.get s.portals m.name) ≡ Some p → p.stage ≡ Unstarted
    → (first query : QueryTold A) → told_query told first ≡ h.query s.info p.bound m.max_rows
    → IsSendableOutcome (told first.outcome) → IsPolledOnce first query → WaitsToExecute h told s m query
waits_to_execute h told s m p found fresh first query is sendable once = record {
  portal = p;
  found = found;
  fresh = fresh;
  unready = record { unspent = once.unspent; polled = sym is ∙ told_once told first query once };
  sendable = subst (λ out. IsSendableOutcome (told out)) (sym once.outcome) sendable;
}

-- ---- Query

module _ {S St : Type 0} (h : SimpleTold) (maps : St → Maps S) (old new : Client St) (m : Query) (busy : is_blank m.query ≡ false)
    (query : ToldQuery (List ToldResponse)) (query_is : query ≡ h old.info m.query) where
  -- it ran, behind the start
  pub run_queried : (desk begun new_desk : DeskTold) → begun ≡ after_calls desk (call.Start ∷ []) → (turns new_turns : Turns)
      → (done : Result (Unit {0}) SessionError)
      → ((verdict : Verdict) × IsAsked query.owes begun.calls new_desk.calls verdict
      × IsRunEnd (query_polled (state_of maps old) verdict query.outcome) verdict old.outbox new.outbox (state_of maps new) done)
      → IfErr done (IsQueryError maps old new) → OnlyAnswers old new done
      → HasWaited begun new_desk turns new_turns done
      → IsQueried h m (state_of maps old) (state_of maps new) old.outbox new.outbox desk new_desk turns new_turns done
  run_queried desk begun new_desk starts turns new_turns done ran errors kept w =
      query_ran h m (state_of maps old) busy desk begun starts turns old.outbox (state_of maps new) new.outbox new_desk new_turns done query
      query_is ran (query_answerable maps old new done errors) w.caused (query_limit maps old new done errors) kept.info kept.kept
      w.turns w.bounded w.keeps

  pub begun_queried : {K W : Type 0} (desk begun : DeskTold) → begun ≡ after_calls desk (call.Start ∷ []) → (b : Begun K W)
      → IfAnswered b (λ done. (calls : List DeskCall) → (verdict : Verdict) × IsAsked query.owes calls calls verdict
      × IsRunEnd (query_polled (state_of maps old) verdict query.outcome) verdict old.outbox new.outbox (state_of maps new) done)
      → IfAnswered b (λ done. IfErr done (IsQueryError maps old new)) → IfAnswered b (λ done. OnlyAnswers old new done)
      → IfAnswered b (λ done. (d : DeskTold) (turns : Turns) → HasWaited d d turns turns done)
      → IfAnswered b (λ done. (turns : Turns) → IsQueried h m (state_of maps old) (state_of maps new) old.outbox new.outbox desk begun turns
      turns done)
  begun_queried desk begun starts (Answered done) ran errors kept calm =
      λ turns. run_queried desk begun begun starts turns turns done (ran begun.calls) errors kept (calm begun turns)
  begun_queried desk begun starts (Unready kept_of waiting) ran errors kept calm = tt

pub waits_to_query : {S A : Type 0} (h : SimpleTold) (told : A → Result (List ToldResponse) PgWireError) (s : State S) (m : Query)
    → is_blank m.query ≡ false → (first query : QueryTold A) → told_query told first ≡ h s.info m.query
    → AreSendable (told first.outcome) → IsPolledOnce first query → WaitsToQuery h told s m query
waits_to_query h told s m busy first query is sendable once = record {
  busy = busy;
  unready = record { unspent = once.unspent; polled = sym is ∙ told_once told first query once };
  sendable = subst (λ out. AreSendable (told out)) (sym once.outcome) sendable;
}
