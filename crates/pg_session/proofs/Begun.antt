-- What the beginning of a query did to a client of a ready session.
use Rattle.std.proofs.Common.{◌≡◌, ◌∷◌, [], Bool, List, Result, ap, sym, subst}
use Rattle.std.specs.Prelude.{IfErr, OnOk}
use Rattle.pg_messages.specs.declared.extendedquery.Execute.{Execute}
use Rattle.pg_messages.specs.declared.simplequery.Query.{Query}
use Rattle.pg_messages.specs.declared.frontend.PgWireFrontendMessage.{PgWireFrontendMessage}
use Rattle.pg_messages.specs.declared.frontend.PgWireFrontendMessage.TheVariants as client
use Rattle.pg_results.specs.declared.client.PgWireConnectionState.TheVariants as phase
use Rattle.pg_results.specs.declared.error.PgWireError.{PgWireError}
use Rattle.pg_results.specs.Responses.{ToldResponse}
use Rattle.pg_portal.specs.Maps.{Maps}
use Rattle.pg_client.specs.declared.client.Client.{Client}
use Rattle.pg_client.specs.declared.desk.DeskCall.TheVariants as call
use Rattle.pg_client.specs.declared.ends.SessionError.{SessionError}
use Rattle.pg_client.specs.declared.ends.Turns.{Turns}
use Rattle.pg_client.specs.Desk.{DeskTold, after_calls}
use Rattle.pg_client.specs.Effect.{Done, IsCutRow, IsRefusedRow, IsRow}
use Rattle.pg_client.specs.State.{State, state_of}
use Rattle.pg_handlers.specs.declared.query.Begun.{Begun}
use Rattle.pg_handlers.specs.declared.query.Begun.TheVariants.{Answered, Unready}
use Rattle.pg_handlers.specs.Beginning.{IfAnswered, IfUnready, WaitsToExecute, WaitsToQuery}
use Rattle.conversation_table.specs.ExecuteRow.{on_execute}
use Rattle.conversation_table.specs.Good.{IsGoodState}
use Rattle.conversation_table.specs.Handlers.{Handlers, QueryTold}
use Rattle.conversation_table.specs.Questions.{Verdict}
use Rattle.conversation_table.specs.SimpleRows.{on_query, query_polled}
use Rattle.conversation_table.specs.Table.{message_row, ready_row, row}
use Rattle.conversation_table.specs.Waiting.{HasWaited, IsQueryError}
use Rattle.conversation_table.proofs.Executes.{cut_as, cut_started, run_row, runs_query}
use Rattle.conversation_table.proofs.Lends.{cut_begun}
use Rattle.conversation_table.proofs.QueryErrors.{query_answerable}
use Rattle.conversation_runs.specs.Messages.{going}
use Rattle.conversation_runs.specs.Steps.{IsMessageRow}
use Rattle.conversation_runs.proofs.MessageRows.{called_row}

-- what holds of what waits, by what else holds of it
pub unready_by : {K W : Type 0} (b : Begun K W) (P Q R : K → W → Type 0)
    → ((kept : K) (waiting : W) → P kept waiting → Q kept waiting → R kept waiting)
    → IfUnready b P → IfUnready b Q → IfUnready b R
unready_by (Answered done) P Q R f x y = tt
unready_by (Unready kept waiting) P Q R f x y = f kept waiting x y

-- the same of the answer
pub answered_by : {K W : Type 0} (b : Begun K W) (P Q : Result (Unit {0}) SessionError → Type 0)
    → ((done : Result (Unit {0}) SessionError) → P done → Q done) → IfAnswered b P → IfAnswered b Q
answered_by (Answered done) P Q f x = f done x
answered_by (Unready kept waiting) P Q f x = tt

pub answered_always : {K W : Type 0} (b : Begun K W) (P : Type 0) → P → IfAnswered b (λ done. P)
answered_always (Answered done) P p = p
answered_always (Unready kept waiting) P p = tt

-- The message was answered by the beginning of its query.
pub begun_row : {S St K W : Type 0} (h : Handlers S) (maps : St → Maps S) (old new : Client St) (m : PgWireFrontendMessage)
    (desk new_desk : DeskTold) (b : Begun K W) → (state_of maps old).info.state ≡ phase.ReadyForQuery
    → IfAnswered b (λ done. OnOk done (IsRow (λ answers. ready_row h answers (state_of maps old) m) old.outbox new.outbox desk.calls
    new_desk.calls (Done (state_of maps new))))
    → IfAnswered b (λ done. IfErr done (IsRefusedRow (λ answers. ready_row h answers (state_of maps old) m) old.outbox new.outbox
    desk.calls new_desk.calls (state_of maps new)))
    → IfAnswered b (λ done. IfErr done (IsQueryError maps old new))
    → IfAnswered b (λ done. (turns : Turns) → HasWaited desk new_desk turns turns done)
    → IfAnswered b (λ done. IsGoodState h.extended.parser (state_of maps new))
    → IfAnswered b (λ done. (turns : Turns) → IsMessageRow h m (state_of maps old) (state_of maps new) old.outbox new.outbox desk new_desk
    turns turns (going done))
begun_row h maps old new m desk new_desk (Answered done) ready ok refused errors waited good = λ turns.
    let w = waited turns in
    called_row h (state_of maps old) (state_of maps new) m old.outbox new.outbox desk new_desk turns turns done ready ok refused
    (query_answerable maps old new done errors) good w.turns w.bounded w.keeps
begun_row h maps old new m desk new_desk (Unready kept waiting) ready ok refused errors waited good = tt

-- ---- an answer that was cut off behind the start

row_when_ready : {S : Type 0} (h : Handlers S) (s : State S) (m : PgWireFrontendMessage) → s.info.state ≡ phase.ReadyForQuery
    → (answers : List Bool) → message_row h answers s m ≡ ready_row h answers s m
row_when_ready h s m ready answers = ap (λ p. row h answers s m p) ready

module _ {S A : Type 0} (h : Handlers S) (s : State S) (ready : s.info.state ≡ phase.ReadyForQuery) (desk begun : DeskTold)
    (starts : begun ≡ after_calls desk (call.Start ∷ [])) (query : QueryTold A) where
  pub execute_cut : (m : Execute) (told : A → Result ToldResponse PgWireError) → WaitsToExecute h.extended told s m query
      → IsCutRow (λ answers. message_row h answers s (client.Execute m)) desk.calls begun.calls
  execute_cut m told w = cut_as (λ answers. message_row h answers s (client.Execute m)) (λ answers. on_execute h.extended answers s m)
      (row_when_ready h s (client.Execute m) ready)
      (cut_begun h.extended s m w.portal w.found w.fresh desk.calls begun.calls (ap (λ d. d.calls) starts))

  pub query_cut : (m : Query) (told : A → Result (List ToldResponse) PgWireError) → WaitsToQuery h.simple told s m query
      → IsCutRow (λ answers. message_row h answers s (client.Query m)) desk.calls begun.calls
  query_cut m told w =
      let effect = λ (verdict : Verdict). query_polled s verdict (h.simple s.info m.query).outcome in
      cut_as (λ answers. message_row h answers s (client.Query m)) (λ answers. on_query h.simple answers s m)
      (row_when_ready h s (client.Query m) ready)
      (cut_as (λ answers. on_query h.simple answers s m) (run_row (h.simple s.info m.query).owes effect) (runs_query h.simple s m w.busy)
      (cut_started (h.simple s.info m.query).owes effect desk.calls begun.calls (ap (λ d. d.calls) starts)))

-- what holds of a state holds after the beginning, where it does after an answer
pub begun_good : {S St K W : Type 0} (maps : St → Maps S) (old new : Client St) (P : State S → Type 0) → P (state_of maps old)
    → (b : Begun K W) → IfAnswered b (λ done. P (state_of maps new)) → IfUnready b (λ kept waiting. new ≡ old) → P (state_of maps new)
begun_good maps old new P p (Answered done) x same = x
begun_good maps old new P p (Unready kept waiting) x same = subst (λ k. P (state_of maps k)) (sym same) p
