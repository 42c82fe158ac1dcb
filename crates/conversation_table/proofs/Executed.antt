-- What an Execute promises, at each of its exits.
use Rattle.std.proofs.Common.{◌≡◌, false, ℕ, ℤ, ◌+◌, ◌≤◌, ◌++◌, ◌∷◌, inl, inr, List, [], Option, Some, None, Result, Ok, Err, length, take, refl, ap, sym, subst, ◌∙◌}
use Rattle.std.specs.Prelude.{IfErr, OnOk, OnErr}
use Rattle.std.specs.FinMap as fin
use Rattle.pg_messages.specs.declared.extendedquery.Execute.{Execute}
use Rattle.pg_results.specs.declared.error.PgWireError.{PgWireError}
use Rattle.pg_results.specs.declared.error.PgWireError.TheVariants as wire
use Rattle.pg_portal.specs.declared.store.Entry.{Entry}
use Rattle.pg_results.specs.Responses.{ToldResponse}
use Rattle.pg_results.specs.Rows.{IsAnswerable, IsAnswerableItem}
use Rattle.pg_results.specs.Told.{ParserTold}
use Rattle.pg_portal.specs.Told.{TablePortal, Stage, Unstarted, value_under}
use Rattle.pg_client.specs.declared.desk.DeskCall.{DeskCall}
use Rattle.pg_client.specs.declared.desk.DeskCall.TheVariants as call
use Rattle.pg_client.specs.declared.ends.SessionError.{SessionError}
use Rattle.pg_client.specs.declared.ends.SessionError.TheVariants as session
use Rattle.pg_client.specs.declared.ends.Turns.{Turns}
use Rattle.pg_client.specs.Desk.{DeskTold, KeepsDesk, after_calls}
use Rattle.pg_client.specs.Effect.{Done, IsCutRow, IsEffect, IsRefusedEffect, IsRefusedRow, IsRow}
use Rattle.conversation_table.specs.ExecuteRow.{execute_polled, executed_nothing, on_execute}
use Rattle.conversation_table.specs.Executing.{HasComeTo, IsLeftBehind, IsPageOf, is_unstarted, page_result, portal_under}
use Rattle.conversation_table.specs.Good.{HasGoodTag, IsGoodState}
use Rattle.conversation_table.specs.Handlers.{ExtendedTold, ToldQuery}
use Rattle.conversation_table.specs.Outcomes.{IsRunEnd, session_outcome}
use Rattle.conversation_table.specs.Questions.{HasSpent, IsAsked, IsCausedSo, Verdict, questions_since}
use Rattle.pg_client.specs.Ends.{AtTurnLimit, IsAnswerableError}
use Rattle.pg_client.specs.State.{State}
use Rattle.conversation_table.proofs.Causes.{caused_since, item_answerable, item_caused}
use Rattle.pg_client.proofs.Desks.{keeps_after, keeps_none, keeps_then}
use Rattle.conversation_table.proofs.Executes.{asked_since, cut_at_none, no_turn_started, silent_row, silent_refused}
use Rattle.conversation_table.proofs.Lends.{IsLent, cut_begun, ended_ok, ended_refused, good_same, good_written, left_lent, maps_of, no_portal, started_ok, started_refused}
use Rattle.conversation_table.proofs.Rows.{no_turn}
use Rattle.pg_replies.proofs.Sent.{kept_as, kept_in_front}

pub record IsExecuted {S A : Type 0} (h : ExtendedTold S) (m : Execute) (s s' : State S) (out new_out : List ℕ) (desk new_desk : DeskTold)
    (turns new_turns : Turns) (result : Result A SessionError) : Type 0 where
  pub ok : OnOk result (IsRow (λ answers. on_execute h answers s m) out new_out desk.calls new_desk.calls (Done s'))
  pub refused : IfErr result (IsRefusedRow (λ answers. on_execute h answers s m) out new_out desk.calls new_desk.calls s')
  pub answerable : IfErr result IsAnswerableError
  pub caused : IfErr result (IsCausedSo desk.calls new_desk.calls)
  pub limit : IfErr result (λ e. AtTurnLimit e ((s' ≡ s) × (new_out ≡ out)))
  pub info : OnErr result (s'.info ≡ s.info)
  pub left : OnErr result (IsLeftBehind (maps_of s) m.name (maps_of s'))
  pub kept : take (length out) new_out ≡ out
  pub good : IsGoodState h.parser s'
  pub spent : HasSpent turns new_turns (questions_since desk.calls new_desk.calls) result
  pub bounded : turns.spent ≤ turns.limit → new_turns.spent ≤ new_turns.limit
  pub keeps : KeepsDesk desk new_desk

-- ---- there is no portal to run

nothing_caused : {S : Type 0} (m : Execute) (s s' : State S) (out new_out : List ℕ) (calls : List DeskCall)
    (o : Option (Entry (TablePortal S))) (e : PgWireError) → IsRefusedEffect (executed_nothing s m.name o) out new_out s' e
    → IsCausedSo calls calls (session.Wire e)
nothing_caused m s s' out new_out calls o e (inl none) = rw none tt
nothing_caused m s s' out new_out calls None e (inr x) =
    let is : e ≡ wire.PortalNotFound m.name = let came = x.came in cc in rw is tt
nothing_caused m s s' out new_out calls (Some _) e (inr x) = let came = x.came in cc

module _ {S A : Type 0} (h : ExtendedTold S) (m : Execute) (s s' : State S) (out new_out : List ℕ) (desk : DeskTold) (turns : Turns) where
  pub nothing_executed : (result : Result A PgWireError) → IsGoodState h.parser s → value_under (fin.get s.portals m.name) ≡ None → s' ≡ s
      → OnOk result (IsEffect (executed_nothing s m.name (fin.get s.portals m.name)) out new_out (Done s'))
      → IfErr result (IsRefusedEffect (executed_nothing s m.name (fin.get s.portals m.name)) out new_out s') → IfErr result IsAnswerable
      → OnErr result (new_out ≡ out) → IsExecuted h m s s' out new_out desk desk turns turns (session_outcome result)
  nothing_executed (Ok x) good none same ok refused answerable waiting = record {
    ok = silent_row (λ answers. on_execute h answers s m) (executed_nothing s m.name (fin.get s.portals m.name)) desk.calls
        (λ answers. no_portal h answers s m (fin.get s.portals m.name) none) ok;
    refused = tt;
    answerable = tt;
    caused = tt;
    limit = tt;
    info = tt;
    left = tt;
    kept = kept_in_front out new_out _ ok.replied;
    good = good_same h.parser s good s' same;
    spent = no_turn turns desk.calls;
    bounded = λ b. b;
    keeps = keeps_none desk;
  }
  nothing_executed (Err e) good none same ok refused answerable waiting = record {
    ok = tt;
    refused = silent_refused (λ answers. on_execute h answers s m) (executed_nothing s m.name (fin.get s.portals m.name)) desk.calls e
        (λ answers. no_portal h answers s m (fin.get s.portals m.name) none) refused;
    answerable = answerable;
    caused = nothing_caused m s s' out new_out desk.calls (fin.get s.portals m.name) e refused;
    limit = tt;
    info = ap (λ t. t.info) same;
    left = inl (ap maps_of same);
    kept = kept_as out new_out waiting;
    good = good_same h.parser s good s' same;
    spent = inl (no_turn turns desk.calls);
    bounded = λ b. b;
    keeps = keeps_none desk;
  }

  -- the store was lent, and is the same
  pub nothing_lent : (t : State S) → t ≡ s → (result : Result A PgWireError) → IsGoodState h.parser s
      → value_under (fin.get s.portals m.name) ≡ None → s' ≡ t
      → OnOk result (IsEffect (executed_nothing t m.name (fin.get t.portals m.name)) out new_out (Done s'))
      → IfErr result (IsRefusedEffect (executed_nothing t m.name (fin.get t.portals m.name)) out new_out s') → IfErr result IsAnswerable
      → OnErr result (new_out ≡ out) → IsExecuted h m s s' out new_out desk desk turns turns (session_outcome result)
  nothing_lent t e result good none same ok refused answerable waiting = nothing_executed result good none (same ∙ e)
      (subst (λ (t : State S). OnOk result (IsEffect (executed_nothing t m.name (fin.get t.portals m.name)) out new_out (Done s'))) e ok)
      (subst (λ (t : State S). IfErr result (IsRefusedEffect (executed_nothing t m.name (fin.get t.portals m.name)) out new_out s')) e
      refused) answerable waiting

  -- ---- a page of a started portal

  page_at : (old stage : Stage) (limit : ℤ) (result : Result A PgWireError) → limit ≡ m.max_rows
      → IsPageOf (page_result limit old) stage out new_out result → IsPageOf (page_result m.max_rows old) stage out new_out result
  page_at old stage limit result e x = subst (λ (z : ℤ). IsPageOf (page_result z old) stage out new_out result) e x

  pub page_executed : (p : TablePortal S) (stage : Stage) (result : Result A PgWireError) → IsGoodState h.parser s
      → IsLent s m.name p stage s' → is_unstarted p.stage ≡ false → (limit : ℤ) → limit ≡ m.max_rows
      → IsPageOf (page_result limit p.stage) stage out new_out result
      → IfErr result IsAnswerableItem → OnErr result (HasComeTo p.stage stage) → take (length out) new_out ≡ out → HasGoodTag stage
      → IsExecuted h m s s' out new_out desk desk turns turns (session_outcome result)
  page_executed p stage (Ok x) good l started limit limit_is sent answerable stays kept tag = record {
    ok = started_ok s m p out new_out stage s' l.written l.found h desk.calls p.stage refl started
        (page_at p.stage stage limit (Ok x) limit_is sent);
    refused = tt;
    answerable = tt;
    caused = tt;
    limit = tt;
    info = tt;
    left = tt;
    kept = kept;
    good = good_written h.parser s good m.name p stage s' l.found l.written tag;
    spent = no_turn turns desk.calls;
    bounded = λ b. b;
    keeps = keeps_none desk;
  }
  page_executed p stage (Err e) good l started limit limit_is sent answerable stays kept tag = record {
    ok = tt;
    refused = started_refused s m p out new_out stage s' l.written l.found h desk.calls p.stage e refl started
        (page_at p.stage stage limit (Err e) limit_is sent);
    answerable = item_answerable e answerable;
    caused = item_caused desk.calls desk.calls e answerable;
    limit = tt;
    info = ap (λ t. t.info) l.written;
    left = left_lent s s' m.name p stage l stays;
    kept = kept;
    good = good_written h.parser s good m.name p stage s' l.found l.written tag;
    spent = inl (no_turn turns desk.calls);
    bounded = λ b. b;
    keeps = keeps_none desk;
  }

-- ---- memory is wanting before the first poll

pub none_executed : {S A : Type 0} (h : ExtendedTold S) (m : Execute) (s s' : State S) (out : List ℕ) (desk new_desk : DeskTold)
    (turns : Turns) → IsGoodState h.parser s → s' ≡ s → IsCutRow (λ answers. on_execute h answers s m) desk.calls new_desk.calls
    → turns ≡ record { spent = turns.spent + questions_since desk.calls new_desk.calls; limit = turns.limit } → KeepsDesk desk new_desk
    → IsExecuted {A = A} h m s s' out out desk new_desk turns turns (Err (session.Wire wire.NoMemory))
none_executed h m s s' out desk new_desk turns good same cut spent keeps = record {
  ok = tt;
  refused = inl (refl, cut);
  answerable = inl refl;
  caused = tt;
  limit = tt;
  info = ap (λ t. t.info) same;
  left = inl (ap maps_of same);
  kept = kept_as out out refl;
  good = good_same h.parser s good s' same;
  spent = inl spent;
  bounded = λ b. b;
  keeps = keeps;
}

-- the desk wasn't told of a start
pub none_started : {S A : Type 0} (h : ExtendedTold S) (m : Execute) (s s' : State S) (out : List ℕ) (desk new_desk : DeskTold)
    (turns : Turns) → IsGoodState h.parser s → s' ≡ s → new_desk ≡ desk
    → IsExecuted {A = A} h m s s' out out desk new_desk turns turns (Err (session.Wire wire.NoMemory))
none_started {S} {A} h m s s' out desk new_desk turns good same e =
    subst (λ (d : DeskTold). IsExecuted {A = A} h m s s' out out desk d turns turns (Err (session.Wire wire.NoMemory))) (sym e)
    (none_executed h m s s' out desk desk turns good same (cut_at_none (λ answers. on_execute h answers s m) desk.calls)
    (no_turn turns desk.calls) (keeps_none desk))

-- ---- a portal that isn't started

module _ {S : Type 0} (h : ExtendedTold S) (m : Execute) (s : State S) (p : TablePortal S)
    (found : value_under (fin.get s.portals m.name) ≡ Some p) (fresh : p.stage ≡ Unstarted) (good : IsGoodState h.parser s)
    (desk begun : DeskTold) (starts : begun ≡ after_calls desk (call.Start ∷ [])) (turns : Turns) (out : List ℕ) where
  starts_calls : begun.calls ≡ desk.calls ++ call.Start ∷ []
  starts_calls = ap (λ d. d.calls) starts

  -- its query wasn't begun
  pub none_begun : {A : Type 0} (s' : State S) → s' ≡ s
      → IsExecuted {A = A} h m s s' out out desk begun turns turns (Err (session.Wire wire.NoMemory))
  none_begun {A} s' same = none_executed {A = A} h m s s' out desk begun turns good same
      (cut_begun h s m p found fresh desk.calls begun.calls
      starts_calls) (no_turn_started turns desk.calls begun.calls starts_calls) (keeps_after desk begun (call.Start ∷ []) starts)

  spent_since : {A : Type 0} (calls new_calls : List DeskCall) (new_turns : Turns)
      (result : Result A SessionError) → questions_since begun.calls new_calls ≡ questions_since calls new_calls
      → HasSpent turns new_turns (questions_since begun.calls new_calls) result
      → HasSpent turns new_turns (questions_since calls new_calls) result
  spent_since calls new_calls new_turns result same x = subst (λ (n : ℕ). HasSpent turns new_turns n result) same x

  caused : {A : Type 0} (new_calls : List DeskCall) (result : Result A SessionError) → IfErr result (IsCausedSo begun.calls new_calls)
      → IfErr result (IsCausedSo desk.calls new_calls)
  caused new_calls (Ok x) c = tt
  caused new_calls (Err e) c = caused_since desk.calls begun.calls new_calls starts_calls e c

  -- its query was begun, and ran
  pub query_executed : {A : Type 0} (query : ToldQuery ToldResponse) → query ≡ h.query s.info p.bound m.max_rows
      → (s' : State S) (new_out : List ℕ)
      (new_desk : DeskTold) (new_turns : Turns) (result : Result A SessionError)
      → ((q : TablePortal S) → portal_under (maps_of s) m.name ≡ Some q → (verdict : Verdict)
      × IsAsked query.owes begun.calls new_desk.calls verdict
      × IsRunEnd (execute_polled s m q verdict query.outcome) verdict out new_out s' result)
      → IfErr result IsAnswerableError → IfErr result (IsCausedSo begun.calls new_desk.calls)
      → IfErr result (λ e. AtTurnLimit e ((s' ≡ s) × (new_out ≡ out))) → OnErr result (s'.info ≡ s.info)
      → OnErr result (IsLeftBehind (maps_of s) m.name (maps_of s')) → take (length out) new_out ≡ out
      → ((parser : ParserTold S) → IsGoodState parser s → IsGoodState parser s')
      → HasSpent turns new_turns (questions_since begun.calls new_desk.calls) result
      → (turns.spent ≤ turns.limit → new_turns.spent ≤ new_turns.limit) → KeepsDesk begun new_desk
      → IsExecuted h m s s' out new_out desk new_desk turns new_turns result
  query_executed query query_is s' new_out new_desk new_turns result ran answerable cause limit info left kept good' spent bounded keeps =
      let r = subst (λ (query : ToldQuery ToldResponse). (verdict : Verdict) × IsAsked query.owes begun.calls new_desk.calls verdict
      × IsRunEnd (execute_polled s m p verdict query.outcome) verdict out new_out s' result) query_is (ran p found) in
      record {
        ok = ended_ok h s m p found fresh desk.calls begun.calls starts_calls new_desk.calls r.0 r.1 out new_out s' result r.2;
        refused = ended_refused h s m p found fresh desk.calls begun.calls starts_calls new_desk.calls r.0 r.1 out new_out s' result r.2;
        answerable = answerable;
        caused = caused new_desk.calls result cause;
        limit = limit;
        info = info;
        left = left;
        kept = kept;
        good = good' h.parser good;
        spent = spent_since desk.calls new_desk.calls new_turns result (asked_since (h.query s.info p.bound m.max_rows).owes desk.calls
            begun.calls starts_calls new_desk.calls r.0 r.1) spent;
        bounded = bounded;
        keeps = keeps_then desk begun new_desk (keeps_after desk begun (call.Start ∷ []) starts) keeps;
      }

-- what is returned
pub returned : {S A : Type 0} {h : ExtendedTold S} {m : Execute} {s s' : State S} {out new_out : List ℕ} {desk new_desk : DeskTold}
    {turns new_turns : Turns} {result other : Result A SessionError} → result ≡ other
    → IsExecuted h m s s' out new_out desk new_desk turns new_turns other
    → IsExecuted h m s s' out new_out desk new_desk turns new_turns result
returned p x = rw p x
