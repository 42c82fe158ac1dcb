-- What a Query promises, at each of its exits.
use Rattle.std.proofs.Common.{◌≡◌, false, true, ℕ, ◌+◌, ◌≤◌, ◌++◌, ◌∷◌, inl, List, [], Result, Ok, Err, length, take, refl, ap, sym, subst}
use Rattle.std.specs.Prelude.{IfErr, OnOk, OnErr}
use Rattle.pg_messages.specs.declared.simplequery.Query.{Query}
use Rattle.pg_messages.specs.declared.backend.PgWireBackendMessage.TheVariants as server
use Rattle.pg_messages.specs.Replies.{replies_bytes}
use Rattle.pg_results.specs.declared.error.PgWireError.{PgWireError}
use Rattle.pg_results.specs.declared.error.PgWireError.TheVariants as wire
use Rattle.pg_results.specs.Responses.{ToldResponse}
use Rattle.pg_results.specs.Texts.{is_blank}
use Rattle.pg_client.specs.declared.desk.DeskCall.TheVariants as call
use Rattle.pg_client.specs.declared.ends.SessionError.{SessionError}
use Rattle.pg_client.specs.declared.ends.SessionError.TheVariants as session
use Rattle.pg_client.specs.declared.ends.Turns.{Turns}
use Rattle.pg_client.specs.Desk.{DeskTold, KeepsDesk, after_calls}
use Rattle.pg_client.specs.Effect.{Done, IsCutRow, IsRefusedRow, IsRow, says}
use Rattle.conversation_table.specs.Handlers.{SimpleTold, ToldQuery}
use Rattle.conversation_table.specs.Outcomes.{IsRunEnd, session_outcome}
use Rattle.conversation_table.specs.Questions.{HasSpent, IsAsked, IsCausedSo, Verdict, questions_since}
use Rattle.pg_replies.specs.Replies.{ready}
use Rattle.pg_client.specs.Ends.{AtTurnLimit, IsAnswerableError}
use Rattle.conversation_table.specs.SimpleRows.{on_query, query_polled}
use Rattle.pg_client.specs.State.{State}
use Rattle.conversation_table.proofs.Causes.{caused_since}
use Rattle.pg_client.proofs.Desks.{keeps_after, keeps_none, keeps_then}
use Rattle.conversation_table.proofs.Executes.{asked_since, cut_as, cut_at_none, cut_started, no_turn_started, refused_as, row_as, run_refused, run_row, run_stopped, run_was, runs_query, silent_row, stopped_as}
use Rattle.conversation_table.proofs.Rows.{no_turn}
use Rattle.pg_replies.proofs.Sent.{kept_as}

pub record IsQueried {S A : Type 0} (h : SimpleTold) (m : Query) (s s' : State S) (out new_out : List ℕ) (desk new_desk : DeskTold)
    (turns new_turns : Turns) (result : Result A SessionError) : Type 0 where
  pub ok : OnOk result (IsRow (λ answers. on_query h answers s m) out new_out desk.calls new_desk.calls (Done s'))
  pub refused : IfErr result (IsRefusedRow (λ answers. on_query h answers s m) out new_out desk.calls new_desk.calls s')
  pub answerable : IfErr result IsAnswerableError
  pub caused : IfErr result (IsCausedSo desk.calls new_desk.calls)
  pub limit : IfErr result (λ e. AtTurnLimit e ((s' ≡ s) × (new_out ≡ out)))
  pub info : OnErr result (s'.info ≡ s.info)
  pub kept : take (length out) new_out ≡ out
  pub spent : HasSpent turns new_turns (questions_since desk.calls new_desk.calls) result
  pub bounded : turns.spent ≤ turns.limit → new_turns.spent ≤ new_turns.limit
  pub keeps : KeepsDesk desk new_desk

-- ---- a blank query

pub blank_queried : {S A : Type 0} (h : SimpleTold) (m : Query) (s : State S) (out new_out : List ℕ) (desk : DeskTold) (turns : Turns)
    (result : Result A PgWireError) → is_blank m.query ≡ true
    → OnOk result (new_out ≡ out ++ replies_bytes (server.EmptyQueryResponse (record {}) ∷ ready s.info.status ∷ []))
    → IfErr result (λ e. e ≡ wire.NoMemory) → take (length out) new_out ≡ out
    → IsQueried h m s s out new_out desk desk turns turns (session_outcome result)
blank_queried h m s out new_out desk turns (Ok x) blank ok refused kept = record {
  ok = silent_row (λ answers. on_query h answers s m) (says (server.EmptyQueryResponse (record {}) ∷ ready s.info.status ∷ []) s)
      desk.calls (λ answers. rw blank refl) (record { replied = ok; came = refl });
  refused = tt;
  answerable = tt;
  caused = tt;
  limit = tt;
  info = tt;
  kept = kept;
  spent = no_turn turns desk.calls;
  bounded = λ b. b;
  keeps = keeps_none desk;
}
blank_queried h m s out new_out desk turns (Err e) blank ok refused kept = record {
  ok = tt;
  refused = inl (refused, cut_at_none (λ answers. on_query h answers s m) desk.calls);
  answerable = inl refused;
  caused = rw refused tt;
  limit = tt;
  info = refl;
  kept = kept;
  spent = inl (no_turn turns desk.calls);
  bounded = λ b. b;
  keeps = keeps_none desk;
}

-- ---- memory is wanting before the first poll

none_queried : {S A : Type 0} (h : SimpleTold) (m : Query) (s : State S) (out : List ℕ) (desk new_desk : DeskTold) (turns : Turns)
    → IsCutRow (λ answers. on_query h answers s m) desk.calls new_desk.calls
    → turns ≡ record { spent = turns.spent + questions_since desk.calls new_desk.calls; limit = turns.limit } → KeepsDesk desk new_desk
    → IsQueried {A = A} h m s s out out desk new_desk turns turns (Err (session.Wire wire.NoMemory))
none_queried h m s out desk new_desk turns cut spent keeps = record {
  ok = tt;
  refused = inl (refl, cut);
  answerable = inl refl;
  caused = tt;
  limit = tt;
  info = refl;
  kept = kept_as out out refl;
  spent = inl spent;
  bounded = λ b. b;
  keeps = keeps;
}

-- the desk wasn't told of a start
pub none_started : {S A : Type 0} (h : SimpleTold) (m : Query) (s : State S) (out : List ℕ) (desk new_desk : DeskTold) (turns : Turns)
    → new_desk ≡ desk → IsQueried {A = A} h m s s out out desk new_desk turns turns (Err (session.Wire wire.NoMemory))
none_started {S} {A} h m s out desk new_desk turns e =
    subst (λ (d : DeskTold). IsQueried {A = A} h m s s out out desk d turns turns (Err (session.Wire wire.NoMemory))) (sym e)
    (none_queried h m s out desk desk turns (cut_at_none (λ answers. on_query h answers s m) desk.calls) (no_turn turns desk.calls)
    (keeps_none desk))

-- ---- a query that isn't blank

module _ {S : Type 0} (h : SimpleTold) (m : Query) (s : State S) (busy : is_blank m.query ≡ false) (desk begun : DeskTold)
    (starts : begun ≡ after_calls desk (call.Start ∷ [])) (turns : Turns) (out : List ℕ) where
  starts_calls : begun.calls ≡ desk.calls ++ call.Start ∷ []
  starts_calls = ap (λ d. d.calls) starts

  -- it wasn't begun
  pub none_begun : {A : Type 0} → IsQueried {A = A} h m s s out out desk begun turns turns (Err (session.Wire wire.NoMemory))
  none_begun {A} = none_queried {A = A} h m s out desk begun turns (cut_as (λ answers. on_query h answers s m)
      (run_row (h s.info m.query).owes (λ verdict. query_polled s verdict (h s.info m.query).outcome)) (runs_query h s m busy)
      (cut_started (h s.info m.query).owes (λ verdict. query_polled s verdict (h s.info m.query).outcome) desk.calls begun.calls
      starts_calls)) (no_turn_started turns desk.calls begun.calls starts_calls) (keeps_after desk begun (call.Start ∷ []) starts)

  module _ {A : Type 0} (s' : State S) (new_out : List ℕ) (new_desk : DeskTold) (new_turns : Turns) (result : Result A SessionError)
    where
      ran_ok : (result : Result A SessionError) (verdict : Verdict) → IsAsked (h s.info m.query).owes begun.calls new_desk.calls verdict
          → IsRunEnd (query_polled s verdict (h s.info m.query).outcome) verdict out new_out s' result
          → OnOk result (IsRow (λ answers. on_query h answers s m) out new_out desk.calls new_desk.calls (Done s'))
      ran_ok (Ok x) verdict asked ended = row_as (λ answers. on_query h answers s m)
          (run_row (h s.info m.query).owes (λ verdict. query_polled s verdict (h s.info m.query).outcome)) (runs_query h s m busy)
          (run_was (h s.info m.query).owes (λ verdict. query_polled s verdict (h s.info m.query).outcome) desk.calls begun.calls
          starts_calls new_desk.calls verdict asked ended)
      ran_ok (Err e) verdict asked ended = tt

      ran_refused : (result : Result A SessionError) (verdict : Verdict)
          → IsAsked (h s.info m.query).owes begun.calls new_desk.calls verdict
          → IsRunEnd (query_polled s verdict (h s.info m.query).outcome) verdict out new_out s' result
          → IfErr result (IsRefusedRow (λ answers. on_query h answers s m) out new_out desk.calls new_desk.calls s')
      ran_refused (Ok x) verdict asked ended = tt
      ran_refused (Err (session.Wire e)) verdict asked ended = refused_as (λ answers. on_query h answers s m)
          (run_row (h s.info m.query).owes (λ verdict. query_polled s verdict (h s.info m.query).outcome)) out new_out desk.calls
          new_desk.calls s' (session.Wire e) (runs_query h s m busy)
          (run_refused (h s.info m.query).owes (λ verdict. query_polled s verdict (h s.info m.query).outcome) desk.calls begun.calls
          starts_calls new_desk.calls verdict asked s' e ended)
      ran_refused (Err session.TurnLimit) verdict asked ended = stopped_as (λ answers. on_query h answers s m)
          (run_row (h s.info m.query).owes (λ verdict. query_polled s verdict (h s.info m.query).outcome)) (runs_query h s m busy)
          (run_stopped (h s.info m.query).owes (λ verdict. query_polled s verdict (h s.info m.query).outcome) desk.calls begun.calls
          starts_calls new_desk.calls verdict asked ended.0 ended.1)

      caused : (result : Result A SessionError) → IfErr result (IsCausedSo begun.calls new_desk.calls)
          → IfErr result (IsCausedSo desk.calls new_desk.calls)
      caused (Ok x) c = tt
      caused (Err e) c = caused_since desk.calls begun.calls new_desk.calls starts_calls e c

      -- it was begun, and ran
      pub query_ran : (query : ToldQuery (List ToldResponse)) → query ≡ h s.info m.query
          → (verdict : Verdict) × IsAsked query.owes begun.calls new_desk.calls verdict
          × IsRunEnd (query_polled s verdict query.outcome) verdict out new_out s' result
          → IfErr result IsAnswerableError → IfErr result (IsCausedSo begun.calls new_desk.calls)
          → IfErr result (λ e. AtTurnLimit e ((s' ≡ s) × (new_out ≡ out))) → OnErr result (s'.info ≡ s.info)
          → take (length out) new_out ≡ out → HasSpent turns new_turns (questions_since begun.calls new_desk.calls) result
          → (turns.spent ≤ turns.limit → new_turns.spent ≤ new_turns.limit) → KeepsDesk begun new_desk
          → IsQueried h m s s' out new_out desk new_desk turns new_turns result
      query_ran query query_is ran answerable cause limit info kept spent bounded keeps =
          let r = subst (λ (query : ToldQuery (List ToldResponse)). (verdict : Verdict)
          × IsAsked query.owes begun.calls new_desk.calls verdict
          × IsRunEnd (query_polled s verdict query.outcome) verdict out new_out s' result) query_is ran in
          record {
            ok = ran_ok result r.0 r.1 r.2;
            refused = ran_refused result r.0 r.1 r.2;
            answerable = answerable;
            caused = caused result cause;
            limit = limit;
            info = info;
            kept = kept;
            spent = subst (λ (n : ℕ). HasSpent turns new_turns n result)
                (asked_since (h s.info m.query).owes desk.calls begun.calls starts_calls new_desk.calls r.0 r.1) spent;
            bounded = bounded;
            keeps = keeps_then desk begun new_desk (keeps_after desk begun (call.Start ∷ []) starts) keeps;
          }

-- what is returned
pub returned : {S A : Type 0} {h : SimpleTold} {m : Query} {s s' : State S} {out new_out : List ℕ} {desk new_desk : DeskTold}
    {turns new_turns : Turns} {result other : Result A SessionError} → result ≡ other
    → IsQueried h m s s' out new_out desk new_desk turns new_turns other
    → IsQueried h m s s' out new_out desk new_desk turns new_turns result
returned p x = rw p x
