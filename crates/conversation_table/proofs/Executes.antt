-- Rows that run a query: one start, its questions, and what it answers.
use Rattle.std.proofs.Common.{arith, ◌≡◌, ℕ, ◌+◌, inl, inr, Bool, false, List, [], ◌∷◌, ◌++◌, length, drop, refl, ap, sym, subst, ◌∙◌, append_assoc}
use Rattle.std.proofs.lemmas.List.{append-nil}
use Rattle.std.proofs.Math.Seq.{drop-append_seam}
use Rattle.pg_messages.specs.declared.simplequery.Query.{Query}
use Rattle.pg_results.specs.declared.error.PgWireError.{PgWireError}
use Rattle.pg_results.specs.Texts.{is_blank}
use Rattle.pg_client.specs.declared.desk.DeskCall.{DeskCall}
use Rattle.pg_client.specs.declared.desk.DeskCall.TheVariants as desk
use Rattle.pg_client.specs.declared.ends.SessionError.{SessionError}
use Rattle.pg_client.specs.declared.ends.SessionError.TheVariants as session
use Rattle.pg_client.specs.declared.ends.Turns.{Turns}
use Rattle.pg_client.specs.Answer.{answers_of}
use Rattle.pg_client.specs.Effect.{Effect, Called, Row, Outcome, Stopped, IsEffect, IsRow, IsStoppedRow, IsCutRow, IsRefusedRow, IsRefusedEffect, silent}
use Rattle.conversation_table.specs.Questions.{Verdict, Unanswered, Questioned, started, questioned, questions, questions_since, IsAsked}
use Rattle.conversation_table.specs.Handlers.{SimpleTold}
use Rattle.conversation_table.specs.SimpleRows.{on_query, query_polled}
use Rattle.pg_client.specs.State.{State}
use Rattle.conversation_table.proofs.Asking.{asks_next}

-- a row that starts a query which owes so many polls, and whose effect is told by the verdict
abbrev pub run_row : {S : Type 0} → ℕ → (Verdict → Effect S) → Row S
run_row owes effect answers =
    let asked = started owes answers in
    record { calls = asked.calls; effect = effect asked.verdict }

-- ---- rows that are the same

pub row_as : {S : Type 0} (row other : Row S) {out new_out : List ℕ} {calls new_calls : List DeskCall} {outcome : Outcome S}
    → ((answers : List Bool) → row answers ≡ other answers) → IsRow other out new_out calls new_calls outcome
    → IsRow row out new_out calls new_calls outcome
row_as row other {out} {new_out} {calls} {new_calls} {outcome} same x = record {
  made = x.made;
  own = ap (λ c. c.calls) (same (answers_of x.made)) ∙ x.own;
  called = x.called;
  effect = subst (λ c. IsEffect c.effect out new_out outcome) (sym (same (answers_of x.made))) x.effect;
}

pub stopped_as : {S : Type 0} (row other : Row S) {out new_out : List ℕ} {calls new_calls : List DeskCall}
    → ((answers : List Bool) → row answers ≡ other answers) → IsStoppedRow other out new_out calls new_calls
    → IsStoppedRow row out new_out calls new_calls
stopped_as row other {out} {new_out} {calls} {new_calls} same x = record {
  made = x.made;
  own = ap (λ c. c.calls) (same (answers_of x.made)) ∙ x.own;
  called = x.called;
  effect = subst (λ c. IsEffect c.effect out new_out Stopped) (sym (same (answers_of x.made))) x.effect;
  asks = λ yes. ((x.asks yes).0, ap (λ c. c.calls) (same (answers_of x.made ++ yes ∷ [])) ∙ (x.asks yes).1);
}

pub cut_as : {S : Type 0} (row other : Row S) {calls new_calls : List DeskCall}
    → ((answers : List Bool) → row answers ≡ other answers) → IsCutRow other calls new_calls → IsCutRow row calls new_calls
cut_as row other same x = record {
  made = x.made;
  front = (x.front.0, ap (λ c. c.calls) (same (answers_of x.made)) ∙ x.front.1);
  grown = x.grown;
}

pub refused_as : {S : Type 0} (row other : Row S) (out new_out : List ℕ) (calls new_calls : List DeskCall) (s : State S) (e : SessionError)
    → ((answers : List Bool) → row answers ≡ other answers) → IsRefusedRow other out new_out calls new_calls s e
    → IsRefusedRow row out new_out calls new_calls s e
refused_as row other out new_out calls new_calls s (session.Wire e) same (inl x) = inl (x.0, cut_as row other same x.1)
refused_as row other out new_out calls new_calls s (session.Wire e) same (inr x) = inr (row_as row other same x)
refused_as row other out new_out calls new_calls s session.TurnLimit same x = stopped_as row other same x

-- ---- rows that call nothing

pub cut_at_none : {S : Type 0} (row : Row S) (calls : List DeskCall) → IsCutRow row calls calls
cut_at_none row calls = record { made = []; front = ((row []).calls, refl); grown = sym (append-nil calls) }

pub silent_row : {S : Type 0} (row : Row S) (effect : Effect S) {out new_out : List ℕ} (calls : List DeskCall) {outcome : Outcome S}
    → ((answers : List Bool) → row answers ≡ silent effect) → IsEffect effect out new_out outcome
    → IsRow row out new_out calls calls outcome
silent_row row effect calls same x = row_as row (λ answers. silent effect) same (record {
  made = [];
  own = refl;
  called = sym (append-nil calls);
  effect = x;
})

pub silent_refused : {S : Type 0} (row : Row S) (effect : Effect S) {out new_out : List ℕ} (calls : List DeskCall) {s : State S}
    (e : PgWireError)
    → ((answers : List Bool) → row answers ≡ silent effect) → IsRefusedEffect effect out new_out s e
    → IsRefusedRow row out new_out calls calls s (session.Wire e)
silent_refused row effect calls e same (inl none) = inl (none, cut_at_none row calls)
silent_refused row effect calls e same (inr x) = inr (silent_row row effect calls same x)

-- ---- rows that run a query

module _ {S : Type 0} (owes : ℕ) (effect : Verdict
    → Effect S) (calls started_calls : List DeskCall) (starts : started_calls ≡ calls ++ desk.Start ∷ []) where
  -- the query was started, and nothing else was called
  pub cut_started : IsCutRow (run_row owes effect) calls started_calls
  cut_started = record { made = desk.Start ∷ []; front = ((questioned owes []).calls, refl); grown = starts }

  module _ (new_calls : List DeskCall) (verdict : Verdict) (asked : IsAsked owes started_calls new_calls verdict) where
    called_so : new_calls ≡ calls ++ desk.Start ∷ asked.made
    called_so = asked.grown ∙ ap (λ l. l ++ asked.made) starts ∙ append_assoc calls (desk.Start ∷ []) asked.made

    run_is : run_row owes effect (answers_of (desk.Start ∷ asked.made)) ≡ record {
      calls = desk.Start ∷ asked.made;
      effect = effect verdict;
    }
    run_is = ap (λ (q : Questioned). let c : Called S = record { calls = desk.Start ∷ q.calls; effect = effect q.verdict } in c) asked.asked

    pub run_was : {out new_out : List ℕ} {outcome : Outcome S} → IsEffect (effect verdict) out new_out outcome
        → IsRow (run_row owes effect) out new_out calls new_calls outcome
    run_was {out} {new_out} {outcome} x = record {
      made = desk.Start ∷ asked.made;
      own = ap (λ c. c.calls) run_is;
      called = called_so;
      effect = subst (λ c. IsEffect c.effect out new_out outcome) (sym run_is) x;
    }

    -- it stops where an answer is missing
    pub run_stopped : {out new_out : List ℕ} → verdict ≡ Unanswered → IsEffect (effect verdict) out new_out Stopped
        → IsStoppedRow (run_row owes effect) out new_out calls new_calls
    run_stopped {out} {new_out} missing x = record {
      made = desk.Start ∷ asked.made;
      own = ap (λ c. c.calls) run_is;
      called = called_so;
      effect = subst (λ c. IsEffect c.effect out new_out Stopped) (sym run_is) x;
      asks = λ yes.
          let next = asks_next owes (answers_of asked.made) yes (ap (λ q. q.verdict) asked.asked ∙ missing) in
          let calls_are : (questioned owes (answers_of asked.made)).calls ≡ asked.made = ap (λ q. q.calls) asked.asked in
          (next.0, ap (λ l. desk.Start ∷ l) (next.1 ∙ ap (λ l. (l ++ desk.Ask yes ∷ []) ++ next.0) calls_are));
    }

    pub run_cut : IsCutRow (run_row owes effect) calls new_calls
    run_cut = record {
      made = desk.Start ∷ asked.made;
      front = ([], ap (λ c. c.calls) run_is ∙ sym (append-nil (desk.Start ∷ asked.made)));
      grown = called_so;
    }

    pub run_refused : {out new_out : List ℕ} (s : State S) (e : PgWireError) → IsRefusedEffect (effect verdict) out new_out s e
        → IsRefusedRow (run_row owes effect) out new_out calls new_calls s (session.Wire e)
    run_refused s e (inl none) = inl (none, run_cut)
    run_refused s e (inr x) = inr (run_was x)

-- the questions since the start are those since before it
pub asked_since : (owes : ℕ) (calls started_calls : List DeskCall) → started_calls ≡ calls ++ desk.Start ∷ []
    → (new_calls : List DeskCall) (verdict : Verdict)
    → IsAsked owes started_calls new_calls verdict → questions_since started_calls new_calls ≡ questions_since calls new_calls
asked_since owes calls started_calls starts new_calls verdict asked =
    ap (λ l. questions (drop (length started_calls) l)) asked.grown ∙ ap questions (drop-append_seam started_calls asked.made)
    ∙ sym (ap (λ l. questions (drop (length calls) l)) (asked.grown ∙ ap (λ l. l ++ asked.made) starts
    ∙ append_assoc calls (desk.Start ∷ []) asked.made)
    ∙ ap questions (drop-append_seam calls (desk.Start ∷ asked.made)))

-- a start is no question, and spends no turn
pub no_turn_started : (turns : Turns) (calls begun : List DeskCall) → begun ≡ calls ++ desk.Start ∷ []
    → turns ≡ record { spent = turns.spent + questions_since calls begun; limit = turns.limit }
no_turn_started turns calls begun starts =
    let none : questions_since calls begun ≡ 0 =
    ap (λ l. questions (drop (length calls) l)) starts ∙ ap questions (drop-append_seam calls (desk.Start ∷ [])) in
    let same : turns.spent ≡ turns.spent + questions_since calls begun = omega (arith, none) in
    ap (λ (n : ℕ). let t : Turns = record { spent = n; limit = turns.limit } in t) same

-- ---- Query

-- a query that isn't blank is run
pub runs_query : {S : Type 0} (h : SimpleTold) (s : State S) (m : Query) → is_blank m.query ≡ false
    → (answers : List Bool) → on_query h answers s m
    ≡ run_row (h s.info m.query).owes (λ verdict. query_polled s verdict (h s.info m.query).outcome) answers
runs_query h s m e answers = rw e refl
