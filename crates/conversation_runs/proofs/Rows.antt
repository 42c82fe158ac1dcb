-- Rows that call nothing, and rows that are the same.
use Rattle.std.proofs.Common.{◌≡◌, ℕ, List, [], ◌∷◌, ◌++◌, Bool, Option, Result, IfOk, IfErr, refl, sym, ap, subst, ◌∙◌, append-nil, ⊎_elim, inl, inr}
use Rattle.pg_results.specs.declared.error.PgWireError.{PgWireError}
use Rattle.pg_client.specs.declared.desk.DeskCall.{DeskCall}
use Rattle.pg_client.specs.declared.ends.EndKind.{EndKind}
use Rattle.pg_client.specs.declared.ends.SessionError.{SessionError}
use Rattle.pg_client.specs.declared.ends.SessionError.TheVariants as session
use Rattle.pg_messages.specs.declared.simplequery.Query.{Query}
use Rattle.pg_messages.specs.declared.extendedquery.Execute.{Execute}
use Rattle.pg_messages.specs.declared.startup.Terminate.{Terminate}
use Rattle.pg_messages.specs.declared.frontend.PgWireFrontendMessage.{PgWireFrontendMessage}
use Rattle.pg_messages.specs.declared.frontend.PgWireFrontendMessage.TheVariants as client
use Rattle.pg_client.specs.declared.ends.EndKind.TheVariants as end
use Rattle.pg_client.specs.Answer.{answers_of}
use Rattle.conversation_table.specs.Handlers.{ExtendedTold, Handlers}
use Rattle.conversation_table.specs.Table.{message_row, ready_row, statement_row}
use Rattle.pg_client.specs.State.{State}
use Rattle.pg_client.specs.Effect.{Effect, Outcome, Row, IsEffect, IsRefusedEffect, IsRow, IsCutRow, IsStoppedRow, IsRefusedRow, Over, Stopped, silent, over}
use Rattle.pg_client.specs.Ends.{outcome_of}
use Rattle.conversation_runs.specs.Session.{SessionValue}

pub silent_row : {S : Type 0} (e : Effect S) {out new_out : List ℕ} (calls : List DeskCall) {o : Outcome S} → IsEffect e out new_out o
    → IsRow (λ answers. silent e) out new_out calls calls o
silent_row e calls x = record { made = []; own = refl; called = sym (append-nil calls); effect = x }

pub silent_cut : {S : Type 0} (e : Effect S) (calls : List DeskCall) → IsCutRow (λ answers. silent e) calls calls
silent_cut e calls = record { made = []; front = ([], refl); grown = sym (append-nil calls) }

pub silent_refused : {S : Type 0} (e : Effect S) {out new_out : List ℕ} (calls : List DeskCall) {s : State S} {error : PgWireError}
    → IsRefusedEffect e out new_out s error → IsRefusedRow (λ answers. silent e) out new_out calls calls s (session.Wire error)
silent_refused e calls x = ⊎_elim (λ none. inl (none, silent_cut e calls)) (λ told. inr (silent_row e calls told)) x

-- ---- the same row

pub same_row : {S : Type 0} {row other : Row S} {out new_out : List ℕ} {calls new_calls : List DeskCall} {o : Outcome S}
    → ((answers : List Bool) → row answers ≡ other answers) → IsRow other out new_out calls new_calls o
    → IsRow row out new_out calls new_calls o
same_row {out = out} {new_out = new_out} {o = o} same x = record {
  made = x.made;
  own = ap (λ c. c.calls) (same (answers_of x.made)) ∙ x.own;
  called = x.called;
  effect = subst (λ c. IsEffect c.effect out new_out o) (sym (same (answers_of x.made))) x.effect;
}

pub same_cut : {S : Type 0} {row other : Row S} {calls new_calls : List DeskCall}
    → ((answers : List Bool) → row answers ≡ other answers) → IsCutRow other calls new_calls → IsCutRow row calls new_calls
same_cut same x = record {
  made = x.made;
  front = (x.front.0, ap (λ c. c.calls) (same (answers_of x.made)) ∙ x.front.1);
  grown = x.grown;
}

pub same_stopped : {S : Type 0} {row other : Row S} {out new_out : List ℕ} {calls new_calls : List DeskCall}
    → ((answers : List Bool) → row answers ≡ other answers) → IsStoppedRow other out new_out calls new_calls
    → IsStoppedRow row out new_out calls new_calls
same_stopped {out = out} {new_out = new_out} same x = record {
  made = x.made;
  own = ap (λ c. c.calls) (same (answers_of x.made)) ∙ x.own;
  called = x.called;
  effect = subst (λ c. IsEffect c.effect out new_out Stopped) (sym (same (answers_of x.made))) x.effect;
  asks = λ yes. ((x.asks yes).0, ap (λ c. c.calls) (same (answers_of x.made ++ yes ∷ [])) ∙ (x.asks yes).1);
}

pub same_refused : {S : Type 0} (row other : Row S) (out new_out : List ℕ) (calls new_calls : List DeskCall) (s : State S)
    (error : SessionError)
    → ((answers : List Bool) → row answers ≡ other answers) → IsRefusedRow other out new_out calls new_calls s error
    → IsRefusedRow row out new_out calls new_calls s error
same_refused row other out new_out calls new_calls s (session.Wire e) same x =
    ⊎_elim (λ none. inl (none.0, same_cut same none.1)) (λ told. inr (same_row same told)) x
same_refused row other out new_out calls new_calls s session.TurnLimit same x = same_stopped same x

-- ---- rows of a session that is ready

pub plain_row : {S : Type 0} (h : Handlers S) (answers : List Bool) (s : State S) (m : PgWireFrontendMessage)
    → ((q : Query) → m ≡ client.Query q → ⊥) → ((e : Execute) → m ≡ client.Execute e → ⊥)
    → ready_row h answers s m ≡ silent (statement_row h.extended s m)
plain_row h answers s (client.Query m) p q = absurd (p m refl)
plain_row h answers s (client.Execute m) p q = absurd (q m refl)
plain_row h answers s _ p q = refl

pub ended_effect : {S : Type 0} (h : ExtendedTold S) (s : State S) (m : PgWireFrontendMessage) (t : Terminate) (out : List ℕ)
    → m ≡ client.Terminate t → IsEffect (statement_row h s m) out out (Over end.Terminate)
ended_effect h s m t out is = subst (λ n. IsEffect (statement_row h s n) out out (Over end.Terminate)) (sym is)
    (record { replied = sym (append-nil out); came = refl })

pub ended_row : {S : Type 0} (h : Handlers S) (s : State S) (m : PgWireFrontendMessage) (t : Terminate) (out : List ℕ)
    (calls : List DeskCall) → m ≡ client.Terminate t
    → IsRow (λ answers. ready_row h answers s m) out out calls calls (Over end.Terminate)
ended_row {S} h s m t out calls is =
    let ended : Outcome S = Over end.Terminate in
    let row : IsRow {S = S} (λ answers. silent (over end.Terminate)) out out calls calls ended =
    silent_row (over end.Terminate) calls (record { replied = sym (append-nil out); came = refl }) in
    subst (λ n. IsRow (λ answers. ready_row h answers s n) out out calls calls ended) (sym is) row

-- ---- the same session, by its fields inside and as a value

pub row_as : {H S : Type 0} (told : H → Handlers S) (inside now : SessionValue H S) (m : PgWireFrontendMessage) (new_out : List ℕ)
    (calls new_calls : List DeskCall) (n : State S) (answer : Result (Option EndKind) SessionError) → inside ≡ now
    → IfOk answer (λ end. IsRow (λ answers. message_row (told inside.handlers) answers inside.state m) inside.unsent new_out
    calls new_calls (outcome_of end n))
    → IfOk answer (λ end. IsRow (λ answers. message_row (told now.handlers) answers now.state m) now.unsent new_out
    calls new_calls (outcome_of end n))
row_as told inside now m new_out calls new_calls n answer same x = subst (λ v. IfOk answer (λ end. IsRow
    (λ answers. message_row (told v.handlers) answers v.state m) v.unsent new_out calls new_calls (outcome_of end n))) same x

pub refused_as : {H S : Type 0} (told : H → Handlers S) (inside now : SessionValue H S) (m : PgWireFrontendMessage) (new_out : List ℕ)
    (calls new_calls : List DeskCall) (n : State S) (answer : Result (Option EndKind) SessionError) → inside ≡ now
    → IfErr answer (IsRefusedRow (λ answers. message_row (told inside.handlers) answers inside.state m) inside.unsent new_out
    calls new_calls n)
    → IfErr answer (IsRefusedRow (λ answers. message_row (told now.handlers) answers now.state m) now.unsent new_out
    calls new_calls n)
refused_as told inside now m new_out calls new_calls n answer same x = subst (λ v. IfErr answer (IsRefusedRow
    (λ answers. message_row (told v.handlers) answers v.state m) v.unsent new_out calls new_calls n)) same x
