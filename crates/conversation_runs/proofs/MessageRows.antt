-- What a message of a ready session did to a client, by its row.
use Rattle.std.proofs.Common.{◌≡◌, ◌≢◌, ◌≤◌, ℕ, Bool, List, [], Option, Some, None, Result, Ok, Err, IfOk, IfErr, OnOk, refl, sym, subst, inl, append-nil}
use Rattle.pg_messages.specs.declared.extendedquery.Bind.{Bind}
use Rattle.pg_messages.specs.declared.extendedquery.Close.{Close}
use Rattle.pg_messages.specs.declared.extendedquery.Describe.{Describe}
use Rattle.pg_messages.specs.declared.extendedquery.Execute.{Execute}
use Rattle.pg_messages.specs.declared.extendedquery.Parse.{Parse}
use Rattle.pg_messages.specs.declared.extendedquery.PgSync.{PgSync}
use Rattle.pg_messages.specs.declared.simplequery.Query.{Query}
use Rattle.pg_messages.specs.declared.startup.Terminate.{Terminate}
use Rattle.pg_messages.specs.declared.frontend.PgWireFrontendMessage.{PgWireFrontendMessage}
use Rattle.pg_messages.specs.declared.frontend.PgWireFrontendMessage.TheVariants as client
use Rattle.pg_results.specs.Rows.{IsAnswerable}
use Rattle.pg_results.specs.declared.client.PgWireConnectionState.TheVariants as phase
use Rattle.pg_results.specs.declared.error.PgWireError.{PgWireError}
use Rattle.pg_results.specs.declared.error.PgWireError.TheVariants as wire
use Rattle.pg_client.specs.declared.ends.EndKind.{EndKind}
use Rattle.pg_client.specs.declared.ends.EndKind.TheVariants as end
use Rattle.pg_client.specs.declared.ends.SessionError.{SessionError}
use Rattle.pg_client.specs.declared.ends.SessionError.TheVariants as session
use Rattle.pg_client.specs.declared.ends.Turns.{Turns}
use Rattle.pg_client.specs.Desk.{DeskTold, KeepsDesk}
use Rattle.pg_client.specs.Effect.{Effect, Done, Over, IsEffect, IsRefusedEffect, IsRow, IsRefusedRow, says, silent}
use Rattle.pg_client.specs.Ends.{IsAnswerableError, outcome_of}
use Rattle.pg_client.specs.State.{State}
use Rattle.pg_client.proofs.Desks.{goes_on_none}
use Rattle.conversation_table.specs.Good.{IsGoodState}
use Rattle.conversation_table.specs.Handlers.{ExtendedTold, Handlers}
use Rattle.conversation_table.specs.Questions.{HasSpent, questions_since}
use Rattle.conversation_table.specs.Table.{IsPlain, message_row, ready_row, row, statement_row}
use Rattle.conversation_runs.specs.Messages.{IsRarer, going, with_session_error}
use Rattle.conversation_runs.specs.Steps.{IsMessageRow}
use Rattle.conversation_runs.proofs.Calling.{called_ok, called_refused}
use Rattle.conversation_runs.proofs.Narrowed.{called_goes_on}
use Rattle.conversation_runs.proofs.Rows.{ended_row, same_row, same_refused, silent_row, silent_refused}
use Rattle.conversation_runs.proofs.Spending.{no_turn}
use Rattle.conversation_runs.proofs.ToldRows.{with_session_error_answerable, with_session_error_ends, with_session_error_ok, with_session_error_refused, with_session_error_turns}

-- what goes on doesn't end
no_end : ◌≢◌ {A = Option EndKind} None (Some end.InputEnd)
no_end is = cc

-- ---- a message that calls nothing

plain_is_silent : {S : Type 0} (h : Handlers S) (answers : List Bool) (s : State S) (m : PgWireFrontendMessage) → IsPlain m
    → ready_row h answers s m ≡ silent (statement_row h.extended s m)
plain_is_silent h answers s (client.Query m) plain = absurd plain
plain_is_silent h answers s (client.Execute m) plain = absurd plain
plain_is_silent h answers s _ plain = refl

module _ {S : Type 0} (h : Handlers S) (s : State S) (m : PgWireFrontendMessage) (ready : s.info.state ≡ phase.ReadyForQuery)
    (plain : IsPlain m) where
  row_is_silent : (answers : List Bool) → message_row h answers s m ≡ silent (statement_row h.extended s m)
  row_is_silent answers = subst (λ p. row h answers s m p ≡ silent (statement_row h.extended s m)) (sym ready)
      (plain_is_silent h answers s m plain)

  -- An effect is a row without calls.
  pub effect_row : {A : Type 0} (t : State S) (out new_out : List ℕ) (desk : DeskTold) (turns : Turns) (answer : Result A PgWireError)
      → OnOk answer (IsEffect (statement_row h.extended s m) out new_out (Done t))
      → IfErr answer (IsRefusedEffect (statement_row h.extended s m) out new_out t)
      → IfErr answer IsAnswerable
      → IsGoodState h.extended.parser t
      → IsMessageRow h m s t out new_out desk desk turns turns (going (with_session_error answer))
  effect_row t out new_out desk turns (Ok done) ok refused answerable good = record {
    ok = same_row row_is_silent (silent_row (statement_row h.extended s m) desk.calls ok);
    refused = tt;
    answerable = tt;
    ends = no_end;
    good = good;
    turns = no_turn turns desk.calls;
    bounded = λ within. within;
    registration = goes_on_none desk;
  }
  effect_row t out new_out desk turns (Err error) ok refused answerable good = record {
    ok = tt;
    refused = same_refused (λ answers. message_row h answers s m) (λ answers. silent (statement_row h.extended s m)) out new_out
        desk.calls desk.calls t (session.Wire error) row_is_silent (silent_refused (statement_row h.extended s m) desk.calls refused);
    answerable = answerable;
    ends = tt;
    good = good;
    turns = inl (no_turn turns desk.calls);
    bounded = λ within. within;
    registration = goes_on_none desk;
  }

-- The row of a phase that calls nothing, told with an error of a session.
pub silent_message : {S : Type 0} (h : Handlers S) (s : State S) (m : PgWireFrontendMessage) (effect : Effect S) (out new_out : List ℕ)
    (desk : DeskTold) (turns : Turns) (t : State S) (answer : Result (Option EndKind) PgWireError)
    → ((answers : List Bool) → message_row h answers s m ≡ silent effect)
    → IfOk answer (λ kind. IsEffect effect out new_out (outcome_of kind t))
    → IfErr answer (IsRefusedEffect effect out new_out t)
    → IfErr answer IsAnswerable → IfOk answer (λ kind. kind ≢ Some end.InputEnd) → IsGoodState h.extended.parser t
    → IsMessageRow h m s t out new_out desk desk turns turns (with_session_error answer)
silent_message h s m effect out new_out desk turns t answer same ok refused answerable ends good = record {
  ok = with_session_error_ok (λ answers. message_row h answers s m) effect out new_out desk.calls t answer same ok;
  refused = with_session_error_refused (λ answers. message_row h answers s m) effect out new_out desk.calls t answer same refused;
  answerable = with_session_error_answerable answer answerable;
  ends = with_session_error_ends answer ends;
  good = good;
  turns = with_session_error_turns turns desk.calls answer;
  bounded = λ within. within;
  registration = goes_on_none desk;
}

-- nothing is said
pub nothing_said : {S A : Type 0} (s : State S) (out : List ℕ) (answer : Result A PgWireError)
    → OnOk answer (IsEffect (says [] s) out out (Done s))
nothing_said s out (Ok done) = record { replied = sym (append-nil out); came = refl }
nothing_said s out (Err error) = tt

-- memory alone is wanting
pub memory_refused : {S A : Type 0} (e : Effect S) (out new : List ℕ) (t : State S) (answer : Result A PgWireError)
    → IfErr answer (λ error. error ≡ wire.NoMemory) → IfErr answer (IsRefusedEffect e out new t)
memory_refused e out new t (Ok done) x = tt
memory_refused e out new t (Err error) x = inl x

pub memory_answerable : {A : Type 0} (answer : Result A PgWireError) → IfErr answer (λ error. error ≡ wire.NoMemory)
    → IfErr answer IsAnswerable
memory_answerable (Ok done) x = tt
memory_answerable (Err error) x = inl x

-- a message that a ready session drops
nothing_rarer : {S : Type 0} (h : ExtendedTold S) (s : State S) (m : PgWireFrontendMessage) (out : List ℕ) → IsRarer m
    → ((t : Terminate) → m ≡ client.Terminate t → ⊥) → IsEffect (statement_row h s m) out out (Done s)
nothing_rarer h s (client.Query m) out rarer t = absurd rarer
nothing_rarer h s (client.Parse m) out rarer t = absurd rarer
nothing_rarer h s (client.Bind m) out rarer t = absurd rarer
nothing_rarer h s (client.Describe m) out rarer t = absurd rarer
nothing_rarer h s (client.Execute m) out rarer t = absurd rarer
nothing_rarer h s (client.Close m) out rarer t = absurd rarer
nothing_rarer h s (client.PgSync m) out rarer t = absurd rarer
nothing_rarer h s (client.Terminate m) out rarer t = absurd (t m refl)
nothing_rarer h s _ out rarer t = record { replied = sym (append-nil out); came = refl }

pub rarer_is_plain : (m : PgWireFrontendMessage) → IsRarer m → ((t : Terminate) → m ≡ client.Terminate t → ⊥) → IsPlain m
rarer_is_plain (client.Query m) rarer t = absurd rarer
rarer_is_plain (client.Execute m) rarer t = absurd rarer
rarer_is_plain (client.Terminate m) rarer t = absurd (t m refl)
rarer_is_plain _ rarer t = tt

pub dropped_row : {S : Type 0} (h : Handlers S) (s : State S) (m : PgWireFrontendMessage) (out : List ℕ) (desk : DeskTold) (turns : Turns)
    → s.info.state ≡ phase.ReadyForQuery → IsGoodState h.extended.parser s → IsRarer m
    → ((t : Terminate) → m ≡ client.Terminate t → ⊥) → IsMessageRow h m s s out out desk desk turns turns (Ok None)
dropped_row h s m out desk turns ready good rarer t =
    let answer : Result (Unit {0}) PgWireError = Ok tt in
    effect_row h s m ready (rarer_is_plain m rarer t) s out out desk turns answer (nothing_rarer h.extended s m out rarer t) tt tt good

pub is_rarer : (m : PgWireFrontendMessage) → ((q : Query) → m ≡ client.Query q → ⊥) → ((p : Parse) → m ≡ client.Parse p → ⊥)
    → ((b : Bind) → m ≡ client.Bind b → ⊥) → ((d : Describe) → m ≡ client.Describe d → ⊥) → ((e : Execute) → m ≡ client.Execute e → ⊥)
    → ((k : Close) → m ≡ client.Close k → ⊥) → ((y : PgSync) → m ≡ client.PgSync y → ⊥) → IsRarer m
is_rarer (client.Query m) q p b d e k y = absurd (q m refl)
is_rarer (client.Parse m) q p b d e k y = absurd (p m refl)
is_rarer (client.Bind m) q p b d e k y = absurd (b m refl)
is_rarer (client.Describe m) q p b d e k y = absurd (d m refl)
is_rarer (client.Execute m) q p b d e k y = absurd (e m refl)
is_rarer (client.Close m) q p b d e k y = absurd (k m refl)
is_rarer (client.PgSync m) q p b d e k y = absurd (y m refl)
is_rarer _ q p b d e k y = tt

-- ---- Terminate

pub ended_message : {S : Type 0} (h : Handlers S) (s : State S) (m : PgWireFrontendMessage) (t : Terminate) (out : List ℕ)
    (desk : DeskTold) (turns : Turns) → s.info.state ≡ phase.ReadyForQuery → IsGoodState h.extended.parser s → m ≡ client.Terminate t
    → IsMessageRow h m s s out out desk desk turns turns (Ok (Some end.Terminate))
ended_message h s m t out desk turns ready good is = record {
  ok = subst (λ p. IsRow (λ answers. row h answers s m p) out out desk.calls desk.calls (Over end.Terminate)) (sym ready)
      (ended_row h s m t out desk.calls is);
  refused = tt;
  answerable = tt;
  ends = λ same. cc;
  good = good;
  turns = no_turn turns desk.calls;
  bounded = λ within. within;
  registration = goes_on_none desk;
}

-- ---- a message that may call the registry

pub called_row : {S A : Type 0} (h : Handlers S) (s t : State S) (m : PgWireFrontendMessage) (out new_out : List ℕ)
    (desk new_desk : DeskTold) (before after : Turns) (answer : Result A SessionError) → s.info.state ≡ phase.ReadyForQuery
    → OnOk answer (IsRow (λ answers. ready_row h answers s m) out new_out desk.calls new_desk.calls (Done t))
    → IfErr answer (IsRefusedRow (λ answers. ready_row h answers s m) out new_out desk.calls new_desk.calls t)
    → IfErr answer IsAnswerableError
    → IsGoodState h.extended.parser t
    → HasSpent before after (questions_since desk.calls new_desk.calls) answer
    → (before.spent ≤ before.limit → after.spent ≤ after.limit)
    → KeepsDesk desk new_desk
    → IsMessageRow h m s t out new_out desk new_desk before after (going answer)
called_row h s t m out new_out desk new_desk before after (Ok done) ready ok refused answerable good turns bounded keeps = record {
  ok = called_ok h s m ready out new_out desk.calls new_desk.calls (Done t) (Ok done) ok;
  refused = tt;
  answerable = tt;
  ends = no_end;
  good = good;
  turns = turns;
  bounded = bounded;
  registration = called_goes_on h s m desk new_desk keeps out new_out (Done t) t (Ok done) ok refused;
}
called_row h s t m out new_out desk new_desk before after (Err (session.Wire e)) ready ok refused answerable good turns bounded keeps =
    let answer : Result (Unit {0}) SessionError = Err (session.Wire e) in
    record {
      ok = tt;
      refused = called_refused h s m ready out new_out desk.calls new_desk.calls t answer refused;
      answerable = answerable;
      ends = tt;
      good = good;
      turns = turns;
      bounded = bounded;
      registration = called_goes_on h s m desk new_desk keeps out new_out (Done t) t answer tt refused;
    }
called_row h s t m out new_out desk new_desk before after (Err session.TurnLimit) ready ok refused answerable good turns bounded keeps =
    let answer : Result (Unit {0}) SessionError = Err session.TurnLimit in
    record {
      ok = tt;
      refused = called_refused h s m ready out new_out desk.calls new_desk.calls t answer refused;
      answerable = answerable;
      ends = tt;
      good = good;
      turns = turns;
      bounded = bounded;
      registration = called_goes_on h s m desk new_desk keeps out new_out (Done t) t answer tt refused;
    }
