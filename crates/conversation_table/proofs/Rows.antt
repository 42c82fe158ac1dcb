-- Rows of the conversation table that were carried out or refused, and the errors that they tell.
use Rattle.std.proofs.Common.{arith, ◌≡◌, ◌≢◌, ℕ, ◌+◌, inr, List, [], Result, Ok, Err, codes, refl, ap, sym, subst}
use Rattle.std.specs.Prelude.{IfErr}
use Rattle.std.proofs.lemmas.List.{append-nil}
use Rattle.std.proofs.Math.Seq.{drop-length}
use Rattle.pg_results.specs.declared.error.PgWireError.TheVariants as wire
use Rattle.pg_results.specs.declared.client.PgWireConnectionState.{PgWireConnectionState}
use Rattle.pg_results.specs.declared.client.PgWireConnectionState.TheVariants as phase
use Rattle.pg_results.specs.Rows.{IsAnswerable}
use Rattle.pg_replies.proofs.Encodable.{by_test}
use Rattle.pg_client.specs.declared.desk.DeskCall.{DeskCall}
use Rattle.pg_client.specs.declared.ends.Turns.{Turns}
use Rattle.pg_client.specs.Effect.{Called, Row, Failed, IsEffect, IsRow, IsRefusedRow, when_ready, ready_or_refused, silent, refuses}
use Rattle.conversation_table.proofs.Executes.{refused_as}
use Rattle.pg_client.specs.declared.ends.SessionError.{SessionError}
use Rattle.conversation_table.specs.Questions.{questions_since, questions}
use Rattle.pg_client.specs.State.{State}

-- ---- errors that can be told

pub not_ready_told : IsAnswerable wire.NotReadyForQuery
not_ready_told = inr (record {
  is_told = λ e. cc;
  encodable = record {
    body = omega arith;
    counts = tt;
    texts = (by_test (codes "ERROR") refl, (by_test (codes "08P01") refl, (by_test (codes "not ready for query") refl, tt)));
  };
})

pub canceled_told : IsAnswerable wire.QueryCanceled
canceled_told = inr (record {
  is_told = λ e. cc;
  encodable = record {
    body = omega arith;
    counts = tt;
    texts = (
      by_test (codes "ERROR") refl,
      (
        by_test (codes "57014") refl,
        (by_test (codes "canceling statement due to user request") refl, tt),
      ),
    );
  };
})

pub not_started_told : IsAnswerable wire.PortalNotStarted
not_started_told = inr (record {
  is_told = λ e. cc;
  encodable = record {
    body = omega arith;
    counts = tt;
    texts = (by_test (codes "ERROR") refl, (by_test (codes "XX000") refl, (by_test (codes "portal is not started") refl, tt)));
  };
})

-- ---- no turn is spent

pub none_since : (calls : List DeskCall) → questions_since calls calls ≡ 0
none_since calls = ap questions (drop-length calls)

pub no_turn : (turns : Turns) (calls : List DeskCall)
    → turns ≡ record { spent = turns.spent + questions_since calls calls; limit = turns.limit }
no_turn turns calls = ap (λ (n : ℕ). let now : Turns = record {
  spent = n;
  limit = turns.limit;
} in now) (let e = none_since calls in let same : turns.spent ≡ turns.spent + questions_since calls calls =
    omega arith in same)

-- ---- a row where the client awaits no query

not_ready : {S : Type 0} (s : State S) (c : Called S) (now : PgWireConnectionState) → now ≢ phase.ReadyForQuery
    → ready_or_refused s c now ≡ silent (refuses s wire.NotReadyForQuery)
not_ready s c phase.AwaitingStartup ne = refl
not_ready s c phase.ReadyForQuery ne = absurd (ne refl)
not_ready s c phase.AwaitingSync ne = refl
not_ready s c (phase.CopyInProgress extended) ne = refl

pub refused_unready : {S : Type 0} (s : State S) (row : Row S) (out : List ℕ) (calls : List DeskCall) → s.info.state ≢ phase.ReadyForQuery
    → IsRow (λ answers. when_ready s (row answers)) out out calls calls (Failed s wire.NotReadyForQuery)
refused_unready s row out calls ne = record {
  made = [];
  own = ap (λ c. c.calls) (not_ready s (row []) s.info.state ne);
  called = sym (append-nil calls);
  effect = subst (λ c. IsEffect c.effect out out (Failed s wire.NotReadyForQuery)) (sym (not_ready s (row []) s.info.state ne))
      (record { replied = sym (append-nil out); came = refl });
}

-- a row where the client awaits a query
pub ready_refused : {S A : Type 0} (s : State S) (row : Row S) (out new_out : List ℕ) (calls new_calls : List DeskCall) (t : State S)
    (result : Result A SessionError) → s.info.state ≡ phase.ReadyForQuery → IfErr result (IsRefusedRow row out new_out calls new_calls t)
    → IfErr result (IsRefusedRow (λ answers. when_ready s (row answers)) out new_out calls new_calls t)
ready_refused s row out new_out calls new_calls t (Ok x) is h = tt
ready_refused s row out new_out calls new_calls t (Err e) is h =
    refused_as (λ answers. when_ready s (row answers)) row out new_out calls new_calls t e
    (λ answers. ap (ready_or_refused s (row answers)) is) h
