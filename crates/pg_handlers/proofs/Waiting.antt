-- A query that was found unready, and the turn and the question that follow.
use Rattle.std.proofs.Common.{suc, arith, ◌≡◌, ◌≢◌, ◌+◌, ◌-◌, ◌++◌, ◌∷◌, ℕ, List, [], false, inl, Result, Ok, Err, ap, sym, subst, ◌∙◌}
use Rattle.std.specs.Prelude.{IfErr, IfOk}
use Rattle.pg_results.specs.declared.error.PgWireError.{PgWireError}
use Rattle.pg_results.specs.declared.error.PgWireError.TheVariants as wire
use Rattle.pg_results.specs.Rows.{IsAnswerableItem}
use Rattle.pg_client.specs.Desk.{DeskTold}
use Rattle.pg_client.specs.Ends.{IsAnswerableError}
use Rattle.pg_client.specs.declared.ends.SessionError.{SessionError}
use Rattle.pg_client.specs.declared.ends.SessionError.TheVariants as session
use Rattle.pg_client.specs.declared.desk.DeskCall.{DeskCall}
use Rattle.pg_client.specs.declared.desk.DeskCall.TheVariants as desk
use Rattle.pg_client.specs.declared.ends.Turns.{Turns}
use Rattle.conversation_table.specs.Handlers.{QueryTold}
use Rattle.conversation_table.specs.Questions.{HasSpent, IsAsked, IsVerdict, Passed, Verdict}
use Rattle.conversation_table.specs.Waiting.{HasWaited}
use Rattle.conversation_table.proofs.Asking.{IsWaiting, asked_so_far, begins_waiting, passed, verdict_at, waits_on}
use Rattle.conversation_table.proofs.Causes.{item_caused}
use Rattle.conversation_table.proofs.Rows.{no_turn}
use Rattle.conversation_table.proofs.Waits.{wait_answerable}
use Rattle.pg_client.proofs.Desks.{keeps_none}
use Rattle.pg_handlers.specs.Beginning.{IsPolledOnce}

-- the query as it was before its last poll, which found it unready
abbrev pub unpolled : {A : Type 0} → QueryTold A → QueryTold A
unpolled query = record { is_spent = query.is_spent; owes = suc query.owes; outcome = query.outcome }

pub some_owed : {A : Type 0} (query : QueryTold A) → (unpolled query).owes ≢ 0
some_owed query e = omega (arith, e)

-- a poll of it leaves what is there now
polled_to : {A : Type 0} (query : QueryTold A)
    → query ≡ record { is_spent = (unpolled query).is_spent; owes = (unpolled query).owes - 1; outcome = (unpolled query).outcome }
polled_to {A} query =
    let left : query.owes ≡ suc query.owes - 1 = omega arith in
    ap (λ (n : ℕ). let q : QueryTold A = record { is_spent = query.is_spent; owes = n; outcome = query.outcome } in q) left

module _ {A : Type 0} (first query : QueryTold A) (old new : List DeskCall) (turns now : Turns) where
  -- The question after the last poll was answered no.
  pub asked_no : IsWaiting first (unpolled query) old new turns now → (next : List DeskCall) (later : Turns)
      → next ≡ new ++ desk.Ask false ∷ [] → later.spent ≡ now.spent + 1 → later.limit ≡ now.limit
      → IsWaiting first query old next turns later
  asked_no h next later at p q =
      waits_on first (unpolled query) old new turns now h query next later (some_owed query) (polled_to query) at p q

  -- The next poll found it unready.
  pub polled_unready : IsWaiting first query old new turns now → (after : QueryTold A) → query.owes ≢ 0
      → after ≡ record { is_spent = query.is_spent; owes = query.owes - 1; outcome = query.outcome }
      → IsWaiting first (unpolled after) old new turns now
  polled_unready h after owes is = record {
    asked = h.asked;
    owed = let left : after.owes ≡ query.owes - 1 = ap (λ t. t.owes) is in omega (arith, left, h.owed, owes);
    outcome = ap (λ t. t.outcome) is ∙ h.outcome;
    unspent = ap (λ t. t.is_spent) is ∙ h.unspent;
    calls = h.calls;
    spent = h.spent;
    limit = h.limit;
  }

-- ---- the first poll

pub polled_once : {A : Type 0} (first after : QueryTold A) → first.is_spent ≡ false → first.owes ≢ 0
    → after ≡ record { is_spent = first.is_spent; owes = first.owes - 1; outcome = first.outcome } → IsPolledOnce first after
polled_once first after unspent owes is = record {
  unspent = ap (λ t. t.is_spent) is ∙ unspent;
  owed = let left : after.owes ≡ first.owes - 1 = ap (λ t. t.owes) is in omega (arith, left, owes);
  outcome = ap (λ t. t.outcome) is;
}

pub no_turns : Turns
no_turns = record { spent = 0; limit = 0 }

module _ {A : Type 0} (query : QueryTold A) (calls : List DeskCall) (unspent : query.is_spent ≡ false) where
  -- nothing is asked before it
  pub asked_nothing : IsAsked query.owes calls calls (verdict_at query.owes)
  asked_nothing = asked_so_far query query calls calls no_turns no_turns (begins_waiting query calls no_turns unspent)

  pub passed_at_once : query.owes ≡ 0 → IsAsked query.owes calls calls Passed
  passed_at_once none = passed query query calls calls no_turns no_turns (begins_waiting query calls no_turns unspent) none

-- ---- what a wait came to

module _ {A : Type 0} (outcome : A) (verdict : Verdict) where
  pub verdict_ok : (P : A → Type 0) (waited : Result A SessionError) → IsVerdict outcome verdict waited → P outcome → IfOk waited P
  verdict_ok P (Ok out) v p = subst P (sym v.1) p
  verdict_ok P (Err e) v p = tt

  pub verdict_err : (waited : Result A SessionError) → IsVerdict outcome verdict waited → IfErr waited IsAnswerableError
  verdict_err (Ok out) v = tt
  verdict_err (Err e) v = wait_answerable outcome verdict e v

spent_err : (A B : Type 0) (turns new : Turns) (asked : ℕ) (e : SessionError) → HasSpent {A = A} turns new asked (Err e)
    → HasSpent {A = B} turns new asked (Err e)
spent_err A B turns new asked (session.Wire e) x = x
spent_err A B turns new asked session.TurnLimit x = x

module _ (A B : Type 0) (desk new_desk : DeskTold) (before after : Turns) (waited : Result A SessionError)
    (w : HasWaited desk new_desk before after waited) where
  -- an error of the wait
  pub waited_err : (e : SessionError) → waited ≡ Err e → HasWaited {A = B} desk new_desk before after (Err e)
  waited_err e is =
      let x = subst (HasWaited desk new_desk before after) is w in
      record { caused = x.caused; turns = spent_err A B before after _ e x.turns; bounded = x.bounded; keeps = x.keeps }

  -- an error of what came behind it
  pub waited_item : (out : A) (e : PgWireError) → waited ≡ Ok out → IsAnswerableItem e
      → HasWaited {A = B} desk new_desk before after (Err (session.Wire e))
  waited_item out e is item =
      let x = subst (HasWaited desk new_desk before after) is w in
      record { caused = item_caused desk.calls new_desk.calls e item; turns = inl x.turns; bounded = x.bounded; keeps = x.keeps }

  pub waited_done : (out : A) (done : B) → waited ≡ Ok out → HasWaited {A = B} desk new_desk before after (Ok done)
  waited_done out done is =
      let x = subst (HasWaited desk new_desk before after) is w in
      record { caused = tt; turns = x.turns; bounded = x.bounded; keeps = x.keeps }

-- nothing was waited for
pub waits_none : {A : Type 0} (out : A) (desk : DeskTold) (turns : Turns) → HasWaited desk desk turns turns (Ok out)
waits_none out desk turns = record { caused = tt; turns = no_turn turns desk.calls; bounded = λ h. h; keeps = keeps_none desk }

-- memory was wanting before anything was waited for
pub waits_in_vain : {A : Type 0} (desk : DeskTold) (turns : Turns)
    → HasWaited {A = A} desk desk turns turns (Err (session.Wire wire.NoMemory))
waits_in_vain desk turns = record { caused = tt; turns = inl (no_turn turns desk.calls); bounded = λ h. h; keeps = keeps_none desk }
