-- The registry calls of a query: one start, and a question after each poll that found it unready.
use Rattle.std.specs.Prelude.{ℕ, zero, suc, Bool, true, false, List, [], ◌∷◌, ◌++◌, ◌+◌, ◌≡◌, ◌≤◌, ◌⊎◌, Result, Ok, Err, length, drop}
use Rattle.pg_results.specs.declared.error.PgWireError.TheVariants as wire
use Rattle.pg_client.specs.declared.ends.SessionError.{SessionError}
use Rattle.pg_client.specs.declared.ends.SessionError.TheVariants as session
use Rattle.pg_client.specs.declared.ends.Turns.{Turns}
use Rattle.pg_client.specs.declared.desk.DeskCall.{DeskCall}
use Rattle.pg_client.specs.declared.desk.DeskCall.TheVariants as desk
use Rattle.pg_client.specs.Answer.{answers_of}

-- each question was answered no; one was answered yes, and is the last; an answer was missing
pub data Verdict : Type 0 where
  Passed : Verdict
  Canceled : Verdict
  Unanswered : Verdict

pub record Questioned : Type 0 where
  pub calls : List DeskCall
  pub verdict : Verdict

abbrev pub after_call : DeskCall → Questioned → Questioned
after_call call q = record { calls = call ∷ q.calls; verdict = q.verdict }

-- the questions of this many unready polls, with these answers to come
abbrev pub questioned : ℕ → List Bool → Questioned
questioned zero answers = record { calls = []; verdict = Passed }
questioned (suc owed) [] = record { calls = []; verdict = Unanswered }
questioned (suc owed) (true ∷ answers) = record { calls = desk.Ask true ∷ []; verdict = Canceled }
questioned (suc owed) (false ∷ answers) = after_call (desk.Ask false) (questioned owed answers)

abbrev pub started : ℕ → List Bool → Questioned
started owed answers = after_call desk.Start (questioned owed answers)

-- how many questions are among calls
abbrev pub questions : List DeskCall → ℕ
questions [] = 0
questions (desk.Start ∷ calls) = questions calls
questions (desk.Ask told ∷ calls) = questions calls + 1
questions (desk.Cancel pid key told ∷ calls) = questions calls
questions (desk.Narrow ∷ calls) = questions calls

-- The questions of this many unready polls were asked, with exactly the answers that they were given, and came to this
-- verdict.
pub record IsAsked (owes : ℕ) (calls new_calls : List DeskCall) (verdict : Verdict) : Type 0 where
  pub made : List DeskCall
  pub grown : new_calls ≡ calls ++ made
  pub asked : questioned owes (answers_of made) ≡ record { calls = made; verdict = verdict }

-- the result of waiting for a query, by the verdict of its questions
abbrev pub IsVerdict : {A : Type 0} → A → Verdict → Result A SessionError → Type 0
IsVerdict outcome verdict (Ok out) = (verdict ≡ Passed) × (out ≡ outcome)
IsVerdict outcome verdict (Err session.TurnLimit) = verdict ≡ Unanswered
IsVerdict outcome verdict (Err (session.Wire e)) = ((e ≡ wire.QueryCanceled) × (verdict ≡ Canceled)) ⊎ (e ≡ wire.NoMemory)

-- the questions among the calls that were made since
abbrev pub questions_since : List DeskCall → List DeskCall → ℕ
questions_since calls new_calls = questions (drop (length calls) new_calls)

-- the last of the calls that were made since is a question that was answered yes
abbrev pub EndsWithYes : List DeskCall → List DeskCall → Type 0
EndsWithYes calls new_calls = (made : List DeskCall) × (new_calls ≡ calls ++ (made ++ desk.Ask true ∷ []))

-- The session's own errors of a query: QueryCanceled comes only where its last question was answered yes, and
-- NotReadyForQuery and PortalNotStarted never come.
abbrev pub IsCausedSo : List DeskCall → List DeskCall → SessionError → Type 0
IsCausedSo calls new_calls (session.Wire wire.QueryCanceled) = EndsWithYes calls new_calls
IsCausedSo calls new_calls (session.Wire wire.NotReadyForQuery) = ⊥
IsCausedSo calls new_calls (session.Wire wire.PortalNotStarted) = ⊥
IsCausedSo calls new_calls _ = Unit {0}

-- Turns were spent on questions, and on nothing else. Where memory ran out, one more may be spent. At TurnLimit none is
-- left.
abbrev pub HasSpent : {A : Type 0} → Turns → Turns → ℕ → Result A SessionError → Type 0
HasSpent old new asked (Ok out) = new ≡ record { spent = old.spent + asked; limit = old.limit }
HasSpent old new asked (Err session.TurnLimit) = (new ≡ record { spent = old.spent + asked; limit = old.limit }) × (old.limit ≤ new.spent)
HasSpent old new asked (Err (session.Wire e)) = (new ≡ record { spent = old.spent + asked; limit = old.limit })
    ⊎ ((e ≡ wire.NoMemory) × (new ≡ record { spent = old.spent + asked + 1; limit = old.limit }))
