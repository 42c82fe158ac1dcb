-- How many bytes a session holds of a frame that isn't whole.
use Rattle.std.proofs.Common.{arith, ◌≡◌, ◌≤◌, ℕ, Bool, true, false, inl, inr, List, length, Result, Ok, Err}
use Rattle.std.specs.Prelude.{IfOk}
use Rattle.pg_messages.specs.Frames.{IsUnfinished}
use Rattle.pg_client.specs.Answer.{Next}
use Rattle.conversation_runs.specs.declared.ends.Progress.{Progress}
use Rattle.conversation_runs.specs.declared.ends.Progress.TheVariants as progress
use Rattle.conversation_runs.specs.declared.ends.ServeError.{ServeError}
use Rattle.conversation_runs.specs.Session.{most_held}
use Rattle.conversation_runs.specs.Steps.{Stands}

pub held_within : (awaiting : Bool) (rest : List ℕ) → IsUnfinished awaiting rest → length rest ≤ most_held awaiting
held_within true rest (inl h) = omega arith
held_within true rest (inr h) = let told = h.1.1 in let short = h.2 in omega (arith, told, short)
held_within false rest (inl h) = omega arith
held_within false rest (inr h) = let told = h.1.2 in let short = h.2 in omega (arith, told, short)

-- so after a piece behind which the conversation goes on
pub held_after : {T : Type 0} (awaits : T → Bool) (Served : Next T → Type 0) (s : T) (rest : List ℕ) (result : Result Progress ServeError)
    → IfOk result (λ told. (next : Next T) × Served next × Stands awaits next s rest told) → result ≡ Ok progress.More
    → length rest ≤ most_held (awaits s)
held_after awaits Served s rest (Ok progress.More) x e = held_within (awaits s) rest x.2.1
held_after awaits Served s rest (Ok (progress.Ended kind)) x e = cc
held_after awaits Served s rest (Err error) x e = cc
