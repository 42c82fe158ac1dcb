-- What was served round by round, and the round that tells how it ends.
use Rattle.std.proofs.Common.{◌≡◌, ◌++◌, ℕ, List, [], Option, Result, Ok, Err, IfOk}
use Rattle.pg_client.specs.Answer.{Next, Goes}
use Rattle.conversation_table.specs.Lawful.{IsLawful}
use Rattle.conversation_table.specs.Questions.{questions_since}
use Rattle.pg_client.specs.declared.desk.DeskCall.{DeskCall}
use Rattle.pg_client.specs.declared.ends.Turns.{Turns}
use Rattle.conversation_runs.specs.Run.{Rules}
use Rattle.conversation_runs.specs.Session.{HasFed}
use Rattle.conversation_runs.specs.Steps.{IsServed, Stands, WasFed}
use Rattle.conversation_runs.specs.declared.ends.Progress.{Progress}
use Rattle.conversation_runs.specs.declared.ends.ServeError.{ServeError}
use Rattle.conversation_runs.specs.declared.ends.ServeError.TheVariants as serve
use Rattle.conversation_runs.proofs.Feeding.{cut_by_error}
use Rattle.conversation_runs.proofs.Spending.{spent_more, fed_then}
use Rattle.conversation_runs.proofs.Stepping.{serves_then, cut_then, stop_then}

module _ {T : Type 0} (rules : Rules T) where
  -- what was served, where it was
  pub served_if_fed : (s : T) (text : List ℕ) (t : T) (rest : List ℕ) (w v : Option (List ℕ)) (o : List ℕ) (k l : List DeskCall)
      (told : Result Progress ServeError) → WasFed rules s text t rest w v o k l told
      → IfOk told (λ progress. (next : Next T) × IsServed rules s text rest next w v o [] k l × Stands rules.awaits next t rest progress)
  served_if_fed s text t rest w v o k l (Ok progress) x = x
  served_if_fed s text t rest w v o k l (Err e) x = tt

  -- the calls that were made
  calls_of : (s : T) (text : List ℕ) (t : T) (rest : List ℕ) (w v : Option (List ℕ)) (o : List ℕ) (k l : List DeskCall)
      (told : Result Progress ServeError) → WasFed rules s text t rest w v o k l told → (made : List DeskCall) × (l ≡ k ++ made)
  calls_of s text t rest w v o k l (Ok progress) x = (x.1.called, x.1.grown)
  calls_of s text t rest w v o k l (Err e) x =
      let cut = cut_by_error rules s text t rest w v o k l e x in
      (cut.made, cut.grown)

  module _ (lawful : IsLawful rules.table rules.awaits) (s t n : T) (text mid rest : List ℕ) (w v u : Option (List ℕ)) (o p : List ℕ)
      (k l m : List DeskCall) (so_far : IsServed rules s text mid (Goes t) w v o p k l) where
    pub told_then : (told : Result Progress ServeError) → WasFed rules t mid n rest v u p l m told
        → WasFed rules s text n rest w u o k m told
    told_then (Ok progress) x = (x.0, serves_then rules lawful so_far x.1, x.2)
    told_then (Err serve.TurnLimit) x = stop_then rules lawful so_far x
    told_then (Err _) x = cut_then rules lawful so_far x

    pub turns_then : (told : Result Progress ServeError) (turns now new : Turns) → WasFed rules t mid n rest v u p l m told
        → now ≡ spent_more turns (questions_since k l) → HasFed now new (questions_since l m) told
        → HasFed turns new (questions_since k m) told
    turns_then told turns now new x spent more =
        let made = calls_of t mid n rest v u p l m told x in
        fed_then turns now new k l m so_far.called made.0 told so_far.grown made.1 spent more
