-- What was sent behind a step, and what a round comes to by it.
use Rattle.std.proofs.Common.{◌≡◌, ◌⊎◌, inl, inr, ℕ, List, [], true, Option, Some, None, Result, Ok, Err, IfOk, IfErr, IfSome, IfNone, OnOk, OnErr, IsErrOf, refl, sym, ap, subst, ◌∙◌, arith}
use Rattle.pg_client.specs.Answer.{Next}
use Rattle.pg_client.specs.declared.desk.DeskCall.{DeskCall}
use Rattle.pg_client.specs.declared.ends.Turns.{Turns}
use Rattle.conversation_runs.specs.declared.ends.Progress.{Progress}
use Rattle.conversation_runs.specs.declared.ends.Progress.TheVariants as progress
use Rattle.conversation_runs.specs.declared.ends.ServeError.{ServeError}
use Rattle.conversation_runs.specs.declared.ends.ServeError.TheVariants as serve
use Rattle.conversation_runs.specs.Run.{Rules}
use Rattle.conversation_runs.specs.Session.{HasFed, is_going, told_or_more}
use Rattle.conversation_runs.specs.Streams.{GrowsBy, GrowsByFront, HasFlushed, HasSentCause, HasSinkCause}
use Rattle.conversation_runs.specs.Steps.{IsCutOff, IsServed, IsStopped, RoundSo, SentBehind, Stands, StandsAfterStep}
use Rattle.conversation_runs.proofs.Feeding.{was_fed}
use Rattle.conversation_runs.proofs.Flowing.{Flows-sent}
use Rattle.conversation_runs.proofs.Spending.{fed_err, fed_unless_limit}
use Rattle.conversation_runs.proofs.Stepping.{err_told, serves_to, serves_flow, cut_served}

pub sent_behind : (w v : Option (List ℕ)) (out new : List ℕ) (told : Progress) (result : Result Progress ServeError)
    → IfOk result (λ t. t ≡ told) → OnOk result (new ≡ []) → OnOk result (GrowsBy w v out) → OnErr result (GrowsByFront w v out)
    → SentBehind w v out new (Ok (Some told)) (Some result)
sent_behind w v out new told (Ok t) same empty grown cut = (same, empty, grown)
sent_behind w v out new told (Err e) same empty grown cut = cut

-- the cause of an error, whatever its call would have told
pub flushed_as : (A B : Type 0) (a b : ℕ) (e : ServeError) → HasFlushed {T = A} a b (Err e) → HasFlushed {T = B} a b (Err e)
flushed_as A B a b e x = record {
  write_fault = λ is. x.write_fault (ap Err (err_told (Err e) e serve.WriteFault refl is));
  no_read_fault = λ is. x.no_read_fault (ap Err (err_told (Err e) e serve.ReadFault refl is));
  no_turn_limit = λ is. x.no_turn_limit (ap Err (err_told (Err e) e serve.TurnLimit refl is));
  never_falls = x.never_falls;
  calm = tt;
}

-- nothing waits where a round tells something
pub nothing_waits : (w v : Option (List ℕ)) (out new : List ℕ) (step : Result (Option Progress) ServeError)
    (result : Option (Result Progress ServeError)) → SentBehind w v out new step result → IfSome result (λ told. OnOk told (new ≡ []))
nothing_waits w v out new (Ok None) None x = tt
nothing_waits w v out new (Ok None) (Some (Ok t)) x = absurd x
nothing_waits w v out new (Ok None) (Some (Err e)) x = tt
nothing_waits w v out new (Ok (Some told)) None x = absurd x
nothing_waits w v out new (Ok (Some told)) (Some (Ok t)) x = x.1
nothing_waits w v out new (Ok (Some told)) (Some (Err e)) x = tt
nothing_waits w v out new (Err e) None x = absurd x
nothing_waits w v out new (Err e) (Some (Ok t)) x = absurd x
nothing_waits w v out new (Err e) (Some (Err k)) x = tt

-- a round that tells nothing is behind a step that tells nothing
pub shorter_behind : (P : Type 0) (w v : Option (List ℕ)) (out new : List ℕ) (step : Result (Option Progress) ServeError)
    (result : Option (Result Progress ServeError)) → SentBehind w v out new step result → IfOk step (λ told. IfNone told P)
    → IfNone result P
shorter_behind P w v out new (Ok None) None x shorter = shorter
shorter_behind P w v out new (Ok None) (Some told) x shorter = tt
shorter_behind P w v out new (Ok (Some told)) None x shorter = absurd x
shorter_behind P w v out new (Ok (Some told)) (Some t) x shorter = tt
shorter_behind P w v out new (Err e) None x shorter = absurd x
shorter_behind P w v out new (Err e) (Some t) x shorter = tt

failed_more : (e : ServeError) → ◌≡◌ {A = Result Progress ServeError} (Err e) (Ok progress.More) → ⊥
failed_more e is = cc

-- a session is open behind a round that goes on, as behind its step
pub open_behind : {P : Type 0} (w v : Option (List ℕ)) (out new : List ℕ) (step : Result (Option Progress) ServeError)
    (result : Option (Result Progress ServeError)) → SentBehind w v out new step result → IfOk step (λ told. is_going told ≡ true → P)
    → told_or_more result ≡ Ok progress.More → P
open_behind w v out new (Ok None) None x is_open more = is_open refl
open_behind w v out new (Ok None) (Some (Ok t)) x is_open more = absurd x
open_behind w v out new (Ok None) (Some (Err e)) x is_open more =
    absurd (let not : ◌≡◌ {A = Result Progress ServeError} (Err e) (Ok progress.More) = more in failed_more e not)
open_behind w v out new (Ok (Some told)) None x is_open more = absurd x
open_behind w v out new (Ok (Some told)) (Some (Ok t)) x is_open more =
    is_open (let is : t ≡ progress.More = cc in ap (λ p. is_going (Some p)) (sym x.0 ∙ is))
open_behind w v out new (Ok (Some told)) (Some (Err e)) x is_open more =
    absurd (let not : ◌≡◌ {A = Result Progress ServeError} (Err e) (Ok progress.More) = more in failed_more e not)
open_behind w v out new (Err e) None x is_open more = absurd x
open_behind w v out new (Err e) (Some (Ok t)) x is_open more = absurd x
open_behind w v out new (Err e) (Some (Err k)) x is_open more =
    absurd (let not : ◌≡◌ {A = Result Progress ServeError} (Err k) (Ok progress.More) = more in failed_more k not)

-- a flush that a round tells is its cause
caused_by_flush : (a c : ℕ) (result : Result Progress ServeError) → HasFlushed a c result → HasSinkCause a c result
caused_by_flush a c result x = record {
  write_fault = x.write_fault;
  no_read_fault = x.no_read_fault;
  never_falls = x.never_falls;
  calm = x.calm;
}

-- want of memory or of a turn is no fault of the sink
caused_by_want : (a c : ℕ) (e k : ServeError) → k ≡ e → c ≡ a → (e ≡ serve.NoMemory) ⊎ (e ≡ serve.TurnLimit)
    → HasSinkCause {T = Progress} a c (Err k)
caused_by_want a c e k is same (inl want) = record {
  write_fault = λ fault. cc;
  no_read_fault = λ fault. cc;
  never_falls = omega arith;
  calm = tt;
}
caused_by_want a c e k is same (inr want) = record {
  write_fault = λ fault. cc;
  no_read_fault = λ fault. cc;
  never_falls = omega arith;
  calm = tt;
}

-- the cause of what a round tells
pub caused_behind : (w v : Option (List ℕ)) (out new : List ℕ) (step : Result (Option Progress) ServeError)
    (result : Option (Result Progress ServeError)) (a c : ℕ) → SentBehind w v out new step result
    → IfErr step (λ e. (e ≡ serve.NoMemory) ⊎ (e ≡ serve.TurnLimit))
    → HasSentCause a c step result → HasSinkCause a c (told_or_more result)
caused_behind w v out new (Ok None) None a c x only last = record {
  write_fault = λ is. cc;
  no_read_fault = λ is. cc;
  never_falls = (let same : c ≡ a = last in omega arith);
  calm = last;
}
caused_behind w v out new (Ok None) (Some result) a c x only last = caused_by_flush a c result last
caused_behind w v out new (Ok (Some told)) None a c x only last = absurd x
caused_behind w v out new (Ok (Some told)) (Some result) a c x only last = caused_by_flush a c result last
caused_behind w v out new (Err e) None a c x only last = absurd x
caused_behind w v out new (Err e) (Some (Ok t)) a c x only last = absurd x
caused_behind w v out new (Err e) (Some (Err k)) a c x only last = caused_by_want a c e k x.0 last only

-- the turns that were spent
pub spent_behind : (w v : Option (List ℕ)) (out new : List ℕ) (step : Result (Option Progress) ServeError)
    (result : Option (Result Progress ServeError)) (a c : ℕ) (turns now : Turns) (n : ℕ) → SentBehind w v out new step result
    → HasSentCause a c step result → HasFed turns now n step → HasFed turns now n (told_or_more result)
spent_behind w v out new (Ok None) None a c turns now n x last spent = spent
spent_behind w v out new (Ok None) (Some result) a c turns now n x last spent =
    fed_unless_limit turns now n result spent last.no_turn_limit
spent_behind w v out new (Ok (Some told)) None a c turns now n x last spent = absurd x
spent_behind w v out new (Ok (Some told)) (Some result) a c turns now n x last spent =
    fed_unless_limit turns now n result spent last.no_turn_limit
spent_behind w v out new (Err e) None a c turns now n x last spent = absurd x
spent_behind w v out new (Err e) (Some (Ok t)) a c turns now n x last spent = absurd x
spent_behind w v out new (Err e) (Some (Err k)) a c turns now n x last spent =
    fed_err (Option Progress) Progress turns now n (Err k) e x.0 spent

module _ {T : Type 0} (rules : Rules T) where
  pub round_behind : (s n : T) (text rest : List ℕ) (w u : Option (List ℕ)) (o mid new : List ℕ) (k l : List DeskCall)
      (step : Result (Option Progress) ServeError) (result : Option (Result Progress ServeError)) (a c : ℕ)
      → IfOk step (λ told. (next : Next T) × ((v : Option (List ℕ)) → IsServed rules s text rest next v v o mid k l)
      × StandsAfterStep rules.awaits next n rest told)
      → OnErr step ((v : Option (List ℕ)) → IsCutOff rules s text v v o k l)
      → (IsErrOf step serve.TurnLimit → (v : Option (List ℕ)) → IsStopped rules s text v v o k l)
      → SentBehind w u mid new step result → HasSentCause a c step result
      → RoundSo rules s text n rest w u o new k l result
  round_behind s n text rest w u o mid new k l (Ok None) None a c served cut stops x cause =
      serves_to rules served.2 (serves_flow rules u new (served.1 w) x)
  round_behind s n text rest w u o mid new k l (Ok None) (Some (Ok t)) a c served cut stops x cause = absurd x
  round_behind s n text rest w u o mid new k l (Ok None) (Some (Err serve.TurnLimit)) a c served cut stops x cause =
      absurd (cause.no_turn_limit refl)
  round_behind s n text rest w u o mid new k l (Ok None) (Some (Err _)) a c served cut stops x cause =
      cut_served rules u (served.1 w) x
  round_behind s n text rest w u o mid new k l (Ok (Some told)) None a c served cut stops x cause = absurd x
  round_behind s n text rest w u o mid new k l (Ok (Some told)) (Some (Ok t)) a c served cut stops x cause = (
    served.0,
    serves_flow rules u [] (served.1 w) (Flows-sent w u mid [] x.2 refl),
    subst (Stands rules.awaits served.0 n rest) (sym x.0) served.2,
  )
  round_behind s n text rest w u o mid new k l (Ok (Some told)) (Some (Err serve.TurnLimit)) a c served cut stops x cause =
      absurd (cause.no_turn_limit refl)
  round_behind s n text rest w u o mid new k l (Ok (Some told)) (Some (Err _)) a c served cut stops x cause =
      cut_served rules u (served.1 w) x
  round_behind s n text rest w u o mid new k l (Err e) None a c served cut stops x cause = absurd x
  round_behind s n text rest w u o mid new k l (Err e) (Some (Ok t)) a c served cut stops x cause = absurd x
  round_behind s n text rest w u o mid new k l (Err e) (Some (Err j)) a c served cut stops x cause =
      subst (λ q. RoundSo rules s text n rest w u o new k l (Some (Err q))) (sym x.0)
      (subst (λ q. RoundSo rules s text n rest w q o new k l (Some (Err e))) (sym x.1)
      (was_fed rules s text n rest w w o k l (Err e) tt (cut w)
      (λ limit. stops (ap Err (err_told (Err e) e serve.TurnLimit refl limit)) w)))
