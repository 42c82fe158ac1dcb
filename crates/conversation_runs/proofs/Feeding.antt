-- What became of a text that a session was fed with, piece by piece.
use Rattle.std.proofs.Common.{ℕ, List, [], ◌++◌, Option, Result, Ok, Err, IfOk, OnErr, IsErrOf, refl, sym, append-nil}
use Rattle.pg_client.specs.declared.desk.DeskCall.{DeskCall}
use Rattle.pg_client.specs.Answer.{Next, Goes, Stops}
use Rattle.conversation_table.specs.Lawful.{IsLawful}
use Rattle.conversation_runs.specs.declared.ends.Progress.{Progress}
use Rattle.conversation_runs.specs.declared.ends.ServeError.{ServeError}
use Rattle.conversation_runs.specs.declared.ends.ServeError.TheVariants as serve
use Rattle.conversation_runs.specs.Run.{Rules}
use Rattle.conversation_runs.specs.Steps.{IsServed, IsCutOff, IsStopped, Stands, WasFed}
use Rattle.conversation_runs.proofs.Stepping.{serves_then, serves_more, cut_then, stop_then}

module _ {T : Type 0} (rules : Rules T) where
  pub was_fed : (s : T) (text : List ℕ) (t : T) (rest : List ℕ) (w v : Option (List ℕ)) (o : List ℕ) (k l : List DeskCall)
      (result : Result Progress ServeError)
      → IfOk result (λ told. (next : Next T) × IsServed rules s text rest next w v o [] k l × Stands rules.awaits next t rest told)
      → OnErr result (IsCutOff rules s text w v o k l)
      → (IsErrOf result serve.TurnLimit → IsStopped rules s text w v o k l)
      → WasFed rules s text t rest w v o k l result
  was_fed s text t rest w v o k l (Ok told) served cut stops = served
  was_fed s text t rest w v o k l (Err serve.TurnLimit) served cut stops = stops refl
  was_fed s text t rest w v o k l (Err e) served cut stops = cut

  -- a stop at a question cuts the serving off
  pub cut_by_stop : {s : T} {text : List ℕ} {w v : Option (List ℕ)} {o : List ℕ} {k l : List DeskCall}
      → IsStopped rules s text w v o k l → IsCutOff rules s text w v o k l
  cut_by_stop x = record {
    messages = x.messages;
    rest = x.rest;
    made = x.made;
    given = record { replies = x.replies; calls = x.made; next = Stops };
    division = x.division;
    answered = x.answered;
    cut = x.cut;
    front = ([], sym (append-nil x.made));
    grown = x.grown;
  }

  pub cut_by_error : (s : T) (text : List ℕ) (t : T) (rest : List ℕ) (w v : Option (List ℕ)) (o : List ℕ) (k l : List DeskCall)
      (e : ServeError) → WasFed rules s text t rest w v o k l (Err e) → IsCutOff rules s text w v o k l
  cut_by_error s text t rest w v o k l serve.TurnLimit x = cut_by_stop x
  cut_by_error s text t rest w v o k l _ x = x

  -- What was served, and then fed with a piece, was fed with both.
  pub fed_then : IsLawful rules.table rules.awaits → (s t u : T) (text mid piece rest : List ℕ) (a w v : Option (List ℕ)) (b o : List ℕ)
      (j k l : List DeskCall) (result : Result Progress ServeError)
      → IsServed rules s text mid (Goes t) a w b o j k → WasFed rules t (mid ++ piece) u rest w v o k l result
      → WasFed rules s (text ++ piece) u rest a v b j l result
  fed_then lawful s t u text mid piece rest a w v b o j k l (Ok told) x y =
      (y.0, serves_then rules lawful (serves_more rules lawful piece x) y.1, y.2)
  fed_then lawful s t u text mid piece rest a w v b o j k l (Err serve.TurnLimit) x y =
      stop_then rules lawful (serves_more rules lawful piece x) y
  fed_then lawful s t u text mid piece rest a w v b o j k l (Err _) x y =
      cut_then rules lawful (serves_more rules lawful piece x) y
