-- Two tables that answer the frames of a text alike.
use Rattle.std.proofs.Common.{◌≡◌, ℕ, Bool, List, [], ◌∷◌, ◌++◌, Option, Result, Ok, Err, sym, ap, subst, ◌∙◌}
use Rattle.pg_messages.specs.declared.frontend.PgWireFrontendMessage.{PgWireFrontendMessage}
use Rattle.pg_messages.specs.Frames.{DividesInto}
use Rattle.pg_client.specs.declared.desk.DeskCall.{DeskCall}
use Rattle.pg_client.specs.declared.desk.DeskCall.TheVariants as desk
use Rattle.pg_client.specs.Answer.{Table, Next, BeginsWith, answers_of, conversation}
use Rattle.conversation_runs.specs.declared.ends.Progress.{Progress}
use Rattle.conversation_runs.specs.declared.ends.ServeError.{ServeError}
use Rattle.conversation_runs.specs.declared.ends.ServeError.TheVariants as serve
use Rattle.conversation_runs.specs.Run.{Rules}
use Rattle.conversation_runs.specs.Steps.{IsServed, IsCutOff, IsStopped, WasFed}
use Rattle.cursor_session.proofs.Divisions.{divides_cut}

-- the rules of a table
abbrev pub by_table : {T : Type 0} → (T → Bool) → Table T → Rules T
by_table awaits table = record { table = table; awaits = awaits }

abbrev pub AreAlike : {T : Type 0} → Table T → Table T → (T → Bool) → T → List ℕ → Type 0
AreAlike a b awaits s text = (ms : List PgWireFrontendMessage) (rest : List ℕ) → DividesInto (awaits s) text ms rest → (answers : List Bool)
    → conversation a answers s ms ≡ conversation b answers s ms

module _ {T : Type 0} (awaits : T → Bool) (a b : Table T) (s : T) (text : List ℕ) (alike : AreAlike a b awaits s text) where
  pub served_alike : (rest : List ℕ) (next : Next T) (w v : Option (List ℕ)) (o p : List ℕ) (k l : List DeskCall)
      → IsServed (by_table awaits a) s text rest next w v o p k l → IsServed (by_table awaits b) s text rest next w v o p k l
  served_alike rest next w v o p k l x = record {
    bytes = x.bytes;
    called = x.called;
    fed = λ more. let f = x.fed more in record {
      messages = f.messages;
      replies = f.replies;
      division = f.division;
      answered = sym (alike f.messages rest (divides_cut f.messages (awaits s) text rest more f.division) (answers_of x.called))
          ∙ f.answered;
      replied = f.replied;
    };
    flows = x.flows;
    grown = x.grown;
  }

  cut_alike : (w v : Option (List ℕ)) (o : List ℕ) (k l : List DeskCall)
      → IsCutOff (by_table awaits a) s text w v o k l → IsCutOff (by_table awaits b) s text w v o k l
  cut_alike w v o k l x = record {
    messages = x.messages;
    rest = x.rest;
    made = x.made;
    given = x.given;
    division = x.division;
    answered = sym (alike x.messages x.rest x.division (answers_of x.made)) ∙ x.answered;
    cut = x.cut;
    front = x.front;
    grown = x.grown;
  }

  stop_alike : (w v : Option (List ℕ)) (o : List ℕ) (k l : List DeskCall)
      → IsStopped (by_table awaits a) s text w v o k l → IsStopped (by_table awaits b) s text w v o k l
  stop_alike w v o k l x = record {
    messages = x.messages;
    rest = x.rest;
    made = x.made;
    replies = x.replies;
    division = x.division;
    answered = sym (alike x.messages x.rest x.division (answers_of x.made)) ∙ x.answered;
    asks = λ yes. subst (λ calls. BeginsWith calls (x.made ++ desk.Ask yes ∷ []))
        (ap (λ given. given.calls) (alike x.messages x.rest x.division (answers_of x.made ++ yes ∷ []))) (x.asks yes);
    cut = x.cut;
    grown = x.grown;
  }

  pub fed_alike : (t : T) (rest : List ℕ) (w v : Option (List ℕ)) (o : List ℕ) (k l : List DeskCall) (result : Result Progress ServeError)
      → WasFed (by_table awaits a) s text t rest w v o k l result → WasFed (by_table awaits b) s text t rest w v o k l result
  fed_alike t rest w v o k l (Ok told) x = (x.0, served_alike rest x.0 w v o [] k l x.1, x.2)
  fed_alike t rest w v o k l (Err serve.TurnLimit) x = stop_alike w v o k l x
  fed_alike t rest w v o k l (Err serve.ReadFault) x = cut_alike w v o k l x
  fed_alike t rest w v o k l (Err serve.WriteFault) x = cut_alike w v o k l x
  fed_alike t rest w v o k l (Err serve.NoMemory) x = cut_alike w v o k l x
