-- What was taken of a text, and then more.
use Rattle.std.proofs.Common.{◌≡◌, ◌≢◌, ℕ, List, [], ◌++◌, inl, Option, Result, Ok, Err, refl, sym, ap, subst, ◌∙◌, append_assoc, take, drop, arith}
use Rattle.pg_messages.specs.Frames.{IsUnfinished}
use Rattle.pg_messages.proofs.OneReading.{division_kept}
use Rattle.pg_client.proofs.Desks.{goes_on_none, goes_on_then}
use Rattle.pg_client.specs.declared.desk.DeskCall.{DeskCall}
use Rattle.pg_client.specs.Answer.{Goes}
use Rattle.conversation_table.specs.Lawful.{IsLawful}
use Rattle.conversation_runs.specs.declared.ends.Progress.{Progress}
use Rattle.conversation_runs.specs.declared.ends.Progress.TheVariants as progress
use Rattle.conversation_runs.specs.declared.ends.ServeError.{ServeError}
use Rattle.conversation_runs.specs.declared.ends.ServeError.TheVariants as serve
use Rattle.conversation_runs.specs.Run.{Rules, EndsWith}
use Rattle.conversation_runs.specs.Steps.{IsServed, IsCutOff, IsStopped, WasFed}
use Rattle.conversation_runs.specs.Streams.{HasSinkCause}
use Rattle.conversation_runs.proofs.Feeding as feeding
use Rattle.conversation_runs.proofs.Spending as spending
use Rattle.std.specs.Result.{IsErrAnd}
use Rattle.std.proofs.lemmas.List.{take-append-drop}
use Rattle.conversation_runs.proofs.Stepping.{cut_none, serves_none, serves_to, serves_more}
use Rattle.conversation_table.specs.Handlers.{Handlers}
use Rattle.cursor_table.specs.CursorTable.{cursor_rules}
use Rattle.cursor_table.proofs.CursorLaws.{rules_lawful}
use Rattle.cursor_session.specs.Fronts.{Around, Takes, FrontValue, rest_of}
use Rattle.cursor_session.specs.Seen.{FrontTakes}

module _ {T : Type 0} (rules : Rules T) where
  -- the calls have grown
  grown_by : (s : T) (text : List ℕ) (t : T) (rest : List ℕ) (w v : Option (List ℕ)) (o : List ℕ) (k l : List DeskCall)
      (result : Result Progress ServeError) → WasFed rules s text t rest w v o k l result → (made : List DeskCall) × (l ≡ k ++ made)
  grown_by s text t rest w v o k l (Ok told) x = (x.1.called, x.1.grown)
  grown_by s text t rest w v o k l (Err serve.TurnLimit) x = (x.made, x.grown)
  grown_by s text t rest w v o k l (Err serve.ReadFault) x = (x.made, x.grown)
  grown_by s text t rest w v o k l (Err serve.WriteFault) x = (x.made, x.grown)
  grown_by s text t rest w v o k l (Err serve.NoMemory) x = (x.made, x.grown)

  -- nothing was taken
  pub takes_none : (s : T) (text : List ℕ) (a : Around) → IsUnfinished (rules.awaits s) text
      → Takes rules s text s text a a (Ok progress.More)
  takes_none s text a short = record {
    rest = text;
    fed = (Goes s, serves_none rules s text text a.written [] a.desk.calls refl, (refl, short));
    left = λ more. refl;
    cause = record {
      write_fault = λ is. absurd (let e = is in cc);
      no_read_fault = λ is. let e = is in cc;
      never_falls = omega arith;
      calm = refl;
    };
    turns = spending.no_turn a.turns a.desk.calls;
    bounded = λ within. within;
    registration = goes_on_none a.desk;
    sink = refl;
  }

  cut_more : (s : T) (text more : List ℕ) (w v : Option (List ℕ)) (o : List ℕ) (k l : List DeskCall)
      → IsCutOff rules s text w v o k l → IsCutOff rules s (text ++ more) w v o k l
  cut_more s text more w v o k l x = record {
    messages = x.messages;
    rest = x.rest ++ more;
    made = x.made;
    given = x.given;
    division = division_kept x.messages (rules.awaits s) text x.rest more x.division;
    answered = x.answered;
    cut = x.cut;
    front = x.front;
    grown = x.grown;
  }

  stop_more : (s : T) (text more : List ℕ) (w v : Option (List ℕ)) (o : List ℕ) (k l : List DeskCall)
      → IsStopped rules s text w v o k l → IsStopped rules s (text ++ more) w v o k l
  stop_more s text more w v o k l x = record {
    messages = x.messages;
    rest = x.rest ++ more;
    made = x.made;
    replies = x.replies;
    division = division_kept x.messages (rules.awaits s) text x.rest more x.division;
    answered = x.answered;
    asks = x.asks;
    cut = x.cut;
    grown = x.grown;
  }

module _ {T : Type 0} (rules : Rules T) (lawful : IsLawful rules.table rules.awaits) where
  -- where the conversation has ended, or was given up, nothing behind is asked for
  pub takes_all : (s : T) (text : List ℕ) (t : T) (new_rest more other : List ℕ) (a b : Around) (result : Result Progress ServeError)
      → result ≢ Ok progress.More → Takes rules s text t new_rest a b result
      → Takes rules s (text ++ more) t other a b result
  takes_all s text t new_rest more other a b (Ok progress.More) ended x = absurd (ended refl)
  takes_all s text t new_rest more other a b (Ok (progress.Ended kind)) ended x = record {
    rest = x.rest ++ more;
    fed = (
      x.fed.0,
      serves_more rules lawful more x.fed.1,
      (
        x.fed.2.0,
        λ behind. subst (λ l. EndsWith rules.awaits x.fed.0 l kind) (sym (append_assoc x.rest more behind)) (x.fed.2.1 (more ++ behind)),
      ),
    );
    left = λ e. absurd (ended e);
    cause = x.cause;
    turns = x.turns;
    bounded = x.bounded;
    registration = x.registration;
    sink = x.sink;
  }
  takes_all s text t new_rest more other a b (Err serve.TurnLimit) ended x = record {
    rest = x.rest;
    fed = stop_more rules s text more a.written b.written [] a.desk.calls b.desk.calls x.fed;
    left = λ e. absurd (ended e);
    cause = x.cause;
    turns = x.turns;
    bounded = x.bounded;
    registration = x.registration;
    sink = x.sink;
  }
  takes_all s text t new_rest more other a b (Err serve.ReadFault) ended x = record {
    rest = x.rest;
    fed = cut_more rules s text more a.written b.written [] a.desk.calls b.desk.calls x.fed;
    left = λ e. absurd (ended e);
    cause = x.cause;
    turns = x.turns;
    bounded = x.bounded;
    registration = x.registration;
    sink = x.sink;
  }
  takes_all s text t new_rest more other a b (Err serve.WriteFault) ended x = record {
    rest = x.rest;
    fed = cut_more rules s text more a.written b.written [] a.desk.calls b.desk.calls x.fed;
    left = λ e. absurd (ended e);
    cause = x.cause;
    turns = x.turns;
    bounded = x.bounded;
    registration = x.registration;
    sink = x.sink;
  }
  takes_all s text t new_rest more other a b (Err serve.NoMemory) ended x = record {
    rest = x.rest;
    fed = cut_more rules s text more a.written b.written [] a.desk.calls b.desk.calls x.fed;
    left = λ e. absurd (ended e);
    cause = x.cause;
    turns = x.turns;
    bounded = x.bounded;
    registration = x.registration;
    sink = x.sink;
  }

  -- What was taken of a text, and then a piece, was taken as one.
  pub takes_then : (s t u : T) (text mid piece rest : List ℕ) (a b c : Around) (result : Result Progress ServeError)
      → Takes rules s text t mid a b (Ok progress.More) → Takes rules t (mid ++ piece) u rest b c result
      → Takes rules s (text ++ piece) u rest a c result
  takes_then s t u text mid piece rest a b c result x y =
      let same : x.rest ≡ mid = x.left refl in
      let first : IsServed rules s text mid (Goes t) a.written b.written [] [] a.desk.calls b.desk.calls =
      subst (λ r. IsServed rules s text r (Goes t) a.written b.written [] [] a.desk.calls b.desk.calls) same
      (serves_to rules x.fed.2.0 x.fed.1) in
      let behind = grown_by rules t (mid ++ piece) u y.rest b.written c.written [] b.desk.calls c.desk.calls result y.fed in
      record {
        rest = y.rest;
        fed = feeding.fed_then rules lawful s t u text mid piece y.rest a.written b.written c.written [] [] a.desk.calls b.desk.calls
            c.desk.calls result first y.fed;
        left = y.left;
        cause = subst (λ n. HasSinkCause n c.faults result) x.cause.calm y.cause;
        turns = spending.fed_then a.turns b.turns c.turns a.desk.calls b.desk.calls c.desk.calls x.fed.1.called behind.0 result
            x.fed.1.grown behind.1 x.turns y.turns;
        bounded = λ within. y.bounded (x.bounded within);
        registration = goes_on_then a.desk b.desk c.desk x.registration y.registration;
        sink = y.sink ∙ x.sink;
      }

-- memory was wanting before anything was done
no_memory : {T : Type 0} (rules : Rules T) (s : T) (text : List ℕ) (t : T) (rest : List ℕ) (a : Around)
    → Takes rules s text t rest a a (Err serve.NoMemory)
no_memory rules s text t rest a = record {
  rest = rest;
  fed = cut_none rules s text a.written [] a.desk.calls;
  left = λ more. refl;
  cause = record {
    write_fault = λ is. absurd (let e = is in cc);
    no_read_fault = λ is. let e = is in cc;
    never_falls = omega arith;
    calm = tt;
  };
  turns = inl (spending.no_turn a.turns a.desk.calls);
  bounded = λ within. within;
  registration = goes_on_none a.desk;
  sink = refl;
}

pub no_memory_taken : {T : Type 0} {rules : Rules T} {s : T} {text : List ℕ} {t : T} {rest : List ℕ} {a : Around}
    (r : Result Progress ServeError)
    → IsErrAnd r (λ e. e ≡ serve.NoMemory) → Takes rules s text t rest a a r
no_memory_taken (Ok told) is = absurd is
no_memory_taken {rules = rules} {s = s} {text = text} {t = t} {rest = rest} {a = a} (Err e) is =
    subst (λ k. Takes rules s text t rest a a (Err k)) (sym is) (no_memory rules s text t rest a)

-- ---- a piece, part by part

module _ {T : Type 0} (rules : Rules T) (lawful : IsLawful rules.table rules.awaits) where
  -- one more part was taken
  takes_next : (s t u : T) (start taken part mid rest : List ℕ) (a b c : Around) (result : Result Progress ServeError)
      → Takes rules s (start ++ taken) t mid a b (Ok progress.More) → Takes rules t (mid ++ part) u rest b c result
      → Takes rules s (start ++ (taken ++ part)) u rest a c result
  takes_next s t u start taken part mid rest a b c result x y =
      subst (λ l. Takes rules s l u rest a c result) (append_assoc start taken part)
      (takes_then rules lawful s t u (start ++ taken) mid part rest a b c result x y)

  -- the part that was taken last
  takes_last : (s t u : T) (start taken part behind piece mid rest : List ℕ) (a b c : Around) (result : Result Progress ServeError)
      → piece ≡ taken ++ (part ++ behind) → result ≢ Ok progress.More
      → Takes rules s (start ++ taken) t mid a b (Ok progress.More) → Takes rules t (mid ++ part) u rest b c result
      → Takes rules s (start ++ piece) u rest a c result
  takes_last s t u start taken part behind piece mid rest a b c result split ended x y =
      subst (λ l. Takes rules s l u rest a c result)
      (append_assoc start (taken ++ part) behind ∙ ap (λ l. start ++ l) (append_assoc taken part behind ∙ sym split))
      (takes_all rules lawful s (start ++ (taken ++ part)) u rest behind rest a c result ended
      (takes_next s t u start taken part mid rest a b c result x y))

-- ---- a front, part by part

module _ {H S : Type 0} (told : H → Handlers S) (v w u : FrontValue H S) (taken part : List ℕ) (a b c : Around)
    (result : Result Progress ServeError) (x : FrontTakes told v (rest_of v ++ taken) w a b (Ok progress.More))
    (y : FrontTakes told w (rest_of w ++ part) u b c result) where
  -- what the part took, by the handlers from before
  by_same : Takes (cursor_rules (told v.inner.handlers)) w.inner.state (rest_of w ++ part) u.inner.state (rest_of u) b c result
  by_same = subst (λ h. Takes (cursor_rules (told h)) w.inner.state (rest_of w ++ part) u.inner.state (rest_of u) b c result) x.handlers y.took

  -- one more part was taken
  pub front_next : FrontTakes told v (rest_of v ++ (taken ++ part)) u a c result
  front_next = record {
    took = takes_next (cursor_rules (told v.inner.handlers)) (rules_lawful (told v.inner.handlers)) v.inner.state w.inner.state u.inner.state
        (rest_of v) taken part (rest_of w) (rest_of u) a b c result x.took by_same;
    stands = y.stands;
    handlers = y.handlers ∙ x.handlers;
  }

  -- the part that was taken last
  pub front_last : (behind piece : List ℕ) → piece ≡ taken ++ (part ++ behind) → result ≢ Ok progress.More
      → FrontTakes told v (rest_of v ++ piece) u a c result
  front_last behind piece split ended = record {
    took = takes_last (cursor_rules (told v.inner.handlers)) (rules_lawful (told v.inner.handlers)) v.inner.state w.inner.state u.inner.state
        (rest_of v) taken part behind piece (rest_of w) (rest_of u) a b c result split ended x.took by_same;
    stands = λ more. absurd (ended more);
    handlers = y.handlers ∙ x.handlers;
  }

-- two parts of a list are the list
pub split_again : (all front behind : List ℕ) (n : ℕ) → front ≡ take n all → behind ≡ drop n all → all ≡ front ++ behind
split_again all front behind n p q = sym (take-append-drop n all) ∙ (λ i. sym p i ++ sym q i)
