-- What waits is sent before a query is polled again: a step by its message, and a round by its step.
use Rattle.std.proofs.Common.{◌≡◌, ◌<◌, ◌≤◌, ◌++◌, ⊎_elim, inl, inr, arith, ◌+◌, ◌∷◌, ℕ, List, [], true, false, length, Option, Some, None, Result, Ok, Err, IfOk, IfNone, IsErrOf, refl, sym, ap, subst, ◌∙◌, append_assoc, append-nil}
use Rattle.pg_messages.specs.declared.frontend.PgWireFrontendMessage.{PgWireFrontendMessage}
use Rattle.pg_messages.specs.Frames.{IsFrame}
use Rattle.pg_messages.specs.Replies.{replies_bytes}
use Rattle.pg_client.specs.declared.desk.DeskCall.{DeskCall}
use Rattle.pg_client.specs.declared.ends.EndKind.{EndKind}
use Rattle.pg_client.specs.declared.ends.SessionError.{SessionError}
use Rattle.pg_client.specs.declared.ends.SessionError.TheVariants as session
use Rattle.pg_client.specs.declared.ends.Turns.{Turns}
use Rattle.pg_client.specs.declared.desk.DeskCall.TheVariants as call
use Rattle.pg_client.specs.Answer.{Next}
use Rattle.pg_client.specs.Desk.{DeskTold, GoesOn, after_calls}
use Rattle.pg_client.specs.Effect.{IsCutRow, Scope}
use Rattle.pg_client.specs.State.{State}
use Rattle.pg_client.proofs.Desks.{goes_on_after}
use Rattle.conversation_table.specs.Handlers.{Handlers}
use Rattle.conversation_table.specs.Questions.{HasSpent, questions_since}
use Rattle.conversation_table.specs.Table.{awaits, message_row, whole_table}
use Rattle.conversation_runs.specs.Run.{Rules}
use Rattle.conversation_runs.specs.SentFirst.{FailsFirst, IsAnsweredBehind, IsCutBefore, IsSentResponse, IsSentStep, IsStepBehind, IsStepCut, SendsFirst, with_unsent}
use Rattle.conversation_runs.specs.Session.{ChangesUnsent, SessionValue, HasFed, is_going, told_end, told_or_more, whole_rules}
use Rattle.conversation_runs.specs.Steps.{FailedSo, Flows, IsCutAnswer, IsCutOff, IsResponse, IsServed, IsStep, IsStopped, RoundSo, SentBehind}
use Rattle.conversation_runs.specs.Streams.{GrowsBy, GrowsByFront, HasFlushed, HasSentCause, HasSinkCause}
use Rattle.conversation_runs.specs.declared.ends.Progress.{Progress}
use Rattle.conversation_runs.specs.declared.ends.ServeError.{ServeError}
use Rattle.conversation_runs.specs.declared.ends.ServeError.TheVariants as serve
use Rattle.conversation_runs.proofs.Behind.{caused_behind, flushed_as, round_behind}
use Rattle.conversation_runs.proofs.Answering.{cut_row}
use Rattle.conversation_runs.proofs.Failing.{failed_memory, never_limited}
use Rattle.conversation_runs.proofs.Flowing.{Flows-none, Flows-sent, Flows-then, GrowsByFront-then, front_of_more}
use Rattle.conversation_runs.proofs.Spending.{fed_unless_limit, since_grown, spent_more}
use Rattle.conversation_runs.proofs.Stepped.{never_stopped, step_answered}
use Rattle.conversation_runs.proofs.Stepping.{cut_one}

-- ---- what flows

-- a front of what was to be sent is one of that and more
pub front_grows : (w v : Option (List ℕ)) (a b : List ℕ) → GrowsByFront w v a → GrowsByFront w v (a ++ b)
front_grows None v a b g = tt
front_grows (Some x) v a b g = (g.0, front_of_more a b g.0 g.1, g.2)

-- bytes flowed, and the sending of those left and of more was cut off
cut_behind : {w v : Option (List ℕ)} {o p : List ℕ} (u : Option (List ℕ)) (b : List ℕ) → Flows w v o p [] → GrowsByFront v u (p ++ b)
    → GrowsByFront w u (o ++ b)
cut_behind {w} {v} {o} {p} u b x g =
    subst (λ l. GrowsByFront w u l)
    (sym (append_assoc x.sent p b) ∙ ap (λ l. l ++ b) (x.same ∙ append-nil o))
    (GrowsByFront-then w v u x.sent (p ++ b) x.grown g)

-- what was cut off before anything was sent, and then a front of what waited was sent
cut_grows : {T : Type 0} (rules : Rules T) {s : T} {text : List ℕ} {w v : Option (List ℕ)} {o : List ℕ} {k l : List DeskCall}
    → IsCutOff rules s text w w o k l → GrowsByFront w v o → IsCutOff rules s text w v o k l
cut_grows rules {w = w} {v = v} {o = o} x g = record {
  messages = x.messages;
  rest = x.rest;
  made = x.made;
  given = x.given;
  division = x.division;
  answered = x.answered;
  cut = front_grows w v o (replies_bytes x.given.replies) g;
  front = x.front;
  grown = x.grown;
}

module _ {T : Type 0} (rules : Rules T) {s : T} {text : List ℕ} {w v : Option (List ℕ)} {o p : List ℕ} {k l : List DeskCall} where
  cut_flows : (u : Option (List ℕ)) → Flows w v o p [] → IsCutOff rules s text v u p k l → IsCutOff rules s text w u o k l
  cut_flows u x y = record {
    messages = y.messages;
    rest = y.rest;
    made = y.made;
    given = y.given;
    division = y.division;
    answered = y.answered;
    cut = cut_behind u (replies_bytes y.given.replies) x y.cut;
    front = y.front;
    grown = y.grown;
  }

  stop_flows : (u : Option (List ℕ)) → Flows w v o p [] → IsStopped rules s text v u p k l → IsStopped rules s text w u o k l
  stop_flows u x y = record {
    messages = y.messages;
    rest = y.rest;
    made = y.made;
    replies = y.replies;
    division = y.division;
    answered = y.answered;
    asks = y.asks;
    cut = cut_behind u (replies_bytes y.replies) x y.cut;
    grown = y.grown;
  }

-- What was served behind what was sent.
serve_flows : {T : Type 0} (rules : Rules T) {s : T} {text rest : List ℕ} {next : Next T} {w v : Option (List ℕ)} {o p : List ℕ}
    {k l : List DeskCall} (u : Option (List ℕ)) (q : List ℕ)
    → Flows w v o p [] → IsServed rules s text rest next v u p q k l → IsServed rules s text rest next w u o q k l
serve_flows rules u q x y = record {
  bytes = y.bytes;
  called = y.called;
  fed = y.fed;
  flows = Flows-then x y.flows;
  grown = y.grown;
}

round_flows : {T : Type 0} (rules : Rules T) (s n : T) (text rest : List ℕ) (w v u : Option (List ℕ)) (o p q : List ℕ) (k l : List DeskCall)
    (result : Option (Result Progress ServeError)) → Flows w v o p []
    → RoundSo rules s text n rest v u p q k l result → RoundSo rules s text n rest w u o q k l result
round_flows rules s n text rest w v u o p q k l None x y = serve_flows rules u q x y
round_flows rules s n text rest w v u o p q k l (Some (Ok told)) x y = (y.0, serve_flows rules u [] x y.1, y.2)
round_flows rules s n text rest w v u o p q k l (Some (Err serve.TurnLimit)) x y = stop_flows rules u x y
round_flows rules s n text rest w v u o p q k l (Some (Err _)) x y = cut_flows rules u x y

-- ---- turns

-- a call that spent no turn, however many there were, asked nothing
pub none_asked : {A : Type 0} (asked : ℕ) (result : Result A SessionError)
    → ((turns : Turns) → HasSpent turns turns asked result) → asked ≡ 0
none_asked asked (Ok x) spent = let e = ap (λ t. t.spent) (spent (record { spent = 0; limit = 1 })) in omega (arith, e)
none_asked asked (Err session.TurnLimit) spent =
    let e = ap (λ t. t.spent) (spent (record { spent = 0; limit = 1 })).0 in omega (arith, e)
none_asked asked (Err (session.Wire k)) spent = ⊎_elim
    (λ same. let e = ap (λ t. t.spent) same in omega (arith, e))
    (λ more. let e = ap (λ t. t.spent) more.1 in omega (arith, e))
    (spent (record { spent = 0; limit = 1 }))

none_spent : (turns : Turns) (n : ℕ) → n ≡ 0 → turns ≡ spent_more turns n
none_spent turns n none = ap (λ (k : ℕ). let now : Turns = record { spent = k; limit = turns.limit } in now)
    (let same : turns.spent ≡ turns.spent + n = omega (arith, none) in same)

-- ---- a message and a step

module _ {K O H S : Type 0} (written : K → Option (List ℕ)) (faults : K → ℕ) (origin : K → O) (told : H → Handlers S) where
  -- nothing is sent
  pub sends_none : (sink : K) (out : List ℕ) → SendsFirst written faults origin sink sink out out
  sends_none sink out = record { flows = Flows-none (written sink) out; calm = refl; same = refl }

  -- a response before which nothing is sent
  pub response_at_once : (m : PgWireFrontendMessage) (old new : SessionValue H S) (sink : K) (desk new_desk : DeskTold)
      (before after : Turns) (result : Result (Option EndKind) ServeError)
      → questions_since desk.calls new_desk.calls ≡ 0 → (IsErrOf result serve.TurnLimit → ⊥)
      → IsResponse told m old new desk new_desk before after result
      → IsSentResponse written faults origin told m old new sink sink desk new_desk before after result
  response_at_once m old new sink desk new_desk before after result none unlimited x = inl (record {
    left = old.unsent;
    sent = sends_none sink old.unsent;
    asked = λ some. absurd (some none);
    limited = λ limit. absurd (unlimited limit);
    response = x;
  })

  -- the same of one that met no error, and of one whose error was told
  pub done_at_once : (m : PgWireFrontendMessage) (old new : SessionValue H S) (sink : K) (desk new_desk : DeskTold) (turns : Turns)
      (end : Option EndKind) (answer : Result (Option EndKind) SessionError)
      → ((before : Turns) → HasSpent before before (questions_since desk.calls new_desk.calls) answer)
      → IsResponse told m old new desk new_desk turns turns (Ok end)
      → IsSentResponse written faults origin told m old new sink sink desk new_desk turns turns (Ok end)
  done_at_once m old new sink desk new_desk turns end answer spent x = response_at_once m old new sink desk new_desk turns turns (Ok end)
      (none_asked _ answer spent) (never_stopped (Ok end) tt) x

  pub failed_at_once : (m : PgWireFrontendMessage) (old new : SessionValue H S) (sink : K) (desk new_desk : DeskTold) (turns : Turns)
      (error : SessionError) (scope : Scope) (s t : State S) (out new_out : List ℕ) (result : Result (Option EndKind) ServeError)
      → ((before : Turns) → HasSpent {A = Option EndKind} before before (questions_since desk.calls new_desk.calls) (Err error))
      → FailedSo error scope s t out new_out result
      → IsResponse told m old new desk new_desk turns turns result
      → IsSentResponse written faults origin told m old new sink sink desk new_desk turns turns result
  failed_at_once m old new sink desk new_desk turns error scope s t out new_out result spent failed x =
      let answer : Result (Option EndKind) SessionError = Err error in
      response_at_once m old new sink desk new_desk turns turns result (none_asked _ answer spent)
      (never_stopped result (failed_memory error scope s t out new_out result failed (never_limited error _ spent))) x

  -- a response behind all that waited
  pub response_behind : (m : PgWireFrontendMessage) (old mid new : SessionValue H S) (sink new_sink : K) (desk new_desk : DeskTold)
      (before after : Turns) (result : Result (Option EndKind) ServeError)
      → ChangesUnsent old mid → mid.unsent ≡ [] → GrowsBy (written sink) (written new_sink) old.unsent
      → faults new_sink ≡ faults sink → origin new_sink ≡ origin sink
      → IsResponse told m mid new desk new_desk before after result
      → IsSentResponse written faults origin told m old new sink new_sink desk new_desk before after result
  response_behind m old mid new sink new_sink desk new_desk before after result same empty grown calm kept x =
      let is : mid ≡ with_unsent old mid.unsent = λ i. record {
        handlers = same.handlers i;
        state = same.state i;
        rest = same.rest i;
        unsent = mid.unsent;
        is_open = same.opened i;
      } in
      inl (record {
        left = mid.unsent;
        sent = record { flows = Flows-sent (written sink) (written new_sink) old.unsent mid.unsent grown empty; calm = calm; same = kept };
        asked = λ some. empty;
        limited = λ limit. empty;
        response = subst (λ v. IsResponse told m v new desk new_desk before after result) is x;
      })

  -- The sink failed behind the start of a query.
  pub cut_before : (m : PgWireFrontendMessage) (old new : SessionValue H S) (sink new_sink : K) (first desk : DeskTold) (turns : Turns)
      (e : ServeError) → desk ≡ after_calls first (call.Start ∷ [])
      → IsCutRow (λ answers. message_row (told old.handlers) answers old.state m) first.calls desk.calls
      → new.handlers ≡ old.handlers → new.rest ≡ old.rest → new.is_open ≡ false
      → GrowsByFront (written sink) (written new_sink) old.unsent → HasFlushed {T = Unit {0}} (faults sink) (faults new_sink) (Err e)
      → origin new_sink ≡ origin sink
      → IsSentResponse written faults origin told m old new sink new_sink first desk turns turns (Err e)
  cut_before m old new sink new_sink first desk turns e starts cut handlers rest closed grown cause kept =
      let flushed = flushed_as (Unit {0}) (Option EndKind) (faults sink) (faults new_sink) e cause in
      let none = since_grown first.calls desk.calls (call.Start ∷ []) (ap (λ d. d.calls) starts) in
      inr (record {
        failed = record { fails = tt; cut = grown; cause = flushed; same = kept };
        cut = cut_row (told old.handlers) old.state m first.calls desk.calls cut;
        opened = closed;
        handlers = handlers;
        rest = rest;
        turns = fed_unless_limit turns turns (questions_since first.calls desk.calls) (Err e) (none_spent turns _ none) flushed.no_turn_limit;
        bounded = λ within. within;
        registration = goes_on_after first desk (call.Start ∷ []) starts;
      })

  -- a step before which nothing is sent
  pub step_at_once : (text : List ℕ) (old new : SessionValue H S) (sink : K) (desk new_desk : DeskTold) (before after : Turns)
      (step : Result (Option Progress) ServeError) → IsStep told text old new desk new_desk before after step
      → IsSentStep written faults origin told text old new sink sink desk new_desk before after step
  step_at_once text old new sink desk new_desk before after step x =
      inl (record { left = old.unsent; sent = sends_none sink old.unsent; taken = x })

  fails_told : (sink new_sink : K) (out : List ℕ) (answer : Result (Option EndKind) ServeError)
      → FailsFirst written faults origin sink new_sink out answer → FailsFirst written faults origin sink new_sink out (told_end answer)
  fails_told sink new_sink out (Ok end) x = absurd x.fails
  fails_told sink new_sink out (Err e) x = record {
    fails = tt;
    cut = x.cut;
    cause = flushed_as (Option EndKind) (Option Progress) (faults sink) (faults new_sink) e x.cause;
    same = x.same;
  }

  fed_told : (sink new_sink : K) (out : List ℕ) (before after : Turns) (n : ℕ) (answer : Result (Option EndKind) ServeError)
      → FailsFirst written faults origin sink new_sink out answer → HasFed before after n answer → HasFed before after n (told_end answer)
  fed_told sink new_sink out before after n (Ok end) x fed = absurd x.fails
  fed_told sink new_sink out before after n (Err serve.ReadFault) x fed = fed
  fed_told sink new_sink out before after n (Err serve.WriteFault) x fed = fed
  fed_told sink new_sink out before after n (Err serve.TurnLimit) x fed = fed
  fed_told sink new_sink out before after n (Err serve.NoMemory) x fed = fed

  module _ (old mid new : SessionValue H S) (frame : List ℕ) (m : PgWireFrontendMessage) (sink new_sink : K) (desk new_desk : DeskTold)
      (before after : Turns) (answer : Result (Option EndKind) ServeError) (h : mid.handlers ≡ old.handlers) (s : mid.state ≡ old.state)
      (u : mid.unsent ≡ old.unsent) (e : old.rest ≡ frame ++ mid.rest) (f : IsFrame (awaits old.state) frame m) where
    step_behind : IsAnsweredBehind written faults origin told m mid new sink new_sink desk new_desk before after answer
        → IsStepBehind written faults origin told old.rest old new sink new_sink desk new_desk before after (told_end answer)
    step_behind x = record {
      left = x.left;
      sent = subst (λ out. SendsFirst written faults origin sink new_sink out x.left) u x.sent;
      taken = step_answered told (with_unsent old x.left) (with_unsent mid x.left) new frame m desk new_desk before after answer h s refl e f
          x.response;
    }

    step_cut : IsCutBefore written faults origin told m mid new sink new_sink desk new_desk before after answer
        → IsStepCut written faults origin told old.rest old new sink new_sink desk new_desk before after (told_end answer)
    step_cut x =
        let failed = fails_told sink new_sink old.unsent answer
        (subst (λ out. FailsFirst written faults origin sink new_sink out answer) u x.failed) in
        let cut = subst (λ q. IsCutAnswer (whole_table (told q)) old.state m desk.calls new_desk.calls) h
        (subst (λ q. IsCutAnswer (whole_table (told mid.handlers)) q m desk.calls new_desk.calls) s x.cut) in
        record {
          failed = failed;
          cut = cut_grows (whole_rules (told old.handlers))
              (cut_one (whole_rules (told old.handlers)) old.state old.rest frame mid.rest m e f (written sink) old.unsent desk.calls
              new_desk.calls cut) failed.cut;
          handlers = x.handlers ∙ h;
          turns = fed_told sink new_sink mid.unsent before after (questions_since desk.calls new_desk.calls) answer x.failed x.turns;
          bounded = x.bounded;
          registration = x.registration;
        }

    -- A message was taken off the bytes, and answered behind what was sent.
    pub step_sent : IsSentResponse written faults origin told m mid new sink new_sink desk new_desk before after answer
        → IsSentStep written faults origin told old.rest old new sink new_sink desk new_desk before after (told_end answer)
    step_sent (inl x) = inl (step_behind x)
    step_sent (inr x) = inr (step_cut x)

  -- ---- a round

  module _ (text : List ℕ) (old new : SessionValue H S) (sink mid_sink : K) (desk new_desk : DeskTold) (before after : Turns) where
    pub sent_opened : (step : Result (Option Progress) ServeError)
        → IsSentStep written faults origin told text old new sink mid_sink desk new_desk before after step
        → IfOk step (λ p. is_going p ≡ true → new.is_open ≡ true)
    sent_opened step (inl x) = x.taken.opened
    sent_opened (Ok p) (inr x) = absurd x.failed.fails
    sent_opened (Err e) (inr x) = tt

    pub sent_shorter : (step : Result (Option Progress) ServeError)
        → IsSentStep written faults origin told text old new sink mid_sink desk new_desk before after step
        → IfOk step (λ p. IfNone p (length new.rest < length text))
    sent_shorter step (inl x) = x.taken.shorter
    sent_shorter (Ok p) (inr x) = absurd x.failed.fails
    sent_shorter (Err e) (inr x) = tt

    pub sent_handlers : (step : Result (Option Progress) ServeError)
        → IsSentStep written faults origin told text old new sink mid_sink desk new_desk before after step
        → new.handlers ≡ old.handlers
    sent_handlers step (inl x) = x.taken.handlers
    sent_handlers step (inr x) = x.handlers

    pub sent_turns : (step : Result (Option Progress) ServeError)
        → IsSentStep written faults origin told text old new sink mid_sink desk new_desk before after step
        → HasFed before after (questions_since desk.calls new_desk.calls) step
    sent_turns step (inl x) = x.taken.turns
    sent_turns step (inr x) = x.turns

    pub sent_bounded : (step : Result (Option Progress) ServeError)
        → IsSentStep written faults origin told text old new sink mid_sink desk new_desk before after step
        → before.spent ≤ before.limit → after.spent ≤ after.limit
    sent_bounded step (inl x) = x.taken.bounded
    sent_bounded step (inr x) = x.bounded

    pub sent_registration : (step : Result (Option Progress) ServeError)
        → IsSentStep written faults origin told text old new sink mid_sink desk new_desk before after step → GoesOn desk new_desk
    sent_registration step (inl x) = x.taken.registration
    sent_registration step (inr x) = x.registration

    pub sent_origin : (step : Result (Option Progress) ServeError)
        → IsSentStep written faults origin told text old new sink mid_sink desk new_desk before after step
        → origin mid_sink ≡ origin sink
    sent_origin step (inl x) = x.sent.same
    sent_origin step (inr x) = x.failed.same

    module _ (last : List ℕ) (last_sink : K) (result : Option (Result Progress ServeError)) where
      failed_round : (step : Result (Option Progress) ServeError)
          → IsStepCut written faults origin told text old new sink mid_sink desk new_desk before after step
          → (result : Option (Result Progress ServeError)) → SentBehind (written mid_sink) (written last_sink) new.unsent last step result
          → RoundSo (whole_rules (told old.handlers)) old.state text new.state new.rest (written sink) (written last_sink) old.unsent last
          desk.calls new_desk.calls result
      failed_round (Ok p) x result y = absurd x.failed.fails
      failed_round (Err e) x None y = absurd y
      failed_round (Err e) x (Some (Ok t)) y = absurd y
      failed_round (Err e) x (Some (Err serve.TurnLimit)) y = absurd (x.failed.cause.no_turn_limit (ap Err (sym y.0)))
      failed_round (Err e) x (Some (Err _)) y =
          subst (λ q. IsCutOff (whole_rules (told old.handlers)) old.state text (written sink) q old.unsent desk.calls new_desk.calls)
          (sym y.1) x.cut

      pub round_sent : (step : Result (Option Progress) ServeError)
          → IsSentStep written faults origin told text old new sink mid_sink desk new_desk before after step
          → SentBehind (written mid_sink) (written last_sink) new.unsent last step result
          → HasSentCause (faults mid_sink) (faults last_sink) step result
          → RoundSo (whole_rules (told old.handlers)) old.state text new.state new.rest (written sink) (written last_sink) old.unsent last
          desk.calls new_desk.calls result
      round_sent step (inl x) y cause =
          let rules = whole_rules (told old.handlers) in
          round_flows rules old.state new.state text new.rest (written sink) (written mid_sink) (written last_sink) old.unsent x.left last
          desk.calls new_desk.calls result x.sent.flows
          (round_behind rules old.state new.state text new.rest (written mid_sink) (written last_sink) x.left new.unsent last desk.calls
          new_desk.calls step result (faults mid_sink) (faults last_sink) x.taken.served x.taken.cut_off x.taken.stopped y cause)
      round_sent step (inr x) y cause = failed_round step x result y

      failed_cause : (step : Result (Option Progress) ServeError)
          → IsStepCut written faults origin told text old new sink mid_sink desk new_desk before after step
          → (result : Option (Result Progress ServeError)) → SentBehind (written mid_sink) (written last_sink) new.unsent last step result
          → HasSentCause (faults mid_sink) (faults last_sink) step result
          → HasSinkCause (faults sink) (faults last_sink) (told_or_more result)
      failed_cause (Ok p) x result y cause = absurd x.failed.fails
      failed_cause (Err e) x None y cause = absurd y
      failed_cause (Err e) x (Some (Ok t)) y cause = absurd y
      failed_cause (Err e) x (Some (Err j)) y cause =
          let flushed = flushed_as (Option Progress) Progress (faults sink) (faults mid_sink) e x.failed.cause in
          subst (λ (q : ServeError). HasSinkCause {T = Progress} (faults sink) (faults last_sink) (Err q)) (sym y.0)
          (subst (λ (n : ℕ). HasSinkCause {T = Progress} (faults sink) n (Err e)) (sym cause) (record {
            write_fault = flushed.write_fault;
            no_read_fault = flushed.no_read_fault;
            never_falls = flushed.never_falls;
            calm = flushed.calm;
          }))

      pub cause_sent : (step : Result (Option Progress) ServeError)
          → IsSentStep written faults origin told text old new sink mid_sink desk new_desk before after step
          → SentBehind (written mid_sink) (written last_sink) new.unsent last step result
          → HasSentCause (faults mid_sink) (faults last_sink) step result
          → HasSinkCause (faults sink) (faults last_sink) (told_or_more result)
      cause_sent step (inl x) y cause =
          subst (λ (n : ℕ). HasSinkCause n (faults last_sink) (told_or_more result)) x.sent.calm
          (caused_behind (written mid_sink) (written last_sink) new.unsent last step result (faults mid_sink) (faults last_sink) y
          x.taken.only cause)
      cause_sent step (inr x) y cause = failed_cause step x result y cause
