-- What each step of the front takes.
use Rattle.std.proofs.Common.{◌≡◌, ◌≢◌, ℕ, ◌≤◌, Bool, true, false, List, [], ◌++◌, ◌⊎◌, inl, inr, Option, Some, None, Result, Ok, Err, IsErrOf, refl, sym, ap, subst, ◌∙◌, append-nil, arith}
use Rattle.pg_messages.specs.declared.frontend.PgWireFrontendMessage.{PgWireFrontendMessage}
use Rattle.pg_messages.specs.Frames.{IsFrame, IsUnfinished}
use Rattle.pg_client.specs.declared.desk.DeskCall.{DeskCall}
use Rattle.pg_client.specs.declared.ends.EndKind.{EndKind}
use Rattle.pg_client.specs.declared.ends.Turns.{Turns}
use Rattle.pg_client.specs.Desk.{GoesOn}
use Rattle.conversation_table.specs.Handlers.{Handlers}
use Rattle.conversation_table.specs.Questions.{questions_since}
use Rattle.pg_client.specs.State.{State}
use Rattle.conversation_table.specs.Table.{whole_table, awaits}
use Rattle.conversation_runs.specs.declared.ends.Progress.{Progress}
use Rattle.conversation_runs.specs.declared.ends.Progress.TheVariants as progress
use Rattle.conversation_runs.specs.declared.ends.ServeError.{ServeError}
use Rattle.conversation_runs.specs.declared.ends.ServeError.TheVariants as serve
use Rattle.conversation_runs.specs.Messages.{next_of}
use Rattle.conversation_runs.specs.Session.{SessionValue, whole_rules, HasFed, goes_on}
use Rattle.conversation_runs.specs.Steps.{IsCutOff, WasFed}
use Rattle.conversation_runs.specs.Streams.{HasSinkCause, HasFlushed}
use Rattle.conversation_runs.proofs.Spending as spending
use Rattle.std.specs.Result.{IsErrAnd}
use Rattle.cursor_commands.specs.declared.command.CursorCommand.{CursorCommand}
use Rattle.cursor_commands.specs.Cursors.{messages_of}
use Rattle.cursor_table.specs.CursorTable.{cursor_table, cursor_rules, asked_command, is_ready}
use Rattle.cursor_session.specs.Asking.{AreAnswered, AreStopped, AreResponses}
use Rattle.cursor_session.specs.Fronts.{Around, Takes, IsBegun, IsStanding, IsQuiet, FrontValue, SendsReplies, SendsFront, rest_of, told_by}
use Rattle.cursor_session.specs.Seen.{FrontTakes}
use Rattle.cursor_session.proofs.Alike.{fed_alike}
use Rattle.cursor_session.proofs.Passing.{alike_begun, stands_behind}
use Rattle.cursor_session.proofs.Heads.{ready_is_typed}
use Rattle.cursor_session.proofs.Exchanging.{short_of_none, exchanged, exchange_cut, command_cut, command_stopped}
use Rattle.cursor_session.proofs.Taking.{no_memory_taken, takes_none}

-- ---- bytes that go on to the session

pub pass_takes : {S : Type 0} (h : Handlers S) (s : State S) (text : List ℕ) (owed : ℕ) (t : State S) (rest new_rest o : List ℕ)
    (a b : Around) (result : Result Progress ServeError)
    → IsBegun s.info.state text owed → o ≡ [] → new_rest ≡ rest
    → WasFed (whole_rules h) s text t rest a.written b.written o a.desk.calls b.desk.calls result
    → HasSinkCause a.faults b.faults result
    → HasFed a.turns b.turns (questions_since a.desk.calls b.desk.calls) result
    → (a.turns.spent ≤ a.turns.limit → b.turns.spent ≤ b.turns.limit) → GoesOn a.desk b.desk → b.origin ≡ a.origin
    → Takes (cursor_rules h) s text t new_rest a b result
pass_takes h s text owed t rest new_rest o a b result begun none same fed cause turns bounded registration sink = record {
  rest = rest;
  fed = fed_alike awaits (whole_table h) (cursor_table is_ready (whole_table h)) s text (alike_begun h s text owed begun) t rest a.written
      b.written [] a.desk.calls b.desk.calls result
      (subst (λ l. WasFed (whole_rules h) s text t rest a.written b.written l a.desk.calls b.desk.calls result) none fed);
  left = λ more. sym same;
  cause = cause;
  turns = turns;
  bounded = bounded;
  registration = registration;
  sink = sink;
}

pub pass_stands : {H S : Type 0} (h : Handlers S) (s : State S) (text : List ℕ) (v : FrontValue H S) (w u : Option (List ℕ)) (o : List ℕ)
    (k l : List DeskCall)
    → IsBegun s.info.state text v.owed → v.held ≡ [] → IsQuiet v.inner
    → WasFed (whole_rules h) s text v.inner.state v.inner.rest w u o k l (Ok progress.More) → IsStanding v
pass_stands h s text v w u o k l begun none quiet fed = record {
  quiet = quiet;
  short = subst (λ r. IsUnfinished (awaits v.inner.state) r)
      (sym (append-nil v.inner.rest) ∙ ap (λ l. v.inner.rest ++ l) (sym none)) fed.2.1;
  placed =
      elim (stands_behind h s text v.owed begun v.inner.state v.inner.rest fed.0 w u o [] k l fed.1 fed.2.0 fed.2.1) [
        | inl x ↦ inl x
        | inr x ↦ inr (x.0, none, x.1)
      ];
}

-- ---- a command

is_no_more : (kind : EndKind) → ◌≢◌ {A = Result Progress ServeError} (Ok (progress.Ended kind)) (Ok progress.More)
is_no_more kind e = absurd (let k = e in cc)

error_is_no_more : (e : ServeError) → ◌≢◌ {A = Result Progress ServeError} (Err e) (Ok progress.More)
error_is_no_more e is = absurd (let k = is in cc)

-- between two frames, where nothing is held
stands_between : {H S : Type 0} (v : FrontValue H S) → IsQuiet v.inner → v.inner.rest ≡ [] → v.held ≡ [] → v.owed ≡ 0 → IsStanding v
stands_between v quiet none held owed = record {
  quiet = quiet;
  short = subst (λ r. IsUnfinished (awaits v.inner.state) r) (sym (ap (λ l. l ++ v.held) none ∙ held))
      (short_of_none (awaits v.inner.state));
  placed = inl (owed, none);
}

-- memory was wanting before anything was done
lost_no_more : (r : Result Progress ServeError) → IsErrAnd r (λ e. e ≡ serve.NoMemory) → r ≢ Ok progress.More
lost_no_more (Ok told) is more = absurd is
lost_no_more (Err e) is more = error_is_no_more e more

pub front_lost : {H S : Type 0} (told : H → Handlers S) (v : FrontValue H S) (text held : List ℕ) (owed : ℕ) (a : Around)
    (r : Result Progress ServeError) → IsErrAnd r (λ e. e ≡ serve.NoMemory)
    → FrontTakes told v text (record { inner = v.inner; held = held; owed = owed }) a a r
front_lost told v text held owed a r is = record {
  took = no_memory_taken r is;
  stands = λ more. absurd (lost_no_more r is more);
  handlers = refl;
}

-- the error of a call that is told on
pub err_is : (r : Result Progress ServeError) (e : ServeError) → IsErrAnd r (λ k. k ≡ e) → e ≡ serve.NoMemory
    → IsErrAnd r (λ k. k ≡ serve.NoMemory)
err_is (Ok told) e is wanting = absurd is
err_is (Err k) e is wanting = is ∙ wanting

-- bytes are held
pub front_holds : {H S : Type 0} (told : H → Handlers S) (v : FrontValue H S) (text held : List ℕ) (a : Around) → IsQuiet v.inner
    → v.inner.rest ≡ [] → v.owed ≡ 0 → held ≡ text → IsUnfinished (awaits v.inner.state) held
    → FrontTakes told v text (record { inner = v.inner; held = held; owed = v.owed }) a a (Ok progress.More)
front_holds told v text held a quiet none owed same short =
    let rules = cursor_rules (told v.inner.handlers) in
    let s = v.inner.state in
    let all : held ≡ v.inner.rest ++ held = ap (λ l. l ++ held) (sym none) in
    record {
      took = subst (λ l. Takes rules s l s (v.inner.rest ++ held) a a (Ok progress.More)) same
          (subst (λ l. Takes rules s held s l a a (Ok progress.More)) all (takes_none rules s held a short));
      stands = λ more. record {
        quiet = quiet;
        short = subst (λ l. IsUnfinished (awaits s) l) all short;
        placed = inl (owed, none);
      };
      handlers = refl;
    }

abbrev as_done : {A : Type 0} → Result A ServeError → Result (Unit {0}) ServeError
as_done (Ok told) = Ok tt
as_done (Err e) = Err e

flushed_cut : (e : ServeError) (f g : ℕ) → HasFlushed {T = Unit {0}} f g (Err e) → HasSinkCause {T = Progress} f g (Err e)
flushed_cut e f g x = record {
  write_fault = λ is. x.write_fault (ap as_done is);
  no_read_fault = λ is. x.no_read_fault (ap as_done is);
  never_falls = x.never_falls;
  calm = tt;
}

flushed_well : (told : Progress) (f g : ℕ) → HasFlushed {T = Unit {0}} f g (Ok tt) → HasSinkCause {T = Progress} f g (Ok told)
flushed_well told f g x = record {
  write_fault = λ is. absurd (let e = is in cc);
  no_read_fault = λ is. let e = is in cc;
  never_falls = x.never_falls;
  calm = x.calm;
}

-- a session has no fault of a sink
no_fault : (e : ServeError) (f : ℕ) → (e ≡ serve.NoMemory) ⊎ (e ≡ serve.TurnLimit) → HasSinkCause {T = Progress} f f (Err e)
no_fault e f only = record {
  write_fault = λ is. absurd (elim only [ inl x ↦ (let k = is in let l = x in cc) | inr x ↦ (let k = is in let l = x in cc) ]);
  no_read_fault = λ is. elim only [ inl x ↦ (let k = is in let l = x in cc) | inr x ↦ (let k = is in let l = x in cc) ];
  never_falls = omega arith;
  calm = tt;
}

spent_cut : {A : Type 0} (old new : Turns) (n : ℕ) (kind : A) (e : ServeError) → e ≢ serve.TurnLimit → HasFed old new n (Ok kind)
    → HasFed {A = Progress} old new n (Err e)
spent_cut old new n kind serve.TurnLimit apart fed = absurd (apart refl)
spent_cut old new n kind serve.ReadFault apart fed = fed
spent_cut old new n kind serve.WriteFault apart fed = fed
spent_cut old new n kind serve.NoMemory apart fed = inl fed

cut_is_fed : {S : Type 0} (h : Handlers S) (s : State S) (frame : List ℕ) (t : State S) (rest : List ℕ) (w v : Option (List ℕ))
    (k l : List DeskCall) (e : ServeError) → e ≢ serve.TurnLimit
    → IsCutOff (cursor_rules h) s frame w v [] k l → WasFed (cursor_rules h) s frame t rest w v [] k l (Err e)
cut_is_fed h s frame t rest w v k l serve.TurnLimit apart x = absurd (apart refl)
cut_is_fed h s frame t rest w v k l serve.ReadFault apart x = x
cut_is_fed h s frame t rest w v k l serve.WriteFault apart x = x
cut_is_fed h s frame t rest w v k l serve.NoMemory apart x = x

-- A command was asked of the session behind a front, between two frames, where nothing is held.
module _ {H S : Type 0} (told : H → Handlers S) (v : FrontValue H S) (asked_v : SessionValue H S) (command : CursorCommand)
    (ready : is_ready v.inner.state ≡ true) (opened : v.inner.is_open ≡ true) (sent : v.inner.unsent ≡ []) (none : v.inner.rest ≡ [])
    (held : v.held ≡ []) (owed : v.owed ≡ 0)
    (frame : List ℕ) (m : PgWireFrontendMessage) (carries : IsFrame false frame m) (asked : asked_command m ≡ Some command)
    (a b : Around) where
  typed : awaits v.inner.state ≡ false
  typed = ready_is_typed v.inner.state.info.state ready

  abbrev behind : SessionValue H S → FrontValue H S
  behind inner = record { inner = inner; held = v.held; owed = v.owed }

  -- the session gave up, and nothing was sent
  pub command_lost : (e : ServeError)
      → AreResponses told (messages_of command) v.inner asked_v a.desk b.desk a.turns b.turns (Err e)
      → b.written ≡ a.written → b.faults ≡ a.faults → b.origin ≡ a.origin
      → FrontTakes told v frame (behind asked_v) a b (Err e)
  command_lost e x written faults origin =
      let h = told v.inner.handlers in
      let s = v.inner.state in
      record {
        took = record {
          rest = rest_of (behind asked_v);
          fed = subst (λ u. WasFed (cursor_rules h) s frame asked_v.state (rest_of (behind asked_v)) a.written u [] a.desk.calls b.desk.calls
              (Err e)) (sym written) (lost_by e x.stopped);
          left = λ more. refl;
          cause = subst (λ f. HasSinkCause {T = Progress} a.faults f (Err e)) (sym faults) (no_fault e a.faults x.only);
          turns = spending.fed_err (Option EndKind) Progress a.turns b.turns (questions_since a.desk.calls b.desk.calls) (Err e) e refl
              x.turns;
          bounded = x.bounded;
          registration = x.registration;
          sink = origin;
        };
        stands = λ more. absurd (error_is_no_more e more);
        handlers = x.handlers;
      }
    where
      lost_by : (k : ServeError) → (IsErrOf {T = Option EndKind} (Err k) serve.TurnLimit
          → AreStopped (whole_table (told v.inner.handlers)) v.inner.state (messages_of command) a.desk.calls b.desk.calls)
          → WasFed (cursor_rules (told v.inner.handlers)) v.inner.state frame asked_v.state (rest_of (behind asked_v)) a.written a.written []
          a.desk.calls b.desk.calls (Err k)
      lost_by serve.TurnLimit stopped =
          command_stopped is_ready awaits (whole_table (told v.inner.handlers)) v.inner.state ready typed command frame m carries asked
          a.written a.desk.calls b.desk.calls (stopped refl)
      lost_by serve.ReadFault stopped =
          command_cut is_ready awaits (whole_table (told v.inner.handlers)) v.inner.state ready typed command frame m carries asked
          a.written a.desk.calls b.desk.calls x.err
      lost_by serve.WriteFault stopped =
          command_cut is_ready awaits (whole_table (told v.inner.handlers)) v.inner.state ready typed command frame m carries asked
          a.written a.desk.calls b.desk.calls x.err
      lost_by serve.NoMemory stopped =
          command_cut is_ready awaits (whole_table (told v.inner.handlers)) v.inner.state ready typed command frame m carries asked
          a.written a.desk.calls b.desk.calls x.err

  module _ (sent_v : SessionValue H S) (kind : Option EndKind)
      (x : AreResponses told (messages_of command) v.inner asked_v a.desk b.desk a.turns b.turns (Ok kind))
      (state : sent_v.state ≡ asked_v.state) (handlers : sent_v.handlers ≡ asked_v.handlers) (origin : b.origin ≡ a.origin) where
    answered : AreAnswered (whole_table (told v.inner.handlers)) v.inner.state (messages_of command) [] asked_v.unsent a.desk.calls
        b.desk.calls (next_of kind sent_v.state)
    answered = subst (λ t. AreAnswered (whole_table (told v.inner.handlers)) v.inner.state (messages_of command) [] asked_v.unsent
        a.desk.calls b.desk.calls (next_of kind t)) (sym state)
        (subst (λ o. AreAnswered (whole_table (told v.inner.handlers)) v.inner.state (messages_of command) o asked_v.unsent a.desk.calls
        b.desk.calls (next_of kind asked_v.state)) sent x.answer)

    -- the replies were sent
    pub command_takes : (rest : sent_v.rest ≡ asked_v.rest) → sent_v.is_open ≡ asked_v.is_open → sent_v.unsent ≡ []
        → SendsReplies command asked_v.unsent a.written b.written
        → HasFlushed {T = Unit {0}} a.faults b.faults (Ok tt)
        → FrontTakes told v frame (behind sent_v) a b (Ok (told_by kind))
    command_takes rest is_open empty sends flushed =
        let h = told v.inner.handlers in
        let s = v.inner.state in
        let nothing : rest_of (behind sent_v) ≡ [] = ap (λ l. l ++ v.held) (rest ∙ (x.rest ∙ none)) ∙ held in
        record {
          took = record {
            rest = [];
            fed = exchanged is_ready awaits (whole_table h) s ready typed command frame m carries asked a.written a.desk.calls b.desk.calls
                b.written asked_v.unsent kind sent_v.state answered x.ends sends;
            left = λ more. sym nothing;
            cause = flushed_well (told_by kind) a.faults b.faults flushed;
            turns = x.turns;
            bounded = x.bounded;
            registration = x.registration;
            sink = origin;
          };
          stands = λ more. stands_between (behind sent_v)
              (record { opened = is_open ∙ open_by kind x.opened more; sent = empty }) (rest ∙ (x.rest ∙ none)) held owed;
          handlers = handlers ∙ x.handlers;
        }
      where
        open_by : (k : Option EndKind) → asked_v.is_open ≡ goes_on {E = ServeError} (Ok k)
            → ◌≡◌ {A = Result Progress ServeError} (Ok (told_by k)) (Ok progress.More) → asked_v.is_open ≡ true
        open_by None e more = e
        open_by (Some k) e more = absurd (is_no_more k more)

    -- the sending was cut off
    pub command_takes_cut : (e : ServeError) → SendsFront command asked_v.unsent a.written b.written
        → HasFlushed {T = Unit {0}} a.faults b.faults (Err e)
        → FrontTakes told v frame (behind sent_v) a b (Err e)
    command_takes_cut e sends flushed =
        let h = told v.inner.handlers in
        let s = v.inner.state in
        let apart : e ≢ serve.TurnLimit = λ is. flushed.no_turn_limit (ap Err is) in
        record {
          took = record {
            rest = rest_of (behind sent_v);
            fed = cut_is_fed h s frame sent_v.state (rest_of (behind sent_v)) a.written b.written a.desk.calls b.desk.calls e apart
                (exchange_cut is_ready awaits (whole_table h) s ready typed command frame m carries asked a.written a.desk.calls b.desk.calls
                b.written asked_v.unsent (next_of kind sent_v.state) answered sends);
            left = λ more. refl;
            cause = flushed_cut e a.faults b.faults flushed;
            turns = spent_cut a.turns b.turns (questions_since a.desk.calls b.desk.calls) kind e apart x.turns;
            bounded = x.bounded;
            registration = x.registration;
            sink = origin;
          };
          stands = λ more. absurd (error_is_no_more e more);
          handlers = handlers ∙ x.handlers;
        }
