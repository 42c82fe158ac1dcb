-- A step, by what its reading did, and by what the answer to its message did.
use Rattle.std.proofs.Common.{◌≡◌, ◌≢◌, ◌<◌, ◌++◌, ◌⊎◌, ℕ, Bool, true, false, List, length, Option, Some, None, Result, Ok, Err, IfOk, IfErr, IfNone, IsErrOf, OnErr, refl, sym, ap, subst, inl, ◌∙◌, arith, length-append}
use Rattle.std.specs.Option.{option_map}
use Rattle.std.proofs.lemmas.Bool.{false≢true}
use Rattle.pg_messages.specs.declared.frontend.PgWireFrontendMessage.{PgWireFrontendMessage}
use Rattle.pg_messages.specs.Frames.{IsFrame}
use Rattle.pg_client.specs.declared.ends.EndKind.{EndKind}
use Rattle.pg_client.specs.declared.ends.EndKind.TheVariants as end
use Rattle.pg_client.specs.declared.ends.Turns.{Turns}
use Rattle.pg_client.specs.declared.desk.DeskCall.{DeskCall}
use Rattle.pg_client.specs.Answer.{Next}
use Rattle.pg_client.specs.Desk.{DeskTold}
use Rattle.conversation_table.specs.Handlers.{Handlers}
use Rattle.conversation_table.specs.Questions.{questions_since}
use Rattle.pg_client.specs.State.{State}
use Rattle.conversation_table.specs.Table.{awaits, whole_table}
use Rattle.pg_client.proofs.Desks.{goes_on_none}
use Rattle.conversation_runs.specs.declared.ends.Progress.{Progress}
use Rattle.conversation_runs.specs.declared.ends.Progress.TheVariants as progress
use Rattle.conversation_runs.specs.declared.ends.ServeError.{ServeError}
use Rattle.conversation_runs.specs.declared.ends.ServeError.TheVariants as serve
use Rattle.conversation_runs.specs.Messages.{next_of}
use Rattle.conversation_runs.specs.Session.{SessionValue, HasFed, IsUnread, goes_on, is_going, told_end, whole_rules}
use Rattle.conversation_runs.specs.Steps.{IsAnswered, IsCutAnswer, IsStoppedAnswer, IsServed, IsCutOff, IsStopped, StandsAfterStep, IsResponse, IsStep}
use Rattle.conversation_runs.proofs.Spending.{fed_err, no_turn}
use Rattle.conversation_runs.proofs.Stepping.{serves_one, cut_one, stop_one, stands_by, err_told}
use Rattle.conversation_runs.proofs.Unread.{unread_served, unread_cut, unread_only}

-- a frame has bytes
frame_bytes_some : (awaiting : Bool) (frame : List ℕ) (m : PgWireFrontendMessage) (h : IsFrame awaiting frame m) → 0 < length frame
frame_bytes_some true frame m h = omega (arith, ap length h.bytes)
frame_bytes_some false frame m h = omega (arith, ap length h.bytes)

shorter_behind : (text frame rest : List ℕ) → text ≡ frame ++ rest → 0 < length frame → length rest < length text
shorter_behind text frame rest e some = omega (arith, ap length e, length-append frame rest)

-- ---- nothing could be read

-- no turn is spent where nothing is asked
silently_fed : {A : Type 0} (turns : Turns) (calls : List DeskCall) (result : Result A ServeError)
    → IfErr result (λ e. e ≡ serve.NoMemory) → HasFed turns turns (questions_since calls calls) result
silently_fed turns calls (Ok x) only = no_turn turns calls
silently_fed turns calls (Err serve.NoMemory) only = inl (no_turn turns calls)
silently_fed turns calls (Err serve.TurnLimit) only = cc
silently_fed turns calls (Err serve.ReadFault) only = cc
silently_fed turns calls (Err serve.WriteFault) only = cc

-- no turn limit is met, and memory alone is wanting
pub never_stopped : {A : Type 0} (result : Result A ServeError) → IfErr result (λ e. e ≡ serve.NoMemory) → IsErrOf result serve.TurnLimit → ⊥
never_stopped (Ok x) only limit = cc
never_stopped (Err e) only limit = cc

one_of_both : {A : Type 0} (result : Result A ServeError) → IfErr result (λ e. e ≡ serve.NoMemory)
    → IfErr result (λ e. (e ≡ serve.NoMemory) ⊎ (e ≡ serve.TurnLimit))
one_of_both (Ok x) only = tt
one_of_both (Err e) only = inl only

opened_always : {P : Type 0} (step : Result (Option Progress) ServeError) → P → IfOk step (λ p. is_going p ≡ true → P)
opened_always (Ok p) x = λ _. x
opened_always (Err e) x = tt

never_none : (awaiting : Bool) (text : List ℕ) (P : Type 0) (step : Result (Option Progress) ServeError) → IsUnread awaiting text step
    → IfOk step (λ p. IfNone p P)
never_none awaiting text P (Ok None) x = absurd x
never_none awaiting text P (Ok (Some p)) x = tt
never_none awaiting text P (Err e) x = tt

module _ {H S : Type 0} (told : H → Handlers S) where
  step_at_once : (s : SessionValue H S) (desk : DeskTold) (turns : Turns) (step : Result (Option Progress) ServeError) → s.is_open ≡ true
      → IsUnread (awaits s.state) s.rest step → IsStep told s.rest s s desk desk turns turns step
  step_at_once s desk turns step is_open x =
      let only = unread_only (awaits s.state) s.rest step x in
      record {
        served = unread_served (told s.handlers) s.state s.rest s.unsent desk.calls step x;
        cut_off = unread_cut (told s.handlers) s.state s.rest s.unsent desk.calls step;
        stopped = λ limit. absurd (never_stopped step only limit);
        only = one_of_both step only;
        opened = opened_always step is_open;
        handlers = refl;
        shorter = never_none (awaits s.state) s.rest (length s.rest < length s.rest) step x;
        turns = silently_fed turns desk.calls step only;
        bounded = λ within. within;
        registration = goes_on_none desk;
      }

  pub step_unread : (old new : SessionValue H S) (desk : DeskTold) (turns : Turns) (step : Result (Option Progress) ServeError)
      → new.handlers ≡ old.handlers → new.state ≡ old.state → new.rest ≡ old.rest → new.unsent ≡ old.unsent → new.is_open ≡ old.is_open
      → old.is_open ≡ true → IsUnread (awaits old.state) old.rest step
      → IsStep told old.rest old new desk desk turns turns step
  step_unread old new desk turns step h s r u o is_open x =
      let same : new ≡ old = λ i. record { handlers = h i; state = s i; rest = r i; unsent = u i; is_open = o i } in
      subst (λ n. IsStep told old.rest old n desk desk turns turns step) (sym same) (step_at_once old desk turns step is_open x)

  -- ---- the answer to a message

  module _ (old new : SessionValue H S) (frame : List ℕ) (m : PgWireFrontendMessage) (calls new_calls : List DeskCall)
      (e : old.rest ≡ frame ++ new.rest) (f : IsFrame (awaits old.state) frame m) where
    served_by : (answer : Result (Option EndKind) ServeError)
        → IfOk answer (λ kind. IsAnswered (whole_table (told old.handlers)) old.state m old.unsent new.unsent calls new_calls
        (next_of kind new.state))
        → IfOk answer (λ kind. kind ≢ Some end.InputEnd)
        → IfOk (told_end answer) (λ step. (next : Next (State S)) × ((w : Option (List ℕ)) → IsServed (whole_rules (told old.handlers))
        old.state old.rest new.rest next w w old.unsent new.unsent calls new_calls) × StandsAfterStep awaits next new.state new.rest step)
    served_by (Ok kind) x ends = (
      next_of kind new.state,
      λ w. serves_one (whole_rules (told old.handlers)) old.state old.rest frame new.rest m e f w x,
      stands_by awaits kind new.state new.rest (option_map (λ k. progress.Ended k) kind) refl ends,
    )
    served_by (Err error) x ends = tt

    cut_by : (answer : Result (Option EndKind) ServeError)
        → OnErr answer (IsCutAnswer (whole_table (told old.handlers)) old.state m calls new_calls)
        → OnErr (told_end answer) ((w : Option (List ℕ)) → IsCutOff (whole_rules (told old.handlers)) old.state old.rest w w old.unsent
        calls new_calls)
    cut_by (Ok kind) x = tt
    cut_by (Err error) x = λ w. cut_one (whole_rules (told old.handlers)) old.state old.rest frame new.rest m e f w old.unsent calls
        new_calls x

    stopped_by : (answer : Result (Option EndKind) ServeError)
        → (IsErrOf answer serve.TurnLimit → IsStoppedAnswer (whole_table (told old.handlers)) old.state m calls new_calls)
        → IsErrOf (told_end answer) serve.TurnLimit → (w : Option (List ℕ)) → IsStopped (whole_rules (told old.handlers)) old.state
        old.rest w w old.unsent calls new_calls
    stopped_by (Ok kind) x limit w = absurd (never_stopped (Ok (option_map (λ k. progress.Ended k) kind)) tt limit)
    stopped_by (Err error) x limit w = stop_one (whole_rules (told old.handlers)) old.state old.rest frame new.rest m e f w old.unsent
        calls new_calls (x (ap Err (err_told (Err error) error serve.TurnLimit refl limit)))

  only_by : (answer : Result (Option EndKind) ServeError) → IfErr answer (λ e. (e ≡ serve.NoMemory) ⊎ (e ≡ serve.TurnLimit))
      → IfErr (told_end answer) (λ e. (e ≡ serve.NoMemory) ⊎ (e ≡ serve.TurnLimit))
  only_by (Ok kind) x = tt
  only_by (Err error) x = x

  opened_by : (is_open : Bool) (answer : Result (Option EndKind) ServeError) → is_open ≡ goes_on answer
      → IfOk (told_end answer) (λ p. is_going p ≡ true → is_open ≡ true)
  opened_by is_open (Ok None) x = λ _. x
  opened_by is_open (Ok (Some kind)) x = λ going. absurd (false≢true going)
  opened_by is_open (Err error) x = tt

  shorter_by : (P : Type 0) (answer : Result (Option EndKind) ServeError) → P → IfOk (told_end answer) (λ p. IfNone p P)
  shorter_by P (Ok None) x = x
  shorter_by P (Ok (Some kind)) x = tt
  shorter_by P (Err error) x = tt

  fed_by : (before after : Turns) (n : ℕ) (answer : Result (Option EndKind) ServeError) → HasFed before after n answer
      → HasFed before after n (told_end answer)
  fed_by before after n (Ok kind) x = x
  fed_by before after n (Err error) x = fed_err (Option EndKind) (Option Progress) before after n (Err error) error refl x

  answered_step : (old new : SessionValue H S) (rest frame : List ℕ) (m : PgWireFrontendMessage) (desk new_desk : DeskTold)
      (before after : Turns) (answer : Result (Option EndKind) ServeError) (is_open : Bool)
      → old.rest ≡ frame ++ rest → IsFrame (awaits old.state) frame m
      → (let mid : SessionValue H S = record { handlers = old.handlers; state = old.state; rest = rest; unsent = old.unsent; is_open = is_open }
      in IsResponse told m mid new desk new_desk before after answer)
      → IsStep told old.rest old new desk new_desk before after (told_end answer)
  answered_step old new rest frame m desk new_desk before after answer is_open e f x =
      let text : old.rest ≡ frame ++ new.rest = e ∙ ap (λ r. frame ++ r) (sym x.rest) in
      record {
        served = served_by old new frame m desk.calls new_desk.calls text f answer x.answer x.ends;
        cut_off = cut_by old new frame m desk.calls new_desk.calls text f answer x.err;
        stopped = stopped_by old new frame m desk.calls new_desk.calls text f answer x.stopped;
        only = only_by answer x.only;
        opened = opened_by new.is_open answer x.opened;
        handlers = x.handlers;
        shorter = shorter_by (length new.rest < length old.rest) answer
            (shorter_behind old.rest frame new.rest text (frame_bytes_some (awaits old.state) frame m f));
        turns = fed_by before after _ answer x.turns;
        bounded = x.bounded;
        registration = x.registration;
      }

  -- A message was taken off the bytes, and answered.
  pub step_answered : (old mid new : SessionValue H S) (frame : List ℕ) (m : PgWireFrontendMessage) (desk new_desk : DeskTold)
      (before after : Turns) (answer : Result (Option EndKind) ServeError)
      → mid.handlers ≡ old.handlers → mid.state ≡ old.state → mid.unsent ≡ old.unsent
      → old.rest ≡ frame ++ mid.rest → IsFrame (awaits old.state) frame m
      → IsResponse told m mid new desk new_desk before after answer
      → IsStep told old.rest old new desk new_desk before after (told_end answer)
  step_answered old mid new frame m desk new_desk before after answer h s u e f x =
      let begun : SessionValue H S =
      record { handlers = old.handlers; state = old.state; rest = mid.rest; unsent = old.unsent; is_open = mid.is_open } in
      let same : mid ≡ begun = λ i. record { handlers = h i; state = s i; rest = mid.rest; unsent = u i; is_open = mid.is_open } in
      answered_step old new mid.rest frame m desk new_desk before after answer mid.is_open e f
      (subst (λ v. IsResponse told m v new desk new_desk before after answer) same x)
