-- A message that was met and answered by its sheet was answered by the table of sheets, whatever sheets are to come.
use Rattle.std.proofs.Common.{◌≡◌, ◌≢◌, ◌<◌, ◌⊎◌, inl, inr, ℕ, Bool, true, false, List, [], ◌∷◌, ◌++◌, Option, Some, None, Result, Ok, Err, IfOk, IfErr, IfNone, IsErrOf, OnErr, refl, ap, sym, subst, ◌∙◌, append-nil, length, length-append, arith}
use Rattle.std.specs.Option.{option_map}
use Rattle.std.proofs.lemmas.Bool.{false≢true}
use Rattle.pg_messages.specs.declared.frontend.PgWireFrontendMessage.{PgWireFrontendMessage}
use Rattle.pg_messages.specs.Frames.{IsFrame}
use Rattle.pg_client.specs.declared.desk.DeskCall.{DeskCall}
use Rattle.pg_client.specs.declared.ends.EndKind.{EndKind}
use Rattle.pg_client.specs.declared.ends.EndKind.TheVariants as end
use Rattle.pg_client.specs.declared.ends.Turns.{Turns}
use Rattle.pg_client.specs.Answer.{BeginsWith, Next, Goes, answers_of}
use Rattle.pg_client.specs.Desk.{DeskTold}
use Rattle.pg_client.specs.State.{State}
use Rattle.conversation_table.specs.Handlers.{Handlers}
use Rattle.conversation_table.specs.Questions.{questions_since}
use Rattle.conversation_table.specs.Table.{whole_table, awaits}
use Rattle.conversation_runs.specs.declared.ends.Progress.{Progress}
use Rattle.conversation_runs.specs.declared.ends.Progress.TheVariants as progress
use Rattle.conversation_runs.specs.declared.ends.ServeError.{ServeError}
use Rattle.conversation_runs.specs.declared.ends.ServeError.TheVariants as serve
use Rattle.conversation_runs.specs.Messages.{next_of}
use Rattle.conversation_runs.specs.Run.{EndsWith}
use Rattle.conversation_runs.specs.Session.{HasFed, IsUnread, goes_on, is_going, told_end}
use Rattle.conversation_runs.specs.Steps.{IsAnswered, IsCutAnswer, IsStoppedAnswer, IsServed, IsCutOff, IsStopped, StandsAfterStep}
use Rattle.conversation_runs.proofs.BadFrames.{bad_more}
use Rattle.conversation_runs.proofs.Spending.{fed_err, no_turn}
use Rattle.conversation_runs.proofs.Stepping.{serves_none, serves_one, cut_none, cut_one, stop_one, stands_by, err_told, bad_is_no_end_of_input}
use Rattle.conversation_runs.proofs.Unread.{unread_only}
use Rattle.pg_client.proofs.Desks.{goes_on_none}
use Rattle.moving_runs.specs.Sheets.{Ahead, next_ahead, sheet_table, awaits_ahead, sheet_rules}
use Rattle.moving_runs.specs.Meeting.{Meeting, MetFrames}
use Rattle.moving_runs.specs.Steps.{Standing, IsAnsweredBy, IsUnmet, IsMetResponse, IsMetStep, MetSo, ahead, step_goes}
use Rattle.moving_runs.proofs.Joining.{none_met, one_met, last_met, met_so_far}

-- ---- one answer

ahead_of_end : {S : Type 0} (more : List (Handlers S)) (e : Option EndKind) (t : State S)
    → next_ahead more (next_of e t) ≡ next_of e (ahead more t)
ahead_of_end more None t = refl
ahead_of_end more (Some kind) t = refl

module _ {S : Type 0} (h : Handlers S) (more : List (Handlers S)) (s : State S) (m : PgWireFrontendMessage) where
  pub answered_ahead : (out new_out : List ℕ) (calls new_calls : List DeskCall) (e : Option EndKind) (t : State S)
      → IsAnswered (whole_table h) s m out new_out calls new_calls (next_of e t)
      → IsAnswered sheet_table (ahead (h ∷ more) s) m out new_out calls new_calls (next_of e (ahead more t))
  answered_ahead out new_out calls new_calls e t x = record {
    made = x.made;
    own = x.own;
    carried = record {
      replied = record { bytes = x.carried.replied.bytes };
      called = x.carried.called;
      goes_on = ap (next_ahead more) x.carried.goes_on ∙ ahead_of_end more e t;
    };
  }

  pub cut_ahead : (calls new_calls : List DeskCall) → IsCutAnswer (whole_table h) s m calls new_calls
      → IsCutAnswer sheet_table (ahead (h ∷ more) s) m calls new_calls
  cut_ahead calls new_calls x = record { made = x.made; front = x.front; grown = x.grown }

  pub stopped_ahead : (calls new_calls : List DeskCall) → IsStoppedAnswer (whole_table h) s m calls new_calls
      → IsStoppedAnswer sheet_table (ahead (h ∷ more) s) m calls new_calls
  stopped_ahead calls new_calls x = record {
    made = x.made;
    own = x.own;
    stops = ap (next_ahead more) x.stops;
    asks = x.asks;
    grown = x.grown;
  }

-- ---- the calls and the meeting of a message

-- the calls that were made by the answer to a message, which are a front of those of the answer
record HasMade {S : Type 0} (h : Handlers S) (s : State S) (m : PgWireFrontendMessage) (calls new_calls : List DeskCall) : Type 0 where
  made : List DeskCall
  front : BeginsWith (whole_table h (answers_of made) s m).calls made
  grown : new_calls ≡ calls ++ made

abbrev made_by : {S : Type 0} (h : Handlers S) (m : PgWireFrontendMessage) (s t : State S) (out new_out : List ℕ) (calls new_calls : List DeskCall)
    (result : Result (Option EndKind) ServeError) → IsAnsweredBy h m s t out new_out calls new_calls result
    → HasMade h s m calls new_calls
made_by h m s t out new_out calls new_calls (Ok e) x = record {
  made = x.answer.made;
  front = ([], x.answer.own ∙ sym (append-nil x.answer.made));
  grown = x.answer.carried.called ∙ ap (λ k. calls ++ k) x.answer.own;
}
made_by h m s t out new_out calls new_calls (Err e) x = record { made = x.err.made; front = x.err.front; grown = x.err.grown }

-- ---- a step

frame_bytes_some : (awaiting : Bool) (frame : List ℕ) (m : PgWireFrontendMessage) (f : IsFrame awaiting frame m) → 0 < length frame
frame_bytes_some true frame m f = omega (arith, ap length f.bytes)
frame_bytes_some false frame m f = omega (arith, ap length f.bytes)

shorter_behind : (text frame rest : List ℕ) → text ≡ frame ++ rest → 0 < length frame → length rest < length text
shorter_behind text frame rest e some = omega (arith, ap length e, length-append frame rest)

only_by : (answer : Result (Option EndKind) ServeError) → IfErr answer (λ e. (e ≡ serve.NoMemory) ⊎ (e ≡ serve.TurnLimit))
    → IfErr (told_end answer) (λ e. (e ≡ serve.NoMemory) ⊎ (e ≡ serve.TurnLimit))
only_by (Ok kind) x = tt
only_by (Err error) x = x

opened_by : (is_open : Bool) (answer : Result (Option EndKind) ServeError) → (goes_on answer ≡ true → is_open ≡ true)
    → IfOk (told_end answer) (λ p. is_going p ≡ true → is_open ≡ true)
opened_by is_open (Ok None) x = x
opened_by is_open (Ok (Some kind)) x = λ going. absurd (false≢true going)
opened_by is_open (Err error) x = tt

shorter_by : (P : Type 0) (answer : Result (Option EndKind) ServeError) → P → IfOk (told_end answer) (λ p. IfNone p P)
shorter_by P (Ok None) x = x
shorter_by P (Ok (Some kind)) x = tt
shorter_by P (Err error) x = tt

fed_by : (before after : Turns) (n : ℕ) (answer : Result (Option EndKind) ServeError) → HasFed before after n answer
    → HasFed before after n (told_end answer)
fed_by before after n (Ok kind) x = x
fed_by before after n (Err error) x = fed_err (Option EndKind) (Option Progress) before after n (Err error) error refl x

never_stopped : {A : Type 0} (result : Result A ServeError) → IfErr result (λ e. e ≡ serve.NoMemory) → IsErrOf result serve.TurnLimit → ⊥
never_stopped (Ok x) only limit = cc
never_stopped (Err e) only limit = cc

no_end_limit : (kind : Option EndKind) → IsErrOf (told_end (Ok kind)) serve.TurnLimit → ⊥
no_end_limit kind limit = never_stopped (told_end (Ok kind)) tt limit

limit_of : (answer : Result (Option EndKind) ServeError) (error : ServeError) → answer ≡ Err error
    → IsErrOf (told_end (Err error)) serve.TurnLimit → IsErrOf answer serve.TurnLimit
limit_of answer error is limit =
    let e : error ≡ serve.TurnLimit = err_told (told_end (Err error)) error serve.TurnLimit refl limit in is ∙ ap Err e

module _ {W S : Type 0} (Meets : Meeting W S) (w v : W) (s t : State S) (text frame rest : List ℕ) (m : PgWireFrontendMessage)
    (e : text ≡ frame ++ rest) (f : IsFrame (awaits s) frame m) (h : Handlers S) (met : Meets w s m h v) (out new_out : List ℕ)
    (calls new_calls : List DeskCall) where
  met_so : (answer : Result (Option EndKind) ServeError) (x : IsAnsweredBy h m s t out new_out calls new_calls answer)
      → MetSo Meets w v s t text rest (h ∷ []) (made_by h m s t out new_out calls new_calls answer x).made (step_goes (told_end answer))
  met_so (Ok None) x =
      one_met Meets w v s t text frame rest m h x.answer.made e f met x.answer.own x.answer.carried.goes_on
  met_so (Ok (Some kind)) x =
      let made = made_by h m s t out new_out calls new_calls (Ok (Some kind)) x in
      last_met Meets w v s text frame rest m h made.made e f met made.front
  met_so (Err error) x =
      let made = made_by h m s t out new_out calls new_calls (Err error) x in
      last_met Meets w v s text frame rest m h made.made e f met made.front

  module _ (more : List (Handlers S)) where
    served_by : (answer : Result (Option EndKind) ServeError) → IsAnsweredBy h m s t out new_out calls new_calls answer
        → IfOk answer (λ kind. kind ≢ Some end.InputEnd)
        → IfOk (told_end answer) (λ p. (next : Next (Ahead S)) × ((u : Option (List ℕ)) → IsServed sheet_rules (ahead (h ∷ more) s) text rest
        next u u out new_out calls new_calls) × StandsAfterStep awaits_ahead next (ahead more t) rest p)
    served_by (Ok kind) x ends = (
      next_of kind (ahead more t),
      λ u. serves_one sheet_rules (ahead (h ∷ more) s) text frame rest m e f u
          (answered_ahead h more s m out new_out calls new_calls kind t x.answer),
      stands_by awaits_ahead kind (ahead more t) rest (option_map (λ k. progress.Ended k) kind) refl ends,
    )
    served_by (Err error) x ends = tt

    cut_by : (answer : Result (Option EndKind) ServeError) → IsAnsweredBy h m s t out new_out calls new_calls answer
        → OnErr (told_end answer) ((u : Option (List ℕ)) → IsCutOff sheet_rules (ahead (h ∷ more) s) text u u out calls new_calls)
    cut_by (Ok kind) x = tt
    cut_by (Err error) x = λ u. cut_one sheet_rules (ahead (h ∷ more) s) text frame rest m e f u out calls new_calls
        (cut_ahead h more s m calls new_calls x.err)

    stopped_by : (answer : Result (Option EndKind) ServeError) → IsAnsweredBy h m s t out new_out calls new_calls answer
        → IsErrOf (told_end answer) serve.TurnLimit → (u : Option (List ℕ)) → IsStopped sheet_rules (ahead (h ∷ more) s) text u u out
        calls new_calls
    stopped_by (Ok kind) x limit u = absurd (no_end_limit kind limit)
    stopped_by (Err error) x limit u = stop_one sheet_rules (ahead (h ∷ more) s) text frame rest m e f u out calls new_calls
        (stopped_ahead h more s m calls new_calls (x.stopped (limit_of (Err error) error refl limit)))

module _ {W S : Type 0} (Meets : Meeting W S) (old new : Standing W S) (text frame rest : List ℕ) (m : PgWireFrontendMessage)
    (desk new_desk : DeskTold) (before after : Turns) (e : text ≡ frame ++ rest) (f : IsFrame (awaits old.state) frame m) where
  -- A message was taken off the text, and memory ran out before it was met.
  step_unmet : (answer : Result (Option EndKind) ServeError) → IsMetResponse Meets m old new desk new_desk before after answer
      → IsUnmet old.world new.world desk.calls new_desk.calls answer
      → IsMetStep Meets old new text rest desk new_desk before after (told_end answer)
  step_unmet (Ok kind) x none = absurd (let not : ◌≡◌ {A = Result (Option EndKind) ServeError} (Ok kind) (Err serve.NoMemory) = none.error in ok_not kind not)
    where
      ok_not : (kind : Option EndKind) → ◌≡◌ {A = Result (Option EndKind) ServeError} (Ok kind) (Err serve.NoMemory) → ⊥
      ok_not kind is = cc
  step_unmet (Err error) x none = record {
    sheets = [];
    made = [];
    grown = none.called ∙ sym (append-nil desk.calls);
    met = subst (λ v. MetFrames Meets old.world v old.state text [] []) (sym none.world)
        (met_so_far Meets (none_met Meets old.world old.state text text refl));
    served = λ more. tt;
    cut_off = λ more u. subst (λ k. IsCutOff sheet_rules (ahead more old.state) text u u old.unsent desk.calls k) (sym none.called)
        (cut_none sheet_rules (ahead more old.state) text u old.unsent desk.calls);
    stopped = λ more limit. absurd (never_stopped (told_end (Err error)) (wants error none.error) limit);
    only = x.only;
    opened = tt;
    shorter = tt;
    turns = fed_by before after _ (Err error) x.turns;
    bounded = x.bounded;
    registration = x.registration;
  }
    where
      wants : (error : ServeError) → ◌≡◌ {A = Result (Option EndKind) ServeError} (Err error) (Err serve.NoMemory) → error ≡ serve.NoMemory
      wants error is = cc

  step_answered : (answer : Result (Option EndKind) ServeError) → IsMetResponse Meets m old new desk new_desk before after answer
      → (h : Handlers S) → Meets old.world old.state m h new.world
      → IsAnsweredBy h m old.state new.state old.unsent new.unsent desk.calls new_desk.calls answer
      → IsMetStep Meets old new text rest desk new_desk before after (told_end answer)
  step_answered answer x h met by =
      let made = made_by h m old.state new.state old.unsent new.unsent desk.calls new_desk.calls answer by in
      record {
        sheets = h ∷ [];
        made = made.made;
        grown = made.grown;
        met = met_so Meets old.world new.world old.state new.state text frame rest m e f h met old.unsent new.unsent desk.calls new_desk.calls
            answer by;
        served = λ more. served_by Meets old.world new.world old.state new.state text frame rest m e f h met old.unsent new.unsent desk.calls
            new_desk.calls more answer by x.ends;
        cut_off = λ more. cut_by Meets old.world new.world old.state new.state text frame rest m e f h met old.unsent new.unsent desk.calls
            new_desk.calls more answer by;
        stopped = λ more. stopped_by Meets old.world new.world old.state new.state text frame rest m e f h met old.unsent new.unsent
            desk.calls new_desk.calls more answer by;
        only = only_by answer x.only;
        opened = opened_by new.is_open answer x.opened;
        shorter = shorter_by (length rest < length text) answer
            (shorter_behind text frame rest e (frame_bytes_some (awaits old.state) frame m f));
        turns = fed_by before after _ answer x.turns;
        bounded = x.bounded;
        registration = x.registration;
      }

  -- A message was taken off the text, met and answered.
  pub step_met : (answer : Result (Option EndKind) ServeError) → IsMetResponse Meets m old new desk new_desk before after answer
      → IsMetStep Meets old new text rest desk new_desk before after (told_end answer)
  step_met answer x = elim x.met [
    | inl y ↦ step_answered answer x y.0 y.1 y.2
    | inr y ↦ step_unmet answer x y
  ]

-- ---- nothing could be read

silently_fed : {A : Type 0} (turns : Turns) (calls : List DeskCall) (result : Result A ServeError)
    → IfErr result (λ e. e ≡ serve.NoMemory) → HasFed turns turns (questions_since calls calls) result
silently_fed turns calls (Ok x) only = no_turn turns calls
silently_fed turns calls (Err serve.NoMemory) only = inl (no_turn turns calls)
silently_fed turns calls (Err serve.TurnLimit) only = cc
silently_fed turns calls (Err serve.ReadFault) only = cc
silently_fed turns calls (Err serve.WriteFault) only = cc

one_of_both : {A : Type 0} (result : Result A ServeError) → IfErr result (λ e. e ≡ serve.NoMemory)
    → IfErr result (λ e. (e ≡ serve.NoMemory) ⊎ (e ≡ serve.TurnLimit))
one_of_both (Ok x) only = tt
one_of_both (Err e) only = inl only

opened_always : {P : Type 0} (step : Result (Option Progress) ServeError) → P → IfOk step (λ p. is_going p ≡ true → P)
opened_always (Ok p) x = λ _. x
opened_always (Err e) x = tt

never_none : (awaiting : Bool) (text : List ℕ) (P : Type 0) (step : Result (Option Progress) ServeError) → IsUnread awaiting text step
    → IfOk step (λ p. IfNone p P)
never_none awaiting text P (Ok None) x = absurd x
never_none awaiting text P (Ok (Some p)) x = tt
never_none awaiting text P (Err e) x = tt

module _ {W S : Type 0} (Meets : Meeting W S) (at : Standing W S) (text : List ℕ) (calls : List DeskCall) where
  unread_met : (goes : Bool) → MetSo Meets at.world at.world at.state at.state text text [] [] goes
  unread_met true = none_met Meets at.world at.state text text refl
  unread_met false = met_so_far Meets (none_met Meets at.world at.state text text refl)

  unread_served : (more : List (Handlers S)) (step : Result (Option Progress) ServeError) → IsUnread (awaits at.state) text step
      → IfOk step (λ p. (next : Next (Ahead S)) × ((u : Option (List ℕ)) → IsServed sheet_rules (ahead more at.state) text text next u u
      at.unsent at.unsent calls calls) × StandsAfterStep awaits_ahead next (ahead more at.state) text p)
  unread_served more (Ok None) x = absurd x
  unread_served more (Ok (Some progress.More)) x = (
    Goes (ahead more at.state),
    λ u. serves_none sheet_rules (ahead more at.state) text text u at.unsent calls refl,
    (refl, x),
  )
  unread_served more (Ok (Some (progress.Ended kind))) x = (
    Goes (ahead more at.state),
    λ u. serves_none sheet_rules (ahead more at.state) text text u at.unsent calls refl,
    (
      λ e. bad_is_no_end_of_input (sym x.0 ∙ e),
      λ rest. subst (λ k. EndsWith awaits_ahead (Goes (ahead more at.state)) (text ++ rest) k) (sym x.0)
          (bad_more (awaits at.state) text rest x.1),
    ),
  )
  unread_served more (Err error) x = tt

  unread_cut : (more : List (Handlers S)) (step : Result (Option Progress) ServeError)
      → OnErr step ((u : Option (List ℕ)) → IsCutOff sheet_rules (ahead more at.state) text u u at.unsent calls calls)
  unread_cut more (Ok told) = tt
  unread_cut more (Err error) = λ u. cut_none sheet_rules (ahead more at.state) text u at.unsent calls

-- Nothing could be read of the text, and nothing has changed.
pub step_unread : {W S : Type 0} (Meets : Meeting W S) (at : Standing W S) (text rest : List ℕ) (desk : DeskTold) (turns : Turns)
    (step : Result (Option Progress) ServeError) → rest ≡ text → at.is_open ≡ true → IsUnread (awaits at.state) text step
    → IsMetStep Meets at at text rest desk desk turns turns step
step_unread Meets at text rest desk turns step kept is_open x =
    let only = unread_only (awaits at.state) text step x in
    subst (λ r. IsMetStep Meets at at text r desk desk turns turns step) (sym kept)
    (record {
      sheets = [];
      made = [];
      grown = sym (append-nil desk.calls);
      met = unread_met Meets at text desk.calls (step_goes step);
      served = λ more. unread_served Meets at text desk.calls more step x;
      cut_off = λ more. unread_cut Meets at text desk.calls more step;
      stopped = λ more limit. absurd (never_stopped step only limit);
      only = one_of_both step only;
      opened = opened_always step is_open;
      shorter = never_none (awaits at.state) text (length text < length text) step x;
      turns = silently_fed turns desk.calls step only;
      bounded = λ within. within;
      registration = goes_on_none desk;
    })
