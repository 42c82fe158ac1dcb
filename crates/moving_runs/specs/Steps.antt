-- What messages do to a conversation whose handlers change: each is met, and answered by its sheet.
use Rattle.std.specs.Prelude.{ℕ, Bool, true, false, List, ◌++◌, ◌≡◌, ◌≢◌, ◌≤◌, ◌<◌, ◌⊎◌, Option, Some, Result, Ok, Err, IfOk, IfErr, IfNone, IsErrOf, OnErr, length}
use Rattle.pg_messages.specs.declared.frontend.PgWireFrontendMessage.{PgWireFrontendMessage}
use Rattle.pg_client.specs.declared.desk.DeskCall.{DeskCall}
use Rattle.pg_client.specs.declared.ends.EndKind.{EndKind}
use Rattle.pg_client.specs.declared.ends.EndKind.TheVariants as end
use Rattle.pg_client.specs.declared.ends.Turns.{Turns}
use Rattle.pg_client.specs.Answer.{Next, Goes}
use Rattle.pg_client.specs.Desk.{DeskTold, GoesOn}
use Rattle.pg_client.specs.State.{State}
use Rattle.conversation_table.specs.Handlers.{Handlers}
use Rattle.conversation_table.specs.Questions.{questions_since}
use Rattle.conversation_table.specs.Table.{whole_table}
use Rattle.conversation_runs.specs.declared.ends.Progress.{Progress}
use Rattle.conversation_runs.specs.declared.ends.ServeError.{ServeError}
use Rattle.conversation_runs.specs.declared.ends.ServeError.TheVariants as serve
use Rattle.conversation_runs.specs.Messages.{next_of}
use Rattle.conversation_runs.specs.Session.{HasFed, goes_on, is_going, is_more, told_or_more}
use Rattle.conversation_runs.specs.Steps.{IsAnswered, IsCutAnswer, IsStoppedAnswer, IsServed, IsCutOff, IsStopped, RoundSo, StandsAfterStep, WasFed}
use Rattle.moving_runs.specs.Sheets.{Ahead, awaits_ahead, sheet_rules}
use Rattle.moving_runs.specs.Meeting.{Meeting, MetFrames, MetAllFrames}

-- a conversation whose handlers change: the world of the handlers, the client's state, the replies that wait, and
-- whether it takes more
pub record Standing (W S : Type 0) : Type 0 where
  pub world : W
  pub state : State S
  pub unsent : List ℕ
  pub is_open : Bool

-- nothing has changed but the replies that wait
pub record KeepsStanding {W S : Type 0} (old new : Standing W S) : Type 0 where
  pub world : new.world ≡ old.world
  pub state : new.state ≡ old.state
  pub opened : new.is_open ≡ old.is_open

-- ---- one message

-- A message was answered by its sheet, or its answer was cut off, at TurnLimit by a stop at a question.
pub record IsAnsweredBy {S : Type 0} (h : Handlers S) (m : PgWireFrontendMessage) (s t : State S) (out new_out : List ℕ)
    (calls new_calls : List DeskCall) (result : Result (Option EndKind) ServeError) : Type 0 where
  pub answer : IfOk result (λ end. IsAnswered (whole_table h) s m out new_out calls new_calls (next_of end t))
  pub err : OnErr result (IsCutAnswer (whole_table h) s m calls new_calls)
  pub stopped : IsErrOf result serve.TurnLimit → IsStoppedAnswer (whole_table h) s m calls new_calls

-- Memory ran out before a message was met: nothing was told and called, and the world is as it was.
pub record IsUnmet {W : Type 0} (w v : W) (calls new_calls : List DeskCall) (result : Result (Option EndKind) ServeError) : Type 0 where
  pub error : result ≡ Err serve.NoMemory
  pub world : v ≡ w
  pub called : new_calls ≡ calls

-- What a message did to a conversation: it was met, and answered by its sheet; or memory ran out before.
pub record IsMetResponse {W S : Type 0} (Meets : Meeting W S) (m : PgWireFrontendMessage) (old new : Standing W S)
    (desk new_desk : DeskTold) (before after : Turns) (result : Result (Option EndKind) ServeError) : Type 0 where
  pub met : ((h : Handlers S) × Meets old.world old.state m h new.world
      × IsAnsweredBy h m old.state new.state old.unsent new.unsent desk.calls new_desk.calls result)
      ⊎ IsUnmet old.world new.world desk.calls new_desk.calls result
  pub only : IfErr result (λ e. (e ≡ serve.NoMemory) ⊎ (e ≡ serve.TurnLimit))
  pub ends : IfOk result (λ kind. kind ≢ Some end.InputEnd)
  pub opened : goes_on result ≡ true → new.is_open ≡ true
  pub turns : HasFed before after (questions_since desk.calls new_desk.calls) result
  pub bounded : before.spent ≤ before.limit → after.spent ≤ after.limit
  pub registration : GoesOn desk new_desk

-- ---- a text

-- where a conversation stands, with these sheets to come
abbrev pub ahead : {S : Type 0} → List (Handlers S) → State S → Ahead S
ahead sheets s = record { sheets = sheets; state = s }

-- The frames of a text were met: all up to the rest, where the conversation goes on; else up to the last one that was met.
abbrev pub MetSo : {W S : Type 0} → Meeting W S → W → W → State S → State S → List ℕ → List ℕ → List (Handlers S) → List DeskCall → Bool
    → Type 0
MetSo Meets w v s t text rest sheets calls true = MetAllFrames Meets w v s t text rest sheets calls
MetSo Meets w v s t text rest sheets calls false = MetFrames Meets w v s text sheets calls

-- the conversation goes on after this step
abbrev pub step_goes : Result (Option Progress) ServeError → Bool
step_goes (Ok told) = is_going told
step_goes (Err error) = false

-- What a step did to a text. Its frames were met, and the text was served by their sheets as far as it goes; or its
-- serving was cut off, at TurnLimit by a stop at a question. All this holds whatever sheets are to come.
pub record IsMetStep {W S : Type 0} (Meets : Meeting W S) (old new : Standing W S) (text rest : List ℕ)
    (desk new_desk : DeskTold) (before after : Turns) (step : Result (Option Progress) ServeError) : Type 0 where
  pub sheets : List (Handlers S)
  pub made : List DeskCall
  pub grown : new_desk.calls ≡ desk.calls ++ made
  pub met : MetSo Meets old.world new.world old.state new.state text rest sheets made (step_goes step)
  pub served : (more : List (Handlers S)) → IfOk step (λ p. (next : Next (Ahead S)) × ((written : Option (List ℕ)) → IsServed sheet_rules
      (ahead (sheets ++ more) old.state) text rest next written written old.unsent new.unsent desk.calls new_desk.calls)
      × StandsAfterStep awaits_ahead next (ahead more new.state) rest p)
  pub cut_off : (more : List (Handlers S)) → OnErr step ((written : Option (List ℕ)) → IsCutOff sheet_rules (ahead (sheets ++ more) old.state)
      text written written old.unsent desk.calls new_desk.calls)
  pub stopped : (more : List (Handlers S)) → IsErrOf step serve.TurnLimit → (written : Option (List ℕ)) → IsStopped sheet_rules
      (ahead (sheets ++ more) old.state) text written written old.unsent desk.calls new_desk.calls
  pub only : IfErr step (λ e. (e ≡ serve.NoMemory) ⊎ (e ≡ serve.TurnLimit))
  pub opened : IfOk step (λ p. is_going p ≡ true → new.is_open ≡ true)
  pub shorter : IfOk step (λ p. IfNone p (length rest < length text))
  pub turns : HasFed before after (questions_since desk.calls new_desk.calls) step
  pub bounded : before.spent ≤ before.limit → after.spent ≤ after.limit
  pub registration : GoesOn desk new_desk

-- What became of a text in one round: its frames were met, and it was served by their sheets, whatever sheets are to come.
pub record IsMetRound {W S : Type 0} (Meets : Meeting W S) (w v : W) (s t : State S) (text rest : List ℕ)
    (written new_written : Option (List ℕ)) (out new_out : List ℕ) (calls new_calls : List DeskCall)
    (result : Option (Result Progress ServeError)) : Type 0 where
  pub sheets : List (Handlers S)
  pub made : List DeskCall
  pub grown : new_calls ≡ calls ++ made
  pub met : MetSo Meets w v s t text rest sheets made (is_more (told_or_more result))
  pub round : (more : List (Handlers S)) → RoundSo sheet_rules (ahead (sheets ++ more) s) text (ahead more t) rest written new_written out
      new_out calls new_calls result

-- What became of a text that a conversation was fed with: its frames were met in turn, and the text was fed by their
-- sheets, whatever sheets are to come. The bytes and the calls are those of the run by these sheets.
pub record WasMetFed {W S : Type 0} (Meets : Meeting W S) (w v : W) (s t : State S) (text rest : List ℕ)
    (written new_written : Option (List ℕ)) (out : List ℕ) (calls new_calls : List DeskCall) (result : Result Progress ServeError) : Type 0
  where
    pub sheets : List (Handlers S)
    pub made : List DeskCall
    pub grown : new_calls ≡ calls ++ made
    pub met : MetSo Meets w v s t text rest sheets made (is_more result)
    pub fed : (more : List (Handlers S)) → WasFed sheet_rules (ahead (sheets ++ more) s) text (ahead more t) rest written new_written out
        calls new_calls result

-- What was served so far: the frames were met, and the text was served by their sheets, whatever sheets are to come, and the
-- conversation goes on.
pub record IsMetServed {W S : Type 0} (Meets : Meeting W S) (w v : W) (s t : State S) (text rest : List ℕ)
    (written new_written : Option (List ℕ)) (out new_out : List ℕ) (calls new_calls : List DeskCall) : Type 0 where
  pub sheets : List (Handlers S)
  pub made : List DeskCall
  pub grown : new_calls ≡ calls ++ made
  pub met : MetAllFrames Meets w v s t text rest sheets made
  pub served : (more : List (Handlers S)) → IsServed sheet_rules (ahead (sheets ++ more) s) text rest (Goes (ahead more t)) written
      new_written out new_out calls new_calls
