-- What waits is sent before a query is polled again: what a message and a step do that may send.
use Rattle.std.specs.Prelude.{ℕ, false, List, [], Option, Result, OnOk, IsErrOf, ◌≡◌, ◌≢◌, ◌≤◌, ◌⊎◌}
use Rattle.pg_messages.specs.declared.frontend.PgWireFrontendMessage.{PgWireFrontendMessage}
use Rattle.pg_client.specs.declared.ends.EndKind.{EndKind}
use Rattle.pg_client.specs.declared.ends.Turns.{Turns}
use Rattle.pg_client.specs.Desk.{DeskTold, GoesOn}
use Rattle.conversation_table.specs.Handlers.{Handlers}
use Rattle.conversation_table.specs.Questions.{questions_since}
use Rattle.conversation_table.specs.Table.{whole_table}
use Rattle.conversation_runs.specs.Session.{SessionValue, HasFed, whole_rules}
use Rattle.conversation_runs.specs.Steps.{Flows, IsCutAnswer, IsCutOff, IsResponse, IsStep}
use Rattle.conversation_runs.specs.Streams.{GrowsByFront, HasFlushed}
use Rattle.conversation_runs.specs.declared.ends.Progress.{Progress}
use Rattle.conversation_runs.specs.declared.ends.ServeError.{ServeError}
use Rattle.conversation_runs.specs.declared.ends.ServeError.TheVariants as serve

-- the same session, where these replies wait
abbrev pub with_unsent : {H S : Type 0} → SessionValue H S → List ℕ → SessionValue H S
with_unsent s out = record { handlers = s.handlers; state = s.state; rest = s.rest; unsent = out; is_open = s.is_open }

-- Some of the bytes that waited were sent, or none of them, and the others wait still. No fault came.
pub record SendsFirst {K O : Type 0} (written : K → Option (List ℕ)) (faults : K → ℕ) (origin : K → O) (sink new_sink : K)
    (out left : List ℕ) : Type 0 where
  pub flows : Flows (written sink) (written new_sink) out left []
  pub calm : faults new_sink ≡ faults sink
  pub same : origin new_sink ≡ origin sink

-- The bytes that waited were to be sent, and the sink failed.
pub record FailsFirst {K O T : Type 0} (written : K → Option (List ℕ)) (faults : K → ℕ) (origin : K → O) (sink new_sink : K)
    (out : List ℕ) (result : Result T ServeError) : Type 0 where
  pub fails : OnOk result ⊥
  pub cut : GrowsByFront (written sink) (written new_sink) out
  pub cause : HasFlushed (faults sink) (faults new_sink) result
  pub same : origin new_sink ≡ origin sink

-- ---- a message

-- A message was answered behind what was sent. Where its query was unready, nothing waited any more before it was polled again: so it is
-- where a question was asked, and where no turn was left for one.
pub record IsAnsweredBehind {K O H S : Type 0} (written : K → Option (List ℕ)) (faults : K → ℕ) (origin : K → O) (told : H → Handlers S)
    (m : PgWireFrontendMessage) (old new : SessionValue H S) (sink new_sink : K) (desk new_desk : DeskTold) (before after : Turns)
    (result : Result (Option EndKind) ServeError) : Type 0 where
  pub left : List ℕ
  pub sent : SendsFirst written faults origin sink new_sink old.unsent left
  pub asked : questions_since desk.calls new_desk.calls ≢ 0 → left ≡ []
  pub limited : IsErrOf result serve.TurnLimit → left ≡ []
  pub response : IsResponse told m (with_unsent old left) new desk new_desk before after result

-- The sink failed before a message's query was polled again. The answer to the message was cut off, and the session is closed.
pub record IsCutBefore {K O H S : Type 0} (written : K → Option (List ℕ)) (faults : K → ℕ) (origin : K → O) (told : H → Handlers S)
    (m : PgWireFrontendMessage) (old new : SessionValue H S) (sink new_sink : K) (desk new_desk : DeskTold) (before after : Turns)
    (result : Result (Option EndKind) ServeError) : Type 0 where
  pub failed : FailsFirst written faults origin sink new_sink old.unsent result
  pub cut : IsCutAnswer (whole_table (told old.handlers)) old.state m desk.calls new_desk.calls
  pub opened : new.is_open ≡ false
  pub handlers : new.handlers ≡ old.handlers
  pub rest : new.rest ≡ old.rest
  pub turns : HasFed before after (questions_since desk.calls new_desk.calls) result
  pub bounded : before.spent ≤ before.limit → after.spent ≤ after.limit
  pub registration : GoesOn desk new_desk

-- What a message did to a session that sends what waits before it polls the message's query again.
abbrev pub IsSentResponse : {K O H S : Type 0} → (K → Option (List ℕ)) → (K → ℕ) → (K → O) → (H → Handlers S) → PgWireFrontendMessage
    → SessionValue H S → SessionValue H S → K → K → DeskTold → DeskTold → Turns → Turns → Result (Option EndKind) ServeError → Type 0
IsSentResponse written faults origin told m old new sink new_sink desk new_desk before after result =
    IsAnsweredBehind written faults origin told m old new sink new_sink desk new_desk before after result
    ⊎ IsCutBefore written faults origin told m old new sink new_sink desk new_desk before after result

-- ---- a step

-- A step was taken behind what was sent.
pub record IsStepBehind {K O H S : Type 0} (written : K → Option (List ℕ)) (faults : K → ℕ) (origin : K → O) (told : H → Handlers S)
    (text : List ℕ) (old new : SessionValue H S) (sink new_sink : K) (desk new_desk : DeskTold) (before after : Turns)
    (step : Result (Option Progress) ServeError) : Type 0 where
  pub left : List ℕ
  pub sent : SendsFirst written faults origin sink new_sink old.unsent left
  pub taken : IsStep told text (with_unsent old left) new desk new_desk before after step

-- The sink failed before a query was polled again, and the serving of the text was cut off.
pub record IsStepCut {K O H S : Type 0} (written : K → Option (List ℕ)) (faults : K → ℕ) (origin : K → O) (told : H → Handlers S)
    (text : List ℕ) (old new : SessionValue H S) (sink new_sink : K) (desk new_desk : DeskTold) (before after : Turns)
    (step : Result (Option Progress) ServeError) : Type 0 where
  pub failed : FailsFirst written faults origin sink new_sink old.unsent step
  pub cut : IsCutOff (whole_rules (told old.handlers)) old.state text (written sink) (written new_sink) old.unsent desk.calls new_desk.calls
  pub handlers : new.handlers ≡ old.handlers
  pub turns : HasFed before after (questions_since desk.calls new_desk.calls) step
  pub bounded : before.spent ≤ before.limit → after.spent ≤ after.limit
  pub registration : GoesOn desk new_desk

-- What a step did that sends what waits before it polls a query again.
abbrev pub IsSentStep : {K O H S : Type 0} → (K → Option (List ℕ)) → (K → ℕ) → (K → O) → (H → Handlers S) → List ℕ
    → SessionValue H S → SessionValue H S → K → K → DeskTold → DeskTold → Turns → Turns → Result (Option Progress) ServeError → Type 0
IsSentStep written faults origin told text old new sink new_sink desk new_desk before after step =
    IsStepBehind written faults origin told text old new sink new_sink desk new_desk before after step
    ⊎ IsStepCut written faults origin told text old new sink new_sink desk new_desk before after step
