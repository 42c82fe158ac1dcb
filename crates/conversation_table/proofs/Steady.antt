-- The whole table takes the registry's answers from the front, whatever the handlers tell.
use Rattle.std.proofs.Common.{◌≡◌, ◌==◌, ℕ, zero, suc, Bool, true, false, if◌then◌else◌, List, [], ◌∷◌, ◌++◌, Option, Some, None, refl, ap, sym, subst}
use Rattle.std.specs.FinMap as fin
use Rattle.pg_messages.specs.declared.startup.Startup.{Startup}
use Rattle.pg_messages.specs.declared.startup.CancelRequest.{CancelRequest}
use Rattle.pg_messages.specs.declared.simplequery.Query.{Query}
use Rattle.pg_messages.specs.declared.extendedquery.Execute.{Execute}
use Rattle.pg_messages.specs.declared.frontend.PgWireFrontendMessage.{PgWireFrontendMessage}
use Rattle.pg_messages.specs.declared.frontend.PgWireFrontendMessage.TheVariants as client
use Rattle.pg_messages.specs.declared.backend.PgWireBackendMessage.TheVariants as server
use Rattle.pg_messages.specs.declared.codec.ProtocolVersion.TheVariants.{PROTOCOL3_0, PROTOCOL3_2}
use Rattle.pg_messages.specs.Frames.{protocol_3_0, protocol_3_2}
use Rattle.pg_results.specs.declared.client.PgWireConnectionState.{PgWireConnectionState}
use Rattle.pg_results.specs.declared.client.PgWireConnectionState.TheVariants as phase
use Rattle.pg_results.specs.declared.error.PgWireError.TheVariants as wire
use Rattle.pg_portal.specs.declared.store.Entry.{Entry}
use Rattle.pg_portal.specs.declared.store.Entry.TheVariants as entry
use Rattle.pg_results.specs.Errors.{info_of}
use Rattle.pg_results.specs.Texts.{is_blank}
use Rattle.pg_portal.specs.Told.{TablePortal, Stage, Unstarted, Started, Ended}
use Rattle.pg_client.specs.declared.desk.DeskCall.{DeskCall}
use Rattle.pg_client.specs.declared.desk.DeskCall.TheVariants as desk
use Rattle.pg_client.specs.declared.ends.EndKind.TheVariants as end
use Rattle.pg_client.specs.Answer.{Answer, Goes, Ends, answers_of, left_by}
use Rattle.pg_client.specs.Effect.{Effect, Called, Scope, Outcome, Done, Failed, Over, Stopped, says, refuses, stopped, silent, settle, settled}
use Rattle.pg_client.specs.Errors.{is_fatal, unsupported_version}
use Rattle.conversation_table.specs.ExecuteRow.{execute_polled, executed_portal, executed_entry}
use Rattle.conversation_table.specs.Handlers.{Handlers}
use Rattle.conversation_table.specs.Lawful.{IsMade}
use Rattle.conversation_table.specs.Questions.{Verdict, Passed, Canceled, Unanswered, Questioned, questioned, started, after_call}
use Rattle.pg_replies.specs.Replies.{Replies, ready}
use Rattle.conversation_table.specs.SimpleRows.{query_polled, query_run}
use Rattle.pg_client.specs.StartupRows.{accepts, tells_less, startup_row, on_cancel_request}
use Rattle.pg_client.specs.State.{State}
use Rattle.conversation_table.specs.Table.{row}

-- ---- questions

abbrev IsAnswered : Verdict → Type 0
IsAnswered Passed = Unit {0}
IsAnswered Canceled = Unit {0}
IsAnswered Unanswered = ⊥

questioned_same : (owed : ℕ) (answers more : List Bool) → IsAnswered (questioned owed answers).verdict
    → questioned owed (answers ++ more) ≡ questioned owed answers
questioned_same zero answers more h = refl
questioned_same (suc owed) [] more h = absurd h
questioned_same (suc owed) (true ∷ answers) more h = refl
questioned_same (suc owed) (false ∷ answers) more h = ap (λ q. after_call (desk.Ask false) q) (questioned_same owed answers more h)

-- the answers that calls tell stand at the front of those to come
abbrev TakesFront : List DeskCall → List Bool → Type 0
TakesFront calls answers = answers ≡ answers_of calls ++ left_by calls answers

questioned_takes : (owed : ℕ) (answers : List Bool) → TakesFront (questioned owed answers).calls answers
questioned_takes zero answers = refl
questioned_takes (suc owed) [] = refl
questioned_takes (suc owed) (true ∷ answers) = refl
questioned_takes (suc owed) (false ∷ answers) = ap (λ xs. false ∷ xs) (questioned_takes owed answers)

-- ---- rows

failed_calls : {S : Type 0} (b : Bool) (x y : Replies) (calls : List DeskCall) (t : State S)
    → (if b then (let a : Answer (State S) = record { replies = x; calls = calls; next = Ends end.Fatal } in a)
    else (record { replies = y; calls = calls; next = Goes t })).calls ≡ calls
failed_calls true x y calls t = refl
failed_calls false x y calls t = refl

settled_calls : {S : Type 0} (scope : Scope) (replies : Replies) (calls : List DeskCall) (o : Outcome S)
    → (settled scope replies calls o).calls ≡ calls
settled_calls scope replies calls (Done s) = refl
settled_calls scope replies calls (Failed s e) = failed_calls (is_fatal (info_of e)) _ _ calls _
settled_calls scope replies calls (Over kind) = refl
settled_calls scope replies calls Stopped = refl

settled_takes : {S : Type 0} (scope : Scope) (c : Called S) (answers : List Bool) → TakesFront c.calls answers
    → TakesFront (settle scope c).calls answers
settled_takes scope c answers h = subst (λ calls. TakesFront calls answers)
    (sym (settled_calls scope c.effect.replies c.calls c.effect.outcome)) h

-- a row that asks, and goes by the verdict
abbrev asking : {S : Type 0} → Scope → (Verdict → Effect S) → Questioned → Answer (State S)
asking scope f q = settle scope (record { calls = q.calls; effect = f q.verdict })

answered_if_made : {S : Type 0} (scope : Scope) (f : Verdict → Effect S) (calls : List DeskCall) → f Unanswered ≡ stopped → (v : Verdict)
    → IsMade (settle scope (record { calls = calls; effect = f v })).next → IsAnswered v
answered_if_made scope f calls e Passed h = tt
answered_if_made scope f calls e Canceled h = tt
answered_if_made scope f calls e Unanswered h = subst (λ x. IsMade (settle scope (record { calls = calls; effect = x })).next) e h

asking_same : {S : Type 0} (scope : Scope) (f : Verdict → Effect S) → f Unanswered ≡ stopped → (owed : ℕ) (answers more : List Bool)
    → IsMade (asking scope f (started owed answers)).next
    → asking scope f (started owed (answers ++ more)) ≡ asking scope f (started owed answers)
asking_same scope f e owed answers more h = ap (λ q. asking scope f (after_call desk.Start q))
    (questioned_same owed answers more
    (answered_if_made scope f (started owed answers).calls e (questioned owed answers).verdict h))

module _ {S : Type 0} (h : Handlers S) (answers more : List Bool) (s : State S) where
  -- more answers change nothing in a row that takes answers
  abbrev IsSame : Scope → (List Bool → Called S) → Type 0
  IsSame scope f = IsMade (settle scope (f answers)).next → settle scope (f (answers ++ more)) ≡ settle scope (f answers)

  portal_same : (scope : Scope) (m : Execute) (p : TablePortal S) (st : Stage) → IsSame scope (λ xs. executed_portal h.extended xs s m p st)
  portal_same scope m p Unstarted made =
      let q = h.extended.query s.info p.bound m.max_rows in
      asking_same scope (λ v. execute_polled s m p v q.outcome) refl q.owes answers more made
  portal_same scope m p (Started r delivered) made = refl
  portal_same scope m p (Ended delivered) made = refl

  entry_same : (scope : Scope) (m : Execute) (x : Option (Entry (TablePortal S))) → IsSame scope (λ xs. executed_entry h.extended xs s m x)
  entry_same scope m None made = refl
  entry_same scope m (Some entry.Empty) made = refl
  entry_same scope m (Some (entry.Value p)) made = portal_same scope m p p.stage made

  portal_takes : (m : Execute) (p : TablePortal S) (st : Stage) → TakesFront (executed_portal h.extended answers s m p st).calls answers
  portal_takes m p Unstarted = questioned_takes (h.extended.query s.info p.bound m.max_rows).owes answers
  portal_takes m p (Started r delivered) = refl
  portal_takes m p (Ended delivered) = refl

  entry_takes : (m : Execute) (x : Option (Entry (TablePortal S))) → TakesFront (executed_entry h.extended answers s m x).calls answers
  entry_takes m None = refl
  entry_takes m (Some entry.Empty) = refl
  entry_takes m (Some (entry.Value p)) = portal_takes m p p.stage

  -- a Query whose text is blank or not, as told
  abbrev query_if : Bool → Query → List Bool → Called S
  query_if b m xs = if b then silent (says (server.EmptyQueryResponse (record {}) ∷ ready s.info.status ∷ []) s)
      else query_run xs s (h.simple s.info m.query)

  query_same : (scope : Scope) (m : Query) (b : Bool) → IsSame scope (query_if b m)
  query_same scope m true made = refl
  query_same scope m false made =
      let q = h.simple s.info m.query in
      asking_same scope (λ v. query_polled s v q.outcome) refl q.owes answers more made

  query_takes : (m : Query) (b : Bool) → TakesFront (query_if b m answers).calls answers
  query_takes m true = refl
  query_takes m false = questioned_takes (h.simple s.info m.query).owes answers

  cancel_same : (scope : Scope) (m : CancelRequest) (xs : List Bool) → IsMade (settle {S = S} scope (on_cancel_request xs m)).next
      → settle {S = S} scope (on_cancel_request (xs ++ more) m) ≡ settle scope (on_cancel_request xs m)
  cancel_same scope m [] made = absurd made
  cancel_same scope m (told ∷ xs) made = refl

  cancel_takes : (m : CancelRequest) (xs : List Bool) → TakesFront (on_cancel_request {S = S} xs m).calls xs
  cancel_takes m [] = refl
  cancel_takes m (told ∷ xs) = refl

  pub row_same : (scope : Scope) (m : PgWireFrontendMessage) (x : PgWireConnectionState) → IsSame scope (λ xs. row h xs s m x)
  row_same scope (client.CancelRequest m) phase.AwaitingStartup made = cancel_same scope m answers made
  row_same scope (client.Query m) phase.ReadyForQuery made = query_same scope m (is_blank m.query) made
  row_same scope (client.Execute m) phase.ReadyForQuery made = entry_same scope m (fin.get s.portals m.name) made
  row_same scope _ phase.AwaitingStartup made = refl
  row_same scope _ phase.ReadyForQuery made = refl
  row_same scope _ phase.AwaitingSync made = refl
  row_same scope _ (phase.CopyInProgress is_extended) made = refl

  either_takes : (b : Bool) (x y : Called S) → TakesFront x.calls answers → TakesFront y.calls answers
      → TakesFront (if b then x else y).calls answers
  either_takes true x y e f = e
  either_takes false x y e f = f

  narrowing_takes : (b : Bool) → TakesFront (if b then desk.Narrow ∷ [] else []) answers
  narrowing_takes true = refl
  narrowing_takes false = refl

  startup_takes : (m : Startup) → TakesFront (startup_row answers s (client.Startup m)).calls answers
  startup_takes m =
      let refused : Called S = silent (refuses s (wire.UserError (unsupported_version m.code))) in
      either_takes (m.code == protocol_3_0) (accepts s PROTOCOL3_0 m) (if m.code == protocol_3_2 then accepts s PROTOCOL3_2 m
      else refused) (narrowing_takes (tells_less PROTOCOL3_0 s.info.secret_key))
      (either_takes (m.code == protocol_3_2) (accepts s PROTOCOL3_2 m) refused refl refl)

  row_takes : (m : PgWireFrontendMessage) (x : PgWireConnectionState) → TakesFront (row h answers s m x).calls answers
  row_takes (client.CancelRequest m) phase.AwaitingStartup = cancel_takes m answers
  row_takes (client.Startup m) phase.AwaitingStartup = startup_takes m
  row_takes (client.Query m) phase.ReadyForQuery = query_takes m (is_blank m.query)
  row_takes (client.Execute m) phase.ReadyForQuery = entry_takes m (fin.get s.portals m.name)
  row_takes _ phase.AwaitingStartup = refl
  row_takes _ phase.ReadyForQuery = refl
  row_takes _ phase.AwaitingSync = refl
  row_takes _ (phase.CopyInProgress is_extended) = refl

  pub settled_row_takes : (scope : Scope) (m : PgWireFrontendMessage) (x : PgWireConnectionState)
      → TakesFront (settle scope (row h answers s m x)).calls answers
  settled_row_takes scope m x = settled_takes scope (row h answers s m x) answers (row_takes m x)
