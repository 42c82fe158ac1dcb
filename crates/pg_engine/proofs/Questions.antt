-- A conversation asks no more questions than its messages that run a query, each as often as a query owes polls at most.
use Rattle.std.proofs.Common.{◌≡◌, ◌≤◌, ◌+◌, if◌then◌else◌, ℕ, zero, suc, cond, arith, Bool, true, false, List, [], ◌∷◌, Option, Some, None, refl}
use Rattle.std.specs.Prelude.{◌*◌, ◌==◌}
use Rattle.std.proofs.Math.Nat.{add-mul, one-mul}
use Rattle.std.specs.FinMap as fin
use Rattle.pg_messages.specs.declared.simplequery.Query.{Query}
use Rattle.pg_messages.specs.declared.extendedquery.Execute.{Execute}
use Rattle.pg_messages.specs.declared.startup.CancelRequest.{CancelRequest}
use Rattle.pg_messages.specs.declared.frontend.PgWireFrontendMessage.{PgWireFrontendMessage}
use Rattle.pg_messages.specs.declared.frontend.PgWireFrontendMessage.TheVariants as client
use Rattle.pg_messages.specs.Frames.{protocol_3_0, protocol_3_2}
use Rattle.pg_messages.specs.declared.codec.ProtocolVersion.TheVariants.{PROTOCOL3_0}
use Rattle.pg_results.specs.declared.client.PgWireConnectionState.{PgWireConnectionState}
use Rattle.pg_results.specs.declared.client.PgWireConnectionState.TheVariants as phase
use Rattle.pg_portal.specs.declared.store.Entry.{Entry}
use Rattle.pg_portal.specs.declared.store.Entry.TheVariants as entry
use Rattle.pg_results.specs.Texts.{is_blank}
use Rattle.pg_portal.specs.Told.{TablePortal, Stage, Unstarted, Started, Ended}
use Rattle.pg_results.specs.Errors.{info_of}
use Rattle.pg_client.specs.declared.desk.DeskCall.{DeskCall}
use Rattle.pg_client.specs.declared.desk.DeskCall.TheVariants as desk
use Rattle.pg_client.specs.Answer.{Answer, Table, Next, Goes, Ends, Stops, conversation, continued, left_by}
use Rattle.pg_client.specs.Errors.{is_fatal}
use Rattle.pg_replies.specs.Replies.{Replies}
use Rattle.pg_client.specs.Effect.{Called, Scope, Outcome, Done, Failed, Over, Stopped, settled}
use Rattle.conversation_table.specs.ExecuteRow.{executed_portal, executed_entry}
use Rattle.conversation_table.specs.Handlers.{Handlers}
use Rattle.conversation_table.specs.Questions.{questions, questioned, started}
use Rattle.conversation_table.specs.SimpleRows.{on_query}
use Rattle.pg_client.specs.StartupRows.{on_cancel_request, tells_less, startup_row}
use Rattle.pg_client.specs.State.{State}
use Rattle.conversation_table.specs.Table.{ready_row, row, scope_in, whole_table}
use Rattle.conversation_runs.proofs.Spending.{questions-append}
use Rattle.pg_engine.specs.Completeness.{OweAtMost, is_run_message, runs}

-- ---- any handlers

-- a query that owes so many polls asks no more questions
questioned_few : (owed : ℕ) (answers : List Bool) → questions (questioned owed answers).calls ≤ owed
questioned_few zero answers = omega arith
questioned_few (suc owed) [] = omega arith
questioned_few (suc owed) (true ∷ answers) = omega arith
questioned_few (suc owed) (false ∷ answers) = let p = questioned_few owed answers in omega (arith, p)

started_few : (most owed : ℕ) (answers : List Bool) → owed ≤ most → questions (started owed answers).calls ≤ most
started_few most owed answers h = let p = questioned_few owed answers in omega (arith, p, h)

stage_few : {S : Type 0} (h : Handlers S) (most : ℕ) → OweAtMost h most
    → (answers : List Bool) (s : State S) (m : Execute) (p : TablePortal S) (stage : Stage)
    → questions (executed_portal h.extended answers s m p stage).calls ≤ most
stage_few h most few answers s m p Unstarted = started_few most (h.extended.query s.info p.bound m.max_rows).owes answers
    (few.extended s.info p.bound m.max_rows)
stage_few h most few answers s m p (Started r d) = omega arith
stage_few h most few answers s m p (Ended d) = omega arith

entry_few : {S : Type 0} (h : Handlers S) (most : ℕ) → OweAtMost h most
    → (answers : List Bool) (s : State S) (m : Execute) (e : Option (Entry (TablePortal S)))
    → questions (executed_entry h.extended answers s m e).calls ≤ most
entry_few h most few answers s m None = omega arith
entry_few h most few answers s m (Some entry.Empty) = omega arith
entry_few h most few answers s m (Some (entry.Value p)) = stage_few h most few answers s m p p.stage

-- calls of one row or another
either_row : {S : Type 0} (b : Bool) (x y : Called S) (most : ℕ) → questions x.calls ≤ most → questions y.calls ≤ most
    → questions (cond b x y).calls ≤ most
either_row true x y most p q = p
either_row false x y most p q = q

query_few : {S : Type 0} (h : Handlers S) (most : ℕ) → OweAtMost h most → (answers : List Bool) (s : State S) (m : Query)
    → questions (on_query h.simple answers s m).calls ≤ most
query_few h most few answers s m = either_row (is_blank m.query) _ _ most (omega arith)
    (started_few most (h.simple s.info m.query).owes answers (few.simple s.info m.query))

cancel_asks_nothing : (S : Type 0) (answers : List Bool) (m : CancelRequest) → questions (on_cancel_request {S = S} answers m).calls ≤ 0
cancel_asks_nothing S [] m = omega arith
cancel_asks_nothing S (told ∷ answers) m = omega arith

narrowing_asks_nothing : (b : Bool) → questions (if b then desk.Narrow ∷ [] else []) ≤ 0
narrowing_asks_nothing true = omega arith
narrowing_asks_nothing false = omega arith

startup_asks_nothing : {S : Type 0} (answers : List Bool) (s : State S) (m : PgWireFrontendMessage)
    → questions (startup_row answers s m).calls ≤ 0
startup_asks_nothing {S} answers s (client.CancelRequest m) = cancel_asks_nothing S answers m
startup_asks_nothing answers s (client.Startup m) =
    either_row (m.code == protocol_3_0) _ _ 0 (narrowing_asks_nothing (tells_less PROTOCOL3_0 s.info.secret_key))
    (either_row (m.code == protocol_3_2) _ _ 0 (omega arith) (omega arith))
startup_asks_nothing answers s _ = omega arith

-- as many questions as a message may ask
abbrev pub may_ask : ℕ → PgWireFrontendMessage → ℕ
may_ask most m = cond (is_run_message m) most 0

ready_few : {S : Type 0} (h : Handlers S) (most : ℕ) → OweAtMost h most → (answers : List Bool) (s : State S) (m : PgWireFrontendMessage)
    → questions (ready_row h answers s m).calls ≤ may_ask most m
ready_few h most few answers s (client.Query m) = query_few h most few answers s m
ready_few h most few answers s (client.Execute m) = entry_few h most few answers s m (fin.get s.portals m.name)
ready_few h most few answers s _ = omega arith

row_few : {S : Type 0} (h : Handlers S) (most : ℕ) → OweAtMost h most
    → (answers : List Bool) (s : State S) (m : PgWireFrontendMessage) (at : PgWireConnectionState)
    → questions (row h answers s m at).calls ≤ may_ask most m
row_few h most few answers s m phase.AwaitingStartup = let p = startup_asks_nothing answers s m in omega (arith, p)
row_few h most few answers s m phase.ReadyForQuery = ready_few h most few answers s m
row_few h most few answers s m phase.AwaitingSync = omega arith
row_few h most few answers s m (phase.CopyInProgress is_extended) = omega arith

-- what an outcome comes to calls nothing more
either_answer : {T : Type 0} (b : Bool) (x y : Answer T) (calls : List DeskCall) → x.calls ≡ calls → y.calls ≡ calls
    → (cond b x y).calls ≡ calls
either_answer true x y calls p q = p
either_answer false x y calls p q = q

settled_calls : {S : Type 0} (scope : Scope) (replies : Replies) (calls : List DeskCall) (o : Outcome S)
    → (settled scope replies calls o).calls ≡ calls
settled_calls scope replies calls (Done s) = refl
settled_calls scope replies calls (Failed s e) = either_answer (is_fatal (info_of e)) _ _ calls refl refl
settled_calls scope replies calls (Over kind) = refl
settled_calls scope replies calls Stopped = refl

pub message_few : {S : Type 0} (h : Handlers S) (most : ℕ) → OweAtMost h most → (answers : List Bool) (s : State S)
    (m : PgWireFrontendMessage)
    → questions (whole_table h answers s m).calls ≤ may_ask most m
message_few h most few answers s m =
    let c = row h answers s m s.info.state in
    rw (settled_calls (scope_in s.info.state m) c.effect.replies c.calls c.effect.outcome) (row_few h most few answers s m s.info.state)

-- ---- a conversation

-- the questions of one more message
one_more : (runs_it : Bool) (asked others n most : ℕ) → asked ≤ cond runs_it most 0 → others ≤ n * most
    → asked + others ≤ cond runs_it (n + 1) n * most
one_more true asked others n most p q = let e = add-mul n 1 most in let f = one-mul most in omega (arith, e, f, p, q)
one_more false asked others n most p q = omega (arith, p, q)

continued_few : {T : Type 0} (runs_it : Bool) (a : Answer T) (next : Next T) (f : T → Answer T) (n most : ℕ)
    → questions a.calls ≤ cond runs_it most 0
    → ((t : T) → questions (f t).calls ≤ n * most) → questions (continued a next f).calls ≤ cond runs_it (n + 1) n * most
continued_few runs_it a (Goes t) f n most p q = rw (questions-append a.calls (f t).calls)
    (one_more runs_it (questions a.calls) (questions (f t).calls) n most p (q t))
continued_few runs_it a (Ends kind) f n most p q = let e = one_more runs_it (questions a.calls) 0 n most p (omega arith) in omega (arith, e)
continued_few runs_it a Stops f n most p q = let e = one_more runs_it (questions a.calls) 0 n most p (omega arith) in omega (arith, e)

pub conversation_few : {T : Type 0} (table : Table T) (most : ℕ)
    → ((answers : List Bool) (s : T) (m : PgWireFrontendMessage) → questions (table answers s m).calls ≤ may_ask most m)
    → (answers : List Bool) (s : T) (messages : List PgWireFrontendMessage)
    → questions (conversation table answers s messages).calls ≤ runs messages * most
conversation_few table most few answers s [] = omega arith
conversation_few table most few answers s (m ∷ messages) =
    let a = table answers s m in
    continued_few (is_run_message m) a a.next (λ t. conversation table (left_by a.calls answers) t messages) (runs messages) most
    (few answers s m)
    (λ t. conversation_few table most few (left_by a.calls answers) t messages)

-- by the table over these handlers
pub handlers_few : {S : Type 0} (h : Handlers S) (most : ℕ) → OweAtMost h most → (answers : List Bool) (s : State S)
    (messages : List PgWireFrontendMessage)
    → questions (conversation (whole_table h) answers s messages).calls ≤ runs messages * most
handlers_few h most few answers s messages = conversation_few (whole_table h) most (message_few h most few) answers s messages
