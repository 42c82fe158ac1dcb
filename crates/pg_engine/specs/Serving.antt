-- What the server owes its client: what is written and called, by how the conversation ended, and the cause of that
-- end.
use Rattle.std.specs.Prelude.{ℕ, List, ◌++◌, ◌+◌, ◌≤◌, ◌<◌, ◌^◌, [], ◌≡◌, ◌≢◌, ◌⊎◌, Option, Some, Result, Ok, Err, IfSome, length}
use Rattle.pg_messages.specs.declared.frontend.PgWireFrontendMessage.{PgWireFrontendMessage}
use Rattle.pg_messages.specs.declared.backend.PgWireBackendMessage.{PgWireBackendMessage}
use Rattle.pg_messages.specs.Frames.{DividesInto}
use Rattle.pg_messages.specs.Replies.{replies_bytes}
use Rattle.pg_client.specs.declared.desk.DeskCall.{DeskCall}
use Rattle.pg_client.specs.declared.ends.EndKind.{EndKind}
use Rattle.pg_client.specs.declared.ends.EndKind.TheVariants.{InputEnd}
use Rattle.pg_client.specs.Answer.{AsksNext, BeginsWith, Stops, answers_of, conversation}
use Rattle.conversation_runs.specs.declared.ends.ServeError.{ServeError}
use Rattle.conversation_runs.specs.declared.ends.ServeError.TheVariants.{ReadFault, WriteFault, TurnLimit, NoMemory}
use Rattle.conversation_runs.specs.Run.{Rules, IsRun, IsCutRun}
use Rattle.conversation_runs.specs.Streams.{GrowsBy, HasRisen}

-- What was written has grown by the reply bytes of a run over the client's bytes, with these registry calls and this
-- end. The client's bytes are those that the source had to give, where they are known.
abbrev pub IsServedRun : {T : Type 0} → Rules T → T → Option (List ℕ) → Option (List ℕ) → Option (List ℕ) → List DeskCall → EndKind → Type 0
IsServedRun rules first left old new calls kind = (text : List ℕ) × IfSome left (λ bytes. text ≡ bytes)
    × ((replies : List ℕ) × GrowsBy old new replies × IsRun rules first text replies calls kind)

-- These bytes were taken from those that a source had to give.
abbrev pub TakesFrom : Option (List ℕ) → Option (List ℕ) → List ℕ → Type 0
TakesFrom left new_left taken = IfSome left (λ text. (rest : List ℕ) × (text ≡ taken ++ rest) × (new_left ≡ Some rest))

-- The run over these bytes goes on: they end where one more read is needed.
abbrev pub GoesOnOver : {T : Type 0} → Rules T → T → List ℕ → Type 0
GoesOnOver rules first text = (replies : List ℕ) × (calls : List DeskCall) × IsRun rules first text replies calls InputEnd

-- What was written has grown by the whole answer to the taken bytes, which end where one more read was needed.
abbrev pub IsRunOfTaken : {T : Type 0} → Rules T → T → Option (List ℕ) → Option (List ℕ) → Option (List ℕ) → Option (List ℕ) → List DeskCall
    → Type 0
IsRunOfTaken rules first left new_left old new calls = (taken : List ℕ) × TakesFrom left new_left taken
    × ((replies : List ℕ) × GrowsBy old new replies × IsRun rules first taken replies calls InputEnd)

-- What was written has grown by a front of the answer to the taken bytes, and the calls are a front of the answer's.
abbrev pub IsCutRunOfTaken : {T : Type 0} → Rules T → T → Option (List ℕ) → Option (List ℕ) → Option (List ℕ) → Option (List ℕ)
    → List DeskCall → Type 0
IsCutRunOfTaken rules first left new_left old new calls = (taken : List ℕ) × TakesFrom left new_left taken
    × ((front : List ℕ) × GrowsBy old new front × IsCutRun rules first taken front calls)

-- A run that stops at a question because an answer is missing: these are all its calls, the next would be the question,
-- and these bytes are a front of its replies.
pub record IsStoppedRun {T : Type 0} (rules : Rules T) (s : T) (text bytes : List ℕ) (calls : List DeskCall) : Type 0 where
  pub messages : List PgWireFrontendMessage
  pub rest : List ℕ
  pub replies : List PgWireBackendMessage
  pub division : DividesInto (rules.awaits s) text messages rest
  pub answered : conversation rules.table (answers_of calls) s messages ≡ record { replies = replies; calls = calls; next = Stops }
  pub asks : AsksNext (λ answers. (conversation rules.table answers s messages).calls) calls
  pub replied : BeginsWith (replies_bytes replies) bytes

-- What was written has grown by a front of the answer to the taken bytes, which stops at a question, where one more turn was needed.
abbrev pub IsStoppedRunOfTaken : {T : Type 0} → Rules T → T → Option (List ℕ) → Option (List ℕ) → Option (List ℕ) → Option (List ℕ)
    → List DeskCall → Type 0
IsStoppedRunOfTaken rules first left new_left old new calls = (taken : List ℕ) × TakesFrom left new_left taken
    × ((front : List ℕ) × GrowsBy old new front × IsStoppedRun rules first taken front calls)

-- What was written and called, by the result. At an end it is the run over all client bytes. At ReadFault it is the run
-- over the taken bytes, which end where one more read was needed. At TurnLimit it is that run, or one that stops at a
-- question. At WriteFault and NoMemory it is a front of the answer.
abbrev pub WentSo : {T : Type 0} → Rules T → T → Result EndKind ServeError → Option (List ℕ) → Option (List ℕ) → Option (List ℕ)
    → Option (List ℕ)
    → List DeskCall → Type 0
WentSo rules first (Ok kind) left new_left old new calls = IsServedRun rules first left old new calls kind
WentSo rules first (Err ReadFault) left new_left old new calls = IsRunOfTaken rules first left new_left old new calls
WentSo rules first (Err TurnLimit) left new_left old new calls = IsRunOfTaken rules first left new_left old new calls
    ⊎ IsStoppedRunOfTaken rules first left new_left old new calls
WentSo rules first (Err WriteFault) left new_left old new calls = IsCutRunOfTaken rules first left new_left old new calls
WentSo rules first (Err NoMemory) left new_left old new calls = IsCutRunOfTaken rules first left new_left old new calls

-- The bytes that were taken have the same run by themselves: what was written and called since is the answer to them,
-- with this end. So nothing after them was needed.
abbrev pub IsRunOverTaken : {T : Type 0} → Rules T → T → Option (List ℕ) → Option (List ℕ) → Option (List ℕ) → Option (List ℕ)
    → List DeskCall → List DeskCall → EndKind → Type 0
IsRunOverTaken rules first left new_left old new calls new_calls kind = (taken : List ℕ) × TakesFrom left new_left taken
    × ((called : List DeskCall) × (new_calls ≡ calls ++ called)
    × ((replies : List ℕ) × GrowsBy old new replies × IsRun rules first taken replies called kind))

-- The conversation went on until the last bytes that were taken: the run over the bytes before them goes on, and there
-- is at least one last byte. So nothing was taken after its end. Where it ended with the input, there may be no last
-- byte.
abbrev pub EndsAtLast : {T : Type 0} → Rules T → T → Option (List ℕ) → Option (List ℕ) → EndKind → Type 0
EndsAtLast rules first left new_left kind = (before : List ℕ) × (last : List ℕ) × TakesFrom left new_left (before ++ last)
    × GoesOnOver rules first before × (kind ≢ InputEnd → IfSome left (λ text. last ≢ []))

-- where the counts of a source and of a sink stood at the start of a conversation, and where they stand after it
pub record Counts : Type 0 where
  pub reads : ℕ
  pub read_faults : ℕ
  pub write_faults : ℕ

-- the counts of a source and of a sink, by their ghost functions
abbrev pub counts_of : {S K : Type 0} → (S → ℕ) → (S → ℕ) → (K → ℕ) → S → K → Counts
counts_of reads read_faults write_faults source sink = record {
  reads = reads source;
  read_faults = read_faults source;
  write_faults = write_faults sink;
}

-- The counts of faults of a source and of a sink never fall.
pub record FaultsNeverFall (old new : Counts) : Type 0 where
  pub read_faults : old.read_faults ≤ new.read_faults
  pub write_faults : old.write_faults ≤ new.write_faults

-- No count of faults has risen.
pub record IsCalm (old new : Counts) : Type 0 where
  pub read_faults : new.read_faults ≡ old.read_faults
  pub write_faults : new.write_faults ≡ old.write_faults

-- Each read that was counted gave at least one byte. Where the source's bytes are known, those that are left are known
-- too. Their number, plus that of the reads counted since, is at most the number of bytes that there were.
abbrev pub ReadsGaveBytes : Option (List ℕ) → Option (List ℕ) → ℕ → ℕ → Type 0
ReadsGaveBytes left new_left reads new_reads = IfSome left (λ text. (rest : List ℕ) × (new_left ≡ Some rest)
    × (new_reads + length rest ≤ reads + length text))

-- the turn that reads the end of the input
abbrev pub end_turn : EndKind → ℕ
end_turn InputEnd = 1
end_turn _ = 0

-- Why a conversation came to an end or was given up. At an end, the reads and the questions are within the turns. A
-- fault comes only where its count has risen. TurnLimit comes only where the reads that gave a byte and the questions
-- took all turns. What is said of turns holds while the count of reads doesn't saturate.
abbrev pub HasCause : Result EndKind ServeError → ℕ → ℕ → Counts → Counts → Type 0
HasCause (Ok kind) turns asked old new = old.reads + turns < 2 ^ 64 → new.reads + asked + end_turn kind ≤ old.reads + turns
HasCause (Err ReadFault) turns asked old new = HasRisen old.read_faults new.read_faults
HasCause (Err WriteFault) turns asked old new = HasRisen old.write_faults new.write_faults
HasCause (Err TurnLimit) turns asked old new = old.reads + turns < 2 ^ 64 → new.reads + asked ≡ old.reads + turns
HasCause (Err NoMemory) turns asked old new = Unit {0}
