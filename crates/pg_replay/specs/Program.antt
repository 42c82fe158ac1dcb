-- What the program owes: what comes of its words.
use Rattle.std.specs.Prelude.{ℕ, ℤ, false, List, [], ◌∷◌, ◌≡◌, ◌≤◌, ◌<◌, ◌⊎◌, ◌↔◌, Option, Some, None, Result, Ok, Err, length}
use Rattle.std.specs.List.{AllByRecursion}
use Rattle.pg_client.specs.declared.desk.DeskCall.{DeskCall}
use Rattle.pg_client.specs.declared.ends.EndKind.{EndKind}
use Rattle.pg_client.specs.Answer.{answers_of}
use Rattle.conversation_table.specs.Questions.{questions}
use Rattle.conversation_runs.specs.declared.ends.ServeError.{ServeError}
use Rattle.conversation_runs.specs.declared.ends.ServeError.TheVariants as serve
use Rattle.conversation_runs.specs.Streams.{GrowsBy, GrowsByFront, HasRisen}
use Rattle.pg_engine.specs.Serving.{Counts, HasCause, counts_of}
use Rattle.recording_text.specs.declared.recording.Recording.{Recording}
use Rattle.recording_text.specs.declared.recording.ReadError.{ReadError}
use Rattle.recording_text.specs.Judging.{judged}
use Rattle.recording_text.specs.Text.{recording_text, IsRecordable}
use Rattle.relation_files.specs.Files.{IsToldBy, IsFileCause, Gave, GaveAll}
use Rattle.relation_serving.specs.Completeness.{IsComplete}
use Rattle.relation_serving.specs.Serving.{WentByTables}
use Rattle.relation_tables.specs.declared.Relation.{Relation}
use Rattle.replay_streams.specs.RecordedRuns.{IsRecordedRun}
use Rattle.session_recording.specs.declared.error.RecordError.{RecordError}
use Rattle.session_recording.specs.declared.error.RecordError.TheVariants as refusal
use Rattle.session_recording.specs.Kept.{counted}
use Rattle.session_recording.specs.Recorded.{IsRecorded, IsFaithful, Passage}
use Rattle.session_replay.specs.declared.verdict.Verdict.{Verdict}
use Rattle.session_replay.specs.declared.verdict.Verdict.TheVariants as verdict
use Rattle.session_replay.specs.Verdicts.{IsReplay, IsVerdict, IsVerdictOn}
use Rattle.pg_replay.specs.declared.outcome.Outcome.{Outcome}
use Rattle.pg_replay.specs.declared.outcome.Outcome.TheVariants.{Usage, File, Done, ReadFault, WriteFault, TurnLimit, NoMemory, TooLong, BadRecording}
use Rattle.pg_replay.specs.Statuses.{verdict_line, verdict_outcome}
use Rattle.pg_replay.specs.Words.{Ordered, Recording as record_under, Verifying}

-- What the program sees of its surroundings, when it begins and when it ends: what is left of the relation file and of its input, what was
-- written, and the counts.
pub record Surroundings : Type 0 where
  pub file : Option (List ℕ)
  pub file_faults : ℕ
  pub client : Option (List ℕ)
  pub out : Option (List ℕ)
  pub counts : Counts

-- the counts of faults
abbrev pub fault_counts : Surroundings → List ℕ
fault_counts s = s.file_faults ∷ s.counts.read_faults ∷ s.counts.write_faults ∷ []

-- the surroundings by what their traits tell
abbrev pub surroundings : {F S K : Type 0} → (F → Option (List ℕ)) → (F → ℕ) → (S → Option (List ℕ)) → (S → ℕ) → (S → ℕ)
    → (K → Option (List ℕ)) → (K → ℕ) → F → S → K → Surroundings
surroundings left faults client_left reads read_faults written write_faults file client out = record {
  file = left file;
  file_faults = faults file;
  client = client_left client;
  out = written out;
  counts = counts_of reads read_faults write_faults client out;
}

-- the input and what was written stand as they stood
abbrev pub IsClientUntouched : Surroundings → Surroundings → Type 0
IsClientUntouched old new = (new.client ≡ old.client) × (new.out ≡ old.out) × (new.counts ≡ old.counts)

-- ---- what is written

-- nothing was written, and no write failed
abbrev pub IsUnwritten : Option (List ℕ) → Option (List ℕ) → ℕ → ℕ → Type 0
IsUnwritten old new faults new_faults = (new ≡ old) × (new_faults ≡ faults)

-- What comes of writing a text. The outcome is `written` where all of it was written. A front of it was written where a write failed or
-- memory ran out.
abbrev pub HasWritten : Outcome → List ℕ → Outcome → Option (List ℕ) → Option (List ℕ) → ℕ → ℕ → Type 0
HasWritten written text outcome old new faults new_faults =
    (((outcome ≡ written) × GrowsBy old new text × (new_faults ≡ faults))
    ⊎ ((outcome ≡ WriteFault) × GrowsByFront old new text × HasRisen faults new_faults))
    ⊎ ((outcome ≡ NoMemory) × GrowsByFront old new text × (new_faults ≡ faults))

-- ---- record

-- the turns of a client, and the bytes that there is room for
abbrev pub turns : ℕ
turns = 1000000000

abbrev pub room : ℕ
room = 268435456

-- A session took bytes of a client, and its replies went to memory, to a sink to which nothing had been written. So many of its sends found
-- no memory.
abbrev pub passage_in_memory : Option (List ℕ) → Option (List ℕ) → List ℕ → ℕ → Passage
passage_in_memory left new_left replies refused = record {
  left = left;
  new_left = new_left;
  written = Some [];
  new_written = Some replies;
  refused = 0;
  new_refused = refused;
  sent = 0;
  new_sent = counted (length replies);
}

-- A client was served over the relations under a pid and a key, and recorded. The registry answered each question no. What was sent and
-- called is the conversation tables' answer. The session's end, or what it was given up for, has its cause. Enough turns bring it to its
-- end. There is the recording of it, or why there is none.
pub record WasRecorded (pid : ℤ) (key : List ℕ) (relations : List Relation) (answer : Result EndKind ServeError)
    (recorded : Result Recording RecordError) (left new_left : Option (List ℕ)) (before after : Counts) : Type 0 where
  pub calls : List DeskCall
  pub sent : List ℕ
  pub refused : ℕ
  pub answered : AllByRecursion (λ yes. yes ≡ false) (answers_of calls)
  pub went : WentByTables relations (pid, key) answer left new_left (Some []) (Some sent) calls
  pub cause : HasCause answer turns (questions calls) before after
  pub complete : IsComplete relations turns answer left before after
  pub told : IsRecorded (pid, key) room answer recorded (passage_in_memory left new_left sent refused) calls
  pub faithful : IsFaithful relations (passage_in_memory left new_left sent refused) recorded

-- What a session and its recording come to: the recording is written where there is one; and nothing is where the session was given up, or
-- there was no room.
abbrev pub IsRecordOutcome : Result EndKind ServeError → Result Recording RecordError → Outcome → Option (List ℕ) → Option (List ℕ) → ℕ → ℕ
    → Type 0
IsRecordOutcome (Err serve.ReadFault) recorded outcome old new faults new_faults =
    (outcome ≡ ReadFault) × IsUnwritten old new faults new_faults
IsRecordOutcome (Err serve.TurnLimit) recorded outcome old new faults new_faults =
    (outcome ≡ TurnLimit) × IsUnwritten old new faults new_faults
IsRecordOutcome (Err serve.NoMemory) recorded outcome old new faults new_faults =
    (outcome ≡ NoMemory) × IsUnwritten old new faults new_faults
IsRecordOutcome (Err serve.WriteFault) recorded outcome old new faults new_faults = ⊥
IsRecordOutcome (Ok kind) (Err (refusal.TooLong n)) outcome old new faults new_faults =
    (outcome ≡ TooLong) × IsUnwritten old new faults new_faults
IsRecordOutcome (Ok kind) (Err refusal.Unended) outcome old new faults new_faults = ⊥
IsRecordOutcome (Ok kind) (Err refusal.NoMemory) outcome old new faults new_faults =
    (outcome ≡ NoMemory) × IsUnwritten old new faults new_faults
IsRecordOutcome (Ok kind) (Ok r) outcome old new faults new_faults = HasWritten Done (recording_text r) outcome old new faults new_faults

-- What comes of recording a client: memory ran out before anything was read; or the client was recorded, and what that comes to.
abbrev pub HasRecorded : ℤ → List ℕ → List Relation → Outcome → Option (List ℕ) → Option (List ℕ) → Option (List ℕ) → Option (List ℕ)
    → Counts → Counts → Type 0
HasRecorded pid key relations outcome left new_left old new before after =
    ((outcome ≡ NoMemory) × (new_left ≡ left) × (new ≡ old) × (after ≡ before))
    ⊎ ((answer : Result EndKind ServeError) × (recorded : Result Recording RecordError)
    × WasRecorded pid key relations answer recorded left new_left before after
    × IsRecordOutcome answer recorded outcome old new before.write_faults after.write_faults)

-- What comes of `record`: the file was refused, or else its relations were served and the session recorded.
abbrev pub HasRecordedFile : ℤ → List ℕ → Outcome → Surroundings → Surroundings → Type 0
HasRecordedFile pid key (File e) old new =
    IsFileCause e old.file new.file old.file_faults new.file_faults × IsClientUntouched old new
HasRecordedFile pid key outcome old new = (relations : List Relation) × IsToldBy old.file new.file relations
    × HasRecorded pid key relations outcome old.client new.client old.out new.out old.counts new.counts

-- ---- verify

-- the most bytes that a recording may have on the input
abbrev pub input_limit : ℕ
input_limit = 536871936

-- the input gave more bytes than a recording may have
abbrev pub GaveTooMuch : Option (List ℕ) → Option (List ℕ) → Type 0
GaveTooMuch left new_left = (taken : List ℕ) × Gave left new_left taken × (input_limit < length taken)

-- why the input was not read to its end
abbrev pub IsInputCause : Outcome → Option (List ℕ) → Option (List ℕ) → ℕ → ℕ → Type 0
IsInputCause BadRecording left new_left faults new_faults = GaveTooMuch left new_left
IsInputCause ReadFault left new_left faults new_faults = HasRisen faults new_faults
IsInputCause NoMemory left new_left faults new_faults = Unit {0}
IsInputCause outcome left new_left faults new_faults = ⊥

-- The verdict of verifying a recording over the relations: Same exactly where the recording is that of a run; and each verdict is that of
-- its replay, of which there is one.
pub record IsVerified (relations : List Relation) (r : Recording) (v : Verdict) : Type 0 where
  pub same : (v ≡ verdict.Same) ↔ IsRecordedRun relations r
  pub replayed : IsVerdictOn relations r v
  pub one : (replies : List ℕ) (calls : List DeskCall) (kind : EndKind) → IsReplay relations r replies calls kind
      → IsVerdict r replies calls kind v

-- What comes of verifying a recording: the line of the verdict is written, or memory ran out before there was one.
abbrev pub HasToldVerdict : List Relation → Recording → Outcome → Option (List ℕ) → Option (List ℕ) → ℕ → ℕ → Type 0
HasToldVerdict relations r outcome old new faults new_faults = ((outcome ≡ NoMemory) × IsUnwritten old new faults new_faults)
    ⊎ ((v : Verdict) × IsVerified relations r v × HasWritten (verdict_outcome v) (verdict_line v) outcome old new faults new_faults)

-- What comes of a whole input: it is the text of no recording; or it is that of a recording, which is verified, unless memory ran out
-- before.
abbrev pub HasJudged : List Relation → List ℕ → Result Recording ReadError → Outcome → Option (List ℕ) → Option (List ℕ) → ℕ → ℕ → Type 0
HasJudged relations text (Err e) outcome old new faults new_faults =
    ((outcome ≡ BadRecording) ⊎ (outcome ≡ NoMemory)) × IsUnwritten old new faults new_faults
HasJudged relations text (Ok r) outcome old new faults new_faults = ((outcome ≡ NoMemory) × IsUnwritten old new faults new_faults)
    ⊎ (IsRecordable r × (text ≡ recording_text r) × HasToldVerdict relations r outcome old new faults new_faults)

-- What comes of verifying the input: it wasn't read to its end, and nothing was written; or it was, and it is judged.
abbrev pub HasVerified : List Relation → Outcome → Option (List ℕ) → Option (List ℕ) → Option (List ℕ) → Option (List ℕ) → Counts → Counts
    → Type 0
HasVerified relations outcome left new_left old new before after =
    (IsInputCause outcome left new_left before.read_faults after.read_faults
    × IsUnwritten old new before.write_faults after.write_faults)
    ⊎ ((text : List ℕ) × GaveAll left new_left text × (length text ≤ input_limit)
    × HasJudged relations text (judged text) outcome old new before.write_faults after.write_faults)

-- What comes of `verify`: the file was refused, or else the input is verified over its relations.
abbrev pub HasVerifiedFile : Outcome → Surroundings → Surroundings → Type 0
HasVerifiedFile (File e) old new = IsFileCause e old.file new.file old.file_faults new.file_faults × IsClientUntouched old new
HasVerifiedFile outcome old new = (relations : List Relation) × IsToldBy old.file new.file relations
    × HasVerified relations outcome old.client new.client old.out new.out old.counts new.counts

-- ---- the words

-- What comes of the words: nothing where they are no order, and else what comes of the order.
abbrev pub HasRun : Option Ordered → Outcome → Surroundings → Surroundings → Type 0
HasRun (Some (record_under pid key)) outcome old new = HasRecordedFile pid key outcome old new
HasRun (Some Verifying) outcome old new = HasVerifiedFile outcome old new
HasRun None outcome old new = (outcome ≡ Usage) × (new ≡ old)
