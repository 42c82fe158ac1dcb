-- What a recorder owes: the recording of a session, or why there is none.
use Rattle.std.specs.Prelude.{ℕ, ℤ, List, [], ◌++◌, Option, Result, Ok, Err, ◌≡◌, ◌≤◌, ◌<◌, ◌⊎◌, max, length, IfSome}
use Rattle.pg_client.specs.declared.desk.DeskCall.{DeskCall}
use Rattle.pg_client.specs.declared.ends.EndKind.{EndKind}
use Rattle.conversation_runs.specs.declared.ends.ServeError.{ServeError}
use Rattle.conversation_runs.specs.declared.ends.ServeError.TheVariants as serve
use Rattle.conversation_runs.specs.Streams.{GrowsBy}
use Rattle.pg_engine.specs.Serving.{TakesFrom}
use Rattle.recording_text.specs.declared.recording.Recording.{Recording}
use Rattle.relation_tables.specs.declared.Relation.{Relation}
use Rattle.replay_streams.specs.RecordedRuns.{IsRecordedRun}
use Rattle.session_recording.specs.declared.error.RecordError.{RecordError}
use Rattle.session_recording.specs.declared.error.RecordError.TheVariants as refusal
use Rattle.session_recording.specs.Kept.{Rose, RoseBy, Stayed, counted}

-- What a source had to give, what a sink had taken and what it had counted, before a session and after it. The bytes are known as far as the
-- two tell them.
pub record Passage : Type 0 where
  pub left : Option (List ℕ)
  pub new_left : Option (List ℕ)
  pub written : Option (List ℕ)
  pub new_written : Option (List ℕ)
  pub refused : ℕ
  pub new_refused : ℕ
  pub sent : ℕ
  pub new_sent : ℕ

-- the passage by what the traits tell
abbrev pub passage : {S K : Type 0} → (S → Option (List ℕ)) → (K → Option (List ℕ)) → (K → ℕ) → (K → ℕ) → S → K → S → K → Passage
passage left written refused sent source sink new_source new_sink = record {
  left = left source;
  new_left = left new_source;
  written = written sink;
  new_written = written new_sink;
  refused = refused sink;
  new_refused = refused new_sink;
  sent = sent sink;
  new_sent = sent new_sink;
}

-- The sends that the sink answered with Ok had as many bytes as these: so many it counted. They are the first that it took. Where it refused
-- no send, it took nothing else.
pub record IsSent (p : Passage) (bytes : List ℕ) : Type 0 where
  pub number : RoseBy (length bytes) p.sent p.new_sent
  pub first : (others : List ℕ) × GrowsBy p.written p.new_written (bytes ++ others)
  pub nothing_else : Stayed p.refused p.new_refused → GrowsBy p.written p.new_written bytes

-- The session took the bytes `taken` from the source, and sent the bytes `sent`.
pub record HasPassed (p : Passage) (taken sent : List ℕ) : Type 0 where
  pub from_source : TakesFrom p.left p.new_left taken
  pub to_sink : IsSent p sent

-- how many bytes there have to be room for
abbrev pub needed : List ℕ → List ℕ → ℕ
needed taken sent = counted (max (length taken) (length sent))

-- more bytes passed one way than there is room for, namely so many
abbrev pub HadNoRoom : ℕ → ℕ → Passage → Type 0
HadNoRoom n room p = (taken : List ℕ) × ((sent : List ℕ) × HasPassed p taken sent × (n ≡ needed taken sent) × (room < n))

-- there was room for the bytes that passed
abbrev pub HadRoom : ℕ → Passage → Type 0
HadRoom room p = (taken : List ℕ) × ((sent : List ℕ) × HasPassed p taken sent × (needed taken sent ≤ room))

-- nothing was read, sent or called
pub record IsUntouched (p : Passage) (calls : List DeskCall) : Type 0 where
  pub left : p.new_left ≡ p.left
  pub written : p.new_written ≡ p.written
  pub refused : p.new_refused ≡ p.refused
  pub sent : p.new_sent ≡ p.sent
  pub uncalled : calls ≡ []

-- The recording tells a session that came to this end: the registration that the desk had, the bytes that the source gave, the registry
-- calls with their answers, and the bytes that the sink took, which refused no send.
pub record IsRecordingOf (registration : ℤ × List ℕ) (came_to : EndKind) (p : Passage) (made : List DeskCall) (r : Recording) : Type 0 where
  pub pid : r.pid ≡ registration.0
  pub key : r.key ≡ registration.1
  pub client : TakesFrom p.left p.new_left r.client
  pub calls : r.calls ≡ made
  pub replies : GrowsBy p.written p.new_written r.replies
  pub number : RoseBy (length r.replies) p.sent p.new_sent
  pub none_refused : p.new_refused ≡ p.refused
  pub kind : r.end ≡ came_to

-- What comes of recording a session with this answer, in this room. Where the greater of the two numbers of bytes passes the room: TooLong
-- with that number. Else, where the session was given up: Unended. Else the recording of it, unless the sink refused a send and the session
-- came to its end all the same: then NoMemory, since it isn't known what the sink took. Where nothing was served for want of memory, both
-- answers are NoMemory.
abbrev pub IsRecorded : ℤ × List ℕ → ℕ → Result EndKind ServeError → Result Recording RecordError → Passage → List DeskCall → Type 0
IsRecorded registration room (Ok kind) (Ok r) p calls =
    IsRecordingOf registration kind p calls r × (length r.client ≤ room) × (length r.replies ≤ room)
IsRecorded registration room (Err e) (Ok r) p calls = ⊥
IsRecorded registration room answer (Err (refusal.TooLong n)) p calls = HadNoRoom n room p
IsRecorded registration room (Ok kind) (Err refusal.Unended) p calls = ⊥
IsRecorded registration room (Err e) (Err refusal.Unended) p calls = HadRoom room p
IsRecorded registration room (Ok kind) (Err refusal.NoMemory) p calls = HadRoom room p × Rose p.refused p.new_refused
IsRecorded registration room (Err serve.NoMemory) (Err refusal.NoMemory) p calls = IsUntouched p calls
IsRecorded registration room (Err e) (Err refusal.NoMemory) p calls = ⊥

-- What comes of recording a client that is served in any case: NoMemory where there was no memory for the room.
abbrev pub IsRecordedIfRoom : ℤ × List ℕ → ℕ → Result EndKind ServeError → Result Recording RecordError → Passage → List DeskCall → Type 0
IsRecordedIfRoom registration room answer result p calls =
    (result ≡ Err refusal.NoMemory) ⊎ IsRecorded registration room answer result p calls

-- Where the source and the sink tell their bytes, a recording is that of a run.
abbrev pub IsFaithful : List Relation → Passage → Result Recording RecordError → Type 0
IsFaithful relations p (Ok r) = IfSome p.left (λ text. IfSome p.written (λ before. IsRecordedRun relations r))
IsFaithful relations p (Err e) = Unit {0}
