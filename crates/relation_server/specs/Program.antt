-- What the program owes: what comes of each of its commands.
use Rattle.std.specs.Prelude.{ℕ, ℤ, pos, List, [], ◌++◌, ◌∷◌, ◌≡◌, ◌<◌, ◌≤◌, ◌+◌, ◌^◌, ◌⊎◌, true, Option, Some, None, Result, Ok, Err, IfSome, IfOk, IfErr, length, codes, decimal}
use Rattle.pg_cancel.specs.declared.entries.Entry.{Entry}
use Rattle.pg_cancel.specs.declared.entries.RegistryCall.TheVariants.{Register}
use Rattle.pg_cancel.specs.declared.entries.RegistryAnswer.TheVariants.{Registered, Taken}
use Rattle.pg_cancel.specs.Connections.{Connection, Witness, Issuer, Registers, before_last, entry}
use Rattle.pg_cancel.specs.LegalHistory.{HasPid}
use Rattle.pg_client.specs.declared.ends.EndKind.{EndKind}
use Rattle.pg_client.specs.State.{first_state}
use Rattle.conversation_runs.specs.declared.ends.ServeError.{ServeError}
use Rattle.conversation_runs.specs.declared.ends.ServeError.TheVariants.{WriteFault, NoMemory}
use Rattle.conversation_runs.specs.Run.{IsRun}
use Rattle.conversation_runs.specs.Session.{whole_rules}
use Rattle.conversation_runs.specs.Streams.{GrowsBy, GrowsByFront, HasRisen}
use Rattle.pg_serve.specs.Desk.{desk_calls}
use Rattle.pg_engine.specs.Serving.{Counts, counts_of}
use Rattle.relation_demo.specs.Client.{demo_client}
use Rattle.relation_demo.specs.Counting.{row_count}
use Rattle.relation_demo.specs.Load.{demo_relations}
use Rattle.relation_files.specs.Files.{IsToldBy, IsFileCause, file_limit}
use Rattle.relation_files.specs.Lines.{lines_of}
use Rattle.relation_files.specs.Refusal.{first_bad_line}
use Rattle.relation_files.specs.Told.{relations_of}
use Rattle.pg_messages.specs.declared.frontend.PgWireFrontendMessage.{PgWireFrontendMessage}
use Rattle.pg_messages.specs.Frames.{DividesInto, IsBad, IsUnfinished, awaits_startup_after_all}
use Rattle.pg_engine.specs.Completeness.{HasFault}
use Rattle.relation_serving.specs.Completeness.{HasTurns}
use Rattle.relation_tables.specs.declared.Relation.{Relation}
use Rattle.relation_tables.specs.RelationHandler.{relation_handlers}
use Rattle.relation_words.specs.declared.commands.Command.{Command}
use Rattle.relation_words.specs.declared.commands.Command.TheVariants as command
use Rattle.relation_words.specs.declared.commands.Load.{Load}
use Rattle.relation_words.specs.declared.commands.Service.{Service}
use Rattle.relation_server.specs.declared.outcome.Outcome.{Outcome}
use Rattle.relation_server.specs.declared.outcome.Outcome.TheVariants.{Done, Usage, File, PidTaken, Conversation, AcceptFault, SpawnFault}
use Rattle.many_clients.specs.declared.accept_loop.ListenError.{ListenError}
use Rattle.many_clients.specs.declared.accept_loop.ListenError.TheVariants as listen
use Rattle.many_clients.specs.Registrations.{IsLeftBehind}
use Rattle.relation_server.specs.Jobs.{HasConversed}
use Rattle.many_clients.specs.Listening.{Taking, HasEndedSo}

-- What the program sees of its surroundings, when it begins and when it ends: what is left of the relation file and of the client's bytes,
-- what was written, the counts, and what the door has seen of the registry's history.
pub record Surroundings : Type 0 where
  pub file : Option (List ℕ)
  pub file_faults : ℕ
  pub client : Option (List ℕ)
  pub out : Option (List ℕ)
  pub counts : Counts
  pub seen : List Entry

abbrev pub counts : ℕ → ℕ → ℕ → Counts
counts reads read_faults write_faults = record { reads = reads; read_faults = read_faults; write_faults = write_faults }

abbrev pub surroundings : Option (List ℕ) → ℕ → Option (List ℕ) → Option (List ℕ) → Counts → List Entry → Surroundings
surroundings file file_faults client out counts seen = record {
  file = file;
  file_faults = file_faults;
  client = client;
  out = out;
  counts = counts;
  seen = seen;
}

-- the surroundings by what their traits tell
abbrev pub surroundings_of : {F S K : Type 0} → (F → Option (List ℕ)) → (F → ℕ) → (S → Option (List ℕ)) → (S → ℕ) → (S → ℕ)
    → (K → Option (List ℕ)) → (K → ℕ)
    → F → S → K → List Entry → Surroundings
surroundings_of left faults client_left reads read_faults written write_faults file client out seen =
    surroundings (left file) (faults file) (client_left client) (written out) (counts_of reads read_faults write_faults client out) seen

-- the client and what was written for it stand as they stood
abbrev pub IsClientUntouched : Surroundings → Surroundings → Type 0
IsClientUntouched old new = (new.client ≡ old.client) × (new.out ≡ old.out) × (new.counts ≡ old.counts)

-- nothing was read of the client
abbrev pub IsReadNothing : Surroundings → Surroundings → Type 0
IsReadNothing old new = (new.client ≡ old.client) × (new.counts.reads ≡ old.counts.reads)
    × (new.counts.read_faults ≡ old.counts.read_faults)

-- the file stands as it stood
abbrev pub IsFileUntouched : Surroundings → Surroundings → Type 0
IsFileUntouched old new = (new.file ≡ old.file) × (new.file_faults ≡ old.file_faults)

-- ---- a registration

-- a connection that has just been registered at this place
abbrev pub newcomer : Issuer → ℕ → ℤ × List ℕ → List Entry → Connection
newcomer issuer number registration seen = record {
  issuer = issuer;
  number = number;
  pid = registration.0;
  key = registration.1;
  seen = seen;
  mine = entry number (Register registration.0 registration.1) Registered ∷ [];
}

-- The pid was registered: the door's last entry is the Register, at this place, and was answered Registered.
abbrev pub WasRegistered : ℕ → ℤ × List ℕ → Surroundings → Surroundings → Type 0
WasRegistered number registration old new = Registers number (Register registration.0 registration.1) old.seen new.seen Registered

-- The pid has a live registration: the door gained just this Register, its last entry, which was answered Taken.
pub record WasTaken (registration : ℤ × List ℕ) (old new : Surroundings) : Type 0 where
  pub number : ℕ
  pub holder : ℕ
  pub taken : Registers number (Register registration.0 registration.1) old.seen new.seen (Taken holder)
  pub has_pid : HasPid (before_last new.seen) holder registration.0

-- ---- serve

-- A client was served over the relations under the registration.
pub record WasServed (issuer : Issuer) (s : Service) (relations : List Relation) (answer : Result EndKind ServeError)
    (noted : Option Witness)
    (old new : Surroundings) : Type 0 where
  pub number : ℕ
  pub witness : Witness
  pub registered : WasRegistered number (s.pid, s.key) old new
  pub is_noted : noted ≡ Some witness
  pub conversed : HasConversed (newcomer issuer number (s.pid, s.key) new.seen) relations s.turns answer old.client new.client
      old.out new.out old.counts new.counts witness

-- What came of the relations that were read: the pid was taken; or memory ran out before it was registered; or the client was served.
abbrev pub HasServed : Issuer → Service → List Relation → Outcome → Option Witness → Surroundings → Surroundings → Type 0
HasServed issuer s relations PidTaken noted old new = WasTaken (s.pid, s.key) old new × IsClientUntouched old new × (noted ≡ None)
HasServed issuer s relations (Conversation answer) noted old new = WasServed issuer s relations answer noted old new
    ⊎ ((answer ≡ Err NoMemory) × (new.seen ≡ old.seen) × IsClientUntouched old new × (noted ≡ None))
HasServed issuer s relations outcome noted old new = ⊥

-- What came of `serve`: the file was refused, or else its relations were served.
abbrev pub HasServedFile : Issuer → Service → Outcome → Option Witness → Surroundings → Surroundings → Type 0
HasServedFile issuer s (File e) noted old new = IsFileCause e old.file new.file old.file_faults new.file_faults
    × (new.seen ≡ old.seen) × IsClientUntouched old new × (noted ≡ None)
HasServedFile issuer s outcome noted old new = (relations : List Relation) × IsToldBy old.file new.file relations
    × HasServed issuer s relations outcome noted old new

-- ---- demo

-- pid 1, and a key of four zeros
abbrev pub demo_registration : ℤ × List ℕ
demo_registration = (pos 1, 0 ∷ 0 ∷ 0 ∷ 0 ∷ [])

-- the four lines: how many relations there are, rows that were sent, bytes of the client, bytes of the replies
abbrev pub demo_lines : ℕ → ℕ → ℕ → ℕ → List ℕ
demo_lines relations rows bytes replies = codes "relations " ++ decimal relations ++ (10 ∷ codes "rows ") ++ decimal rows
    ++ (10 ∷ codes "in ") ++ decimal bytes ++ (10 ∷ codes "out ") ++ decimal replies ++ 10 ∷ []

-- A connection was registered, made these calls and was left.
pub record WasConnected (issuer : Issuer) (registration : ℤ
    × List ℕ) (made : List Entry) (noted : Option Witness) (old new : Surroundings) : Type 0 where
  pub number : ℕ
  pub witness : Witness
  pub registered : WasRegistered number registration old new
  pub is_noted : noted ≡ Some witness
  pub behind : IsLeftBehind (newcomer issuer number registration new.seen) made witness

-- The lines count what the conversation table answers to the demo load, under the answers that the registry gave.
pub record AreDemoLines (l : Load) (made : List Entry) (lines : List ℕ) : Type 0 where
  pub kind : EndKind
  pub replies : List ℕ
  pub run : IsRun (whole_rules (relation_handlers (demo_relations l.seed l.count))) (first_state demo_registration.0 demo_registration.1)
      (demo_client l.count) replies (desk_calls made) kind
  pub lines_are : lines ≡ demo_lines l.count (row_count run.fed.replies) (length (demo_client l.count)) (length replies)

-- The demo load was served, lines count it, and they were written as `Grows` says.
pub record WasShown (issuer : Issuer) (l : Load) (noted : Option Witness) (old new : Surroundings) (Grows : List ℕ → Type 0) : Type 0 where
  pub made : List Entry
  pub connected : WasConnected issuer demo_registration made noted old new
  pub lines : List ℕ
  pub counted : AreDemoLines l made lines
  pub told : Grows lines

-- Memory ran out, and no fault was counted: before the registration, or after it; a front of the lines may stand written.
abbrev pub IsCutShort : Issuer → Load → Option Witness → Surroundings → Surroundings → Type 0
IsCutShort issuer l noted old new = (((new.seen ≡ old.seen) × (new.out ≡ old.out) × (noted ≡ None))
    ⊎ (((made : List Entry) × WasConnected issuer demo_registration made noted old new × (new.out ≡ old.out))
    ⊎ WasShown issuer l noted old new (λ lines. GrowsByFront old.out new.out lines)))
    × (new.counts.write_faults ≡ old.counts.write_faults)

-- What came of `demo`: all lines were written; or a front of them, where the count of faults has risen; or pid 1 was taken; or memory ran
-- out.
abbrev pub HasShown : Issuer → Load → Outcome → Option Witness → Surroundings → Surroundings → Type 0
HasShown issuer l Done noted old new = WasShown issuer l noted old new (λ lines. GrowsBy old.out new.out lines)
HasShown issuer l PidTaken noted old new = WasTaken demo_registration old new × IsClientUntouched old new × (noted ≡ None)
HasShown issuer l (Conversation (Err WriteFault)) noted old new = HasRisen old.counts.write_faults new.counts.write_faults
    × WasShown issuer l noted old new (λ lines. GrowsByFront old.out new.out lines)
HasShown issuer l (Conversation (Err NoMemory)) noted old new = IsCutShort issuer l noted old new
HasShown issuer l outcome noted old new = ⊥

-- ---- listen

-- the outcome of listening
abbrev pub outcome_of : Result ℕ ListenError → Outcome
outcome_of (Ok n) = Done
outcome_of (Err listen.AcceptFault) = AcceptFault
outcome_of (Err listen.SpawnFault) = SpawnFault
outcome_of (Err (listen.PidTaken m)) = PidTaken
outcome_of (Err listen.NoMemory) = Conversation (Err NoMemory)

-- What the program that listens sees of its surroundings: what is left of the relation file, the count of its faults, what was taken in,
-- and what the door has seen of the registry's history.
pub record ListenSurroundings : Type 0 where
  pub file : Option (List ℕ)
  pub file_faults : ℕ
  pub taking : Taking
  pub seen : List Entry

abbrev pub listen_surroundings : Option (List ℕ) → ℕ → Taking → List Entry → ListenSurroundings
listen_surroundings file file_faults taking seen = record { file = file; file_faults = file_faults; taking = taking; seen = seen }

-- There are no relations to share: the file was refused; or memory ran out after its relations were read.
abbrev pub HasNoRelations : Outcome → Option (List ℕ) → Option (List ℕ) → ℕ → ℕ → Type 0
HasNoRelations (File e) left new_left faults new_faults = IsFileCause e left new_left faults new_faults
HasNoRelations (Conversation (Err NoMemory)) left new_left faults new_faults = (relations : List Relation) × IsToldBy left new_left relations
HasNoRelations outcome left new_left faults new_faults = ⊥

-- What came of reading relations that jobs share: they are those that the file told, or there are none. The count of the file's faults
-- doesn't fall.
pub record SharesRelations {A : Type 0} (relations_of : A → List Relation) (result : Result A Outcome) (left new_left : Option (List ℕ))
    (faults new_faults : ℕ) : Type 0 where
  pub ok : IfOk result (λ shared. IsToldBy left new_left (relations_of shared))
  pub err : IfErr result (λ outcome. HasNoRelations outcome left new_left faults new_faults)
  pub never_falls : faults ≤ new_faults

-- What came of listening for `count` connections: the file was refused; or connections were taken in over its relations; or memory ran
-- out before.
abbrev pub HasListened : Option ℕ → Outcome → ListenSurroundings → ListenSurroundings → Type 0
HasListened count (File e) old new = IsFileCause e old.file new.file old.file_faults new.file_faults × (new.taking ≡ old.taking)
    × (new.seen ≡ old.seen)
HasListened count outcome old new = ((relations : List Relation) × IsToldBy old.file new.file relations)
    × (((result : Result ℕ ListenError) × (outcome ≡ outcome_of result) × HasEndedSo result count old.taking new.taking old.seen new.seen)
    ⊎ ((outcome ≡ Conversation (Err NoMemory)) × (new.taking ≡ old.taking) × (new.seen ≡ old.seen)))

-- What came of the words: nothing where they are no `listen`, and else what came of listening.
abbrev pub HasRunListening : Option (Option ℕ) → Outcome → ListenSurroundings → ListenSurroundings → Type 0
HasRunListening None outcome old new = (outcome ≡ Usage) × (new ≡ old)
HasRunListening (Some count) outcome old new = HasListened count outcome old new

-- ---- all of it

-- What came of the words: nothing where they are no command, and else what came of the command. There may be no memory for the key of
-- `serve`; then nothing was done.
abbrev pub HasRun : Issuer → Option Command → Outcome → Option Witness → Surroundings → Surroundings → Type 0
HasRun issuer None outcome noted old new = (outcome ≡ Usage) × (noted ≡ None) × (new ≡ old)
HasRun issuer (Some (command.Serve s)) outcome noted old new = HasServedFile issuer s outcome noted old new
    ⊎ ((outcome ≡ Conversation (Err NoMemory)) × (noted ≡ None) × (new ≡ old))
HasRun issuer (Some (command.Demo l)) outcome noted old new = HasShown issuer l outcome noted old new × IsFileUntouched old new
    × IsReadNothing old new

-- ---- completeness

-- nobody had the pid when the door's last Register was made
abbrev pub IsFree : ℤ → Surroundings → Type 0
IsFree pid new = (m : ℕ) → ¬ HasPid (before_last new.seen) m pid

-- no count of faults rose
abbrev pub IsSound : Surroundings → Surroundings → Type 0
IsSound old new = ¬ HasRisen old.file_faults new.file_faults × ¬ HasFault old.counts new.counts

-- `serve` came to the end of a conversation (0, 10 at a bad frame, 11 at a fatal error), or memory ran out (7)
abbrev pub IsServeEnd : ℕ → Type 0
IsServeEnd status = (status ≡ 0) ⊎ ((status ≡ 10) ⊎ ((status ≡ 11) ⊎ (status ≡ 7)))

-- Where nothing is refused in a file, the pid is free, no count of faults rises, and the turns are enough for the client's bytes, whatever
-- they are, `serve` comes to its end, or memory runs out.
abbrev pub IsServeComplete : Service → ℕ → Surroundings → Surroundings → Type 0
IsServeComplete s status old new = IfSome old.file (λ text. IfSome old.client (λ bytes.
    (messages : List PgWireFrontendMessage) (rest : List ℕ) → length text ≤ file_limit → first_bad_line (lines_of text) ≡ None
    → IsFree s.pid new
    → IsSound old new → DividesInto true bytes messages rest
    → IsUnfinished (awaits_startup_after_all messages true) rest ⊎ IsBad (awaits_startup_after_all messages true) rest
    → HasTurns (relations_of (lines_of text)) s.turns bytes messages → old.counts.reads + s.turns < 2 ^ 64 → IsServeEnd status))

-- Completeness of each command. Of `serve` it is the above. Of `demo`: where pid 1 is free and no write fails, all lines are written, or
-- memory runs out.
abbrev pub IsRunComplete : Option Command → ℕ → Surroundings → Surroundings → Type 0
IsRunComplete None status old new = Unit {0}
IsRunComplete (Some (command.Serve s)) status old new = IsServeComplete s status old new
IsRunComplete (Some (command.Demo l)) status old new = IsFree (pos 1) new → ¬ HasRisen old.counts.write_faults new.counts.write_faults
    → (status ≡ 0) ⊎ (status ≡ 7)
