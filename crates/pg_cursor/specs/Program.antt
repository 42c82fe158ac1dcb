-- What the program owes: what comes of its words.
use Rattle.std.specs.Prelude.{ℕ, true, false, List, [], ◌∷◌, ◌≡◌, ◌≤◌, ◌<◌, ◌+◌, ◌^◌, ◌⊎◌, Option, Some, None, Result, Err, IfSome, OnOk, length}
use Rattle.std.specs.List.{AllByRecursion}
use Rattle.pg_messages.specs.declared.frontend.PgWireFrontendMessage.{PgWireFrontendMessage}
use Rattle.pg_messages.specs.Frames.{DividesInto, IsBad, IsUnfinished, awaits_startup_after_all}
use Rattle.pg_client.specs.declared.desk.DeskCall.{DeskCall}
use Rattle.pg_client.specs.declared.ends.EndKind.{EndKind}
use Rattle.pg_client.specs.Answer.{answers_of}
use Rattle.conversation_table.specs.Questions.{questions}
use Rattle.conversation_runs.specs.declared.ends.ServeError.{ServeError}
use Rattle.conversation_runs.specs.declared.ends.ServeError.TheVariants.{NoMemory}
use Rattle.conversation_runs.specs.Streams.{HasRisen}
use Rattle.pg_engine.specs.Serving.{Counts, HasCause, IsCalm, ReadsGaveBytes, counts_of}
use Rattle.relation_files.specs.Files.{IsToldBy, IsFileCause, file_limit}
use Rattle.relation_files.specs.Lines.{lines_of}
use Rattle.relation_files.specs.Refusal.{first_bad_line}
use Rattle.relation_files.specs.Told.{relations_of}
use Rattle.pg_engine.specs.Completeness.{HasFault}
use Rattle.relation_serving.specs.Completeness.{HasTurns, IsComplete}
use Rattle.relation_tables.specs.declared.Relation.{Relation}
use Rattle.relation_words.specs.declared.commands.Command.{Command}
use Rattle.relation_words.specs.declared.commands.Command.TheVariants as command
use Rattle.relation_words.specs.declared.commands.Service.{Service}
use Rattle.cursor_serving.specs.Serving.{WentByCursors}
use Rattle.pg_cursor.specs.declared.outcome.Outcome.{Outcome}
use Rattle.pg_cursor.specs.declared.outcome.Outcome.TheVariants.{Usage, File, Conversation}

-- What the program sees of its surroundings, when it begins and when it ends: what is left of the relation file and of the client's bytes,
-- what was written, and the counts.
pub record Surroundings : Type 0 where
  pub file : Option (List ℕ)
  pub file_faults : ℕ
  pub client : Option (List ℕ)
  pub out : Option (List ℕ)
  pub counts : Counts

-- the counts of faults
abbrev pub fault_counts : Surroundings → List ℕ
fault_counts s = s.file_faults ∷ s.counts.read_faults ∷ s.counts.write_faults ∷ []

-- the surroundings by what their traits tell
abbrev pub surroundings : {F S K : Type 0} → (F → Option (List ℕ)) → (F → ℕ) → (S → Option (List ℕ)) → (S → ℕ) → (S → ℕ)
    → (K → Option (List ℕ)) → (K → ℕ)
    → F → S → K → Surroundings
surroundings left faults client_left reads read_faults written write_faults file client out = record {
  file = left file;
  file_faults = faults file;
  client = client_left client;
  out = written out;
  counts = counts_of reads read_faults write_faults client out;
}

-- the client and what was written for it stand as they stood
abbrev pub IsClientUntouched : Surroundings → Surroundings → Type 0
IsClientUntouched old new = (new.client ≡ old.client) × (new.out ≡ old.out) × (new.counts ≡ old.counts)

-- A client was served over the relations under a pid and a key. What was written and the registry calls are the cursor table's answer to
-- the client's bytes, with each question answered no. The conversation's end, or what it was given up for, has its cause. Enough turns
-- bring it to its end.
pub record WasServed (s : Service) (relations : List Relation) (answer : Result EndKind ServeError)
    (left new_left old new : Option (List ℕ)) (before after : Counts) : Type 0 where
  pub calls : List DeskCall
  pub answered : AllByRecursion (λ yes. yes ≡ false) (answers_of calls)
  pub went : WentByCursors relations (s.pid, s.key) answer left new_left old new calls
  pub cause : HasCause answer s.turns (questions calls) before after
  pub calm : OnOk answer (IsCalm before after)
  pub complete : IsComplete relations s.turns answer left before after
  pub gave : ReadsGaveBytes left new_left before.reads after.reads

-- What came of `serve`: the file was refused, or else its relations were served.
abbrev pub HasServedFile : Service → Outcome → Surroundings → Surroundings → Type 0
HasServedFile s Usage old new = ⊥
HasServedFile s (File e) old new = IsFileCause e old.file new.file old.file_faults new.file_faults × IsClientUntouched old new
HasServedFile s (Conversation answer) old new = (relations : List Relation) × IsToldBy old.file new.file relations
    × WasServed s relations answer old.client new.client old.out new.out old.counts new.counts

-- What came of the words: nothing where they are no `serve`, and else what came of it. There may be no memory for its key; then nothing was
-- done.
abbrev pub HasRun : Option Command → Outcome → Surroundings → Surroundings → Type 0
HasRun (Some (command.Serve s)) outcome old new = HasServedFile s outcome old new
    ⊎ ((outcome ≡ Conversation (Err NoMemory)) × (new ≡ old))
HasRun (Some (command.Demo l)) outcome old new = (outcome ≡ Usage) × (new ≡ old)
HasRun None outcome old new = (outcome ≡ Usage) × (new ≡ old)

-- ---- completeness

-- no count of faults rose
abbrev pub IsSound : Surroundings → Surroundings → Type 0
IsSound old new = ¬ HasRisen old.file_faults new.file_faults × ¬ HasFault old.counts new.counts

-- `serve` came to the end of a conversation (0, 10 at a bad frame, 11 at a fatal error), or memory ran out (7)
abbrev pub IsServeEnd : ℕ → Type 0
IsServeEnd status = (status ≡ 0) ⊎ ((status ≡ 10) ⊎ ((status ≡ 11) ⊎ (status ≡ 7)))

-- Where nothing is refused in a file, no count of faults rises, and the turns are enough for the client's bytes, whatever they are, `serve`
-- comes to its end, or memory runs out.
abbrev pub IsServeComplete : Service → ℕ → Surroundings → Surroundings → Type 0
IsServeComplete s status old new = IfSome old.file (λ text. IfSome old.client (λ bytes.
    (messages : List PgWireFrontendMessage) (rest : List ℕ) → length text ≤ file_limit → first_bad_line (lines_of text) ≡ None
    → IsSound old new → DividesInto true bytes messages rest
    → IsUnfinished (awaits_startup_after_all messages true) rest ⊎ IsBad (awaits_startup_after_all messages true) rest
    → HasTurns (relations_of (lines_of text)) s.turns bytes messages → old.counts.reads + s.turns < 2 ^ 64 → IsServeEnd status))

abbrev pub IsRunComplete : Option Command → ℕ → Surroundings → Surroundings → Type 0
IsRunComplete (Some (command.Serve s)) status old new = IsServeComplete s status old new
IsRunComplete (Some (command.Demo l)) status old new = Unit {0}
IsRunComplete None status old new = Unit {0}
