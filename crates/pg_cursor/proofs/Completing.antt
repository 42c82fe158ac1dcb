-- What comes of the program: with turns enough, and where nothing fails, a good end.
use Rattle.std.proofs.Common.{◌≡◌, ◌≤◌, ◌<◌, ◌+◌, ◌⊎◌, ℕ, List, Option, Some, None, Result, Ok, Err, IfSome, inl, inr, length, sym, ap, subst, ◌∙◌, refl, arith, true}
use Rattle.std.specs.Prelude.{◌^◌}
use Rattle.std.proofs.lemmas.List.{length-append}
use Rattle.pg_client.specs.declared.ends.EndKind.{EndKind}
use Rattle.pg_client.specs.declared.ends.EndKind.TheVariants as end
use Rattle.pg_messages.specs.declared.frontend.PgWireFrontendMessage.{PgWireFrontendMessage}
use Rattle.pg_messages.specs.Frames.{DividesInto, IsBad, IsUnfinished, awaits_startup_after_all}
use Rattle.conversation_runs.specs.declared.ends.ServeError.{ServeError}
use Rattle.conversation_runs.specs.declared.ends.ServeError.TheVariants as fault
use Rattle.conversation_runs.specs.Streams.{HasRisen}
use Rattle.relation_files.specs.declared.errors.FileError.{FileError}
use Rattle.relation_files.specs.declared.errors.FileError.TheVariants as file
use Rattle.relation_files.specs.Files.{IsFileCause, IsToldBy, GaveAll, file_limit}
use Rattle.relation_files.specs.Lines.{lines_of}
use Rattle.relation_files.specs.Refusal.{first_bad_line}
use Rattle.relation_files.specs.Told.{relations_of}
use Rattle.pg_engine.specs.Completeness.{HasFault, IsEndOrNoMemory}
use Rattle.relation_serving.specs.Completeness.{HasTurns, IsComplete}
use Rattle.relation_tables.specs.declared.Relation.{Relation}
use Rattle.relation_words.specs.declared.commands.Command.{Command}
use Rattle.relation_words.specs.declared.commands.Command.TheVariants as command
use Rattle.relation_words.specs.declared.commands.Service.{Service}
use Rattle.status_lines.specs.StatusLines.{status_of_conversation, status_of_file, IsReported}
use Rattle.pg_cursor.specs.declared.outcome.Outcome.{Outcome}
use Rattle.pg_cursor.specs.declared.outcome.Outcome.TheVariants.{Usage, File, Conversation}
use Rattle.pg_cursor.specs.Program.{Surroundings, HasServedFile, HasRun, IsServeEnd, IsServeComplete, IsRunComplete}
use Rattle.pg_cursor.specs.Statuses.{status_of}

-- ---- what a status tells

-- the status is the outcome's, or that of no memory
pub reported_status : (status ended faults new_faults refused new_refused : ℕ) (text : List ℕ) (old new : Option (List ℕ))
    → IsReported status text ended old new faults new_faults refused new_refused → (ended ≡ status) ⊎ (ended ≡ 7)
reported_status status ended faults new_faults refused new_refused text old new (inl (inl r)) = inl r.0
reported_status status ended faults new_faults refused new_refused text old new (inl (inr r)) = inl r.0
reported_status status ended faults new_faults refused new_refused text old new (inr r) = inr r.0

if_some : {A : Type 0} (o : Option A) (P : A → Type 0) → ((a : A) → o ≡ Some a → P a) → IfSome o P
if_some None P f = tt
if_some (Some a) P f = f a refl

-- ---- serve

-- the status of an end, or of want of memory
served_end : (answer : Result EndKind ServeError) (status : ℕ) → IsEndOrNoMemory answer
    → (status ≡ status_of_conversation answer) ⊎ (status ≡ 7)
    → IsServeEnd status
served_end answer status ends (inr is) = inr (inr (inr is))
served_end (Ok end.Terminate) status ends (inl is) = inl is
served_end (Ok end.InputEnd) status ends (inl is) = inl is
served_end (Ok end.CancelServed) status ends (inl is) = inl is
served_end (Ok end.BadFrame) status ends (inl is) = inr (inl is)
served_end (Ok end.Fatal) status ends (inl is) = inr (inr (inl is))
served_end (Err fault.NoMemory) status ends (inl is) = inr (inr (inr is))
served_end (Err fault.ReadFault) status ends (inl is) = absurd ends
served_end (Err fault.WriteFault) status ends (inl is) = absurd ends
served_end (Err fault.TurnLimit) status ends (inl is) = absurd ends

-- a file in which nothing is refused is refused for want of memory alone
sound_file : (e : FileError) (text : List ℕ) (new_left : Option (List ℕ)) (faults new_faults status : ℕ) → length text ≤ file_limit
    → first_bad_line (lines_of text) ≡ None → ¬ HasRisen faults new_faults → IsFileCause e (Some text) new_left faults new_faults
    → (status ≡ status_of_file e) ⊎ (status ≡ 7) → status ≡ 7
sound_file e text new_left faults new_faults status short good sound cause (inr is) = is
sound_file (file.BadLine number reason) text new_left faults new_faults status short good sound cause (inl is) =
    let same : text ≡ cause.0 = cause.1.0 in
    absurd (cc (sym good ∙ ap (λ x. first_bad_line (lines_of x)) same ∙ cause.3))
sound_file file.TooLong text new_left faults new_faults status short good sound cause (inl is) =
    let count : length text ≡ length cause.0 + length cause.1.0 = ap length cause.1.1 ∙ length-append cause.0 cause.1.0 in
    absurd (omega (arith, count, short, cause.2))
sound_file file.FileFault text new_left faults new_faults status short good sound cause (inl is) = absurd (sound cause.0)
sound_file file.NoMemory text new_left faults new_faults status short good sound cause (inl is) = is

-- the relations that a whole text tells
relations_told : (relations : List Relation) (text : List ℕ) (left new_left : Option (List ℕ)) → left ≡ Some text
    → IsToldBy left new_left relations
    → relations_of (lines_of text) ≡ relations
relations_told relations text left new_left is told =
    let whole : text ≡ told.0 = (subst (λ l. GaveAll l new_left told.0) is told.1).0 in
    ap (λ x. relations_of (lines_of x)) whole ∙ sym told.4

serve_end : (s : Service) (outcome : Outcome) (old new : Surroundings) (text bytes : List ℕ) (messages : List PgWireFrontendMessage)
    (rest : List ℕ) (status : ℕ)
    → HasServedFile s outcome old new → (status ≡ status_of outcome) ⊎ (status ≡ 7) → old.file ≡ Some text → old.client ≡ Some bytes
    → length text ≤ file_limit → first_bad_line (lines_of text) ≡ None → ¬ HasRisen old.file_faults new.file_faults
    → ¬ HasFault old.counts new.counts → DividesInto true bytes messages rest
    → IsUnfinished (awaits_startup_after_all messages true) rest ⊎ IsBad (awaits_startup_after_all messages true) rest
    → HasTurns (relations_of (lines_of text)) s.turns bytes messages → old.counts.reads + s.turns < 2 ^ 64 → IsServeEnd status
serve_end s Usage old new text bytes messages rest status h reported read is short good whole sound d e turns fits = absurd h
serve_end s (File error) old new text bytes messages rest status h reported read is short good whole sound d e turns fits =
    inr (inr (inr (sound_file error text new.file old.file_faults new.file_faults status short good whole
    (subst (λ l. IsFileCause error l new.file old.file_faults new.file_faults) read h.0) reported)))
serve_end s (Conversation answer) old new text bytes messages rest status h reported read is short good whole sound d e turns fits =
    let complete = subst (λ l. IsComplete h.0 s.turns answer l old.counts new.counts) is h.2.complete in
    let enough = subst (λ r. HasTurns r s.turns bytes messages) (relations_told h.0 text old.file new.file read h.1) turns in
    served_end answer status (complete messages rest d e enough fits sound) reported

serve_complete : (s : Service) (outcome : Outcome) (old new : Surroundings) (status : ℕ) → HasServedFile s outcome old new
    → (status ≡ status_of outcome) ⊎ (status ≡ 7)
    → IsServeComplete s status old new
serve_complete s outcome old new status h reported =
    if_some old.file (λ text. _) (λ text read. if_some old.client (λ bytes. _)
    (λ bytes is messages rest short good sound d e turns fits.
    serve_end s outcome old new text bytes messages rest status h reported read is short good sound.0 sound.1 d e turns fits))

-- the status of want of memory is a good one
no_memory : (s : Service) (status : ℕ) (old new : Surroundings) → status ≡ 7 → IsServeComplete s status old new
no_memory s status old new is =
    if_some old.file (λ text. _) (λ text read. if_some old.client (λ bytes. _)
    (λ bytes all messages rest short good sound d e turns fits. inr (inr (inr is))))

pub run_complete : (order : Option Command) (outcome : Outcome) (old new : Surroundings) (status : ℕ) → HasRun order outcome old new
    → (status ≡ status_of outcome) ⊎ (status ≡ 7)
    → IsRunComplete order status old new
run_complete None outcome old new status h reported = tt
run_complete (Some (command.Serve s)) outcome old new status (inl h) reported = serve_complete s outcome old new status h reported
run_complete (Some (command.Serve s)) outcome old new status (inr wanted) (inl told) =
    no_memory s status old new (told ∙ ap status_of wanted.0)
run_complete (Some (command.Serve s)) outcome old new status (inr wanted) (inr told) = no_memory s status old new told
run_complete (Some (command.Demo l)) outcome old new status h reported = tt
