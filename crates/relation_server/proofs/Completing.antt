-- What comes of a command of the program: with turns enough, and where nothing fails, a good end.
use Rattle.std.proofs.Common.{◌≡◌, ◌≤◌, ◌<◌, ◌+◌, ◌⊎◌, ℕ, ℤ, List, [], ◌∷◌, Option, Some, None, Result, Ok, Err, IfSome, inl, inr, length, sym, ap, subst, ◌∙◌, refl, arith, true, pos}
use Rattle.std.specs.Prelude.{◌^◌}
use Rattle.std.proofs.lemmas.List.{length-append}
use Rattle.pg_cancel.specs.Connections.{Connection, Issuer, Witness, entry}
use Rattle.pg_cancel.specs.declared.entries.Entry.{Entry}
use Rattle.pg_cancel.specs.declared.entries.RegistryCall.TheVariants.{Register}
use Rattle.pg_cancel.specs.declared.entries.RegistryAnswer.TheVariants.{Registered}
use Rattle.pg_client.specs.declared.ends.EndKind.{EndKind}
use Rattle.pg_client.specs.declared.ends.EndKind.TheVariants as end
use Rattle.pg_messages.specs.declared.frontend.PgWireFrontendMessage.{PgWireFrontendMessage}
use Rattle.conversation_runs.specs.declared.ends.ServeError.{ServeError}
use Rattle.conversation_runs.specs.declared.ends.ServeError.TheVariants as fault
use Rattle.relation_files.specs.declared.errors.FileError.{FileError}
use Rattle.relation_files.specs.declared.errors.FileError.TheVariants as file
use Rattle.relation_files.specs.Files.{IsFileCause, IsToldBy, GaveAll, file_limit}
use Rattle.relation_files.specs.Lines.{lines_of}
use Rattle.relation_files.specs.Refusal.{first_bad_line}
use Rattle.relation_files.specs.Told.{relations_of}
use Rattle.pg_messages.specs.Frames.{DividesInto, IsBad, IsUnfinished, awaits_startup_after_all}
use Rattle.conversation_runs.specs.Streams.{HasRisen}
use Rattle.pg_engine.specs.Completeness.{HasFault, IsEndOrNoMemory}
use Rattle.relation_serving.specs.Completeness.{HasTurns, IsComplete}
use Rattle.relation_tables.specs.declared.Relation.{Relation}
use Rattle.relation_words.specs.declared.commands.Command.{Command}
use Rattle.relation_words.specs.declared.commands.Command.TheVariants as command
use Rattle.relation_words.specs.declared.commands.Load.{Load}
use Rattle.relation_words.specs.declared.commands.Service.{Service}
use Rattle.relation_server.specs.declared.outcome.Outcome.{Outcome}
use Rattle.relation_server.specs.declared.outcome.Outcome.TheVariants as out
use Rattle.relation_server.specs.Outcomes.{status_of}
use Rattle.status_lines.specs.StatusLines.{status_of_conversation, status_of_file, IsReported}
use Rattle.relation_server.specs.Program.{Surroundings, WasServed, newcomer, IsFree, HasServed, HasServedFile, HasShown, HasRun, IsServeEnd, IsServeComplete, IsRunComplete}

-- ---- a connection that has just been registered

abbrev connection : Issuer → ℕ → ℤ → List ℕ → List Entry → List Entry → Connection
connection issuer number pid key seen mine =
    record { issuer = issuer; number = number; pid = pid; key = key; seen = seen; mine = mine }

pub is_newcomer : (h : Connection) (issuer : Issuer) (pid : ℤ) (key : List ℕ) (seen : List Entry) → h.issuer ≡ issuer → h.pid ≡ pid
    → h.key ≡ key
    → h.seen ≡ seen → h.mine ≡ entry h.number (Register pid key) Registered ∷ [] → h ≡ newcomer issuer h.number (pid, key) seen
is_newcomer h issuer pid key seen a b c d e =
    ap (λ x. connection x h.number h.pid h.key h.seen h.mine) a ∙ ap (λ x. connection issuer h.number x h.key h.seen h.mine) b
    ∙ ap (λ x. connection issuer h.number pid x h.seen h.mine) c ∙ ap (λ x. connection issuer h.number pid key x h.mine) d
    ∙ ap (λ x. connection issuer h.number pid key seen x) e

-- ---- what a status tells

-- the status is the outcome's, or that of no memory
pub reported_status : (status ended faults new_faults refused new_refused : ℕ) (text : List ℕ) (old new : Option (List ℕ))
    → IsReported status text ended old new faults new_faults refused new_refused → (ended ≡ status) ⊎ (ended ≡ 7)
reported_status status ended faults new_faults refused new_refused text old new (inl (inl r)) = inl r.0
reported_status status ended faults new_faults refused new_refused text old new (inl (inr r)) = inl r.0
reported_status status ended faults new_faults refused new_refused text old new (inr r) = inr r.0

if_some : {A : Type 0} (o : Option A) (P : A → Type 0) → ((a : A) → o ≡ Some a → P a) → IfSome o P
if_some None P f = tt
if_some (Some a) P f = f a refl

-- ---- serve

-- the status of an end, or of want of memory
served_end : (answer : Result EndKind ServeError) (status : ℕ) → IsEndOrNoMemory answer
    → (status ≡ status_of_conversation answer) ⊎ (status ≡ 7)
    → IsServeEnd status
served_end answer status ends (inr is) = inr (inr (inr is))
served_end (Ok end.Terminate) status ends (inl is) = inl is
served_end (Ok end.InputEnd) status ends (inl is) = inl is
served_end (Ok end.CancelServed) status ends (inl is) = inl is
served_end (Ok end.BadFrame) status ends (inl is) = inr (inl is)
served_end (Ok end.Fatal) status ends (inl is) = inr (inr (inl is))
served_end (Err fault.NoMemory) status ends (inl is) = inr (inr (inr is))
served_end (Err fault.ReadFault) status ends (inl is) = absurd ends
served_end (Err fault.WriteFault) status ends (inl is) = absurd ends
served_end (Err fault.TurnLimit) status ends (inl is) = absurd ends

-- a file in which nothing is refused is refused for want of memory alone
sound_file : (e : FileError) (text : List ℕ) (new_left : Option (List ℕ)) (faults new_faults status : ℕ) → length text ≤ file_limit
    → first_bad_line (lines_of text) ≡ None → ¬ HasRisen faults new_faults → IsFileCause e (Some text) new_left faults new_faults
    → (status ≡ status_of_file e) ⊎ (status ≡ 7) → status ≡ 7
sound_file e text new_left faults new_faults status short good sound cause (inr is) = is
sound_file (file.BadLine number reason) text new_left faults new_faults status short good sound cause (inl is) =
    let same : text ≡ cause.0 = cause.1.0 in
    absurd (cc (sym good ∙ ap (λ x. first_bad_line (lines_of x)) same ∙ cause.3))
sound_file file.TooLong text new_left faults new_faults status short good sound cause (inl is) =
    let count : length text ≡ length cause.0 + length cause.1.0 = ap length cause.1.1 ∙ length-append cause.0 cause.1.0 in
    absurd (omega (arith, count, short, cause.2))
sound_file file.FileFault text new_left faults new_faults status short good sound cause (inl is) = absurd (sound cause.0)
sound_file file.NoMemory text new_left faults new_faults status short good sound cause (inl is) = is

-- the relations that a whole text tells
relations_told : (relations : List Relation) (text : List ℕ) (left new_left : Option (List ℕ)) → left ≡ Some text
    → IsToldBy left new_left relations
    → relations_of (lines_of text) ≡ relations
relations_told relations text left new_left is told =
    let whole : text ≡ told.0 = (subst (λ l. GaveAll l new_left told.0) is told.1).0 in
    ap (λ x. relations_of (lines_of x)) whole ∙ sym told.4

conversed_end : (issuer : Issuer) (s : Service) (relations : List Relation) (answer : Result EndKind ServeError) (w : Option Witness)
    (old new : Surroundings) (bytes : List ℕ) (messages : List PgWireFrontendMessage) (rest : List ℕ) (status : ℕ)
    → WasServed issuer s relations answer w old new → old.client ≡ Some bytes
    → ¬ HasFault old.counts new.counts → DividesInto true bytes messages rest
    → IsUnfinished (awaits_startup_after_all messages true) rest ⊎ IsBad (awaits_startup_after_all messages true) rest
    → HasTurns relations s.turns bytes messages → old.counts.reads + s.turns < 2 ^ 64
    → (status ≡ status_of_conversation answer) ⊎ (status ≡ 7) → IsServeEnd status
conversed_end issuer s relations answer w old new bytes messages rest status served is sound d h turns fits reported =
    let complete = subst (λ l. IsComplete relations s.turns answer l old.counts new.counts) is served.conversed.complete in
    served_end answer status (complete messages rest d h turns fits sound) reported

serve_end : (issuer : Issuer) (s : Service) (relations : List Relation) (outcome : Outcome) (w : Option Witness)
    (old new : Surroundings) (bytes : List ℕ) (messages : List PgWireFrontendMessage) (rest : List ℕ) (status : ℕ)
    → HasServed issuer s relations outcome w old new → IsFree s.pid new → old.client ≡ Some bytes
    → ¬ HasFault old.counts new.counts → DividesInto true bytes messages rest
    → IsUnfinished (awaits_startup_after_all messages true) rest ⊎ IsBad (awaits_startup_after_all messages true) rest
    → HasTurns relations s.turns bytes messages → old.counts.reads + s.turns < 2 ^ 64
    → (status ≡ status_of outcome) ⊎ (status ≡ 7) → IsServeEnd status
serve_end issuer s relations out.PidTaken w old new bytes messages rest status served free is sound d h turns fits reported =
    absurd (free served.0.holder served.0.has_pid)
serve_end issuer s relations (out.Conversation answer) w old new bytes messages rest status (inl served) free is sound d h turns fits
    reported =
    conversed_end issuer s relations answer w old new bytes messages rest status served is sound d h turns fits reported
serve_end issuer s relations (out.Conversation answer) w old new bytes messages rest status (inr wanted) free is sound d h turns fits
    (inl told) =
    inr (inr (inr (told ∙ ap status_of_conversation wanted.0)))
serve_end issuer s relations (out.Conversation answer) w old new bytes messages rest status (inr wanted) free is sound d h turns fits
    (inr told) =
    inr (inr (inr told))
serve_end issuer s relations out.Done w old new bytes messages rest status served free is sound d h turns fits reported = absurd served
serve_end issuer s relations out.Usage w old new bytes messages rest status served free is sound d h turns fits reported = absurd served
serve_end issuer s relations (out.File e) w old new bytes messages rest status served free is sound d h turns fits reported = absurd served
serve_end issuer s relations out.AcceptFault w old new bytes messages rest status served free is sound d h turns fits reported =
    absurd served
serve_end issuer s relations out.SpawnFault w old new bytes messages rest status served free is sound d h turns fits reported =
    absurd served

abbrev HasServedTold : Issuer → Service → Outcome → Option Witness → Surroundings → Surroundings → Type 0
HasServedTold issuer s outcome w old new = (relations : List Relation) × IsToldBy old.file new.file relations
    × HasServed issuer s relations outcome w old new

-- either the file was refused, or its relations were served
serve_parts : (issuer : Issuer) (s : Service) (outcome : Outcome) (w : Option Witness) (old new : Surroundings)
    → HasServedFile issuer s outcome w old new
    → ((e : FileError) × (outcome ≡ out.File e) × IsFileCause e old.file new.file old.file_faults new.file_faults)
    ⊎ HasServedTold issuer s outcome w old new
serve_parts issuer s (out.File e) w old new h = inl (e, refl, h.0)
serve_parts issuer s out.PidTaken w old new h = inr h
serve_parts issuer s (out.Conversation answer) w old new h = inr h
serve_parts issuer s out.Done w old new h = inr h
serve_parts issuer s out.Usage w old new h = inr h
serve_parts issuer s out.AcceptFault w old new h = inr h
serve_parts issuer s out.SpawnFault w old new h = inr h

either_end : {A B C : Type 0} → A ⊎ B → (A → C) → (B → C) → C
either_end (inl a) f g = f a
either_end (inr b) f g = g b

serve_complete : (issuer : Issuer) (s : Service) (outcome : Outcome) (w : Option Witness) (old new : Surroundings) (status : ℕ)
    → HasServedFile issuer s outcome w old new → (status ≡ status_of outcome) ⊎ (status ≡ 7) → IsServeComplete s status old new
serve_complete issuer s outcome w old new status h reported =
    if_some old.file (λ text. _) (λ text read. if_some old.client (λ bytes. _)
    (λ bytes is messages rest short good free sound d e turns fits.
    either_end (serve_parts issuer s outcome w old new h)
    (λ refused. inr (inr (inr (sound_file refused.0 text new.file old.file_faults new.file_faults status short good sound.0
    (subst (λ l. IsFileCause refused.0 l new.file old.file_faults new.file_faults) read refused.2)
    (subst (λ o. (status ≡ status_of o) ⊎ (status ≡ 7)) refused.1 reported)))))
    (λ served. serve_end issuer s served.0 outcome w old new bytes messages rest status served.2 free is sound.1 d e
    (subst (λ r. HasTurns r s.turns bytes messages) (relations_told served.0 text old.file new.file read served.1) turns) fits reported)))

-- ---- demo

demo_complete : (issuer : Issuer) (l : Load) (outcome : Outcome) (w : Option Witness) (old new : Surroundings) (status : ℕ)
    → HasShown issuer l outcome w old new → (status ≡ status_of outcome) ⊎ (status ≡ 7) → IsFree (pos 1) new
    → ¬ HasRisen old.counts.write_faults new.counts.write_faults → (status ≡ 0) ⊎ (status ≡ 7)
demo_complete issuer l outcome w old new status h (inr is) free sound = inr is
demo_complete issuer l out.Done w old new status h (inl is) free sound = inl is
demo_complete issuer l out.PidTaken w old new status h (inl is) free sound = absurd (free h.0.holder h.0.has_pid)
demo_complete issuer l (out.Conversation (Err fault.WriteFault)) w old new status h (inl is) free sound = absurd (sound h.0)
demo_complete issuer l (out.Conversation (Err fault.NoMemory)) w old new status h (inl is) free sound = inr is
demo_complete issuer l (out.Conversation (Err fault.ReadFault)) w old new status h (inl is) free sound = absurd h
demo_complete issuer l (out.Conversation (Err fault.TurnLimit)) w old new status h (inl is) free sound = absurd h
demo_complete issuer l (out.Conversation (Ok kind)) w old new status h (inl is) free sound = absurd h
demo_complete issuer l out.Usage w old new status h (inl is) free sound = absurd h
demo_complete issuer l (out.File e) w old new status h (inl is) free sound = absurd h
demo_complete issuer l out.AcceptFault w old new status h (inl is) free sound = absurd h
demo_complete issuer l out.SpawnFault w old new status h (inl is) free sound = absurd h

-- ---- all of it

-- the status of want of memory is a good one
no_memory : (s : Service) (status : ℕ) (old new : Surroundings) → status ≡ 7 → IsServeComplete s status old new
no_memory s status old new is =
    if_some old.file (λ text. _) (λ text read. if_some old.client (λ bytes. _)
    (λ bytes all messages rest short good free sound d h turns fits. inr (inr (inr is))))

pub run_complete : (issuer : Issuer) (command : Option Command) (outcome : Outcome) (w : Option Witness) (old new : Surroundings)
    (status : ℕ)
    → HasRun issuer command outcome w old new → (status ≡ status_of outcome) ⊎ (status ≡ 7) → IsRunComplete command status old new
run_complete issuer None outcome w old new status h reported = tt
run_complete issuer (Some (command.Serve s)) outcome w old new status (inl h) reported =
    serve_complete issuer s outcome w old new status h reported
run_complete issuer (Some (command.Serve s)) outcome w old new status (inr wanted) (inl told) =
    no_memory s status old new (told ∙ ap status_of wanted.0)
run_complete issuer (Some (command.Serve s)) outcome w old new status (inr wanted) (inr told) = no_memory s status old new told
run_complete issuer (Some (command.Demo l)) outcome w old new status h reported =
    demo_complete issuer l outcome w old new status h.0 reported
