-- What comes of the program over what is outside of it: the standard input, and a place to listen at.
use Rattle.std.specs.Prelude.{ℕ, List, [], ◌≡◌, ◌⊎◌, Option, Err}
use Rattle.conversation_runs.specs.declared.ends.ServeError.TheVariants.{NoMemory}
use Rattle.pg_cancel.specs.Connections.{Issuer, Witness}
use Rattle.program_io.specs.Telling.{Written}
use Rattle.relation_words.specs.declared.commands.Command.{Command}
use Rattle.status_lines.specs.StatusLines.{IsReported}
use Rattle.relation_server.specs.declared.outcome.Outcome.{Outcome}
use Rattle.relation_server.specs.declared.outcome.Outcome.TheVariants.{Conversation}
use Rattle.relation_server.specs.Outcomes.{status_of, line_of}
use Rattle.relation_server.specs.Program.{Surroundings, ListenSurroundings, HasRun, HasRunListening, IsRunComplete}

-- this outcome was told: its line was written to the error output, and this status answered
abbrev pub IsToldOf : Outcome → ℕ → Written → Written → Type 0
IsToldOf outcome status err new_err = IsReported (status_of outcome) (line_of outcome) status err.bytes new_err.bytes err.faults
    new_err.faults err.refused new_err.refused

-- ---- the standard input

-- A command was carried out over the standard input and this output.
pub record WasCarriedOut (c : Option Command) (outcome : Outcome) (status : ℕ) (out new_out : Written) : Type 0 where
  -- the registry, which is the command's own
  pub issuer : Issuer
  -- what the connection had seen of its history, if one was registered
  pub noted : Option Witness
  -- what surrounded the program before
  pub old : Surroundings
  -- and after
  pub new : Surroundings
  -- what was written for the client went to this output
  pub written : (old.out ≡ out.bytes) × (new.out ≡ new_out.bytes)
  -- which counted the faults of that
  pub counted : (old.counts.write_faults ≡ out.faults) × (new.counts.write_faults ≡ new_out.faults)
  -- nothing had been read of the client
  pub unread : (old.counts.reads ≡ 0) × (old.counts.read_faults ≡ 0)
  -- no read of the file had failed
  pub unfailed : old.file_faults ≡ 0
  -- the registry had no history
  pub empty : old.seen ≡ []
  -- the command came to this outcome
  pub ran : HasRun issuer c outcome noted old new
  -- where nothing failed, it came to a good end
  pub complete : IsRunComplete c status old new

-- The command of the words was carried out; or there was no memory for the registry, and nothing was written to the output. What came of it
-- was told.
pub record HasServedStandard (c : Option Command) (status : ℕ) (out new_out err new_err : Written) : Type 0 where
  pub outcome : Outcome
  pub came : WasCarriedOut c outcome status out new_out ⊎ ((outcome ≡ Conversation (Err NoMemory)) × (new_out ≡ out))
  pub told : IsToldOf outcome status err new_err

-- ---- a place to listen at

-- What a spawner has counted, the jobs that it started and its faults, and the jobs that it took, where they are told.
pub record Starts (J : Type 0) : Type 0 where
  pub started : ℕ
  pub faults : ℕ
  pub taken : Option (List J)

-- the same, by what its trait tells
abbrev pub starts_of : {J P : Type 0} → (P → ℕ) → (P → ℕ) → (P → Option (List J)) → P → Starts J
starts_of started faults taken spawner = record { started = started spawner; faults = faults spawner; taken = taken spawner }

-- The words were obeyed at a place that was bound for them, with this spawner.
pub record HasListenedThere {J : Type 0} (count : Option (Option ℕ)) (outcome : Outcome) (starts new_starts : Starts J) : Type 0 where
  -- what surrounded the program before
  pub old : ListenSurroundings
  -- and after
  pub new : ListenSurroundings
  -- the jobs went to this spawner
  pub started : (old.taking.started ≡ starts.started) × (new.taking.started ≡ new_starts.started)
  -- which counted its faults
  pub counted : (old.taking.start_faults ≡ starts.faults) × (new.taking.start_faults ≡ new_starts.faults)
  -- no connection had been accepted at the place
  pub unused : old.taking.accepted ≡ 0
  -- no read of the file had failed
  pub unfailed : old.file_faults ≡ 0
  -- the registry had no history
  pub empty : old.seen ≡ []
  -- listening came to this outcome
  pub ran : HasRunListening count outcome old new

-- The words were obeyed at the place; or there was no memory for the registry, and the spawner was given nothing. What came of it was told.
pub record HasServedPlace {J : Type 0} (count : Option (Option ℕ)) (status : ℕ) (starts new_starts : Starts J) (err new_err : Written)
    : Type 0 where
  pub outcome : Outcome
  pub came : HasListenedThere count outcome starts new_starts ⊎ ((outcome ≡ Conversation (Err NoMemory)) × (new_starts ≡ starts))
  pub told : IsToldOf outcome status err new_err
