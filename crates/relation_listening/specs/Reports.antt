-- What a program that listens tells: a status, and a line on its error output where there is one.
use Rattle.std.specs.Prelude.{ℕ, List, [], Option, Result, Ok, Err, codes}
use Rattle.many_clients.specs.declared.accept_loop.ListenError.{ListenError}
use Rattle.many_clients.specs.declared.accept_loop.ListenError.TheVariants.{AcceptFault, SpawnFault, PidTaken, NoMemory}
use Rattle.relation_files.specs.declared.errors.FileError.{FileError}
use Rattle.relation_files.specs.Files.{IsFileCause}
use Rattle.status_lines.specs.StatusLines.{IsReported, line, line_of_file, status_of_file}

-- the status of how listening ended
abbrev pub status_of_listening : Result ℕ ListenError → ℕ
status_of_listening (Ok n) = 0
status_of_listening (Err AcceptFault) = 12
status_of_listening (Err SpawnFault) = 13
status_of_listening (Err (PidTaken m)) = 8
status_of_listening (Err NoMemory) = 7

-- the line of how listening ended, or none
abbrev pub line_of_listening : Result ℕ ListenError → List ℕ
line_of_listening (Ok n) = []
line_of_listening (Err AcceptFault) = line (codes "accept fault")
line_of_listening (Err SpawnFault) = line (codes "spawn fault")
line_of_listening (Err (PidTaken m)) = line (codes "pid is taken")
line_of_listening (Err NoMemory) = line (codes "out of memory")

-- A relation file gave no relations, for a cause that it had, and that was told by its line and its status.
pub record IsFileRefused (status : ℕ) (left new_left : Option (List ℕ)) (file_faults new_file_faults : ℕ)
    (old new : Option (List ℕ)) (faults new_faults refused new_refused : ℕ) : Type 0 where
  pub error : FileError
  pub cause : IsFileCause error left new_left file_faults new_file_faults
  pub reported : IsReported (status_of_file error) (line_of_file error) status old new faults new_faults refused new_refused
