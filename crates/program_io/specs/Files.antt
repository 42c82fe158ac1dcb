-- What a file gives, which could be opened or not.
use Rattle.std.specs.Prelude.{ℕ, List, Option, Result, IsErr}
use Rattle.std.specs.Io.KnownBytes.{ReadConsumes}
use Rattle.conversation_runs.specs.declared.streams.SourceFailed.{SourceFailed}
use Rattle.program_io.specs.declared.opened_file.OpenedFile.{OpenedFile}
use Rattle.program_io.specs.declared.opened_file.OpenedFile.TheVariants.{Opened, Unopened}

-- the reads of a file that gave at least one byte
abbrev pub reads_of_file : {R : Type 0} → OpenedFile R → ℕ
reads_of_file (Opened file) = file.reads
reads_of_file (Unopened faults) = 0

-- the reads of a file that failed
abbrev pub faults_of_file : {R : Type 0} → OpenedFile R → ℕ
faults_of_file (Opened file) = file.faults
faults_of_file (Unopened faults) = faults

-- the file could not be opened
abbrev pub IsUnopened : {R : Type 0} → OpenedFile R → Type 0
IsUnopened (Opened file) = ⊥
IsUnopened (Unopened faults) = Unit {0}

-- What a read of a file did. A file that was opened stays so, and what is known of its bytes goes on: they come in their order, and an end
-- only where none is left. Each read of one that could not be opened answers an error.
abbrev pub ReadsOn : {R : Type 0} → (R → Option (List ℕ)) → OpenedFile R → OpenedFile R → Result ℕ SourceFailed → List ℕ → Type 0
ReadsOn remaining (Opened file) (Opened rest) result into = ReadConsumes (remaining file.reader) (remaining rest.reader) result into
ReadsOn remaining (Unopened faults) (Unopened more) result into = IsErr result
ReadsOn remaining _ _ result into = ⊥
