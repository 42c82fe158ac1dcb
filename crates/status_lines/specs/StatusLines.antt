-- How programs report an outcome: by a status, and by a line on their error output where there is one.
use Rattle.std.specs.Prelude.{ℕ, List, [], ◌++◌, ◌∷◌, ◌≡◌, ◌≢◌, ◌≤◌, ◌+◌, ◌⊎◌, Option, Result, Ok, Err, codes, decimal, min}
use Rattle.pg_client.specs.declared.ends.EndKind.{EndKind}
use Rattle.pg_client.specs.declared.ends.EndKind.TheVariants.{Terminate, InputEnd, BadFrame, Fatal, CancelServed}
use Rattle.conversation_runs.specs.declared.ends.ServeError.{ServeError}
use Rattle.conversation_runs.specs.declared.ends.ServeError.TheVariants.{ReadFault, WriteFault, TurnLimit, NoMemory}
use Rattle.conversation_runs.specs.Streams.{GrowsBy, GrowsByFront, HasRisen, greatest_count}
use Rattle.relation_files.specs.declared.errors.FileError.{FileError}
use Rattle.relation_files.specs.declared.errors.FileError.TheVariants as file
use Rattle.relation_files.specs.declared.errors.LineReason.{LineReason}
use Rattle.relation_files.specs.declared.errors.LineReason.TheVariants as reason

-- ---- the status

-- of a conversation's end, or of what it was given up for
abbrev pub status_of_conversation : Result EndKind ServeError → ℕ
status_of_conversation (Ok Terminate) = 0
status_of_conversation (Ok InputEnd) = 0
status_of_conversation (Ok CancelServed) = 0
status_of_conversation (Ok BadFrame) = 10
status_of_conversation (Ok Fatal) = 11
status_of_conversation (Err ReadFault) = 4
status_of_conversation (Err WriteFault) = 5
status_of_conversation (Err TurnLimit) = 6
status_of_conversation (Err NoMemory) = 7

-- of a relation file that was refused
abbrev pub status_of_file : FileError → ℕ
status_of_file (file.BadLine number reason) = 3
status_of_file file.TooLong = 3
status_of_file file.FileFault = 9
status_of_file file.NoMemory = 7

-- ---- the line, where there is one

-- a line of text
abbrev pub line : List ℕ → List ℕ
line text = text ++ 10 ∷ []

abbrev pub line_of_conversation : Result EndKind ServeError → List ℕ
line_of_conversation (Ok Terminate) = []
line_of_conversation (Ok InputEnd) = []
line_of_conversation (Ok CancelServed) = []
line_of_conversation (Ok BadFrame) = line (codes "bad frame")
line_of_conversation (Ok Fatal) = line (codes "fatal")
line_of_conversation (Err ReadFault) = line (codes "read fault")
line_of_conversation (Err WriteFault) = line (codes "write fault")
line_of_conversation (Err TurnLimit) = line (codes "turn limit")
line_of_conversation (Err NoMemory) = line (codes "out of memory")

-- the word for what is wrong with a line of a relation file
abbrev pub reason_text : LineReason → List ℕ
reason_text reason.Text = codes "text"
reason_text reason.Header = codes "header"
reason_text reason.Name = codes "name"
reason_text reason.Column = codes "column"
reason_text reason.Width = codes "width"
reason_text (reason.Cell e) = codes "cell"

-- the line of a bad line, by its number
abbrev pub bad_line : ℕ → LineReason → List ℕ
bad_line number reason = codes "line " ++ decimal number ++ codes ": " ++ reason_text reason ++ 10 ∷ []

abbrev pub line_of_file : FileError → List ℕ
line_of_file (file.BadLine number reason) = bad_line number reason
line_of_file file.TooLong = line (codes "file too long")
line_of_file file.FileFault = line (codes "file fault")
line_of_file file.NoMemory = line (codes "out of memory")

-- It takes memory to put a line together: that of a bad line alone, since it tells a number.
abbrev pub IsMade : List ℕ → Type 0
IsMade text = (number : ℕ) × (reason : LineReason) × (text ≡ bad_line number reason)

-- No memory was found for a line: the output refused a send of it, for which one more is counted; or the line is one that takes memory, and
-- nothing was written.
abbrev pub WantsMemory : List ℕ → Option (List ℕ) → Option (List ℕ) → ℕ → ℕ → Type 0
WantsMemory text old new refused new_refused =
    (new_refused ≡ min (refused + 1) greatest_count) ⊎ (IsMade text × (new ≡ old) × (new_refused ≡ refused))

-- What came of writing a line of an error. With this status, all of it was written, or a front of it where the count of faults has risen.
-- With status 7, where there is a line, a front of it was written, no fault was counted, and no memory was found, as above.
abbrev pub IsReported : ℕ → List ℕ → ℕ → Option (List ℕ) → Option (List ℕ) → ℕ → ℕ → ℕ → ℕ → Type 0
IsReported status text ended old new faults new_faults refused new_refused =
    (((ended ≡ status) × GrowsBy old new text) ⊎ ((ended ≡ status) × GrowsByFront old new text × HasRisen faults new_faults))
    ⊎ ((ended ≡ 7) × (text ≢ []) × GrowsByFront old new text × (new_faults ≡ faults)
    × WantsMemory text old new refused new_refused)

-- A line of an error was written, and this status answered, as above. The count of faults doesn't fall.
pub record Reports (status : ℕ) (text : List ℕ) (ended : ℕ) (old new : Option (List ℕ)) (faults new_faults refused new_refused : ℕ) : Type 0
  where
    pub reported : IsReported status text ended old new faults new_faults refused new_refused
    pub never_falls : faults ≤ new_faults
