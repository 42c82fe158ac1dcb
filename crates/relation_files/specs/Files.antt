-- What comes of reading a relation file, by the bytes that it gave.
use Rattle.std.specs.Prelude.{ℕ, ◌≡◌, ◌≤◌, ◌<◌, List, [], ◌++◌, Option, Some, None, IfSome, length}
use Rattle.conversation_runs.specs.Streams.{HasRisen}
use Rattle.relation_tables.specs.declared.Relation.{Relation}
use Rattle.relation_files.specs.declared.errors.FileError.{FileError}
use Rattle.relation_files.specs.declared.errors.FileError.TheVariants.{BadLine, TooLong, FileFault, NoMemory}
use Rattle.relation_files.specs.declared.errors.LineReason.{LineReason}
use Rattle.relation_files.specs.Lines.{lines_of}
use Rattle.relation_files.specs.Told.{relations_of}
use Rattle.relation_files.specs.Refusal.{first_bad_line}

-- the most bytes that a relation file may have
abbrev pub file_limit : ℕ
file_limit = 67108864

-- A file gave this text to its end: all bytes that it had to give, where it tells them.
abbrev pub GaveAll : Option (List ℕ) → Option (List ℕ) → List ℕ → Type 0
GaveAll left new_left text = IfSome left (λ told. (told ≡ text) × (new_left ≡ Some []))

-- A file gave these bytes: the first of those that it had to give, where it tells them.
abbrev pub Gave : Option (List ℕ) → Option (List ℕ) → List ℕ → Type 0
Gave left new_left taken = IfSome left (λ told. (rest : List ℕ) × (told ≡ taken ++ rest) × (new_left ≡ Some rest))

-- a file gave more bytes than a relation file may have
abbrev pub GaveTooMuch : Option (List ℕ) → Option (List ℕ) → Type 0
GaveTooMuch left new_left = (taken : List ℕ) × Gave left new_left taken × (file_limit < length taken)

-- a file gave no more bytes than a relation file may have
abbrev pub GaveWithin : Option (List ℕ) → Option (List ℕ) → Type 0
GaveWithin left new_left = (taken : List ℕ) × Gave left new_left taken × (length taken ≤ file_limit)

-- The relations that the whole text of a file tells, which isn't too long and in which no line breaks a rule.
abbrev pub IsToldBy : Option (List ℕ) → Option (List ℕ) → List Relation → Type 0
IsToldBy left new_left relations = (text : List ℕ) × GaveAll left new_left text × (length text ≤ file_limit)
    × (first_bad_line (lines_of text) ≡ None) × (relations ≡ relations_of (lines_of text))

-- the refusal of the whole text of a file, which isn't too long
abbrev pub IsRefusalOf : Option (List ℕ) → Option (List ℕ) → ℕ → LineReason → Type 0
IsRefusalOf left new_left number reason = (text : List ℕ) × GaveAll left new_left text × (length text ≤ file_limit)
    × (first_bad_line (lines_of text) ≡ Some (number, reason))

-- Why a file tells no table: the line that its whole text is refused for, too many bytes, or a read that failed before there were too many.
-- The count of faults stood at the first number, and stands at the second.
abbrev pub IsFileCause : FileError → Option (List ℕ) → Option (List ℕ) → ℕ → ℕ → Type 0
IsFileCause (BadLine number reason) left new_left faults new_faults = IsRefusalOf left new_left number reason
IsFileCause TooLong left new_left faults new_faults = GaveTooMuch left new_left
IsFileCause FileFault left new_left faults new_faults = HasRisen faults new_faults × GaveWithin left new_left
IsFileCause NoMemory left new_left faults new_faults = Unit {0}
