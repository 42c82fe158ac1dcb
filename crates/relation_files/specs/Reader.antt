-- What a reader of relation files has read, line by line. No public contract cites it.
use Rattle.std.specs.Prelude.{ℕ, Bool, false, ◌≡◌, List, [], ◌∷◌, ◌++◌, map, Option, Some, None, length}
use Rattle.std.specs.Borrow.{Bor}
use Rattle.pg_interval.specs.declared.pg_interval.Interval.{Interval}
use Rattle.conversation_runs.specs.Streams.{HasRisen}
use Rattle.relation_tables.specs.declared.Relation.{Relation}
use Rattle.relation_files.specs.declared.errors.FileError.{FileError}
use Rattle.relation_files.specs.declared.errors.FileError.TheVariants as file
use Rattle.relation_files.specs.declared.errors.LineError.{LineError}
use Rattle.relation_files.specs.declared.errors.LineError.TheVariants as line
use Rattle.relation_files.specs.declared.errors.LineReason.{LineReason}
use Rattle.relation_files.specs.Files.{GaveTooMuch, GaveWithin}
use Rattle.relation_files.specs.Lines.{fields_of}
use Rattle.relation_files.specs.Told.{header_of, row_of}
use Rattle.relation_files.specs.Refusal.{line_reason, is_among}

-- ---- fields

-- the fields of what stands behind a tab, if there is one
abbrev pub fields_behind : Option (Bor (List ℕ)) → List (List ℕ)
fields_behind None = []
fields_behind (Some text) = fields_of text.now

-- ---- errors

-- a line's error as that of a file
abbrev pub error_at : ℕ → LineError → FileError
error_at number (line.Refused reason) = file.BadLine number reason
error_at number line.NoMemory = file.NoMemory

-- a line is refused for its reason, or for want of memory
abbrev pub IsReason : LineError → Option LineReason → Type 0
IsReason (line.Refused reason) told = told ≡ Some reason
IsReason line.NoMemory told = Unit {0}

-- a text is refused for a line and its reason, or for want of memory
abbrev pub IsRefusedFor : FileError → Option (ℕ × LineReason) → Type 0
IsRefusedFor (file.BadLine number reason) told = told ≡ Some (number, reason)
IsRefusedFor file.NoMemory told = Unit {0}
IsRefusedFor _ told = ⊥

-- why the bytes of a file were not read to its end
abbrev pub IsReadCause : FileError → Option (List ℕ) → Option (List ℕ) → ℕ → ℕ → Type 0
IsReadCause (file.BadLine number reason) left new_left faults new_faults = ⊥
IsReadCause file.TooLong left new_left faults new_faults = GaveTooMuch left new_left
IsReadCause file.FileFault left new_left faults new_faults = HasRisen faults new_faults × GaveWithin left new_left
IsReadCause file.NoMemory left new_left faults new_faults = Unit {0}

-- ---- relations

-- The relations that the lines so far told: those that an empty line ended, and the one that the next row belongs to.
pub record SoFar : Type 0 where
  pub closed : List Relation
  pub current : Option Relation

abbrev pub nothing_read : SoFar
nothing_read = record { closed = []; current = None }

abbrev pub one_or_none : Option Relation → List Relation
one_or_none None = []
one_or_none (Some r) = r ∷ []

-- all relations so far
abbrev pub all_of : SoFar → List Relation
all_of s = s.closed ++ one_or_none s.current

-- the names of the headers so far
abbrev pub names_of : SoFar → List (List ℕ)
names_of s = map (λ r. r.name) (all_of s)

-- how many columns the open relation has
abbrev pub width_of : Option Relation → Option ℕ
width_of None = None
width_of (Some r) = Some (length r.columns)

-- a relation with one row more
abbrev pub with_row : Relation → List Interval → Relation
with_row r row = record { name = r.name; unready = r.unready; columns = r.columns; rows = r.rows ++ row ∷ [] }

-- the open relation behind a line that isn't empty
abbrev pub current_after : Option Relation → List ℕ → Relation
current_after None line = header_of (fields_of line)
current_after (Some r) line = with_row r (row_of line)

abbrev pub after : SoFar → List ℕ → SoFar
after s [] = record { closed = all_of s; current = None }
after s (byte ∷ bytes) = record { closed = s.closed; current = Some (current_after s.current (byte ∷ bytes)) }

-- all relations behind these lines
abbrev pub all_after : SoFar → List (List ℕ) → List Relation
all_after s [] = all_of s
all_after s (line ∷ lines) = all_after (after s line) lines

-- what the next line is refused for
abbrev pub reason_at : SoFar → List ℕ → Option LineReason
reason_at s [] = None
reason_at s (byte ∷ bytes) = line_reason (is_among (names_of s)) (width_of s.current) (byte ∷ bytes)

-- no name is taken
abbrev pub never : List ℕ → Bool
never name = false
