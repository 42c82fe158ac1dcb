-- A source and a sink in memory, which cut and fail as they are told.
use Rattle.std.specs.Prelude.{ℕ, Bool, List, [], ◌++◌, Option, Some, None, Result, Ok, Err, ◌≡◌, ◌==◌, if◌then◌else◌, min, max, take, length, find, slice_get}
use Rattle.std.specs.List.{list_any}
use Rattle.conversation_runs.specs.declared.streams.SourceFailed.{SourceFailed}
use Rattle.conversation_runs.specs.declared.streams.SinkError.{SinkError}
use Rattle.conversation_runs.specs.declared.streams.SinkError.TheVariants.{Failed, NoMemory}
use Rattle.pg_streams.specs.Counts.{raised, counted}

-- What a source in memory has: the bytes to come, the most that each call gives, the numbers of the calls that fail, and how many calls,
-- reads that gave a byte, and faults there were.
pub record Tape : Type 0 where
  pub left : List ℕ
  pub pieces : List ℕ
  pub fails : List ℕ
  pub calls : ℕ
  pub reads : ℕ
  pub faults : ℕ

-- a source that was never called, with these bytes, the most that each call gives, and the numbers of the calls that
-- fail
pub record IsUnread (bytes most failing : List ℕ) (t : Tape) : Type 0 where
  pub left : t.left ≡ bytes
  pub pieces : t.pieces ≡ most
  pub fails : t.fails ≡ failing
  pub calls : t.calls ≡ 0
  pub reads : t.reads ≡ 0
  pub faults : t.faults ≡ 0

-- Whether the next call fails. Calls are numbered from 0.
abbrev pub is_told_to_fail : Tape → Bool
is_told_to_fail t = list_any (λ call. call == t.calls) t.fails

-- the most that a call gives: a zero counts as one, and past the list it is as many as fit
abbrev pub most_of : Option ℕ → ℕ → ℕ
most_of None room = room
most_of (Some piece) room = min (max piece 1) room

-- the result of a read into this much room
abbrev pub received : Tape → ℕ → Result ℕ SourceFailed
received t room = if is_told_to_fail t then Err (record {}) else Ok (min (most_of (slice_get t.pieces t.calls) room) (length t.left))

-- A call was counted, and counted as a fault where it failed. What the source is told to do is as before.
pub record IsNextCall (failed : Bool) (old new : Tape) : Type 0 where
  pub pieces : new.pieces ≡ old.pieces
  pub fails : new.fails ≡ old.fails
  pub calls : new.calls ≡ raised old.calls
  pub faults : new.faults ≡ counted failed old.faults

-- What a sink in memory has: all that was written, the numbers of the calls that fail, each with the bytes that it takes, how many calls
-- and faults there were, how many sends were refused, and how many bytes were sent by the others.
pub record Drain : Type 0 where
  pub bytes : List ℕ
  pub fails : List (ℕ × ℕ)
  pub calls : ℕ
  pub faults : ℕ
  pub refused : ℕ
  pub sent : ℕ

-- a sink that was never called, with these calls that fail
pub record IsUnwritten (failing : List (ℕ × ℕ)) (d : Drain) : Type 0 where
  pub bytes : d.bytes ≡ []
  pub fails : d.fails ≡ failing
  pub calls : d.calls ≡ 0
  pub faults : d.faults ≡ 0
  pub refused : d.refused ≡ 0
  pub sent : d.sent ≡ 0

-- the next call, if it is to fail, and how many bytes it takes
abbrev pub told_to_fail : Drain → Option (ℕ × ℕ)
told_to_fail d = find (λ f. f.0 == d.calls) d.fails

-- A write takes all bytes, or the told number of them, at most all, where it is told to fail; where memory runs out it
-- takes none.
abbrev pub TakesAsTold : Option (ℕ × ℕ) → Result (Unit {0}) SinkError → List ℕ → List ℕ → List ℕ → Type 0
TakesAsTold told (Ok done) old new bytes = (told ≡ None) × (new ≡ old ++ bytes)
TakesAsTold (Some f) (Err Failed) old new bytes = new ≡ old ++ take f.1 bytes
TakesAsTold None (Err Failed) old new bytes = ⊥
TakesAsTold told (Err NoMemory) old new bytes = new ≡ old
