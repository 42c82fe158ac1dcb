-- What is kept of streams and of a desk while they are recorded.
use Rattle.std.specs.Prelude.{ℕ, Bool, false, true, List, [], ◌∷◌, ◌++◌, Option, Some, None, ◌≡◌, ◌≤◌, ◌<◌, ◌+◌, ◌-◌, ◌^◌, min, take, drop, length}
use Rattle.pg_client.specs.declared.desk.DeskCall.{DeskCall}
use Rattle.conversation_runs.specs.Streams.{greatest_count}

-- a number of bytes, which stands still at the greatest count
abbrev pub counted : ℕ → ℕ
counted n = min n greatest_count

-- the bytes that are told, or none
abbrev pub bytes_of : Option (List ℕ) → List ℕ
bytes_of None = []
bytes_of (Some bytes) = bytes

-- how many bytes of a text aren't left
abbrev pub gone : List ℕ → Option (List ℕ) → ℕ
gone text now = length text - length (bytes_of now)

-- Of the bytes that a source has given since, the first ones were kept, as many as there is room for, and all were counted. It has the
-- others left.
pub record IsTakenOf (text : List ℕ) (now : Option (List ℕ)) (room : ℕ) (kept : List ℕ) (count : ℕ) : Type 0 where
  pub rest : now ≡ Some (drop (gone text now) text)
  pub front : kept ≡ take room (take (gone text now) text)
  pub number : count ≡ counted (length (take (gone text now) text))

-- what a sink has taken after these bytes
abbrev pub behind : List ℕ → Option (List ℕ) → List ℕ
behind before now = drop (length before) (bytes_of now)

-- The bytes of the sends that a sink answered with Ok were counted, and it took at least as many. Where it refused no send, they are what it
-- took, and the first of them were kept, as many as there is room for.
pub record IsSentTo (before : List ℕ) (now : Option (List ℕ)) (room : ℕ) (kept : List ℕ) (count : ℕ) (has_refused : Bool) : Type 0 where
  pub grown : now ≡ Some (before ++ behind before now)
  pub within : count ≤ length (behind before now)
  pub front : has_refused ≡ false → kept ≡ take room (behind before now)
  pub number : has_refused ≡ false → count ≡ counted (length (behind before now))

-- this many were counted, as far as the count doesn't stand at the greatest
abbrev pub RoseBy : ℕ → ℕ → ℕ → Type 0
RoseBy n old new = old + n < 2 ^ 64 → new ≡ old + n

-- at least one was counted, unless the count stands at the greatest
abbrev pub Rose : ℕ → ℕ → Type 0
Rose old new = old < greatest_count → old < new

-- nothing was counted: the count stands where it stood, below the greatest
abbrev pub Stayed : ℕ → ℕ → Type 0
Stayed old new = (old < greatest_count) × (new ≡ old)

-- The sink's own counts agree with what was counted of it: as many bytes were sent, and a send was refused or none was.
pub record IsCountedBy (count : ℕ) (has_refused : Bool) (sent new_sent refused new_refused : ℕ) : Type 0 where
  pub within : count ≤ greatest_count
  pub number : RoseBy count sent new_sent
  pub none : has_refused ≡ false → new_refused ≡ refused
  pub some : has_refused ≡ true → Rose refused new_refused

-- these are the last of the calls
abbrev pub IsEndOf : List DeskCall → List DeskCall → Type 0
IsEndOf calls last = drop (length calls - length last) calls ≡ last

-- bytes that are known or not, as numbers
abbrev pub told_numbers : Option (List ℕ) → List ℕ
told_numbers None = 0 ∷ []
told_numbers (Some bytes) = 1 ∷ bytes
