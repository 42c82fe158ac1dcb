-- How a recording is made of what was kept of a session.
use Rattle.std.specs.Prelude.{ℕ, ℤ, true, false, List, [], Result, Ok, Err, ◌≡◌, ◌≤◌, ◌<◌, ◌^◌, max}
use Rattle.pg_client.specs.declared.ends.EndKind.{EndKind}
use Rattle.conversation_runs.specs.declared.ends.ServeError.{ServeError}
use Rattle.recording_text.specs.declared.recording.Recording.{Recording}
use Rattle.session_recording.specs.declared.keeping.FirstBytes.{FirstBytes}
use Rattle.session_recording.specs.declared.error.RecordError.{RecordError}
use Rattle.session_recording.specs.declared.error.RecordError.TheVariants as refusal
use Rattle.session_recording.specs.declared.recorder.Kept.{Kept}
use Rattle.session_recording.specs.declared.recorder.Space.{Space}

-- there is room for `room` bytes, and none of it is used
pub record IsUnused (first : FirstBytes) (room : ℕ) : Type 0 where
  pub room_for : first.room ≡ room
  pub bytes : first.bytes.items ≡ []
  pub count : first.count ≡ 0

-- there is space for the recording of a session under this registration: the registration itself, and room for so many bytes each way
pub record IsSpaceFor (registration : ℤ × List ℕ) (room : ℕ) (space : Space) : Type 0 where
  pub pid : space.pid ≡ registration.0
  pub key : space.key ≡ registration.1
  pub client : IsUnused space.client room
  pub replies : IsUnused space.replies room
  pub small : room < 2 ^ 63

-- The recording is made of what was kept: there was room for all of it, no send was refused, and the session came to its end.
pub record IsMadeOf (answer : Result EndKind ServeError) (room : ℕ) (own_pid : ℤ) (own_key : List ℕ) (kept : Kept)
    (r : Recording) : Type 0 where
  pub answered : answer ≡ Ok r.end
  pub taken : kept.client.count ≤ room
  pub sent : kept.replies.count ≤ room
  pub accepted : kept.has_refused ≡ false
  pub pid : r.pid ≡ own_pid
  pub key : r.key ≡ own_key
  pub client : r.client ≡ kept.client.bytes.items
  pub calls : r.calls ≡ kept.calls.items
  pub replies : r.replies ≡ kept.replies.bytes.items

-- there was room for what was kept
abbrev pub HadRoomFor : ℕ → Kept → Type 0
HadRoomFor room kept = (kept.client.count ≤ room) × (kept.replies.count ≤ room)

-- Why no recording is made of what was kept: it was too long; or else the session was given up; or else a send was refused.
abbrev pub IsRefusedOf : Result EndKind ServeError → ℕ → Kept → RecordError → Type 0
IsRefusedOf answer room kept (refusal.TooLong n) = (n ≡ max kept.client.count kept.replies.count) × (room < n)
IsRefusedOf (Ok kind) room kept refusal.Unended = ⊥
IsRefusedOf (Err e) room kept refusal.Unended = HadRoomFor room kept
IsRefusedOf (Ok kind) room kept refusal.NoMemory = HadRoomFor room kept × (kept.has_refused ≡ true)
IsRefusedOf (Err e) room kept refusal.NoMemory = ⊥
