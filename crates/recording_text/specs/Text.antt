-- Recording text: the bytes that a recording is kept as. Numbers are big-endian, and counts are unsigned.
use Rattle.std.specs.Prelude.{ℕ, List, [], ◌∷◌, ◌++◌, ◌<◌, ◌≤◌, ◌^◌, true, false, length, FitsSigned}
use Rattle.std.specs.List.{AllByRecursion, flat_map}
use Rattle.std.specs.Int.{w32, w64, to_be_bytes}
use Rattle.pg_messages.specs.Fields.{int32, count16, count32}
use Rattle.pg_client.specs.declared.desk.DeskCall.{DeskCall}
use Rattle.pg_client.specs.declared.desk.DeskCall.TheVariants as desk
use Rattle.pg_client.specs.declared.ends.EndKind.{EndKind}
use Rattle.pg_client.specs.declared.ends.EndKind.TheVariants as end
use Rattle.recording_text.specs.declared.recording.Recording.{Recording}

-- what each recording begins with: the text `PGR1`
abbrev pub tag : ℕ
tag = 0x50475231

-- Int64 of a count
abbrev pub count64 : ℕ → List ℕ
count64 n = to_be_bytes w64 n

-- a key: Int16 length, and as many bytes
abbrev pub key_text : List ℕ → List ℕ
key_text key = count16 (length key) ++ key

-- bytes of a client or of replies: Int64 count, and as many bytes
abbrev pub bytes_text : List ℕ → List ℕ
bytes_text bytes = count64 (length bytes) ++ bytes

-- a call of the registry: one byte, behind which a cancel call has Int32 pid and a key
abbrev pub call_text : DeskCall → List ℕ
call_text desk.Start = 0 ∷ []
call_text (desk.Ask false) = 1 ∷ []
call_text (desk.Ask true) = 2 ∷ []
call_text (desk.Cancel pid key false) = 3 ∷ int32 pid ++ key_text key
call_text (desk.Cancel pid key true) = 4 ∷ int32 pid ++ key_text key
call_text desk.Narrow = 5 ∷ []

-- calls: Int32 count, and one call after another
abbrev pub calls_text : List DeskCall → List ℕ
calls_text calls = count32 (length calls) ++ flat_map call_text calls

-- one byte for the end of a session
abbrev pub end_byte : EndKind → ℕ
end_byte end.Terminate = 0
end_byte end.InputEnd = 1
end_byte end.BadFrame = 2
end_byte end.Fatal = 3
end_byte end.CancelServed = 4

-- Recording text: the tag, Int32 pid, the key, the client's bytes, the calls, the reply bytes, and the end.
abbrev pub recording_text : Recording → List ℕ
recording_text r = count32 tag ++ int32 r.pid ++ key_text r.key ++ bytes_text r.client ++ calls_text r.calls ++ bytes_text r.replies
    ++ end_byte r.end ∷ []

-- a key that a recording holds: 4 to 256 bytes
abbrev pub IsKey : List ℕ → Type 0
IsKey key = (4 ≤ length key) × (length key ≤ 256)

-- a call that a recording holds
abbrev pub IsCall : DeskCall → Type 0
IsCall desk.Start = Unit {0}
IsCall (desk.Ask told) = Unit {0}
IsCall (desk.Cancel pid key told) = FitsSigned w32 pid × IsKey key
IsCall desk.Narrow = Unit {0}

-- What a recording text can tell: each recording does, but for one of 2 ^ 32 calls and more.
pub record IsRecordable (r : Recording) : Type 0 where
  pub pid : FitsSigned w32 r.pid
  pub key : IsKey r.key
  pub client : length r.client < 2 ^ 64
  pub count : length r.calls < 2 ^ 32
  pub calls : AllByRecursion IsCall r.calls
  pub replies : length r.replies < 2 ^ 64
