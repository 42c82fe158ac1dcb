-- Which bytes are no recording text, and why: fields are judged from the left. A field is read as its value and the bytes behind it. Its
-- place is told by how many of the `all` bytes are left from it on.
use Rattle.std.specs.Prelude.{◌≡◌, ◌⊎◌, ◌-◌, ℕ, ℤ, zero, suc, Bool, true, false, List, [], ◌∷◌, length, take, drop, Result, Ok, Err, nat_lt, nat_le, ◌==◌, ◌&&◌, if◌then◌else◌}
use Rattle.std.specs.Int.{Width, w16, w32, w64, byte_len, from_be_bytes, cast_signed}
use Rattle.pg_client.specs.declared.desk.DeskCall.{DeskCall}
use Rattle.pg_client.specs.declared.desk.DeskCall.TheVariants as desk
use Rattle.pg_client.specs.declared.ends.EndKind.{EndKind}
use Rattle.pg_client.specs.declared.ends.EndKind.TheVariants as end
use Rattle.recording_text.specs.declared.recording.Recording.{Recording}
use Rattle.recording_text.specs.declared.recording.ReadError.{ReadError}
use Rattle.recording_text.specs.declared.recording.ReadError.TheVariants.{Truncated, BadField, Trailing, NoMemory}
use Rattle.recording_text.specs.Text.{tag}

-- The call answers what is told, unless memory runs out.
abbrev pub AnswersUnlessNoMemory : {X : Type 0} → Result X ReadError → Result X ReadError → Type 0
AnswersUnlessNoMemory {X} result told = (result ≡ told) ⊎ (result ≡ Err NoMemory)

-- Reading fails with this error, unless the error is that memory ran out.
abbrev pub Fails : {Y : Type 0} → ReadError → Result Y ReadError → Type 0
Fails NoMemory read = Unit {0}
Fails Truncated read = read ≡ Err Truncated
Fails (BadField place) read = read ≡ Err (BadField place)
Fails (Trailing place) read = read ≡ Err (Trailing place)

abbrev pub Gives : {X Y : Type 0} → (X → Y) → Result X ReadError → Result Y ReadError → Type 0
Gives view (Ok x) read = read ≡ Ok (view x)
Gives view (Err e) read = Fails e read

infixl 10 ◌>>=◌
abbrev pub ◌>>=◌ : {A B : Type 0} → Result A ReadError → (A → Result B ReadError) → Result B ReadError
(Ok x) >>= f = f x
(Err e) >>= f = Err e

-- a reading of one field: its value, and the bytes behind it
abbrev pub Reading : Type 0 → Type 0
Reading X = List ℕ → Result (X × List ℕ) ReadError

-- one field, and another behind it
abbrev pub both_at : {X Y : Type 0} → Reading X → Reading Y → Reading (X × Y)
both_at first second bytes = first bytes >>= λ x. second x.1 >>= λ y. Ok ((x.0, y.0), y.1)

-- a field seen as another value
abbrev pub as_at : {X Y : Type 0} → (X → Y) → Reading X → Reading Y
as_at f field bytes = field bytes >>= λ x. Ok (f x.0, x.1)

-- n fields of one kind
abbrev pub items_at : {X : Type 0} → Reading X → ℕ → Reading (List X)
items_at field zero bytes = Ok ([], bytes)
items_at field (suc n) bytes = field bytes >>= λ x. items_at field n x.1 >>= λ xs. Ok (x.0 ∷ xs.0, xs.1)

-- n bytes
abbrev pub bytes_at : ℕ → Reading (List ℕ)
bytes_at n bytes = if nat_lt (length bytes) n then Err Truncated else Ok (take n bytes, drop n bytes)

-- a number without a sign
abbrev pub number_at : Width → Reading ℕ
number_at w bytes = if nat_lt (length bytes) (byte_len w) then Err Truncated else Ok (
  from_be_bytes w (take (byte_len w) bytes),
  drop (byte_len w) bytes,
)

-- a number with a sign
abbrev pub signed_at : Width → Reading ℤ
signed_at w = as_at (cast_signed w) (number_at w)

-- a number that has to be this one
abbrev pub number_is_at : Width → ℕ → ℕ → Reading ℕ
number_is_at w n all bytes = number_at w bytes >>= λ x. if x.0 == n then Ok x else Err (BadField (all - length bytes))

-- the tag
abbrev pub tag_at : ℕ → Reading ℕ
tag_at all = number_is_at w32 tag all

-- the length of a key, which is 4 to 256
abbrev pub key_len_at : ℕ → Reading ℕ
key_len_at all bytes = number_at w16 bytes
    >>= λ x. if nat_le 4 x.0 && nat_le x.0 256 then Ok x else Err (BadField (all - length bytes))

-- that length, and as many bytes
unfoldable pub key_at : ℕ → Reading (List ℕ)
key_at all bytes = key_len_at all bytes >>= λ n. bytes_at n.0 n.1

-- a count, and as many bytes
unfoldable pub counted_at : Reading (List ℕ)
counted_at bytes = number_at w64 bytes >>= λ n. bytes_at n.0 n.1

-- the pid and the key of a cancel call
unfoldable pub registration_at : ℕ → Reading (ℤ × List ℕ)
registration_at all = both_at (signed_at w32) (key_at all)

-- a cancel call with its answer
abbrev pub cancel_of : Bool → ℤ × List ℕ → DeskCall
cancel_of told registration = desk.Cancel registration.0 registration.1 told

-- a call of the registry, by its byte
unfoldable pub call_at : ℕ → Reading DeskCall
call_at all [] = Err Truncated
call_at all (zero ∷ rest) = Ok (desk.Start, rest)
call_at all (suc zero ∷ rest) = Ok (desk.Ask false, rest)
call_at all (suc (suc zero) ∷ rest) = Ok (desk.Ask true, rest)
call_at all (suc (suc (suc zero)) ∷ rest) = as_at (cancel_of false) (registration_at all) rest
call_at all (suc (suc (suc (suc zero))) ∷ rest) = as_at (cancel_of true) (registration_at all) rest
call_at all (suc (suc (suc (suc (suc zero)))) ∷ rest) = Ok (desk.Narrow, rest)
call_at all (suc (suc (suc (suc (suc (suc byte))))) ∷ rest) = Err (BadField (all - suc (length rest)))

-- a count, and as many calls
unfoldable pub calls_at : ℕ → Reading (List DeskCall)
calls_at all bytes = number_at w32 bytes >>= λ n. items_at (call_at all) n.0 n.1

-- the end, by its byte
unfoldable pub end_at : ℕ → Reading EndKind
end_at all [] = Err Truncated
end_at all (zero ∷ rest) = Ok (end.Terminate, rest)
end_at all (suc zero ∷ rest) = Ok (end.InputEnd, rest)
end_at all (suc (suc zero) ∷ rest) = Ok (end.BadFrame, rest)
end_at all (suc (suc (suc zero)) ∷ rest) = Ok (end.Fatal, rest)
end_at all (suc (suc (suc (suc zero))) ∷ rest) = Ok (end.CancelServed, rest)
end_at all (suc (suc (suc (suc (suc byte)))) ∷ rest) = Err (BadField (all - suc (length rest)))

-- the fields of a recording, one after another
abbrev pub Parts : Type 0
Parts = (((((ℕ × ℤ) × List ℕ) × List ℕ) × List DeskCall) × List ℕ) × EndKind

unfoldable pub parts_at : ℕ → Reading Parts
parts_at all = both_at (both_at (both_at (both_at (both_at (both_at (tag_at all) (signed_at w32)) (key_at all)) counted_at) (calls_at all))
    counted_at) (end_at all)

abbrev pub recording_of : Parts → Recording
recording_of p = record { pid = p.0.0.0.0.0.1; key = p.0.0.0.0.1; client = p.0.0.0.1; calls = p.0.0.1; replies = p.0.1; end = p.1 }

-- The recording that the bytes are the text of, or the first fault from the left.
unfoldable pub judged : List ℕ → Result Recording ReadError
judged bytes = parts_at (length bytes) bytes >>= λ x. if length x.1 == 0 then Ok (recording_of x.0)
    else Err (Trailing (length bytes - length x.1))
