-- Reading fields from left to right, as functions on lists: the value and the bytes after it, or None where no value
-- stands there. They tie the private readers to the layouts. The law of TypedMessage is the only public clause that
-- cites them.
use Rattle.std.specs.Prelude.{◌≡◌, Bool, true, false, ℕ, ℤ, zero, suc, ◌+◌, ◌^◌, List, [], ◌∷◌, length, take, drop, Option, Some, None, option_and_then, Result, Ok, Err, nat_lt, ◌==◌, if◌then◌else◌}
use Rattle.std.specs.List.{position}
use Rattle.std.specs.Int.{Width, w16, w32, byte_len, from_be_bytes, cast_signed}
use Rattle.std.specs.Option.{option_map_or}
use Rattle.std.specs.Str.{is_utf8}
use Rattle.pg_messages.specs.declared.codec.FrameError.{FrameError}
use Rattle.pg_messages.specs.declared.codec.FrameError.TheVariants as errors
use Rattle.pg_messages.specs.declared.startup.CancelRequest.{CancelRequest}
use Rattle.pg_messages.specs.declared.simplequery.Query.{Query}
use Rattle.pg_messages.specs.declared.extendedquery.Parse.{Parse}
use Rattle.pg_messages.specs.declared.extendedquery.Bind.{Bind}
use Rattle.pg_messages.specs.declared.extendedquery.Describe.{Describe}
use Rattle.pg_messages.specs.declared.extendedquery.Execute.{Execute}
use Rattle.pg_messages.specs.declared.extendedquery.Close.{Close}
use Rattle.pg_messages.specs.declared.extendedquery.PgSync.{PgSync}
use Rattle.pg_messages.specs.declared.copy.CopyFail.{CopyFail}
use Rattle.pg_messages.specs.declared.startup.SslNegotiationKind.TheVariants.{PostgresSsl, PostgresGss}
use Rattle.pg_messages.specs.declared.frontend.PgWireFrontendMessage.{PgWireFrontendMessage}
use Rattle.pg_messages.specs.declared.frontend.PgWireFrontendMessage.TheVariants as client
use Rattle.pg_messages.specs.Frames.{protocol_3_0, protocol_3_2}

-- What a call returned, seen by view, is what reading gives, unless memory ran out.
abbrev pub Gives : {X Y : Type 0} → (X → Y) → Result X FrameError → Option Y → Type 0
Gives view (Ok x) read = read ≡ Some (view x)
Gives view (Err errors.Bad) read = read ≡ None
Gives view (Err errors.NoMemory) read = Unit {0}

infixl 10 ◌>>=◌
abbrev pub ◌>>=◌ : {A B : Type 0} → Option A → (A → Option B) → Option B
o >>= f = option_and_then f o

-- one field, and then another
abbrev pub both_at : {X Y : Type 0} → (List ℕ → Option (X × List ℕ)) → (List ℕ → Option (Y × List ℕ)) → List ℕ → Option ((X × Y) × List ℕ)
both_at first second bytes = first bytes >>= λ x. second x.1 >>= λ y. Some ((x.0, y.0), y.1)

-- a field seen as another value
abbrev pub as_at : {X Y : Type 0} → (X → Y) → (List ℕ → Option (X × List ℕ)) → List ℕ → Option (Y × List ℕ)
as_at f field bytes = field bytes >>= λ x. Some (f x.0, x.1)

-- n fields of one kind
abbrev pub items_at : {X : Type 0} → (List ℕ → Option (X × List ℕ)) → ℕ → List ℕ → Option (List X × List ℕ)
items_at field zero bytes = Some ([], bytes)
items_at field (suc n) bytes = field bytes >>= λ x. items_at field n x.1 >>= λ xs. Some (x.0 ∷ xs.0, xs.1)

-- a field that is all of the bytes
abbrev pub whole : {X : Type 0} → Option (X × List ℕ) → Option X
whole read = read >>= λ x. if length x.1 == 0 then Some x.0 else None

-- a number without a sign
abbrev pub number_at : Width → List ℕ → Option (ℕ × List ℕ)
number_at w bytes = if nat_lt (length bytes) (byte_len w) then None else Some (
  from_be_bytes w (take (byte_len w) bytes),
  drop (byte_len w) bytes,
)

-- a number with a sign
abbrev pub signed_at : Width → List ℕ → Option (ℤ × List ℕ)
signed_at w bytes = as_at (cast_signed w) (number_at w) bytes

-- Int16 of a count, which isn't negative
unfoldable pub count_at : List ℕ → Option (ℕ × List ℕ)
count_at bytes = number_at w16 bytes >>= λ n. if nat_lt n.0 (2 ^ 15) then Some n else None

-- a count, and as many fields
abbrev pub list_at : {X : Type 0} → (List ℕ → Option (X × List ℕ)) → List ℕ → Option (List X × List ℕ)
list_at field bytes = count_at bytes >>= λ n. items_at field n.0 n.1

-- a text up to its zero byte
unfoldable pub string_at : List ℕ → Option (List ℕ × List ℕ)
string_at bytes = position (λ byte. byte == 0) bytes >>= λ n. if is_utf8 (take n bytes) then Some (
  take n bytes,
  drop (n + 1) bytes,
) else None

-- null, or as many bytes as the length says
abbrev pub value_behind : ℕ × List ℕ → Option (Option (List ℕ) × List ℕ)
value_behind n = if n.0 == 4294967295 then Some (None, n.1)
    else (if nat_lt n.0 (2 ^ 31) then (if nat_lt (length n.1) n.0 then None else Some (Some (take n.0 n.1), drop n.0 n.1)) else None)

-- a value after its length, or null
unfoldable pub value_at : List ℕ → Option (Option (List ℕ) × List ℕ)
value_at bytes = number_at w32 bytes >>= value_behind

-- what follows a zero byte, where one stands in front
abbrev pub after_zero : List ℕ → Option (List ℕ)
after_zero [] = None
after_zero (zero ∷ rest) = Some rest
after_zero (suc byte ∷ rest) = None

-- pairs of texts up to a zero byte in the place of a name; fewer than n of them
unfoldable pub parameters_at : ℕ → List ℕ → Option (List (List ℕ × List ℕ) × List ℕ)
parameters_at zero bytes = None
parameters_at (suc n) bytes = option_map_or (λ rest. Some (
  [],
  rest,
)) (after_zero bytes) (both_at string_at string_at bytes >>= λ x. parameters_at n x.1 >>= λ xs. Some (x.0 ∷ xs.0, xs.1))

-- a pair takes two bytes at least, so there are fewer pairs than bytes
abbrev pub all_parameters_at : List ℕ → Option (List (List ℕ × List ℕ) × List ℕ)
all_parameters_at bytes = parameters_at (length bytes) bytes

-- one byte
abbrev pub byte_at : List ℕ → Option (ℕ × List ℕ)
byte_at [] = None
byte_at (byte ∷ rest) = Some (byte, rest)

-- ---- the bodies of messages

-- all of the bytes as a key, which has 4 to 256 of them
abbrev pub key_of : List ℕ → Option (List ℕ)
key_of bytes = if nat_lt (length bytes) 4 then None else (if nat_lt 256 (length bytes) then None else Some bytes)

-- the key is what follows the pid
unfoldable pub cancel_of : List ℕ → Option CancelRequest
cancel_of body = signed_at w32 body >>= λ pid. key_of pid.1 >>= λ key. Some (record { pid = pid.0; secret_key = key })

unfoldable pub query_at : List ℕ → Option (Query × List ℕ)
query_at = as_at (λ x. record { query = x }) string_at

unfoldable pub parse_at : List ℕ → Option (Parse × List ℕ)
parse_at = as_at (λ x. record {
  name = x.0.0;
  query = x.0.1;
  type_oids = x.1;
}) (both_at (both_at string_at string_at) (list_at (number_at w32)))

unfoldable pub bind_at : List ℕ → Option (Bind × List ℕ)
bind_at = as_at (λ x. record {
  portal_name = x.0.0.0.0;
  statement_name = x.0.0.0.1;
  parameter_format_codes = x.0.0.1;
  parameters = x.0.1;
  result_column_format_codes = x.1;
})
    (both_at (both_at (both_at (both_at string_at string_at) (list_at (signed_at w16))) (list_at value_at)) (list_at (signed_at w16)))

unfoldable pub describe_at : List ℕ → Option (Describe × List ℕ)
describe_at = as_at (λ x. record { target_type = x.0; name = x.1 }) (both_at byte_at string_at)

unfoldable pub execute_at : List ℕ → Option (Execute × List ℕ)
execute_at = as_at (λ x. record { name = x.0; max_rows = x.1 }) (both_at string_at (signed_at w32))

-- Sync has no body
abbrev pub sync_at : List ℕ → Option (PgSync × List ℕ)
sync_at bytes = Some (record {}, bytes)

unfoldable pub close_at : List ℕ → Option (Close × List ℕ)
close_at = as_at (λ x. record { target_type = x.0; name = x.1 }) (both_at byte_at string_at)

unfoldable pub copy_fail_at : List ℕ → Option (CopyFail × List ℕ)
copy_fail_at = as_at (λ x. record { message = x }) string_at

-- ---- the message of a body, by its kind

-- a body seen as a message
abbrev pub told_as : {X : Type 0} → (X → PgWireFrontendMessage) → Option X → Option PgWireFrontendMessage
told_as message read = read >>= λ x. Some (message x)

-- the message of an empty body
abbrev pub bare : List ℕ → PgWireFrontendMessage → Option PgWireFrontendMessage
bare body message = if length body == 0 then Some message else None

-- the entry of a key, or else the given default
abbrev pub beside : {X : Type 0} → ℕ → Option X → List (ℕ × Option X) → Option X
beside key otherwise [] = otherwise
beside key otherwise (entry ∷ entries) = if key == entry.0 then entry.1 else beside key otherwise entries

abbrev pub startup_packet : ℕ → List (List ℕ × List ℕ) → PgWireFrontendMessage
startup_packet code parameters = client.Startup (record { code = code; parameters = parameters })

abbrev pub startup_readings : List ℕ → List (ℕ × Option PgWireFrontendMessage)
startup_readings body = (protocol_3_0, told_as (startup_packet protocol_3_0) (whole (all_parameters_at body)))
    ∷ (protocol_3_2, told_as (startup_packet protocol_3_2) (whole (all_parameters_at body)))
    ∷ (80877102, told_as client.CancelRequest (cancel_of body))
    ∷ (80877103, bare body (client.SslNegotiation PostgresSsl))
    ∷ (80877104, bare body (client.SslNegotiation PostgresGss)) ∷ []

abbrev pub typed_readings : List ℕ → List (ℕ × Option PgWireFrontendMessage)
typed_readings body = (81, told_as client.Query (whole (query_at body)))
    ∷ (80, told_as client.Parse (whole (parse_at body)))
    ∷ (66, told_as client.Bind (whole (bind_at body)))
    ∷ (68, told_as client.Describe (whole (describe_at body)))
    ∷ (69, told_as client.Execute (whole (execute_at body)))
    ∷ (67, told_as client.Close (whole (close_at body)))
    ∷ (100, Some (client.CopyData (record { payload = body })))
    ∷ (102, told_as client.CopyFail (whole (copy_fail_at body)))
    ∷ (72, bare body (client.Flush (record {})))
    ∷ (83, bare body (client.PgSync (record {})))
    ∷ (88, bare body (client.Terminate (record {})))
    ∷ (99, bare body (client.CopyDone (record {}))) ∷ []

-- a body's message: by the code while the startup packet is awaited, by the type byte afterwards
unfoldable pub message_at : Bool → ℕ → List ℕ → Option PgWireFrontendMessage
message_at true code body = beside code (Some (startup_packet code [])) (startup_readings body)
message_at false kind body = beside kind None (typed_readings body)
