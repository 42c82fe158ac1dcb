-- The frames of a client (protocol: Message Formats). A frame's message decides its bytes, so each kind of message is
-- one layout, one record of what the layout can carry, and one arm of `Carries`.
use Rattle.std.specs.Prelude.{ℕ, ℤ, Bool, true, false, List, [], ◌∷◌, ◌++◌, Option, Some, None, ◌≡◌, ◌≢◌, ◌≤◌, ◌<◌, ◌+◌, ◌^◌, ◌⊎◌, ◌==◌, if◌then◌else◌, length, take, drop, slice_index, IfSome, FitsSigned, Contains, codes}
use Rattle.std.specs.List.{AllByRecursion, flat_map}
use Rattle.std.specs.Int.{w16, w32, from_be_bytes}
use Rattle.pg_messages.specs.Fields.{int16, int32, count16, count32, string, IsText}
use Rattle.pg_messages.specs.declared.codec.DecodeContext.{DecodeContext}
use Rattle.pg_messages.specs.declared.codec.ProtocolVersion.{ProtocolVersion}
use Rattle.pg_messages.specs.declared.codec.ProtocolVersion.TheVariants.{PROTOCOL3_0, PROTOCOL3_2}
use Rattle.pg_messages.specs.declared.startup.Startup.{Startup}
use Rattle.pg_messages.specs.declared.startup.CancelRequest.{CancelRequest}
use Rattle.pg_messages.specs.declared.startup.SslNegotiationKind.{SslNegotiationKind}
use Rattle.pg_messages.specs.declared.startup.SslNegotiationKind.TheVariants.{PostgresSsl, PostgresGss}
use Rattle.pg_messages.specs.declared.simplequery.Query.{Query}
use Rattle.pg_messages.specs.declared.extendedquery.Parse.{Parse}
use Rattle.pg_messages.specs.declared.extendedquery.Bind.{Bind}
use Rattle.pg_messages.specs.declared.extendedquery.Describe.{Describe}
use Rattle.pg_messages.specs.declared.extendedquery.Execute.{Execute}
use Rattle.pg_messages.specs.declared.extendedquery.Close.{Close}
use Rattle.pg_messages.specs.declared.copy.CopyFail.{CopyFail}
use Rattle.pg_messages.specs.declared.frontend.PgWireFrontendMessage.{PgWireFrontendMessage}
use Rattle.pg_messages.specs.declared.frontend.PgWireFrontendMessage.TheVariants as client

-- the code of a startup packet of version 3.0: the major version in the upper sixteen bits, the minor in the lower
abbrev pub protocol_3_0 : ℕ
protocol_3_0 = 196608

-- the code of a startup packet of version 3.2
abbrev pub protocol_3_2 : ℕ
protocol_3_2 = 196610

-- the byte `S`, by which a Describe or a Close names a prepared statement
abbrev pub statement_target : ℕ
statement_target = 83

-- the byte `P`, by which a Describe or a Close names a portal
abbrev pub portal_target : ℕ
portal_target = 80

-- Startup, after the code: pairs of Strings, and a zero byte.
abbrev pub startup_body : Startup → List ℕ
startup_body m = flat_map (λ pair. string pair.0 ++ string pair.1) m.parameters ++ 0 ∷ []

-- a name isn't empty, since a zero byte in its place ends the list
pub record IsParameter (pair : List ℕ × List ℕ) : Type 0 where
  pub name : IsText pair.0
  pub named : pair.0 ≢ []
  pub value : IsText pair.1

-- A packet of a supported version, 3.0 or 3.2, has this layout.
pub record IsSpoken (body : List ℕ) (m : Startup) : Type 0 where
  pub code : (m.code ≡ protocol_3_0) ⊎ (m.code ≡ protocol_3_2)
  pub layout : body ≡ startup_body m
  pub parameters : AllByRecursion IsParameter m.parameters

-- the codes that say what the body is: the two versions, CancelRequest, SSLRequest and GSSENCRequest
abbrev pub known_codes : List ℕ
known_codes = protocol_3_0 ∷ protocol_3_2 ∷ 80877102 ∷ 80877103 ∷ 80877104 ∷ []

-- Any other code is a version that isn't supported, and the body isn't read.
pub record IsUnspoken (m : Startup) : Type 0 where
  pub code : m.code < 2 ^ 32
  pub unknown : AllByRecursion (λ code. m.code ≢ code) known_codes
  pub parameters : m.parameters ≡ []

-- CancelRequest, after the code: Int32 pid, and 4 to 256 bytes of key.
abbrev pub cancel_body : CancelRequest → List ℕ
cancel_body m = int32 m.pid ++ m.secret_key

pub record IsCancel (m : CancelRequest) : Type 0 where
  pub pid : FitsSigned w32 m.pid
  pub secret_key : (4 ≤ length m.secret_key) × (length m.secret_key ≤ 256)

-- the code of a request to encrypt, which has no body
abbrev pub negotiation_code : SslNegotiationKind → ℕ
negotiation_code PostgresSsl = 80877103
negotiation_code PostgresGss = 80877104

-- Query: String query.
abbrev pub query_body : Query → List ℕ
query_body m = string m.query

pub record IsQuery (m : Query) : Type 0 where
  pub query : IsText m.query

-- Parse: String name, String query, Int16 count, and as many Int32 type oids.
abbrev pub parse_body : Parse → List ℕ
parse_body m = string m.name ++ string m.query ++ count16 (length m.type_oids) ++ flat_map count32 m.type_oids

pub record IsParse (m : Parse) : Type 0 where
  pub name : IsText m.name
  pub query : IsText m.query
  pub count : length m.type_oids < 2 ^ 15
  pub type_oids : AllByRecursion (λ oid. oid < 2 ^ 32) m.type_oids

-- Int16 count, and as many Int16 format codes
abbrev pub format_codes : List ℤ → List ℕ
format_codes formats = count16 (length formats) ++ flat_map int16 formats

pub record AreFormatCodes (formats : List ℤ) : Type 0 where
  pub count : length formats < 2 ^ 15
  pub each : AllByRecursion (FitsSigned w16) formats

-- a value: Int32 length and as many bytes, or the length -1 alone for null
abbrev pub parameter_value : Option (List ℕ) → List ℕ
parameter_value None = 255 ∷ 255 ∷ 255 ∷ 255 ∷ []
parameter_value (Some bytes) = count32 (length bytes) ++ bytes

abbrev pub IsParameterValue : Option (List ℕ) → Type 0
IsParameterValue value = IfSome value (λ bytes. length bytes < 2 ^ 31)

-- Bind: String portal, String statement, format codes of the values, Int16 count and the values, format codes of the results.
abbrev pub bind_body : Bind → List ℕ
bind_body m = string m.portal_name ++ string m.statement_name ++ format_codes m.parameter_format_codes
    ++ count16 (length m.parameters) ++ flat_map parameter_value m.parameters ++ format_codes m.result_column_format_codes

pub record IsBind (m : Bind) : Type 0 where
  pub portal_name : IsText m.portal_name
  pub statement_name : IsText m.statement_name
  pub parameter_format_codes : AreFormatCodes m.parameter_format_codes
  pub count : length m.parameters < 2 ^ 15
  pub parameters : AllByRecursion IsParameterValue m.parameters
  pub result_column_format_codes : AreFormatCodes m.result_column_format_codes

-- Describe: Byte1 target, String name.
abbrev pub describe_body : Describe → List ℕ
describe_body m = m.target_type ∷ string m.name

pub record IsDescribe (m : Describe) : Type 0 where
  pub name : IsText m.name

-- Execute: String portal, Int32 limit.
abbrev pub execute_body : Execute → List ℕ
execute_body m = string m.name ++ int32 m.max_rows

pub record IsExecute (m : Execute) : Type 0 where
  pub name : IsText m.name
  pub max_rows : FitsSigned w32 m.max_rows

-- Close: Byte1 target, String name.
abbrev pub close_body : Close → List ℕ
close_body m = m.target_type ∷ string m.name

pub record IsClose (m : Close) : Type 0 where
  pub name : IsText m.name

-- CopyFail: String message.
abbrev pub copy_fail_body : CopyFail → List ℕ
copy_fail_body m = string m.message

pub record IsCopyFail (m : CopyFail) : Type 0 where
  pub message : IsText m.message

-- The message that a body carries after its kind: the code of a startup packet while that is awaited, a type byte
-- afterwards.
abbrev pub Carries : Bool → ℕ → List ℕ → PgWireFrontendMessage → Type 0
Carries true kind body (client.Startup m) = (kind ≡ m.code) × (IsSpoken body m ⊎ IsUnspoken m)
Carries true kind body (client.SslNegotiation m) = (kind ≡ negotiation_code m) × (body ≡ [])
Carries true kind body (client.CancelRequest m) = (kind ≡ 80877102) × (body ≡ cancel_body m) × IsCancel m
Carries true kind body _ = ⊥
Carries false kind body (client.Startup m) = ⊥
Carries false kind body (client.SslNegotiation m) = ⊥
Carries false kind body (client.CancelRequest m) = ⊥
Carries false kind body (client.Query m) = (kind ≡ 81) × (body ≡ query_body m) × IsQuery m
Carries false kind body (client.Parse m) = (kind ≡ 80) × (body ≡ parse_body m) × IsParse m
Carries false kind body (client.Bind m) = (kind ≡ 66) × (body ≡ bind_body m) × IsBind m
Carries false kind body (client.Describe m) = (kind ≡ 68) × (body ≡ describe_body m) × IsDescribe m
Carries false kind body (client.Execute m) = (kind ≡ 69) × (body ≡ execute_body m) × IsExecute m
Carries false kind body (client.Close m) = (kind ≡ 67) × (body ≡ close_body m) × IsClose m
Carries false kind body (client.Flush m) = (kind ≡ 72) × (body ≡ [])
Carries false kind body (client.PgSync m) = (kind ≡ 83) × (body ≡ [])
Carries false kind body (client.Terminate m) = (kind ≡ 88) × (body ≡ [])
Carries false kind body (client.CopyData m) = (kind ≡ 100) × (body ≡ m.payload)
Carries false kind body (client.CopyDone m) = (kind ≡ 99) × (body ≡ [])
Carries false kind body (client.CopyFail m) = (kind ≡ 102) × (body ≡ copy_fail_body m) × IsCopyFail m

-- While the startup packet is awaited a frame is Int32 length, itself included, Int32 code, and a body;
-- afterwards type byte, Int32 length, itself included and the type byte not, and a body.
abbrev pub frame_bytes : Bool → ℕ → List ℕ → List ℕ
frame_bytes true kind body = count32 (8 + length body) ++ count32 kind ++ body
frame_bytes false kind body = kind ∷ count32 (4 + length body) ++ body

-- the most bytes of a frame: a length is at most 10,000, and of a typed frame, whose type byte it doesn't count, 1,048,576
abbrev pub most_bytes : Bool → ℕ
most_bytes true = 10000
most_bytes false = 1048577

-- Good frame: this frame carries this message, while the startup packet is awaited or afterwards.
pub record IsFrame (awaiting : Bool) (frame : List ℕ) (m : PgWireFrontendMessage) : Type 0 where
  pub kind : ℕ
  pub body : List ℕ
  pub bytes : frame ≡ frame_bytes awaiting kind body
  pub each : AllByRecursion (λ byte. byte < 2 ^ 8) frame
  pub limit : length frame ≤ most_bytes awaiting
  pub carries : Carries awaiting kind body m

-- The startup packet ends the startup phase; no other message changes it.
abbrev pub awaits_startup_after : PgWireFrontendMessage → Bool → Bool
awaits_startup_after (client.Startup m) awaiting = false
awaits_startup_after _ awaiting = awaiting

-- the version that a startup packet's code asks for, if it is a supported one
abbrev pub protocol_of : ℕ → ProtocolVersion → ProtocolVersion
protocol_of code before = if code == protocol_3_0 then PROTOCOL3_0 else (if code == protocol_3_2 then PROTOCOL3_2 else before)

-- what the reading of frames depends on after a message
abbrev pub context_after : PgWireFrontendMessage → DecodeContext → DecodeContext
context_after (client.Startup m) context = record { awaiting_startup = false; protocol = protocol_of m.code context.protocol }
context_after _ context = context

-- The header is the length, after the type byte where there is one.
abbrev pub header_len : Bool → ℕ
header_len true = 4
header_len false = 5

-- how many bytes a whole frame has by its header
abbrev pub told_len : Bool → List ℕ → ℕ
told_len true bytes = from_be_bytes w32 (take 4 bytes)
told_len false bytes = 1 + from_be_bytes w32 (take 4 (drop 1 bytes))

-- the type bytes of a client's messages
abbrev pub type_bytes : List ℕ
type_bytes = codes "QPBDECHSXdcf"

-- a header that a good frame may have: a length inside its limits, after a type byte that is known
abbrev pub IsGoodHeader : Bool → List ℕ → Type 0
IsGoodHeader true bytes = (8 ≤ told_len true bytes) × (told_len true bytes ≤ 10000)
IsGoodHeader false bytes = Contains type_bytes (slice_index bytes 0)
    × (5 ≤ told_len false bytes) × (told_len false bytes ≤ 1048577)

-- The rest holds no whole frame: its header isn't whole, or is good and tells more bytes than there are.
abbrev pub IsUnfinished : Bool → List ℕ → Type 0
IsUnfinished awaiting rest = (length rest < header_len awaiting)
    ⊎ ((header_len awaiting ≤ length rest) × IsGoodHeader awaiting rest × (length rest < told_len awaiting rest))

-- The rest begins with a whole header that isn't good, or with a whole frame that carries no message.
abbrev pub IsBad : Bool → List ℕ → Type 0
IsBad awaiting rest = (header_len awaiting ≤ length rest)
    × (¬ IsGoodHeader awaiting rest ⊎ (IsGoodHeader awaiting rest × (told_len awaiting rest ≤ length rest)
    × ((m : PgWireFrontendMessage) → ¬ IsFrame awaiting (take (told_len awaiting rest) rest) m)))

-- Division of the client's bytes into frames: these messages' frames, one after another, and then a rest.
abbrev pub DividesInto : Bool → List ℕ → List PgWireFrontendMessage → List ℕ → Type 0
DividesInto awaiting text [] rest = text ≡ rest
DividesInto awaiting text (m ∷ messages) rest = (frame : List ℕ) × (others : List ℕ) × (text ≡ frame ++ others)
    × IsFrame awaiting frame m × DividesInto (awaits_startup_after m awaiting) others messages rest

-- whether the startup packet is still awaited after these messages
abbrev pub awaits_startup_after_all : List PgWireFrontendMessage → Bool → Bool
awaits_startup_after_all [] awaiting = awaiting
awaits_startup_after_all (m ∷ messages) awaiting = awaits_startup_after_all messages (awaits_startup_after m awaiting)

-- the texts that a message carries
abbrev pub message_texts : PgWireFrontendMessage → List (List ℕ)
message_texts (client.Startup m) = flat_map (λ pair. pair.0 ∷ pair.1 ∷ []) m.parameters
message_texts (client.Query m) = m.query ∷ []
message_texts (client.Parse m) = m.name ∷ m.query ∷ []
message_texts (client.Bind m) = m.portal_name ∷ m.statement_name ∷ []
message_texts (client.Describe m) = m.name ∷ []
message_texts (client.Execute m) = m.name ∷ []
message_texts (client.Close m) = m.name ∷ []
message_texts (client.CopyFail m) = m.message ∷ []
message_texts _ = []

-- the messages of the extended query
abbrev pub is_extended_query : PgWireFrontendMessage → Bool
is_extended_query (client.Parse m) = true
is_extended_query (client.Bind m) = true
is_extended_query (client.Describe m) = true
is_extended_query (client.Execute m) = true
is_extended_query (client.Close m) = true
is_extended_query (client.Flush m) = true
is_extended_query (client.PgSync m) = true
is_extended_query _ = false
