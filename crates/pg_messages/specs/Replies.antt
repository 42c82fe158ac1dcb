-- The bytes of each reply (protocol: Message Formats).
use Rattle.std.specs.Prelude.{ℕ, ℤ, pos, Bool, true, false, List, [], ◌∷◌, ◌++◌, ◌+◌, ◌≤◌, ◌≢◌, if◌then◌else◌, length, map, FitsSigned}
use Rattle.std.specs.List.{AllByRecursion, flat_map}
use Rattle.std.specs.Int.{w16}
use Rattle.pg_messages.specs.Fields.{int8, int16, int32, count16, count32, string}
use Rattle.pg_messages.specs.declared.response.TransactionStatus.{TransactionStatus}
use Rattle.pg_messages.specs.declared.response.TransactionStatus.TheVariants as status
use Rattle.pg_messages.specs.declared.response.ErrorInfo.{ErrorInfo}
use Rattle.pg_messages.specs.declared.data.FieldDescription.{FieldDescription}
use Rattle.pg_messages.specs.declared.backend.PgWireBackendMessage.{PgWireBackendMessage}
use Rattle.pg_messages.specs.declared.backend.PgWireBackendMessage.TheVariants as server

-- `I` outside a transaction, `T` in one, `E` in a failed one
abbrev pub status_byte : TransactionStatus → ℕ
status_byte status.Idle = 73
status_byte status.Transaction = 84
status_byte status.Error = 69

-- the fields of an error: severity twice, code, message, each after its byte, and a zero byte
abbrev pub error_fields : ErrorInfo → List ℕ
error_fields info = (83 ∷ string info.severity) ++ (86 ∷ string info.severity) ++ (67 ∷ string info.code) ++ (77 ∷ string info.message) ++ 0
    ∷ []

-- a column: String name, Int32 table, Int16 column, Int32 type, Int16 size, Int32 modifier, Int16 format
abbrev pub field_description : FieldDescription → List ℕ
field_description f = string f.name ++ int32 f.table_id ++ int16 f.column_id ++ count32 f.type_id
    ++ int16 f.type_size ++ int32 f.type_modifier ++ int16 f.format_code

-- what begins a COPY: Int8 format, Int16 count of columns, and their Int16 format codes
abbrev pub copy_columns : ℤ → ℤ → List ℤ → List ℕ
copy_columns format columns column_formats = int8 format ++ int16 columns ++ flat_map int16 column_formats

-- the type byte of a reply
abbrev pub reply_type : PgWireBackendMessage → ℕ
reply_type (server.SslResponse m) = 78
reply_type (server.GssEncResponse m) = 78
reply_type (server.AuthenticationOk m) = 82
reply_type (server.ParameterStatus m) = 83
reply_type (server.BackendKeyData m) = 75
reply_type (server.ReadyForQuery m) = 90
reply_type (server.ParseComplete m) = 49
reply_type (server.BindComplete m) = 50
reply_type (server.CloseComplete m) = 51
reply_type (server.PortalSuspended m) = 115
reply_type (server.ParameterDescription m) = 116
reply_type (server.RowDescription m) = 84
reply_type (server.NoData m) = 110
reply_type (server.DataRow m) = 68
reply_type (server.CommandComplete m) = 67
reply_type (server.EmptyQueryResponse m) = 73
reply_type (server.ErrorResponse m) = 69
reply_type (server.CopyInResponse m) = 71
reply_type (server.CopyOutResponse m) = 72
reply_type (server.CopyBothResponse m) = 87
reply_type (server.CopyData m) = 100
reply_type (server.CopyDone m) = 99

-- the bytes that follow the length
abbrev pub reply_body : PgWireBackendMessage → List ℕ
reply_body (server.AuthenticationOk m) = count32 0
reply_body (server.ParameterStatus m) = string m.name ++ string m.value
reply_body (server.BackendKeyData m) = int32 m.pid ++ m.secret_key
reply_body (server.ReadyForQuery m) = status_byte m.status ∷ []
reply_body (server.ParameterDescription m) = count16 (length m.types) ++ flat_map count32 m.types
reply_body (server.RowDescription m) = count16 (length m.fields) ++ flat_map field_description m.fields
reply_body (server.DataRow m) = int16 m.field_count ++ m.payload
reply_body (server.CommandComplete m) = string m.tag
reply_body (server.ErrorResponse m) = error_fields m.info
reply_body (server.CopyInResponse m) = copy_columns m.format m.columns m.column_formats
reply_body (server.CopyOutResponse m) = copy_columns m.format m.columns m.column_formats
reply_body (server.CopyBothResponse m) = copy_columns m.format m.columns m.column_formats
reply_body (server.CopyData m) = m.payload
reply_body _ = []

-- whether the type byte is the whole reply
abbrev pub is_one_byte : PgWireBackendMessage → Bool
is_one_byte (server.SslResponse m) = true
is_one_byte (server.GssEncResponse m) = true
is_one_byte _ = false

-- Reply bytes: type byte, Int32 length, itself included and the type byte not, and the body; or one byte alone.
abbrev pub reply_bytes : PgWireBackendMessage → List ℕ
reply_bytes m = reply_type m ∷ (if is_one_byte m then [] else count32 (4 + length (reply_body m)) ++ reply_body m)

-- the bytes of replies, one after another
abbrev pub replies_bytes : List PgWireBackendMessage → List ℕ
replies_bytes replies = flat_map reply_bytes replies

-- the texts that a reply carries
abbrev pub reply_texts : PgWireBackendMessage → List (List ℕ)
reply_texts (server.ParameterStatus m) = m.name ∷ m.value ∷ []
reply_texts (server.RowDescription m) = map (λ f. f.name) m.fields
reply_texts (server.CommandComplete m) = m.tag ∷ []
reply_texts (server.ErrorResponse m) = m.info.severity ∷ m.info.code ∷ m.info.message ∷ []
reply_texts _ = []

-- the counts that a reply tells in an Int16
abbrev pub reply_counts : PgWireBackendMessage → List ℤ
reply_counts (server.ParameterDescription m) = pos (length m.types) ∷ []
reply_counts (server.RowDescription m) = pos (length m.fields) ∷ []
reply_counts (server.DataRow m) = m.field_count ∷ []
reply_counts (server.CopyInResponse m) = m.columns ∷ []
reply_counts (server.CopyOutResponse m) = m.columns ∷ []
reply_counts (server.CopyBothResponse m) = m.columns ∷ []
reply_counts _ = []

-- no byte of the text is the zero byte that ends a String
abbrev pub HasNoZero : List ℕ → Type 0
HasNoZero text = AllByRecursion (λ byte. byte ≢ 0) text

-- what can be sent: a body of at most 1,073,741,823 bytes, counts that fit in an Int16, and texts without a zero byte
pub record IsEncodable (m : PgWireBackendMessage) : Type 0 where
  pub body : length (reply_body m) ≤ 1073741823
  pub counts : AllByRecursion (FitsSigned w16) (reply_counts m)
  pub texts : AllByRecursion HasNoZero (reply_texts m)
