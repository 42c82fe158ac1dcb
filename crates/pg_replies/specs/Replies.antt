-- The forms of the server's replies (protocol: Message Formats).
use Rattle.std.specs.Prelude.{ℕ, ℤ, List, [], ◌∷◌, ◌++◌, ◌<◌, ◌^◌, map, codes}
use Rattle.pg_messages.specs.declared.response.TransactionStatus.{TransactionStatus}
use Rattle.pg_messages.specs.declared.response.TransactionStatus.TheVariants as status
use Rattle.pg_messages.specs.declared.response.ErrorInfo.{ErrorInfo}
use Rattle.pg_messages.specs.declared.data.DataRow.{DataRow}
use Rattle.pg_messages.specs.declared.backend.PgWireBackendMessage.{PgWireBackendMessage}
use Rattle.pg_messages.specs.declared.backend.PgWireBackendMessage.TheVariants as server
use Rattle.pg_messages.specs.Replies.{IsEncodable}
use Rattle.pg_types.specs.declared.pg_type.PgType.{PgType}
use Rattle.pg_types.specs.Types.{oid_of}
use Rattle.pg_results.specs.Fields.{Field, description_of}
use Rattle.pg_results.specs.Tags.{spaced}

abbrev pub Replies : Type 0
Replies = List PgWireBackendMessage

abbrev pub error_reply : ErrorInfo → PgWireBackendMessage
error_reply info = server.ErrorResponse (record { info = info })

abbrev pub ready : TransactionStatus → PgWireBackendMessage
ready status = server.ReadyForQuery (record { status = status })

abbrev pub parameter : List ℕ → List ℕ → PgWireBackendMessage
parameter name value = server.ParameterStatus (record { name = name; value = value })

-- the replies to a startup packet that is accepted
abbrev pub startup_replies : ℤ → List ℕ → Replies
startup_replies pid key = server.AuthenticationOk (record {})
    ∷ parameter (codes "server_version") (codes "16.0") ∷ parameter (codes "server_encoding") (codes "UTF8")
    ∷ parameter (codes "client_encoding") (codes "UTF8") ∷ parameter (codes "integer_datetimes") (codes "on")
    ∷ server.BackendKeyData (record { pid = pid; secret_key = key }) ∷ ready status.Idle ∷ []

-- a command was done
abbrev pub done : List ℕ → PgWireBackendMessage
done tag = server.CommandComplete (record { tag = tag })

-- CommandComplete whose tag is the command and a number of rows
abbrev pub done_with : List ℕ → ℕ → PgWireBackendMessage
done_with command rows = done (command ++ spaced rows)

-- one DataRow for each row
abbrev pub row_replies : List DataRow → Replies
row_replies rows = map (λ row. server.DataRow row) rows

abbrev pub row_description : List Field → PgWireBackendMessage
row_description fields = server.RowDescription (record { fields = map description_of fields })

abbrev pub parameter_description : List PgType → PgWireBackendMessage
parameter_description types = server.ParameterDescription (record { types = map oid_of types })

-- a tag that can be sent with any number of rows
abbrev pub IsTag : List ℕ → Type 0
IsTag tag = (rows : ℕ) → rows < 2 ^ 64 → IsEncodable (done_with tag rows)
