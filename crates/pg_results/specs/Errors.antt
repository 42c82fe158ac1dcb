-- What a client is told of an error: a severity, a code and a message (PostgreSQL: PostgreSQL Error Codes).
use Rattle.std.specs.Prelude.{ℕ, List, ◌++◌, codes, decimal}
use Rattle.pg_messages.specs.declared.response.ErrorInfo.{ErrorInfo}
use Rattle.pg_results.specs.declared.error.PgWireError.{PgWireError}
use Rattle.pg_results.specs.declared.error.PgWireError.TheVariants as wire
use Rattle.pg_results.specs.Texts.{quoted}

-- an error of severity ERROR, after which the conversation goes on
abbrev pub error : List ℕ → List ℕ → ErrorInfo
error code message = record { severity = codes "ERROR"; code = code; message = message }

-- What a client is told of an error. NoMemory is never told: its text is here for completeness.
abbrev pub info_of : PgWireError → ErrorInfo
info_of (wire.StatementNotFound name) = error (codes "26000") (codes "prepared statement " ++ quoted name ++ codes " does not exist")
info_of (wire.PortalNotFound name) = error (codes "34000") (codes "portal " ++ quoted name ++ codes " does not exist")
info_of (wire.InvalidTargetType byte) = error (codes "08P01") (codes "invalid target type: " ++ decimal byte)
info_of wire.QueryCanceled = error (codes "57014") (codes "canceling statement due to user request")
info_of (wire.UserError info) = info
info_of wire.NotReadyForQuery = error (codes "08P01") (codes "not ready for query")
info_of (wire.InvalidOptionValue value) = error (codes "22023") (codes "invalid option value " ++ quoted value)
info_of wire.PortalNotStarted = error (codes "XX000") (codes "portal is not started")
info_of (wire.InvalidRustTypeForParameter name) =
    error (codes "XX000") (codes "type " ++ name ++ codes " is not accepted for the parameter")
info_of (wire.ParameterIndexOutOfBound index) = error (codes "XX000")
    (codes "parameter index " ++ decimal index ++ codes " is out of bounds")
info_of (wire.FailedToParseParameter cause) = error (codes "XX000") (codes "failed to parse parameter")
info_of wire.NoMemory = error (codes "XX000") (codes "out of memory")
