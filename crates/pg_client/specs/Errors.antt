-- The errors that the conversation itself tells a client (PostgreSQL: Error Codes).
use Rattle.std.specs.Prelude.{ℕ, Bool, List, ◌++◌, ◌/◌, ◌%◌, codes, bytes_eq, decimal}
use Rattle.pg_messages.specs.declared.response.ErrorInfo.{ErrorInfo}
use Rattle.pg_results.specs.Errors.{error}
use Rattle.pg_results.specs.Texts.{quoted}

-- an error of severity FATAL, which ends the conversation
abbrev pub fatal : List ℕ → List ℕ → ErrorInfo
fatal code message = record { severity = codes "FATAL"; code = code; message = message }

abbrev pub is_fatal : ErrorInfo → Bool
is_fatal info = bytes_eq info.severity (codes "FATAL")

-- values were given for a statement that is empty
abbrev pub values_for_empty : ℕ → List ℕ → ErrorInfo
values_for_empty count name = error (codes "08P01")
    (codes "bind message supplies " ++ decimal count ++ codes " parameters, but prepared statement " ++ quoted name ++ codes " requires 0")

-- result codes are fewer than the columns
abbrev pub too_few_codes : ℕ → ℕ → ErrorInfo
too_few_codes count columns = error (codes "08P01")
    (codes "bind message has " ++ decimal count ++ codes " result formats but query has " ++ decimal columns ++ codes " columns")

-- the client gave a COPY up
abbrev pub copy_given_up : List ℕ → ErrorInfo
copy_given_up message = error (codes "XX000") (codes "COPY IN mode terminated by the user: " ++ message)

-- the error of a handler without this feature
abbrev pub not_implemented : ErrorInfo
not_implemented = fatal (codes "08P01") (codes "This feature is not implemented.")

-- the error's text for a version other than 3.0 and 3.2; the upper sixteen bits of its code are the major version
abbrev pub unsupported_text : ℕ → List ℕ
unsupported_text code = codes "unsupported frontend protocol " ++ decimal (code / 65536) ++ codes "." ++ decimal (code % 65536)
    ++ codes ": server supports 3.0 and 3.2"

abbrev pub unsupported_version : ℕ → ErrorInfo
unsupported_version code = fatal (codes "0A000") (unsupported_text code)
