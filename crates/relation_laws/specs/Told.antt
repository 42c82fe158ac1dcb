-- The errors that an answer tells the client (protocol: Message Formats, ErrorResponse).
use Rattle.std.specs.Prelude.{ℕ, List, [], ◌∷◌, ◌++◌, ◌≡◌, codes}
use Rattle.std.specs.List.{Contains}
use Rattle.pg_messages.specs.declared.backend.PgWireBackendMessage.TheVariants as server
use Rattle.pg_messages.specs.declared.response.ErrorInfo.{ErrorInfo}
use Rattle.pg_replies.specs.Replies.{Replies}

-- what the ErrorResponses among replies tell
abbrev pub errors_among : Replies → List ErrorInfo
errors_among [] = []
errors_among (server.ErrorResponse m ∷ replies) = m.info ∷ errors_among replies
errors_among (reply ∷ replies) = errors_among replies

-- An ErrorResponse of this severity and with this code stands among the replies.
abbrev pub TellsCode : List ℕ → List ℕ → Replies → Type 0
TellsCode severity code replies = (info : ErrorInfo) × Contains (errors_among replies) info × (info.severity ≡ severity)
    × (info.code ≡ code)

-- the severities and codes that the server of relations tells its clients
abbrev pub served_codes : List (List ℕ × List ℕ)
served_codes = (codes "FATAL", codes "0A000") ∷ (codes "ERROR", codes "26000") ∷ (codes "ERROR", codes "34000") ∷
    (codes "ERROR", codes "08P01") ∷ (codes "ERROR", codes "42P01") ∷ (codes "ERROR", codes "57014") ∷ (codes "ERROR", codes "22023") ∷ []

-- these, and those that it would tell in a COPY from the client
abbrev pub told_codes : List (List ℕ × List ℕ)
told_codes = served_codes ++ (codes "ERROR", codes "XX000") ∷ (codes "FATAL", codes "08P01") ∷ []
