-- The error for an unknown relation (PostgreSQL: Error Codes).
use Rattle.std.specs.Prelude.{ℕ, List, ◌++◌, codes}
use Rattle.pg_messages.specs.declared.response.ErrorInfo.{ErrorInfo}
use Rattle.pg_results.specs.Errors.{error}
use Rattle.pg_results.specs.Texts.{quoted}

-- there is no relation of this name
abbrev pub unknown_relation : List ℕ → ErrorInfo
unknown_relation name = error (codes "42P01") (codes "relation " ++ quoted name ++ codes " does not exist")
