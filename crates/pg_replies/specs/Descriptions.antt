-- The replies that describe a statement or a portal (protocol: Message Flow, Extended Query).
use Rattle.std.specs.Prelude.{List, [], ◌∷◌, Option, Some, None, if◌then◌else◌}
use Rattle.pg_messages.specs.declared.backend.PgWireBackendMessage.{PgWireBackendMessage}
use Rattle.pg_messages.specs.declared.backend.PgWireBackendMessage.TheVariants as server
use Rattle.pg_types.specs.declared.pg_type.PgType.{PgType}
use Rattle.pg_results.specs.Describing.{Described, is_no_data}
use Rattle.pg_replies.specs.Replies.{Replies, row_description, parameter_description}

-- RowDescription, or NoData where there is nothing to describe
abbrev pub columns_reply : Described → PgWireBackendMessage
columns_reply d = if is_no_data d then server.NoData (record {}) else row_description d.fields

-- a statement's parameter types stand before the columns
abbrev pub description_with : Option (List PgType) → PgWireBackendMessage → Replies
description_with None columns = columns ∷ []
description_with (Some types) columns = parameter_description types ∷ columns ∷ []

abbrev pub description : Described → Replies
description d = description_with d.parameters (columns_reply d)
