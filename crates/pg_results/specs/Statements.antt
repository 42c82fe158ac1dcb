-- Statements as Parse makes them (protocol: Extended Query).
use Rattle.std.specs.Prelude.{ℕ, List, Option, Some, None, Result, Ok, Err, map, if◌then◌else◌}
use Rattle.pg_messages.specs.declared.extendedquery.Parse.{Parse}
use Rattle.pg_types.specs.declared.pg_type.PgType.{PgType}
use Rattle.pg_types.specs.Types.{type_of_oid}
use Rattle.pg_results.specs.declared.error.PgWireError.{PgWireError}
use Rattle.pg_results.specs.declared.client.ClientInfo.{ClientInfo}
use Rattle.pg_results.specs.declared.stmt.StoredStatement.{StoredStatement}
use Rattle.pg_results.specs.Texts.{is_blank}
use Rattle.pg_results.specs.Told.{ParserTold}

-- the types with these oids, None where there is no such type
abbrev pub types_of : List ℕ → List (Option PgType)
types_of oids = map type_of_oid oids

-- the statement that a parser gave, under the name of its Parse
abbrev pub stored : {S : Type 0} → Parse → Result (Option S) PgWireError → Result (Option (StoredStatement S)) PgWireError
stored message (Ok (Some statement)) = Ok (Some (record {
  id = message.name;
  statement = statement;
  parameter_types = types_of message.type_oids;
}))
stored message (Ok None) = Ok None
stored message (Err error) = Err error

-- The statement of a Parse. A blank query is an empty statement, and the parser isn't called.
abbrev pub prepared : {S : Type 0} → ParserTold S → ClientInfo → Parse → Result (Option (StoredStatement S)) PgWireError
prepared parser client message =
    if is_blank message.query then Ok None else stored message (parser.parse client message.query (types_of message.type_oids))
