-- The messages of the first path: one prepared query of `shifts` with binary results (protocol: Message Flow, Extended Query).
use Rattle.std.specs.Prelude.{pos, List, [], ◌∷◌, codes}
use Rattle.pg_messages.specs.declared.frontend.PgWireFrontendMessage.{PgWireFrontendMessage}
use Rattle.pg_messages.specs.declared.frontend.PgWireFrontendMessage.TheVariants as client
use Rattle.pg_messages.specs.Frames.{protocol_3_0}

abbrev pub first_path : List PgWireFrontendMessage
first_path =
    client.Startup (record { code = protocol_3_0; parameters = (codes "user", codes "demo") ∷ [] })
    ∷ client.Parse (record { name = []; query = codes "shifts"; type_oids = [] })
    ∷ client.Bind (record {
      portal_name = [];
      statement_name = [];
      parameter_format_codes = [];
      parameters = [];
      result_column_format_codes = pos 1 ∷ [];
    })
    ∷ client.Execute (record { name = []; max_rows = pos 0 })
    ∷ client.PgSync (record {})
    ∷ client.Terminate (record {})
    ∷ []
