-- The client of the generated load (protocol: Message Flow, Extended Query; Message Formats).
use Rattle.std.specs.Prelude.{ℕ, pos, true, false, List, [], ◌∷◌, ◌++◌, codes, flat_map}
use Rattle.std.specs.List.{range_with_len}
use Rattle.pg_messages.specs.declared.startup.Startup.{Startup}
use Rattle.pg_messages.specs.declared.extendedquery.Parse.{Parse}
use Rattle.pg_messages.specs.declared.extendedquery.Bind.{Bind}
use Rattle.pg_messages.specs.declared.extendedquery.Execute.{Execute}
use Rattle.pg_messages.specs.Frames.{frame_bytes, startup_body, parse_body, bind_body, execute_body, protocol_3_0}
use Rattle.relation_demo.specs.Load.{relation_name}

-- version 3.0, for the user `demo`
abbrev pub startup : Startup
startup = record { code = protocol_3_0; parameters = (codes "user", codes "demo") ∷ [] }

-- the unnamed statement of relation i
abbrev pub parse : ℕ → Parse
parse i = record { name = []; query = relation_name i; type_oids = [] }

-- the unnamed portal of the unnamed statement, with binary results
abbrev pub bind : Bind
bind = record {
  portal_name = [];
  statement_name = [];
  parameter_format_codes = [];
  parameters = [];
  result_column_format_codes = pos 1 ∷ [];
}

-- all rows of the unnamed portal
abbrev pub execute : Execute
execute = record { name = []; max_rows = pos 0 }

-- Parse, Bind, Execute and Sync for relation i
unfoldable pub asking : ℕ → List ℕ
asking i = frame_bytes false 80 (parse_body (parse i)) ++ frame_bytes false 66 (bind_body bind)
    ++ frame_bytes false 69 (execute_body execute) ++ frame_bytes false 83 []

-- Demo client: the startup packet, the queries of the relations below `count` in their order, and Terminate.
unfoldable pub demo_client : ℕ → List ℕ
demo_client count = frame_bytes true protocol_3_0 (startup_body startup) ++ flat_map asking (range_with_len 0 count)
    ++ frame_bytes false 88 []
