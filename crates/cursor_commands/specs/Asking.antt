-- The messages that commands ask of the session, and that frames can carry.
use Rattle.std.specs.Prelude.{ℕ, ℤ, List, [], false}
use Rattle.pg_messages.specs.declared.frontend.PgWireFrontendMessage.{PgWireFrontendMessage}
use Rattle.pg_messages.specs.declared.frontend.PgWireFrontendMessage.TheVariants as client
use Rattle.pg_messages.specs.Frames.{IsFrame}

-- Parse of the unnamed statement, without oids
abbrev pub parsing : List ℕ → PgWireFrontendMessage
parsing query = client.Parse (record { name = []; query = query; type_oids = [] })

-- Bind of a portal to the unnamed statement, without codes and values
abbrev pub binding : List ℕ → PgWireFrontendMessage
binding portal = client.Bind (record {
  portal_name = portal;
  statement_name = [];
  parameter_format_codes = [];
  parameters = [];
  result_column_format_codes = [];
})

-- Close and Describe: `S`, 83, is a statement, `P`, 80, a portal
abbrev pub closing : ℕ → List ℕ → PgWireFrontendMessage
closing target name = client.Close (record { target_type = target; name = name })

abbrev pub describing : ℕ → List ℕ → PgWireFrontendMessage
describing target name = client.Describe (record { target_type = target; name = name })

abbrev pub executing : List ℕ → ℤ → PgWireFrontendMessage
executing portal limit = client.Execute (record { name = portal; max_rows = limit })

abbrev pub sync : PgWireFrontendMessage
sync = client.PgSync (record {})

-- a good frame carries the message
abbrev pub CanBeSent : PgWireFrontendMessage → Type 0
CanBeSent m = (frame : List ℕ) × IsFrame false frame m
