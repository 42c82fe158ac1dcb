-- Worked examples of the core table's rows, each from any state.
use Rattle.std.proofs.Common.{◌≡◌, ℕ, pos, true, false, List, [], ◌∷◌, ◌++◌, Some, None, codes, refl, map}
use Rattle.std.specs.FinMap as fin
use Rattle.std.specs.Fmt.{digits}
use Rattle.pg_interval.specs.declared.pg_interval.Interval.{Interval}
use Rattle.pg_messages.specs.declared.startup.Startup.{Startup}
use Rattle.pg_messages.specs.declared.extendedquery.Bind.{Bind}
use Rattle.pg_messages.specs.declared.extendedquery.Execute.{Execute}
use Rattle.pg_messages.specs.declared.backend.PgWireBackendMessage.{PgWireBackendMessage}
use Rattle.pg_messages.specs.declared.backend.PgWireBackendMessage.TheVariants as server
use Rattle.pg_messages.specs.declared.response.TransactionStatus.TheVariants as status
use Rattle.pg_messages.specs.Status.{to_error_state}
use Rattle.pg_messages.specs.Frames.{protocol_3_0, protocol_3_2}
use Rattle.pg_types.specs.declared.field_format.FieldFormat.TheVariants as field
use Rattle.pg_portal.specs.declared.store.Entry.TheVariants as entry
use Rattle.pg_client.specs.declared.desk.DeskCall.TheVariants as desk
use Rattle.pg_client.specs.declared.ends.EndKind.TheVariants as end
use Rattle.pg_client.specs.Answer.{Goes, Ends, Stops}
use Rattle.pg_replies.specs.Replies.{startup_replies, done, row_description}
use Rattle.relation_tables.specs.declared.Relation.{Relation}
use Rattle.relation_tables.specs.declared.RelationStatement.TheVariants as statement
use Rattle.relation_tables.specs.Relations.{binary_row, column}
use Rattle.relation_tables.specs.CoreTable.{Setting, CoreState, CorePortal, AwaitingSync, Ready, core_startup, core_bound, core_described_statement, core_described_portal, core_executed, core_oid}

abbrev day : ℕ → List Interval
day n = (let i : Interval = record { months = pos 0; days = pos n; microseconds = pos 0 } in i) ∷ []

abbrev relation : List ℕ → ℕ → Relation
relation name unready = record { name = name; unready = unready; columns = codes "span" ∷ []; rows = day 1 ∷ day 2 ∷ day 3 ∷ [] }

abbrev setting : Setting
setting = record { relations = relation (codes "shifts") 0 ∷ relation (codes "slow") 2 ∷ []; pid = pos 7; key = 1 ∷ 2 ∷ 3 ∷ 4 ∷ [] }

abbrev portal : ℕ → ℕ → CorePortal
portal place position = record { means = statement.Relation place; position = position; delivered = position; is_started = true }

abbrev unstarted : ℕ → CorePortal
unstarted place = record { means = statement.Relation place; position = 0; delivered = 0; is_started = false }

abbrev error : List ℕ → List ℕ → PgWireBackendMessage
error code message = server.ErrorResponse (record { info = record { severity = codes "ERROR"; code = code; message = message } })

abbrev failed : CoreState → CoreState
failed s = record s { phase = AwaitingSync; transaction = to_error_state s.transaction }

abbrev row : ℕ → PgWireBackendMessage
row n = server.DataRow (binary_row (day n))

module _ (s : CoreState) where
  abbrev execute : ℕ → Execute
  execute limit = record { name = codes "p"; max_rows = pos limit }

  abbrev at_portal : CorePortal → CoreState
  at_portal p = record s { portals = fin.insert s.portals (codes "p") (entry.Value p) }

  -- ---- pages

  -- a page of two rows, which the limit ends
  first_page : core_executed setting [] s (execute 2) (Some (entry.Value (unstarted 0)))
      ≡ record {
        replies = row 1 ∷ row 2 ∷ server.PortalSuspended (record {}) ∷ [];
        calls = desk.Start ∷ [];
        next = Goes (at_portal (portal 0 2));
      }
  first_page = refl

  -- the last row alone, which the limit doesn't end
  last_page : core_executed setting [] s (execute 2) (Some (entry.Value (portal 0 2)))
      ≡ record { replies = row 3 ∷ done (codes "SELECT 3") ∷ []; calls = []; next = Goes (at_portal (portal 0 3)) }
  unfolding digits
  last_page = refl

  -- a limit that the rows just reach suspends the portal
  full_page : core_executed setting [] s (execute 3) (Some (entry.Value (portal 0 0)))
      ≡ record {
        replies = row 1 ∷ row 2 ∷ row 3 ∷ server.PortalSuspended (record {}) ∷ [];
        calls = [];
        next = Goes (at_portal (portal 0 3));
      }
  full_page = refl

  -- and then there is none
  empty_page : core_executed setting [] s (execute 0) (Some (entry.Value (portal 0 3)))
      ≡ record { replies = done (codes "SELECT 3") ∷ []; calls = []; next = Goes (at_portal (portal 0 3)) }
  unfolding digits
  empty_page = refl

  -- ---- questions

  canceled : core_executed setting (false ∷ true ∷ false ∷ []) s (execute 0) (Some (entry.Value (unstarted 1)))
      ≡ record {
        replies = error (codes "57014") (codes "canceling statement due to user request") ∷ [];
        calls = desk.Start ∷ desk.Ask false ∷ desk.Ask true ∷ [];
        next = Goes (failed s);
      }
  canceled = refl

  unanswered : core_executed setting (false ∷ []) s (execute 0) (Some (entry.Value (unstarted 1)))
      ≡ record { replies = []; calls = desk.Start ∷ desk.Ask false ∷ []; next = Stops }
  unanswered = refl

  -- ---- other portals

  missing_portal : core_executed setting [] s (execute 0) None
      ≡ record {
        replies = error (codes "34000") (codes "portal " ++ 34 ∷ codes "p" ++ 34 ∷ [] ++ codes " does not exist") ∷ [];
        calls = [];
        next = Goes (failed s);
      }
  missing_portal = refl

  empty_portal : core_executed setting [] s (execute 0) (Some entry.Empty)
      ≡ record { replies = server.EmptyQueryResponse (record {}) ∷ []; calls = []; next = Goes s }
  empty_portal = refl

  committed : core_executed setting [] s (execute 0)
      (Some (entry.Value (record { means = statement.Commit; position = 0; delivered = 0; is_started = false })))
      ≡ record {
        replies = done (codes "COMMIT") ∷ [];
        calls = desk.Start ∷ [];
        next = Goes (record s { transaction = status.Idle; portals = fin.remove s.portals [] });
      }
  committed = refl

  -- ---- statements

  abbrev bind : List ℕ → Bind
  bind codes = record {
    portal_name = [];
    statement_name = [];
    parameter_format_codes = [];
    parameters = [];
    result_column_format_codes = map (λ code. pos code) codes;
  }

  abbrev wide : Setting
  wide = record setting { relations = (record (relation (codes "wide") 0) { columns = codes "a" ∷ codes "b" ∷ codes "c" ∷ [] }) ∷ [] }

  -- two codes are too few for three columns
  two_codes : core_bound wide s (bind (1 ∷ 1 ∷ [])) (Some (entry.Value (record { means = statement.Relation 0; oids = [] })))
      ≡ record {
        replies = error (codes "08P01") (codes "bind message has 2 result formats but query has 3 columns") ∷ [];
        calls = [];
        next = Goes (failed s);
      }
  unfolding digits
  two_codes = refl

  -- one code is for all columns
  one_code : core_bound setting s (bind (1 ∷ [])) (Some (entry.Value (record { means = statement.Relation 0; oids = [] })))
      ≡ record {
        replies = server.BindComplete (record {}) ∷ [];
        calls = [];
        next = Goes (record s { portals = fin.insert s.portals [] (entry.Value (unstarted 0)) });
      }
  one_code = refl

  described : core_described_statement setting s [] (Some (entry.Value (record { means = statement.Relation 0; oids = 705 ∷ [] })))
      ≡ record {
        replies = server.ParameterDescription (record { types = 705 ∷ [] }) ∷ row_description (column field.Text (codes "span") ∷ []) ∷ [];
        calls = [];
        next = Goes s;
      }
  described = refl

  described_begin : core_described_statement setting s [] (Some (entry.Value (record { means = statement.Begin; oids = [] })))
      ≡ record { replies = server.ParameterDescription (record { types = [] }) ∷ server.NoData (record {}) ∷ []; calls = []; next = Goes s }
  described_begin = refl

  described_portal : core_described_portal setting s [] (Some (entry.Value (portal 0 2)))
      ≡ record { replies = row_description (column field.Binary (codes "span") ∷ []) ∷ []; calls = []; next = Goes s }
  described_portal = refl

  -- ---- the startup packet

  abbrev startup : ℕ → Startup
  startup code = record { code = code; parameters = [] }

  started_32 : core_startup setting s (startup protocol_3_2)
      ≡ record {
        replies = startup_replies (pos 7) (1 ∷ 2 ∷ 3 ∷ 4 ∷ []);
        calls = [];
        next = Goes (record s { phase = Ready; transaction = status.Idle });
      }
  started_32 = refl

  -- a key of five bytes, of which a client of 3.0 is told four
  narrowed_30 : core_startup (record setting { key = 1 ∷ 2 ∷ 3 ∷ 4 ∷ 5 ∷ [] }) s (startup protocol_3_0)
      ≡ record {
        replies = startup_replies (pos 7) (1 ∷ 2 ∷ 3 ∷ 4 ∷ []);
        calls = desk.Narrow ∷ [];
        next = Goes (record s { phase = Ready; transaction = status.Idle });
      }
  narrowed_30 = refl

  refused_version : core_startup setting s (startup 131072)
      ≡ record {
        replies = server.ErrorResponse (record {
          info = record {
            severity = codes "FATAL";
            code = codes "0A000";
            message = codes "unsupported frontend protocol 2.0: server supports 3.0 and 3.2";
          };
        }) ∷ [];
        calls = [];
        next = Ends end.Fatal;
      }
  unfolding digits
  refused_version = refl

known_type : core_oid 1186 ≡ 1186
known_type = refl

unknown_type : core_oid 1 ≡ 705
unknown_type = refl
