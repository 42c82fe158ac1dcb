-- Startup, Parse, Bind, Describe, Close and Sync are answered alike by both tables.
use Rattle.std.proofs.Common.{◌≡◌, ℕ, ◌==◌, ◌&&◌, Bool, true, false, if◌then◌else◌, List, [], ◌∷◌, Option, Some, None, Ok, refl, ap, sym, ◌∙◌, map, length, nat_lt, nat_le}
use Rattle.std.proofs.Math.Path.{ap₂}
use Rattle.std.proofs.lemmas.List.{length-map}
use Rattle.std.specs.FinMap as fin
use Rattle.pg_messages.specs.declared.startup.Startup.{Startup}
use Rattle.pg_messages.specs.declared.extendedquery.Parse.{Parse}
use Rattle.pg_messages.specs.declared.extendedquery.Bind.{Bind}
use Rattle.pg_messages.specs.declared.extendedquery.Describe.{Describe}
use Rattle.pg_messages.specs.declared.extendedquery.Close.{Close}
use Rattle.pg_messages.specs.declared.backend.PgWireBackendMessage.TheVariants as server
use Rattle.pg_messages.specs.declared.codec.ProtocolVersion.{ProtocolVersion}
use Rattle.pg_messages.specs.declared.codec.ProtocolVersion.TheVariants.{PROTOCOL3_0, PROTOCOL3_2}
use Rattle.pg_messages.specs.Frames.{protocol_3_0, protocol_3_2, statement_target, portal_target}
use Rattle.pg_types.specs.declared.pg_type.PgType.{PgType}
use Rattle.pg_types.specs.declared.field_format.FieldFormat.TheVariants as field
use Rattle.pg_types.specs.Types.{oid_of}
use Rattle.pg_results.specs.declared.error.PgWireError.TheVariants as wire
use Rattle.pg_results.specs.declared.format.Format.TheVariants as format
use Rattle.pg_results.specs.declared.stmt.StoredStatement.{StoredStatement}
use Rattle.pg_portal.specs.declared.store.Entry.{Entry}
use Rattle.pg_portal.specs.declared.store.Entry.TheVariants as entry
use Rattle.pg_results.specs.Describing.{is_empty_list}
use Rattle.pg_results.specs.Fields.{Field}
use Rattle.pg_results.specs.Formats.{format_of}
use Rattle.pg_results.specs.Statements.{stored}
use Rattle.pg_results.specs.Texts.{is_blank}
use Rattle.pg_portal.specs.Told.{TablePortal}
use Rattle.pg_client.specs.declared.ends.EndKind.TheVariants as end
use Rattle.pg_client.specs.Errors.{values_for_empty, too_few_codes, unsupported_version}
use Rattle.pg_replies.specs.Replies.{ready, startup_replies, error_reply, row_description}
use Rattle.pg_client.specs.State.{State, without_statement, without_portal}
use Rattle.pg_client.specs.StartupRows.{on_startup, accepts, told_key, narrowing}
use Rattle.conversation_table.specs.ExtendedRows.{on_parse, parsed, parse_complete, on_bind, bound, bind_complete, bound_portal, on_describe, described_statement, described_portal, statement_description, portal_description, on_close, on_sync}
use Rattle.pg_client.specs.Effect.{says, refuses, silent}
use Rattle.relation_tables.specs.declared.RelationStatement.{RelationStatement}
use Rattle.relation_tables.specs.Errors.{unknown_relation}
use Rattle.relation_tables.specs.Queries.{trimmed}
use Rattle.relation_tables.specs.Relations.{meaning, column, columns_of}
use Rattle.relation_tables.specs.RelationHandler.{told_extended, fields_of, or_unknown, given_types}
use Rattle.relation_tables.specs.CoreTable.{Setting, CoreState, NotStarted, CoreStatement, CorePortal, core_says, core_refuses, core_ends, core_accepts, core_startup, core_parse, core_parsed, core_stored, core_bind, core_bound, core_put, core_describe, core_described_statement, core_described_portal, core_statement_told, core_portal_told, core_close, core_sync}
use Rattle.relation_tables.specs.Premises.{AreBinary}
use Rattle.relation_tables.proofs.NameMaps.{AgreeEntry}
use Rattle.relation_tables.proofs.Agreement.{Agrees, AgreeRow, AgreeCall, StatementAgrees, PortalAgrees, says_agree, refuses_agree, either_row, with_statement_agrees, with_portal_agrees, without_statement_agrees, without_portal_agrees, IsBinaryIn}
use Rattle.relation_tables.proofs.Columns.{is_empty-map, text_fields, binary_fields, binary_formats, told_oids}

module _ (waits : Bool) (setting : Setting) (s : State RelationStatement) (c : CoreState) (h : Agrees waits setting s c) where
  -- ---- Startup

  -- The packet is awaited no more where it is accepted.
  pub accepted : c.phase ≡ NotStarted → (out : Bool) (version : ProtocolVersion) (m : Startup)
      → AgreeCall out setting (accepts s version m) (core_accepts setting c version)
  accepted at out version m = record {
    replies = ap₂ (λ pid key. startup_replies pid (told_key version key)) h.pid (h.key at);
    calls = ap (λ key. narrowing version key) (h.key at);
    next = record {
      pid = h.pid;
      key = λ e. let f : ⊥ = cc in absurd f;
      phase = tt;
      status = refl;
      statements = h.statements;
      portals = h.portals;
    };
  }

  pub startup_agrees : c.phase ≡ NotStarted → (out : Bool) (m : Startup)
      → AgreeCall out setting (on_startup s m) (core_startup setting c m)
  startup_agrees at out m = by_code (m.code == protocol_3_0) (m.code == protocol_3_2)
    where
      by_code : (a b : Bool)
          → AgreeCall out setting (if a then accepts s PROTOCOL3_0 m else if b then accepts s PROTOCOL3_2 m
          else silent (refuses s (wire.UserError (unsupported_version m.code))))
          (if a then core_accepts setting c PROTOCOL3_0 else if b then core_accepts setting c PROTOCOL3_2
          else core_ends (error_reply (unsupported_version m.code) ∷ []) end.Fatal)
      by_code true b = accepted at out PROTOCOL3_0 m
      by_code false true = accepted at out PROTOCOL3_2 m
      by_code false false = record { replies = refl; calls = refl; next = refl }

  -- ---- Parse

  empty_parsed : (m : Parse) → AgreeRow waits setting (parsed s m (Ok None)) (core_stored c m.name entry.Empty)
  empty_parsed m = says_agree waits setting parse_complete _ _ (with_statement_agrees waits setting s c h m.name entry.Empty entry.Empty tt)

  parsed_agrees : (m : Parse) (x : Option RelationStatement)
      → AgreeRow waits setting (parsed s m (stored m (or_unknown (trimmed m.query) x))) (core_parsed c m x)
  parsed_agrees m None = refuses_agree waits setting (wire.UserError (unknown_relation (trimmed m.query))) refl s c h
  parsed_agrees m (Some x) =
      says_agree waits setting parse_complete _ _
      (with_statement_agrees waits setting s c h m.name _ _ (record { meaning = refl; oids = told_oids m.type_oids }))

  by_blank : (m : Parse) (b : Bool) (x : Option RelationStatement)
      → AgreeRow waits setting (parsed s m (if b then Ok None else stored m (or_unknown (trimmed m.query) x)))
      (if b then core_stored c m.name entry.Empty else core_parsed c m x)
  by_blank m true x = empty_parsed m
  by_blank m false x = parsed_agrees m x

  pub parse_agrees : (m : Parse) → AgreeRow waits setting (on_parse (told_extended setting.relations) s m) (core_parse setting c m)
  parse_agrees m = by_blank m (is_blank m.query) (meaning setting.relations m.query)

  -- ---- Bind

  portal_is_put : (m : Bind) (st : StoredStatement RelationStatement) (ct : CoreStatement) → StatementAgrees st ct
      → IsBinaryIn (format_of m.result_column_format_codes) (columns_of setting.relations ct.means)
      → AgreeRow waits setting (bound_portal s m st)
      (core_put c m (entry.Value (record { means = ct.means; position = 0; delivered = 0; is_started = false })))
  portal_is_put m st ct e binary =
      says_agree waits setting bind_complete _ _
      (with_portal_agrees waits setting s c h m.portal_name _ _ (record { meaning = e.meaning; binary = binary; come = (refl, refl) }))

  -- the test of the codes, at once or in two steps
  by_count : (m : Bind) (st : StoredStatement RelationStatement) (ct : CoreStatement) → StatementAgrees st ct → (n k : ℕ) (a b : Bool)
      → ((a && b) ≡ false → IsBinaryIn (format_of m.result_column_format_codes) (columns_of setting.relations ct.means))
      → AgreeRow waits setting
      (if a then (if b then refuses s (wire.UserError (too_few_codes n k)) else bound_portal s m st) else bound_portal s m st)
      (if a && b then core_refuses c (wire.UserError (too_few_codes n k))
      else core_put c m (entry.Value (record { means = ct.means; position = 0; delivered = 0; is_started = false })))
  by_count m st ct e n k true true binary = refuses_agree waits setting (wire.UserError (too_few_codes n k)) refl s c h
  by_count m st ct e n k true false binary = portal_is_put m st ct e (binary refl)
  by_count m st ct e n k false b binary = portal_is_put m st ct e (binary refl)

  field_count : (x : RelationStatement)
      → length (fields_of setting.relations x format.UnifiedText) ≡ length (columns_of setting.relations x)
  field_count x =
      ap (λ fs. length fs) (text_fields (columns_of setting.relations x)) ∙ length-map (columns_of setting.relations x) (column field.Text)

  bound_agrees : (m : Bind) → AreBinary m.result_column_format_codes
      → (x : Option (Entry (StoredStatement RelationStatement))) (y : Option (Entry CoreStatement))
      → AgreeEntry StatementAgrees x y → AgreeRow waits setting (bound (told_extended setting.relations) s m x) (core_bound setting c m y)
  bound_agrees m binary None None e = refuses_agree waits setting (wire.StatementNotFound m.statement_name) refl s c h
  bound_agrees m binary (Some entry.Empty) (Some entry.Empty) e =
      either_row waits setting (is_empty_list m.parameters) _ _ _ _
      (says_agree waits setting bind_complete _ _ (with_portal_agrees waits setting s c h m.portal_name entry.Empty entry.Empty tt))
      (refuses_agree waits setting (wire.UserError (values_for_empty (length m.parameters) m.statement_name)) refl s c h)
  bound_agrees m binary (Some (entry.Value st)) (Some (entry.Value ct)) e =
      let codes = length m.result_column_format_codes in
      let columns = length (columns_of setting.relations ct.means) in
      let told : length (fields_of setting.relations st.statement format.UnifiedText) ≡ columns
      = field_count st.statement ∙ ap (λ x. length (columns_of setting.relations x)) e.meaning in
      rw told (by_count m st ct e codes columns (nat_le 2 codes) (nat_lt codes columns)
      (binary_formats m.result_column_format_codes binary (columns_of setting.relations ct.means)))
  bound_agrees m binary _ _ e = absurd e

  pub bind_agrees : (m : Bind) → AreBinary m.result_column_format_codes
      → AgreeRow waits setting (on_bind (told_extended setting.relations) s m) (core_bind setting c m)
  bind_agrees m binary =
      bound_agrees m binary (fin.get s.statements m.statement_name) (fin.get c.statements m.statement_name) (h.statements m.statement_name)

  -- ---- Close, Sync

  pub close_agrees : (m : Close) → AgreeRow waits setting (on_close s m) (core_close c m)
  close_agrees m = by_byte (m.target_type == statement_target) (m.target_type == portal_target)
    where
      by_byte : (a b : Bool)
          → AgreeRow waits setting
          (says (server.CloseComplete (record {}) ∷ [])
          (if a then without_statement s m.name else if b then without_portal s m.name else s))
          (core_says (server.CloseComplete (record {}) ∷ []) (if a then record c { statements = fin.remove c.statements m.name }
          else if b then record c { portals = fin.remove c.portals m.name } else c))
      by_byte true b = says_agree waits setting (server.CloseComplete (record {}) ∷ []) _ _
          (without_statement_agrees waits setting s c h m.name)
      by_byte false true = says_agree waits setting (server.CloseComplete (record {}) ∷ []) _ _
          (without_portal_agrees waits setting s c h m.name)
      by_byte false false = says_agree waits setting (server.CloseComplete (record {}) ∷ []) _ _ h

  pub sync_agrees : AgreeRow waits setting (on_sync s) (core_sync c)
  sync_agrees =
      let gone = without_portal_agrees waits setting s c h [] in
      record {
        replies = ap (λ x. ready x ∷ []) h.status;
        calls = refl;
        next = record {
          pid = gone.pid;
          key = λ e. let f : ⊥ = cc in absurd f;
          phase = tt;
          status = gone.status;
          statements = gone.statements;
          portals = gone.portals;
        };
      }

  -- ---- Describe

  -- a statement told so is described alike
  told_statement : (oids : List ℕ) (types : List PgType) (columns : List (List ℕ)) (fields : List Field) → map oid_of types ≡ oids
      → fields ≡ map (column field.Text) columns
      → AgreeRow waits setting (says (statement_description (record { parameters = types; fields = fields })) s)
      (core_statement_told c oids columns)
  told_statement oids types columns fields e f = record {
    replies = ap₂ (λ os fs. server.ParameterDescription (record { types = os })
        ∷ (if is_empty_list types && is_empty_list fs then server.NoData (record {}) else row_description fs) ∷ []) e f
        ∙ ap₂ (λ x y. server.ParameterDescription (record { types = oids })
        ∷ (if x && y then server.NoData (record {}) else row_description (map (column field.Text) columns)) ∷ [])
        (sym (is_empty-map oid_of types) ∙ ap (λ os. is_empty_list os) e) (is_empty-map (column field.Text) columns);
    calls = refl;
    next = h;
  }

  described_statement_agrees : (name : List ℕ) (x : Option (Entry (StoredStatement RelationStatement))) (y : Option (Entry CoreStatement))
      → AgreeEntry StatementAgrees x y
      → AgreeRow waits setting (described_statement (told_extended setting.relations) s name x) (core_described_statement setting c name y)
  described_statement_agrees name None None e = refuses_agree waits setting (wire.StatementNotFound name) refl s c h
  described_statement_agrees name (Some entry.Empty) (Some entry.Empty) e = record { replies = refl; calls = refl; next = h }
  described_statement_agrees name (Some (entry.Value st)) (Some (entry.Value ct)) e =
      told_statement ct.oids (given_types st.parameter_types) (columns_of setting.relations ct.means)
      (fields_of setting.relations st.statement format.UnifiedText) e.oids
      (text_fields (columns_of setting.relations st.statement)
      ∙ ap (λ x. map (column field.Text) (columns_of setting.relations x)) e.meaning)
  described_statement_agrees name _ _ e = absurd e

  told_portal : (columns : List (List ℕ)) (fields : List Field) → fields ≡ map (column field.Binary) columns
      → AgreeRow waits setting (says (portal_description (record { fields = fields })) s) (core_portal_told c columns)
  told_portal columns fields f = record {
    replies = ap (λ fs. (if is_empty_list fs then server.NoData (record {}) else row_description fs) ∷ []) f
        ∙ ap (λ x. (if x then server.NoData (record {}) else row_description (map (column field.Binary) columns)) ∷ [])
        (is_empty-map (column field.Binary) columns);
    calls = refl;
    next = h;
  }

  described_portal_agrees : (name : List ℕ) (x : Option (Entry (TablePortal RelationStatement))) (y : Option (Entry CorePortal))
      → AgreeEntry (PortalAgrees setting.relations) x y
      → AgreeRow waits setting (described_portal (told_extended setting.relations) s name x) (core_described_portal setting c name y)
  described_portal_agrees name None None e = refuses_agree waits setting (wire.PortalNotFound name) refl s c h
  described_portal_agrees name (Some entry.Empty) (Some entry.Empty) e = record { replies = refl; calls = refl; next = h }
  described_portal_agrees name (Some (entry.Value p)) (Some (entry.Value q)) e =
      told_portal (columns_of setting.relations q.means)
      (fields_of setting.relations p.bound.statement.statement p.bound.result_column_format)
      (ap (λ x. fields_of setting.relations x p.bound.result_column_format) e.meaning
      ∙ binary_fields (columns_of setting.relations q.means) p.bound.result_column_format e.binary)
  described_portal_agrees name _ _ e = absurd e

  pub describe_agrees : (m : Describe)
      → AgreeRow waits setting (on_describe (told_extended setting.relations) s m) (core_describe setting c m)
  describe_agrees m =
      either_row waits setting (m.target_type == statement_target) _ _ _ _
      (described_statement_agrees m.name (fin.get s.statements m.name) (fin.get c.statements m.name) (h.statements m.name))
      (either_row waits setting (m.target_type == portal_target) _ _ _ _
      (described_portal_agrees m.name (fin.get s.portals m.name) (fin.get c.portals m.name) (h.portals m.name))
      (refuses_agree waits setting (wire.InvalidTargetType m.target_type) refl s c h))
