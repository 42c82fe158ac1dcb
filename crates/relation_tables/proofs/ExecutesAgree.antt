-- Execute is answered alike by both tables.
use Rattle.std.proofs.Common.{◌≡◌, ◌≤◌, ◌+◌, ◌-◌, ◌^◌, ℕ, zero, suc, pos, negsuc, ℤ, Bool, true, false, cond, if◌then◌else◌, List, [], ◌∷◌, ◌++◌, Option, Some, None, Ok, codes, refl, ap, sym, subst, arith, append-nil, ◌∙◌, map, length, drop}
use Rattle.std.proofs.Math.Path.{ap₂}
use Rattle.std.proofs.lemmas.List.{length-map}
use Rattle.std.proofs.lemmas.Slice.Eq.{bytes_eq-Decides}
use Rattle.std.proofs.lemmas.Map.Text.{is_eq-slice_cmp}
use Rattle.std.specs.Cmp.Lexicographic.{nat_list_cmp_total}
use Rattle.std.specs.FinMap as fin
use Rattle.std.specs.Str.{bytes_eq}
use Rattle.pg_interval.specs.declared.pg_interval.Interval.{Interval}
use Rattle.pg_messages.specs.declared.extendedquery.Execute.{Execute}
use Rattle.pg_messages.specs.Status.{to_in_transaction_state}
use Rattle.pg_types.specs.declared.field_format.FieldFormat.TheVariants as field
use Rattle.pg_results.specs.declared.error.PgWireError.TheVariants as wire
use Rattle.pg_portal.specs.declared.store.Entry.{Entry}
use Rattle.pg_portal.specs.declared.store.Entry.TheVariants as entry
use Rattle.pg_results.specs.Errors.{info_of}
use Rattle.pg_results.specs.Page.{Page, delivered_after, page, is_reached, item_page}
use Rattle.pg_portal.specs.Fetching.{stage_after}
use Rattle.pg_results.specs.Told.{ToldRows}
use Rattle.pg_portal.specs.Told.{TablePortal, Stage, Unstarted, Started, Ended}
use Rattle.pg_client.specs.declared.desk.DeskCall.{DeskCall}
use Rattle.pg_client.specs.declared.ends.EndKind.TheVariants as end
use Rattle.pg_client.specs.Answer.{Answer, Goes, Ends}
use Rattle.pg_client.specs.Effect.{Effect, settled, Outcome, Done, Failed, Over, Stopped, UntilSync}
use Rattle.pg_client.specs.Errors.{is_fatal}
use Rattle.conversation_table.specs.ExecuteRow.{page_effect, at_stage, fetched, fetched_nothing, execute_polled, execute_run, executed_portal, executed_entry, on_execute}
use Rattle.conversation_table.specs.Questions.{Verdict, Passed, Canceled, Unanswered, started}
use Rattle.pg_replies.specs.Replies.{Replies, row_replies, done_with}
use Rattle.pg_client.specs.State.{State, with_portal}
use Rattle.relation_tables.specs.declared.RelationStatement.{RelationStatement}
use Rattle.relation_tables.specs.declared.RelationStatement.TheVariants as statement
use Rattle.relation_tables.specs.Relations.{relation_at, binary_row, columns_of, HaveEvenRows}
use Rattle.relation_tables.specs.RelationHandler.{told_extended, query_of, rows_response, session_style, column_formats, row_item}
use Rattle.relation_tables.specs.CoreTable.{Setting, CoreState, CorePortal, calling, core_portal_after, core_paged, core_fetched, core_polled, core_run, core_executed_started, core_executed, core_execute}
use Rattle.relation_tables.proofs.NameMaps.{AgreeEntry, AgreeNames}
use Rattle.relation_tables.proofs.Agreement.{Agrees, AgreeRow, AgreeCall, StageAgrees, PortalAgrees, IsBinaryIn, binary_item, refuses_agree, with_portal_agrees, without_portal_agrees}
use Rattle.relation_tables.proofs.ItemsAgree.{even_at, binary_items, items_of_page, binary_page, drop-further, page_to_the_end}
use Rattle.relation_tables.proofs.Runs.{Agree}

-- the number of rows delivered is a u64, and stays where no row comes
counted_within : (delivered rows : ℕ) → delivered_after delivered rows ≤ 2 ^ 64 - 1
counted_within delivered rows = grind arith

kept_count : (delivered : ℕ) → delivered ≤ 2 ^ 64 - 1 → delivered_after delivered 0 ≡ delivered
kept_count delivered h = grind arith

module _ (waits : Bool) (setting : Setting) (s : State RelationStatement) (c : CoreState) (h : Agrees waits setting s c) where
  -- the rest of a relation's rows from a portal's position on
  abbrev to_come : ℕ → CorePortal → List (List Interval)
  to_come place q = drop q.position (relation_at setting.relations place).rows

  further : (place : ℕ) (q : CorePortal) (n : ℕ)
      → drop (q.position + n) (relation_at setting.relations place).rows ≡ drop n (to_come place q)
  further place q n = drop-further q.position n (relation_at setting.relations place).rows

  -- the whole table's effect of a page
  abbrev page_told : Execute → TablePortal RelationStatement → CorePortal → ToldRows → ℕ → ℕ → Page (List Interval)
      → Effect RelationStatement
  page_told m p q r delivered place pg =
      let told = items_of_page pg (to_come place q) in
      page_effect (with_portal s m.name (entry.Value (at_stage p (stage_after r delivered told.rows told.ending)))) r.command_tag
      (delivered_after delivered (length told.rows)) told.rows told.ending

  -- as many rows are delivered behind a page
  as_many : (told : ℕ) (q : CorePortal) → told ≡ q.delivered → (rows : List (List Interval))
      → delivered_after told (length (map binary_row rows)) ≡ delivered_after q.delivered (length rows)
  as_many told q same rows = ap₂ delivered_after same (length-map rows binary_row)

  -- a page that goes on to its end or is suspended
  paged : (m : Execute) (p : TablePortal RelationStatement) (q : CorePortal) (r : ToldRows) (told place : ℕ) → told ≡ q.delivered
      → p.bound.statement.statement ≡ q.means
      → IsBinaryIn p.bound.result_column_format (columns_of setting.relations q.means) → q.means ≡ statement.Relation place
      → r.command_tag ≡ codes "SELECT"
      → (rows : List (List Interval)) (suspended : Bool) → (suspended ≡ false → drop (length rows) (to_come place q) ≡ [])
      → AgreeRow waits setting (page_told m p q r told place (record { rows = rows; suspended = suspended }))
      (core_paged c m (core_portal_after q (record { rows = rows; suspended = suspended })) (record { rows = rows; suspended = suspended }))
  paged m p q r told place same e binary is tag rows true at_end = record {
    replies = refl;
    calls = refl;
    next = with_portal_agrees waits setting s c h m.name _ _ (record {
      meaning = e;
      binary = binary;
      come = rw is (tag, ap (λ xs. map binary_item xs) (sym (further place q (length rows))), as_many told q same rows);
    });
  }
  paged m p q r told place same e binary is tag rows false at_end = record {
    replies = ap₂ (λ t n. row_replies (map binary_row rows) ++ done_with t n ∷ []) tag (as_many told q same rows);
    calls = refl;
    next = with_portal_agrees waits setting s c h m.name _ _ (record {
      meaning = e;
      binary = binary;
      come = rw is (further place q (length rows) ∙ at_end refl, as_many told q same rows, counted_within q.delivered (length rows));
    });
  }

  -- a page of a portal whose items are the binary rows from its position on
  pub fetched_agrees : (m : Execute) (p : TablePortal RelationStatement) (q : CorePortal) (r : ToldRows) (told place : ℕ)
      → told ≡ q.delivered
      → p.bound.statement.statement ≡ q.means
      → IsBinaryIn p.bound.result_column_format (columns_of setting.relations q.means) → q.means ≡ statement.Relation place
      → r.command_tag ≡ codes "SELECT"
      → r.items ≡ map binary_item (to_come place q) → AgreeRow waits setting (fetched s m p r told) (core_fetched setting c m q place)
  fetched_agrees m p q r told place same e binary is tag items =
      let pg = page m.max_rows (to_come place q) in
      let pages : item_page m.max_rows r.items ≡ items_of_page pg (to_come place q)
      = ap (λ xs. item_page m.max_rows xs) items ∙ binary_page m.max_rows (to_come place q) in
      rw pages (paged m p q r told place same e binary is tag pg.rows pg.suspended (page_to_the_end m.max_rows (to_come place q)))

  -- ---- a portal that isn't started

  -- the same behind further calls
  failed_calling : (calls : List DeskCall) (b : Bool) (x y : Replies) (t : State RelationStatement) (a : Answer CoreState)
      → Agree (Agrees waits setting)
      (if b then (record { replies = x; calls = []; next = Ends end.Fatal }) else (record { replies = y; calls = []; next = Goes t })) a
      → Agree (Agrees waits setting) (if b then (record { replies = x; calls = calls; next = Ends end.Fatal })
      else (record { replies = y; calls = calls; next = Goes t })) (calling calls a)
  failed_calling calls true x y t a k =
      record { replies = k.replies; calls = sym (append-nil calls) ∙ ap (λ x. calls ++ x) k.calls; next = k.next }
  failed_calling calls false x y t a k =
      record { replies = k.replies; calls = sym (append-nil calls) ∙ ap (λ x. calls ++ x) k.calls; next = k.next }

  settled_calling : (calls : List DeskCall) (replies : Replies) (o : Outcome RelationStatement) (a : Answer CoreState)
      → Agree (Agrees waits setting) (settled UntilSync replies [] o) a
      → Agree (Agrees waits setting) (settled UntilSync replies calls o) (calling calls a)
  settled_calling calls replies (Done t) a k =
      record { replies = k.replies; calls = sym (append-nil calls) ∙ ap (λ x. calls ++ x) k.calls; next = k.next }
  settled_calling calls replies (Failed t e) a k = failed_calling calls (is_fatal (info_of e)) _ _ _ a k
  settled_calling calls replies (Over kind) a k =
      record { replies = k.replies; calls = sym (append-nil calls) ∙ ap (λ x. calls ++ x) k.calls; next = k.next }
  settled_calling calls replies Stopped a k =
      record { replies = k.replies; calls = sym (append-nil calls) ∙ ap (λ x. calls ++ x) k.calls; next = k.next }

  calling_agrees : (calls : List DeskCall) (e : Effect RelationStatement) (a : Answer CoreState) → AgreeRow waits setting e a
      → AgreeCall waits setting (record { calls = calls; effect = e }) (calling calls a)
  calling_agrees calls e a k = settled_calling calls e.replies e.outcome a k

  -- the items of a relation's portal, in binary
  items_at : (p : TablePortal RelationStatement) (q : CorePortal) (place : ℕ) → HaveEvenRows setting.relations
      → q.means ≡ statement.Relation place
      → IsBinaryIn p.bound.result_column_format (columns_of setting.relations q.means) → q.position ≡ 0
      → map (row_item (session_style s.info) (column_formats p.bound.result_column_format (relation_at setting.relations place).columns))
      (relation_at setting.relations place).rows ≡ map binary_item (to_come place q)
  items_at p q place even is binary first =
      let r = relation_at setting.relations place in
      let formats : column_formats p.bound.result_column_format r.columns ≡ map (λ name. field.Binary) r.columns = rw is at binary in
      rw (formats, first) (binary_items (session_style s.info) r.columns r.rows (even_at setting.relations even place))

  polled_agrees : (m : Execute) (p : TablePortal RelationStatement) (q : CorePortal) (place : ℕ) → HaveEvenRows setting.relations
      → p.bound.statement.statement ≡ q.means → q.means ≡ statement.Relation place
      → IsBinaryIn p.bound.result_column_format (columns_of setting.relations q.means) → q.position ≡ 0 → q.delivered ≡ 0 → (v : Verdict)
      → AgreeRow waits setting
      (execute_polled s m p v (Ok (rows_response s.info p.bound.result_column_format (relation_at setting.relations place))))
      (core_polled setting c m q place v)
  polled_agrees m p q place even e is binary first none Unanswered = record { replies = refl; calls = refl; next = tt }
  polled_agrees m p q place even e is binary first none Canceled = refuses_agree waits setting wire.QueryCanceled refl s c h
  polled_agrees m p q place even e is binary first none Passed =
      fetched_agrees m p q _ 0 place (sym none) e binary is refl (items_at p q place even is binary first)

  run_agrees : (answers : List Bool) (m : Execute) (p : TablePortal RelationStatement) (q : CorePortal) (x : RelationStatement)
      → HaveEvenRows setting.relations → p.bound.statement.statement ≡ q.means → q.means ≡ x
      → IsBinaryIn p.bound.result_column_format (columns_of setting.relations q.means) → q.position ≡ 0 → q.delivered ≡ 0
      → AgreeCall waits setting (execute_run answers s m p (query_of setting.relations s.info p.bound.result_column_format x))
      (core_run setting answers c m q x)
  run_agrees answers m p q statement.Begin even e is binary first none = record {
    replies = refl;
    calls = refl;
    next = record {
      pid = h.pid;
      key = h.key;
      phase = h.phase;
      status = ap to_in_transaction_state h.status;
      statements = h.statements;
      portals = h.portals;
    };
  }
  run_agrees answers m p q statement.Commit even e is binary first none =
      let gone = without_portal_agrees waits setting s c h [] in
      record {
        replies = refl;
        calls = refl;
        next = record {
          pid = gone.pid;
          key = gone.key;
          phase = gone.phase;
          status = refl;
          statements = gone.statements;
          portals = gone.portals;
        };
      }
  run_agrees answers m p q (statement.Relation place) even e is binary first none =
      let asked = started (relation_at setting.relations place).unready answers in
      calling_agrees asked.calls
      (execute_polled s m p asked.verdict (Ok (rows_response s.info p.bound.result_column_format (relation_at setting.relations place))))
      (core_polled setting c m q place asked.verdict) (polled_agrees m p q place even e is binary first none asked.verdict)

  -- ---- a finished portal

  page_of_nothing : (limit : ℤ) → page limit [] ≡ (let p : Page (List Interval) = record { rows = []; suspended = false } in p)
  page_of_nothing (pos zero) = refl
  page_of_nothing (pos (suc k)) = let e : is_reached (pos (suc k)) 0 ≡ false = grind (arith) in rw e refl
  page_of_nothing (negsuc k) = refl

  -- the entry under a name is put there again
  kept : (name : List ℕ) (a : Entry (TablePortal RelationStatement)) (b : Entry CorePortal) → fin.get s.portals name ≡ Some a
      → AgreeEntry (PortalAgrees setting.relations) (Some a) (Some b)
      → AgreeNames (PortalAgrees setting.relations) s.portals (fin.insert c.portals name b)
  kept name a b e k asked =
      rw (fin.get-insert nat_list_cmp_total c.portals name b asked, is_eq-slice_cmp asked name) (by_case (bytes_eq asked name) refl)
    where
      by_case : (t : Bool) → bytes_eq asked name ≡ t
          → AgreeEntry (PortalAgrees setting.relations) (fin.get s.portals asked) (cond t (Some b) (fin.get c.portals asked))
      by_case true u =
          let same : fin.get s.portals asked ≡ Some a = ap (λ n. fin.get s.portals n) ((bytes_eq-Decides asked name).0 u) ∙ e in
          rw same k
      by_case false u = h.portals asked

  finished_agrees : (m : Execute) (p : TablePortal RelationStatement) (q : CorePortal) (told place : ℕ)
      → fin.get s.portals m.name ≡ Some (entry.Value p)
      → p.bound.statement.statement ≡ q.means → q.means ≡ statement.Relation place
      → IsBinaryIn p.bound.result_column_format (columns_of setting.relations q.means) → p.stage ≡ Ended told → to_come place q ≡ []
      → told ≡ q.delivered → q.delivered ≤ 2 ^ 64 - 1
      → AgreeRow waits setting (fetched_nothing s told) (core_fetched setting c m q place)
  finished_agrees m p q told place stored e is binary ended none same within =
      let nothing_more : page m.max_rows (to_come place q) ≡ record { rows = []; suspended = false }
      = ap (λ xs. page m.max_rows xs) none ∙ page_of_nothing m.max_rows in
      rw nothing_more (record {
        replies = ap (λ d. done_with (codes "SELECT") d ∷ []) (same ∙ sym (kept_count q.delivered within));
        calls = refl;
        next = record {
          pid = h.pid;
          key = h.key;
          phase = h.phase;
          status = h.status;
          statements = h.statements;
          portals = kept m.name (entry.Value p) _ stored (record {
            meaning = e;
            binary = binary;
            come = rw (is, ended) (further place q 0 ∙ none, same ∙ sym (kept_count q.delivered within), counted_within q.delivered 0);
          });
        };
      })

  -- ---- each portal

  staged : (answers : List Bool) (m : Execute) (p : TablePortal RelationStatement) (q : CorePortal) → HaveEvenRows setting.relations
      → fin.get s.portals m.name ≡ Some (entry.Value p) → p.bound.statement.statement ≡ q.means
      → IsBinaryIn p.bound.result_column_format (columns_of setting.relations q.means)
      → (st : Stage) (x : RelationStatement) (b : Bool) → p.stage ≡ st → q.means ≡ x
      → StageAgrees setting.relations x st q.position q.delivered b
      → AgreeCall waits setting (executed_portal (told_extended setting.relations) answers s m p st)
      (if b then core_executed_started setting c m q x else core_run setting answers c m q x)
  staged answers m p q even stored e binary Unstarted x false at is come =
      let told : p.bound.statement.statement ≡ x = e ∙ is in
      subst (λ y. AgreeCall waits setting (execute_run answers s m p (query_of setting.relations s.info p.bound.result_column_format y))
      (core_run setting answers c m q x)) (sym told) (run_agrees answers m p q x even e is binary come.0 come.1)
  staged answers m p q even stored e binary (Started r told) (statement.Relation place) true at is come =
      fetched_agrees m p q r told place come.2 e binary is come.0 come.1
  staged answers m p q even stored e binary (Ended told) (statement.Relation place) true at is come =
      finished_agrees m p q told place stored e is binary at come.0 come.1 come.2
  staged answers m p q even stored e binary _ _ _ at is come = absurd come

  entry_agrees : (answers : List Bool) (m : Execute) → HaveEvenRows setting.relations
      → (x : Option (Entry (TablePortal RelationStatement))) (y : Option (Entry CorePortal)) → fin.get s.portals m.name ≡ x
      → AgreeEntry (PortalAgrees setting.relations) x y
      → AgreeCall waits setting (executed_entry (told_extended setting.relations) answers s m x) (core_executed setting answers c m y)
  entry_agrees answers m even None None stored e = refuses_agree waits setting (wire.PortalNotFound m.name) refl s c h
  entry_agrees answers m even (Some entry.Empty) (Some entry.Empty) stored e = record { replies = refl; calls = refl; next = h }
  entry_agrees answers m even (Some (entry.Value p)) (Some (entry.Value q)) stored e =
      staged answers m p q even stored e.meaning e.binary p.stage q.means q.is_started refl refl e.come
  entry_agrees answers m even _ _ stored e = absurd e

  pub execute_agrees : (answers : List Bool) (m : Execute) → HaveEvenRows setting.relations
      → AgreeCall waits setting (on_execute (told_extended setting.relations) answers s m) (core_execute setting answers c m)
  execute_agrees answers m even = entry_agrees answers m even (fin.get s.portals m.name) (fin.get c.portals m.name) refl (h.portals m.name)
