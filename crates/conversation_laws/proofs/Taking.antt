-- An Execute of a started portal, and one that starts it, takes a page of the items.
use Rattle.std.proofs.Common.{◌≡◌, arith, ◌∙◌, ℤ, pos, negsuc, Bool, true, false, if◌then◌else◌, List, [], ◌∷◌, ◌++◌, Option, Some, None, ℕ, length, refl, ap, sym, subst}
use Rattle.std.specs.FinMap as fin
use Rattle.pg_messages.specs.declared.data.DataRow.{DataRow}
use Rattle.pg_messages.specs.declared.extendedquery.Execute.{Execute}
use Rattle.pg_messages.specs.declared.frontend.PgWireFrontendMessage.TheVariants as client
use Rattle.pg_messages.specs.declared.backend.PgWireBackendMessage.TheVariants as server
use Rattle.pg_results.specs.declared.client.PgWireConnectionState.{PgWireConnectionState}
use Rattle.pg_results.specs.declared.client.PgWireConnectionState.TheVariants as phase
use Rattle.pg_results.specs.declared.error.PgWireError.{PgWireError}
use Rattle.pg_portal.specs.declared.store.Entry.{Entry}
use Rattle.pg_portal.specs.declared.store.Entry.TheVariants as entry
use Rattle.pg_results.specs.Errors.{info_of}
use Rattle.pg_results.specs.Told.{with_items, ToldRows}
use Rattle.pg_portal.specs.Fetching.{items_to_come, stage_after}
use Rattle.pg_results.specs.Page.{ItemPage, delivered_after}
use Rattle.pg_results.specs.Rows.{RowItem}
use Rattle.pg_portal.specs.Told.{TablePortal, Stage, Unstarted, Started, Ended, value_under}
use Rattle.named_entries.proofs.NameMaps.{get-put}
use Rattle.pg_client.specs.declared.desk.DeskCall.{DeskCall}
use Rattle.pg_client.specs.declared.ends.EndKind.TheVariants as end
use Rattle.pg_client.specs.Answer.{Answer, Goes, Ends}
use Rattle.pg_client.specs.Effect.{Effect, UntilSync, settle, after_error}
use Rattle.pg_client.specs.Errors.{is_fatal}
use Rattle.conversation_table.specs.ExecuteRow.{at_stage, execute_polled, executed_entry, executed_portal, fetched, page_effect}
use Rattle.conversation_table.specs.Handlers.{Handlers}
use Rattle.conversation_table.specs.Questions.{Verdict, Passed, started}
use Rattle.pg_replies.specs.Replies.{done_with, error_reply}
use Rattle.pg_client.specs.State.{State, with_portal}
use Rattle.conversation_table.specs.Table.{row, scope_in, whole_table}
use Rattle.conversation_laws.specs.Pages.{SentRows, DroppedRows, HasStarted, IsWithin, Leaves, Starts, TakesPage, items_of, stage_in, stage_under}
use Rattle.conversation_laws.proofs.Parts.{Parts, Reached, Complete, Broken, parts, rows_before}

-- no item is within each limit
within_none : (limit : ℤ) → IsWithin limit (items_of (SentRows []))
within_none (pos limit) = λ one. omega arith
within_none (negsuc n) = tt

module _ {S : Type 0} (s : State S) (m : Execute) (p : TablePortal S) where
  -- the state behind a page: the portal has come to this stage
  abbrev at : Stage → State S
  at st = with_portal s m.name (entry.Value (at_stage p st))

  stage_at : (st : Stage) → stage_under (at st) m.name ≡ st
  stage_at st = ap (λ o. stage_in (value_under o)) (get-put s.portals m.name (entry.Value (at_stage p st)))

  leaves_at : (st : Stage) (left : List RowItem) → HasStarted st → items_to_come st ≡ left → Leaves m.name left (Goes (at st))
  leaves_at st left k e = (subst HasStarted (sym (stage_at st)) k, ap items_to_come (stage_at st) ∙ e)

  module _ (calls : List DeskCall) (r : ToldRows) (delivered : ℕ) where
    abbrev answer_of : Effect S → Answer (State S)
    answer_of effect = settle UntilSync (record { calls = calls; effect = effect })

    -- the answer with a page
    abbrev with_page : ItemPage DataRow → Answer (State S)
    with_page page = answer_of (page_effect (at (stage_after r delivered page.rows page.ending)) r.command_tag
        (delivered_after delivered (length page.rows)) page.rows page.ending)

    abbrev Takes : Answer (State S) → Type 0
    Takes a = TakesPage m.name m.max_rows r.items a

    broken : (rows : List DataRow) (e : PgWireError) (left : List RowItem) → r.items ≡ items_of (DroppedRows rows e) ++ left
        → IsWithin m.max_rows (items_of (DroppedRows rows e)) → (fatal : Bool)
        → Takes (let t : State S = at (Started (with_items r left) delivered) in
        if fatal then (let a : Answer (State S) = record {
          replies = [] ++ error_reply (info_of e) ∷ [];
          calls = calls;
          next = Ends end.Fatal;
        } in a)
        else (record {
          replies = [] ++ error_reply (info_of e) ∷ (after_error UntilSync t).0;
          calls = calls;
          next = Goes (after_error UntilSync t).1;
        }))
    broken rows e left j w true = record { page = DroppedRows rows e; left = left; joined = j; told = refl; within = w; leaves = tt }
    broken rows e left j w false = record {
      page = DroppedRows rows e;
      left = left;
      joined = j;
      told = refl;
      within = w;
      leaves = leaves_at (Started (with_items r left) delivered) left tt refl;
    }

    takes_parts : Parts m.max_rows r.items → Takes (answer_of (fetched s m p r delivered))
    takes_parts (Reached rows left j w e) = subst (λ page. Takes (with_page page)) (sym e) (record {
      page = SentRows rows;
      left = left;
      joined = j;
      told = rows_before rows (server.PortalSuspended (record {})) refl;
      within = w;
      leaves = leaves_at (Started (with_items r left) (delivered_after delivered (length rows))) left tt refl;
    })
    takes_parts (Complete rows j w e) = subst (λ page. Takes (with_page page)) (sym e) (record {
      page = SentRows rows;
      left = [];
      joined = j;
      told = rows_before rows (done_with r.command_tag (delivered_after delivered (length rows))) refl;
      within = w;
      leaves = leaves_at (Ended (delivered_after delivered (length rows))) [] tt refl;
    })
    takes_parts (Broken rows e left j w is) = subst (λ page. Takes (with_page page)) (sym is)
        (broken rows e left j w (is_fatal (info_of e)))

    pub takes : Takes (answer_of (fetched s m p r delivered))
    takes = takes_parts (parts m.max_rows r.items)

module _ {S : Type 0} (h : Handlers S) (answers : List Bool) (s : State S) (m : Execute) where
  -- the answer of an Execute while the server is ready, where this stands under its name
  abbrev answer_at : Option (Entry (TablePortal S)) → Answer (State S)
  answer_at o = settle UntilSync (executed_entry h.extended answers s m o)

  abbrev TakesOf : List RowItem → Answer (State S) → Type 0
  TakesOf items a = TakesPage m.name m.max_rows items a

  -- in the phase that is ready
  in_ready : (items : List RowItem) → s.info.state ≡ phase.ReadyForQuery → TakesOf items (answer_at (fin.get s.portals m.name))
      → TakesOf items (whole_table h answers s (client.Execute m))
  in_ready items q k = subst (λ (x : PgWireConnectionState). TakesOf items
      (settle (scope_in x (client.Execute m)) (row h answers s (client.Execute m) x))) (sym q) k

  portal_takes : (p : TablePortal S) (st : Stage) → stage_under s m.name ≡ st → HasStarted st
      → TakesOf (items_to_come st) (settle UntilSync (executed_portal h.extended answers s m p st))
  portal_takes p Unstarted e k = absurd k
  portal_takes p (Started r d) e k = takes s m p [] r d
  portal_takes p (Ended d) e k = record {
    page = SentRows [];
    left = [];
    joined = refl;
    told = refl;
    within = within_none m.max_rows;
    leaves = (subst HasStarted (sym e) tt, ap items_to_come e);
  }

  entry_takes : (o : Option (Entry (TablePortal S))) → stage_under s m.name ≡ stage_in (value_under o)
      → HasStarted (stage_in (value_under o))
      → TakesOf (items_to_come (stage_in (value_under o))) (answer_at o)
  entry_takes None e k = absurd k
  entry_takes (Some entry.Empty) e k = absurd k
  entry_takes (Some (entry.Value p)) e k = portal_takes p p.stage e k

  pub execute_takes : s.info.state ≡ phase.ReadyForQuery → HasStarted (stage_under s m.name)
      → TakesOf (items_to_come (stage_under s m.name)) (whole_table h answers s (client.Execute m))
  execute_takes q k = in_ready (items_to_come (stage_under s m.name)) q (entry_takes (fin.get s.portals m.name) refl k)

  module _ (r : ToldRows) (k : Starts h answers s m r) where
    polled : (v : Verdict) → v ≡ Passed → (calls : List DeskCall) → TakesOf r.items (settle UntilSync (record {
      calls = calls;
      effect = execute_polled s m k.portal v (h.extended.query s.info k.portal.bound m.max_rows).outcome;
    }))
    polled v is calls = rw (is, k.answered) (takes s m k.portal calls r 0)

    started_portal : (st : Stage) → st ≡ Unstarted → TakesOf r.items (settle UntilSync (executed_portal h.extended answers s m k.portal st))
    started_portal st is = subst (λ (st : Stage). TakesOf r.items (settle UntilSync (executed_portal h.extended answers s m k.portal st)))
        (sym is)
        (let asked = started (h.extended.query s.info k.portal.bound m.max_rows).owes answers in
        polled asked.verdict k.passed asked.calls)

    pub start_takes : TakesOf r.items (whole_table h answers s (client.Execute m))
    start_takes = in_ready r.items k.is_ready
        (subst (λ o. TakesOf r.items (answer_at o)) (sym k.stored) (started_portal k.portal.stage k.is_unstarted))
