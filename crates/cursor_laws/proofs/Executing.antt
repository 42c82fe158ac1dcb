-- An Execute of a portal that has started, and one that starts it, tells no error, or an error alone.
use Rattle.std.proofs.Common.{◌≡◌, ◌⊎◌, inl, inr, ℕ, Bool, true, false, if◌then◌else◌, List, [], ◌∷◌, ◌++◌, Option, Some, None, length, refl, sym, subst}
use Rattle.std.specs.FinMap as fin
use Rattle.pg_messages.specs.declared.data.DataRow.{DataRow}
use Rattle.pg_messages.specs.declared.extendedquery.Execute.{Execute}
use Rattle.pg_messages.specs.declared.frontend.PgWireFrontendMessage.TheVariants as client
use Rattle.pg_messages.specs.declared.backend.PgWireBackendMessage.{PgWireBackendMessage}
use Rattle.pg_messages.specs.declared.backend.PgWireBackendMessage.TheVariants as server
use Rattle.pg_messages.specs.declared.response.ErrorInfo.{ErrorInfo}
use Rattle.pg_results.specs.declared.client.PgWireConnectionState.{PgWireConnectionState}
use Rattle.pg_results.specs.declared.client.PgWireConnectionState.TheVariants as phase
use Rattle.pg_portal.specs.declared.store.Entry.{Entry}
use Rattle.pg_portal.specs.declared.store.Entry.TheVariants as entry
use Rattle.pg_results.specs.Errors.{info_of}
use Rattle.pg_portal.specs.Fetching.{stage_after}
use Rattle.pg_results.specs.Page.{PageEnd, AtLimit, AtEnd, AtError, delivered_after, item_page}
use Rattle.pg_results.specs.Told.{ToldRows}
use Rattle.pg_portal.specs.Told.{TablePortal, Stage, Unstarted, Started, Ended, value_under}
use Rattle.pg_client.specs.declared.desk.DeskCall.{DeskCall}
use Rattle.pg_client.specs.declared.ends.EndKind.TheVariants as end
use Rattle.pg_client.specs.Answer.{Answer, Goes, Ends}
use Rattle.pg_client.specs.Effect.{UntilSync, settle, after_error}
use Rattle.pg_client.specs.Errors.{is_fatal}
use Rattle.conversation_table.specs.ExecuteRow.{at_stage, execute_polled, executed_entry, executed_portal, fetched, page_effect}
use Rattle.conversation_table.specs.Handlers.{Handlers}
use Rattle.conversation_table.specs.Questions.{Verdict, Passed, started}
use Rattle.pg_replies.specs.Replies.{done_with, error_reply, row_replies}
use Rattle.pg_client.specs.State.{State, with_portal}
use Rattle.conversation_table.specs.Table.{row, scope_in, whole_table}
use Rattle.conversation_laws.specs.Pages.{HasStarted, Starts, stage_in, stage_under}
use Rattle.cursor_laws.specs.CursorPages.{errors_among}

-- no error is told, or an error alone
abbrev pub IsClean : {S : Type 0} → Answer (State S) → Type 0
IsClean a = (errors_among a.replies ≡ []) ⊎ ((info : ErrorInfo) × (a.replies ≡ error_reply info ∷ []))

errors_before : (rows : List DataRow) (reply : PgWireBackendMessage) → errors_among (reply ∷ []) ≡ []
    → errors_among (row_replies rows ++ reply ∷ []) ≡ []
errors_before [] reply e = e
errors_before (row ∷ rows) reply e = errors_before rows reply e

module _ {S : Type 0} where
  refused_clean : (calls : List DeskCall) (t : State S) (info : ErrorInfo) (fatal : Bool)
      → IsClean (if fatal
      then (let a : Answer (State S) = record { replies = [] ++ error_reply info ∷ []; calls = calls; next = Ends end.Fatal } in a)
      else (record {
        replies = [] ++ error_reply info ∷ (after_error UntilSync t).0;
        calls = calls;
        next = Goes (after_error UntilSync t).1;
      }))
  refused_clean calls t info true = inr (info, refl)
  refused_clean calls t info false = inr (info, refl)

  page_clean : (calls : List DeskCall) (t : State S) (tag : List ℕ) (number : ℕ) (rows : List DataRow) (ending : PageEnd DataRow)
      → IsClean (settle UntilSync (record { calls = calls; effect = page_effect t tag number rows ending }))
  page_clean calls t tag number rows (AtLimit items) = inl (errors_before rows (server.PortalSuspended (record {})) refl)
  page_clean calls t tag number rows AtEnd = inl (errors_before rows (done_with tag number) refl)
  page_clean calls t tag number rows (AtError e items) = refused_clean calls t (info_of e) (is_fatal (info_of e))

  fetched_clean : (calls : List DeskCall) (s : State S) (m : Execute) (p : TablePortal S) (r : ToldRows) (delivered : ℕ)
      → IsClean (settle UntilSync (record { calls = calls; effect = fetched s m p r delivered }))
  fetched_clean calls s m p r delivered =
      let page = item_page m.max_rows r.items in
      page_clean calls (with_portal s m.name (entry.Value (at_stage p (stage_after r delivered page.rows page.ending)))) r.command_tag
      (delivered_after delivered (length page.rows)) page.rows page.ending

module _ {S : Type 0} (h : Handlers S) (answers : List Bool) (s : State S) (m : Execute) where
  -- the answer of an Execute while the server is ready, where this stands under its name
  abbrev answer_at : Option (Entry (TablePortal S)) → Answer (State S)
  answer_at o = settle UntilSync (executed_entry h.extended answers s m o)

  in_ready : s.info.state ≡ phase.ReadyForQuery → IsClean (answer_at (fin.get s.portals m.name))
      → IsClean (whole_table h answers s (client.Execute m))
  in_ready q k = subst (λ (x : PgWireConnectionState). IsClean
      (settle (scope_in x (client.Execute m)) (row h answers s (client.Execute m) x))) (sym q) k

  portal_clean : (p : TablePortal S) (st : Stage) → HasStarted st
      → IsClean (settle UntilSync (executed_portal h.extended answers s m p st))
  portal_clean p Unstarted k = absurd k
  portal_clean p (Started r d) k = fetched_clean [] s m p r d
  portal_clean p (Ended d) k = inl refl

  entry_clean : (o : Option (Entry (TablePortal S))) → HasStarted (stage_in (value_under o)) → IsClean (answer_at o)
  entry_clean None k = absurd k
  entry_clean (Some entry.Empty) k = absurd k
  entry_clean (Some (entry.Value p)) k = portal_clean p p.stage k

  pub execute_clean : s.info.state ≡ phase.ReadyForQuery → HasStarted (stage_under s m.name)
      → IsClean (whole_table h answers s (client.Execute m))
  execute_clean q k = in_ready q (entry_clean (fin.get s.portals m.name) k)

  module _ (r : ToldRows) (k : Starts h answers s m r) where
    polled : (v : Verdict) → v ≡ Passed → (calls : List DeskCall) → IsClean (settle UntilSync (record {
      calls = calls;
      effect = execute_polled s m k.portal v (h.extended.query s.info k.portal.bound m.max_rows).outcome;
    }))
    polled v is calls = rw (is, k.answered) (fetched_clean calls s m k.portal r 0)

    started_portal : (st : Stage) → st ≡ Unstarted → IsClean (settle UntilSync (executed_portal h.extended answers s m k.portal st))
    started_portal st is = subst (λ (st : Stage). IsClean (settle UntilSync (executed_portal h.extended answers s m k.portal st)))
        (sym is)
        (let asked = started (h.extended.query s.info k.portal.bound m.max_rows).owes answers in
        polled asked.verdict k.passed asked.calls)

    pub start_clean : IsClean (whole_table h answers s (client.Execute m))
    start_clean = in_ready k.is_ready
        (subst (λ o. IsClean (answer_at o)) (sym k.stored) (started_portal k.portal.stage k.is_unstarted))
