-- A FETCH of two of three rows.
use Rattle.std.proofs.Common.{arith, inl, inr, ◌≡◌, ◌≢◌, ◌∙◌, pos, Bool, List, [], ◌∷◌, ◌++◌, Option, Result, Ok, codes, refl, ap, sym, subst}
use Rattle.pg_messages.specs.declared.data.DataRow.{DataRow}
use Rattle.pg_messages.specs.declared.extendedquery.Execute.{Execute}
use Rattle.pg_messages.specs.declared.frontend.PgWireFrontendMessage.{PgWireFrontendMessage}
use Rattle.pg_messages.specs.declared.frontend.PgWireFrontendMessage.TheVariants as client
use Rattle.pg_messages.specs.declared.backend.PgWireBackendMessage.TheVariants as server
use Rattle.pg_messages.specs.declared.response.ErrorInfo.{ErrorInfo}
use Rattle.pg_messages.specs.Frames.{portal_target}
use Rattle.pg_results.specs.declared.client.PgWireConnectionState.{PgWireConnectionState}
use Rattle.pg_results.specs.declared.error.PgWireError.{PgWireError}
use Rattle.pg_results.specs.declared.describe.DescribePortalResponse.{DescribePortalResponse}
use Rattle.pg_portal.specs.declared.store.Entry.{Entry}
use Rattle.pg_portal.specs.declared.store.Entry.TheVariants as entry
use Rattle.pg_results.specs.Errors.{info_of}
use Rattle.pg_results.specs.Told.{with_items}
use Rattle.pg_portal.specs.Fetching.{items_to_come}
use Rattle.pg_results.specs.Page.{delivered_after}
use Rattle.pg_results.specs.Rows.{RowItem}
use Rattle.pg_portal.specs.Told.{TablePortal, Stage, Started, value_under}
use Rattle.pg_client.specs.Answer.{Answer, Goes, continued, conversation, left_by}
use Rattle.pg_client.specs.Effect.{UntilSync, settle, silent}
use Rattle.conversation_table.specs.ExecuteRow.{at_stage, executed_entry, executed_portal}
use Rattle.conversation_table.specs.ExtendedRows.{described, described_portal, portal_description}
use Rattle.conversation_table.specs.Handlers.{Handlers}
use Rattle.pg_replies.specs.Replies.{Replies, error_reply, ready}
use Rattle.pg_client.specs.State.{State, with_portal}
use Rattle.conversation_table.specs.Table.{row, scope_in, whole_table}
use Rattle.conversation_laws.specs.Discarding.{synced}
use Rattle.cursor_commands.specs.declared.command.CursorCommand.TheVariants.{Fetch}
use Rattle.cursor_commands.specs.Asking.{describing, executing, sync}
use Rattle.cursor_commands.specs.Cursors.{fetched, messages_of, replies_of}
use Rattle.cursor_table.specs.CursorTable.{cursor_table, is_ready}
use Rattle.conversation_laws.specs.Pages.{Taken, SentRows, DroppedRows, HasStarted, Leaves, joined_items, rows_among, stage_in, stage_under}
use Rattle.cursor_laws.specs.CursorPages.{IsFetched, TellsFetch, errors_among}
use Rattle.cursor_laws.specs.Examples.{HasThreeRows, fetch_two, three_rows}
use Rattle.cursor_laws.proofs.Gathered.{fetches_page, row_is}

module _ {S : Type 0} (h : Handlers S) (answers : List Bool) (s : State S) (one two three : DataRow)
    (k : HasThreeRows h s one two three) where
  -- a message while the server is ready
  in_ready : (answers : List Bool) (t : State S) (m : PgWireFrontendMessage) → (x : PgWireConnectionState) → t.info.state ≡ x
      → whole_table h answers t m ≡ settle (scope_in x m) (row h answers t m x)
  in_ready answers t m x e = ap (λ (x : PgWireConnectionState). settle (scope_in x m) (row h answers t m x)) e

  -- there are no columns
  abbrev columns : Answer (State S)
  columns = record { replies = server.NoData (record {}) ∷ []; calls = []; next = Goes s }

  described_is : (answers : List Bool) → whole_table h answers s (describing portal_target (codes "c")) ≡ columns
  described_is answers = in_ready answers s (describing portal_target (codes "c")) _ k.is_ready
      ∙ (ap (λ (o : Option (Entry (TablePortal S))). settle UntilSync (silent (described_portal h.extended s (codes "c") o))) k.stored
      ∙ ap (λ (r : Result DescribePortalResponse PgWireError). settle UntilSync (silent (described s portal_description r))) k.described)

  -- the state behind the page, and the page
  abbrev after : State S
  after = with_portal s (codes "c")
      (entry.Value (at_stage k.portal (Started (with_items (three_rows one two three) (Ok three ∷ [])) (delivered_after 0 2))))

  abbrev page : Answer (State S)
  page = record {
    replies = server.DataRow one ∷ server.DataRow two ∷ server.PortalSuspended (record {}) ∷ [];
    calls = [];
    next = Goes after;
  }

  abbrev asked : Execute
  asked = record { name = codes "c"; max_rows = pos 2 }

  executed_is : (answers : List Bool) → whole_table h answers s (executing (codes "c") (pos 2)) ≡ page
  executed_is answers = in_ready answers s (executing (codes "c") (pos 2)) _ k.is_ready
      ∙ (ap (λ (o : Option (Entry (TablePortal S))). settle UntilSync (executed_entry h.extended answers s asked o)) k.stored
      ∙ ap (λ (st : Stage). settle UntilSync (executed_portal h.extended answers s asked k.portal st)) k.stage)

  synced_is : (answers : List Bool) → whole_table h answers after sync ≡ synced after
  synced_is answers = in_ready answers after sync _ k.is_ready

  -- what follows an answer
  next_is : (answers : List Bool) (messages : List PgWireFrontendMessage) (a b : Answer (State S)) → a ≡ b
      → continued a a.next (λ t. conversation (whole_table h) (left_by a.calls answers) t messages)
      ≡ continued b b.next (λ t. conversation (whole_table h) (left_by b.calls answers) t messages)
  next_is answers messages a b e = ap (λ (a : Answer (State S)). continued a a.next
      (λ t. conversation (whole_table h) (left_by a.calls answers) t messages)) e

  replied : (conversation (whole_table h) answers s (messages_of (Fetch (pos 2) (codes "c")))).replies
      ≡ server.NoData (record {}) ∷ server.DataRow one ∷ server.DataRow two ∷ server.PortalSuspended (record {}) ∷ ready s.info.status ∷ []
  replied =
      ap (λ (a : Answer (State S)). a.replies)
      (next_is answers (executing (codes "c") (pos 2) ∷ sync ∷ []) _ columns (described_is answers))
      ∙ (ap (λ (a : Answer (State S)). server.NoData (record {}) ∷ a.replies)
      (next_is answers (sync ∷ []) _ page (executed_is answers))
      ∙ ap (λ (a : Answer (State S)). server.NoData (record {}) ∷ server.DataRow one ∷ server.DataRow two
      ∷ server.PortalSuspended (record {}) ∷ a.replies) (next_is answers [] _ (synced after) (synced_is answers)))

  pub two_fetched : (cursor_table is_ready (whole_table h) answers s (client.Query fetch_two)).replies
      ≡ server.DataRow one ∷ server.DataRow two ∷ fetched 2 ∷ ready s.info.status ∷ []
  two_fetched =
      ap (λ (a : Answer (State S)). a.replies)
      (row_is h answers s fetch_two (Fetch (pos 2) (codes "c")) k.is_ready refl)
      ∙ ap (λ (l : Replies). replies_of (Fetch (pos 2) (codes "c")) l) replied

  pub page_told : TellsFetch (pos 2) (cursor_table is_ready (whole_table h) answers s (client.Query fetch_two)).replies
      (SentRows (one ∷ two ∷ []) ∷ [])
  page_told = inl (SentRows (one ∷ two ∷ []), refl, (ap rows_among two_fetched, ap errors_among two_fetched), λ some. omega arith)

  -- the portal has started, and these rows are to come
  stage_is : stage_under s (codes "c") ≡ Started (three_rows one two three) 0
  stage_is = ap (λ (o : Option (Entry (TablePortal S))). stage_in (value_under o)) k.stored ∙ k.stage

  abbrev given : Answer (State S)
  given = cursor_table is_ready (whole_table h) answers s (client.Query fetch_two)

  left_of : (rows : List DataRow) (left : List RowItem) → rows ≡ one ∷ two ∷ []
      → Ok one ∷ Ok two ∷ Ok three ∷ [] ≡ joined_items (SentRows rows ∷ []) ++ left → left ≡ Ok three ∷ []
  left_of rows left is joins =
      let e : Ok one ∷ Ok two ∷ Ok three ∷ [] ≡ Ok one ∷ Ok two ∷ left =
      joins ∙ ap (λ (l : List DataRow). joined_items (SentRows l ∷ []) ++ left) is in
      let f : left ≡ Ok three ∷ [] = cc e in f

  no_error : (info : ErrorInfo) → errors_among given.replies ≡ error_reply info ∷ [] → ⊥
  no_error info e = let f : [] ≡ error_reply info ∷ [] = sym (ap errors_among two_fetched) ∙ e in absurd (let k = f in cc)

  left_by_page : (left : List RowItem) (page : Taken) → IsFetched page given.replies
      → Ok one ∷ Ok two ∷ Ok three ∷ [] ≡ joined_items (page ∷ []) ++ left → left ≡ Ok three ∷ []
  left_by_page left (SentRows rows) told joins = left_of rows left (sym told.0 ∙ ap rows_among two_fetched) joins
  left_by_page left (DroppedRows rows e) told joins = absurd (no_error (info_of e) told.1)

  left_told : (pages : List Taken) (left : List RowItem) → TellsFetch (pos 2) given.replies pages
      → Ok one ∷ Ok two ∷ Ok three ∷ [] ≡ joined_items pages ++ left → left ≡ Ok three ∷ []
  left_told pages left (inl t) joins = left_by_page left t.0 t.2 (joins ∙ ap (λ l. joined_items l ++ left) t.1)
  left_told pages left (inr t) joins = absurd (no_error t.1.1.0 t.1.1.1)

  named : codes "c" ≢ []
  named e = absurd (let k = e in cc)

  -- By the law of a FETCH the third row is left.
  pub third_left : Leaves (codes "c") (Ok three ∷ []) given.next
  third_left =
      let f = fetches_page h answers s fetch_two (codes "c") (pos 2) k.is_ready refl named (subst HasStarted (sym stage_is) tt) in
      subst (λ l. Leaves (codes "c") l given.next)
      (left_told f.pages f.left f.told (sym (ap items_to_come stage_is) ∙ f.joined)) f.leaves
