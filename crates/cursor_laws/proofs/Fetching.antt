-- A FETCH of a portal that has started, and one that starts it, takes a page of the items, or fails and takes none.
use Rattle.std.proofs.Common.{◌≡◌, ◌≢◌, ◌∙◌, ◌⊎◌, inl, inr, ℕ, ℤ, Bool, true, false, if◌then◌else◌, List, [], ◌∷◌, ◌++◌, Option, Some, None, Result, Ok, Err, refl, ap, sym, subst}
use Rattle.std.specs.FinMap as fin
use Rattle.std.proofs.lemmas.List.{append-nil}
use Rattle.pg_messages.specs.declared.extendedquery.Execute.{Execute}
use Rattle.pg_messages.specs.declared.frontend.PgWireFrontendMessage.{PgWireFrontendMessage}
use Rattle.pg_messages.specs.declared.frontend.PgWireFrontendMessage.TheVariants as client
use Rattle.pg_messages.specs.declared.backend.PgWireBackendMessage.TheVariants as server
use Rattle.pg_messages.specs.declared.response.ErrorInfo.{ErrorInfo}
use Rattle.pg_messages.specs.Frames.{portal_target}
use Rattle.pg_results.specs.declared.client.PgWireConnectionState.{PgWireConnectionState}
use Rattle.pg_results.specs.declared.client.PgWireConnectionState.TheVariants as phase
use Rattle.pg_results.specs.declared.error.PgWireError.{PgWireError}
use Rattle.pg_results.specs.declared.error.PgWireError.TheVariants as wire
use Rattle.pg_results.specs.declared.describe.DescribePortalResponse.{DescribePortalResponse}
use Rattle.pg_portal.specs.declared.store.Entry.{Entry}
use Rattle.pg_portal.specs.declared.store.Entry.TheVariants as entry
use Rattle.pg_results.specs.Describing.{is_no_data}
use Rattle.pg_results.specs.Errors.{info_of}
use Rattle.pg_portal.specs.Fetching.{items_to_come}
use Rattle.pg_results.specs.Fields.{Field}
use Rattle.pg_results.specs.Rows.{RowItem}
use Rattle.pg_results.specs.Told.{ToldRows}
use Rattle.pg_portal.specs.Told.{TablePortal, value_under}
use Rattle.pg_client.specs.declared.ends.EndKind.TheVariants as end
use Rattle.pg_client.specs.Answer.{Answer, Next, Goes, Ends, Stops, continued, conversation, joined, left_by}
use Rattle.pg_client.specs.Effect.{Effect, UntilSync, after_error, refuses, says, settle, silent}
use Rattle.pg_client.specs.Errors.{is_fatal}
use Rattle.conversation_table.specs.ExtendedRows.{described, described_portal, portal_description}
use Rattle.conversation_table.specs.Handlers.{Handlers}
use Rattle.pg_replies.specs.Replies.{Replies, error_reply, row_description}
use Rattle.pg_client.specs.State.{State}
use Rattle.conversation_table.specs.Table.{row, scope_in, whole_table}
use Rattle.conversation_laws.specs.Discarding.{behind_sync}
use Rattle.conversation_laws.specs.Pages.{Taken, SentRows, DroppedRows, HasStarted, IsTold, IsUnstarted, IsWithin, Leaves, Starts, TakesPage, items_of, joined_items, rows_among, stage_in, stage_under}
use Rattle.conversation_laws.proofs.Gathering.{LeavesOrGone, left_so}
use Rattle.conversation_laws.proofs.Names.{get-left, get-removed, one_or_two}
use Rattle.conversation_laws.proofs.Taking.{execute_takes, start_takes}
use Rattle.cursor_commands.specs.declared.command.CursorCommand.TheVariants.{Fetch}
use Rattle.cursor_commands.specs.Asking.{describing, executing, sync}
use Rattle.cursor_commands.specs.Cursors.{messages_of}
use Rattle.cursor_table.specs.CursorTable.{command_row}
use Rattle.cursor_laws.specs.CursorPages.{TellsFetch, errors_among}
use Rattle.cursor_laws.proofs.Changing.{errors_both, fetch_told, rows_both, same_told}
use Rattle.cursor_laws.proofs.Executing.{IsClean, execute_clean, start_clean}

-- ---- what an Execute tells, as a FETCH

-- the pages that replies tell, and what is left of the items
record Took (limit : ℤ) (items left : List RowItem) (replies : Replies) : Type 0 where
  pages : List Taken
  told : TellsFetch limit replies pages
  joins : items ≡ joined_items pages ++ left

module _ {S : Type 0} (limit : ℤ) (items left : List RowItem) (a : Answer (State S)) where
  took : (page : Taken) → items ≡ items_of page ++ left → IsTold page a.replies → IsWithin limit (items_of page) → IsClean a
      → Took limit items left a.replies
  took (SentRows rows) joins told within (inl none) = record {
    pages = SentRows rows ∷ [];
    told = inl (SentRows rows, refl, (told, none), within);
    joins = joins ∙ ap (λ l. l ++ left) (sym (append-nil (items_of (SentRows rows))));
  }
  took (SentRows rows) joins told within (inr alone) = record {
    pages = [];
    told = inr (refl, (ap rows_among alone.1, (alone.0, ap errors_among alone.1)));
    joins = joins ∙ ap (λ l. items_of (SentRows l) ++ left) (sym told ∙ ap rows_among alone.1);
  }
  took (DroppedRows rows e) joins told within clean = record {
    pages = DroppedRows rows e ∷ [];
    told = inl (DroppedRows rows e, refl, (ap rows_among told, ap errors_among told), within);
    joins = joins ∙ ap (λ l. l ++ left) (sym (append-nil (items_of (DroppedRows rows e))));
  }

-- ---- the columns before, and the Sync behind

-- a portal's columns were told, and neither rows nor an error
record IsShown {S : Type 0} (s : State S) (effect : Effect S) : Type 0 where
  replies : Replies
  is : effect ≡ says replies s
  rows : rows_among replies ≡ []
  errors : errors_among replies ≡ []

columns_rows : (b : Bool) (fields : List Field)
    → rows_among ((if b then server.NoData (record {}) else row_description fields) ∷ []) ≡ []
columns_rows true fields = refl
columns_rows false fields = refl

columns_errors : (b : Bool) (fields : List Field)
    → errors_among ((if b then server.NoData (record {}) else row_description fields) ∷ []) ≡ []
columns_errors true fields = refl
columns_errors false fields = refl

module _ {S : Type 0} (h : Handlers S) (s : State S) (name : List ℕ) where
  shown : (d : DescribePortalResponse) → IsShown s (says (portal_description d) s)
  shown d =
      let b = is_no_data (record { parameters = None; fields = d.fields }) in
      record { replies = portal_description d; is = refl; rows = columns_rows b d.fields; errors = columns_errors b d.fields }

  told_or_refused : (r : Result DescribePortalResponse PgWireError)
      → IsShown s (described s portal_description r) ⊎ ((e : PgWireError) × (described s portal_description r ≡ refuses s e))
  told_or_refused (Ok d) = inl (shown d)
  told_or_refused (Err e) = inr (e, refl)

  shown_or_refused : (o : Option (Entry (TablePortal S)))
      → IsShown s (described_portal h.extended s name o) ⊎ ((e : PgWireError) × (described_portal h.extended s name o ≡ refuses s e))
  shown_or_refused None = inr (wire.PortalNotFound name, refl)
  shown_or_refused (Some entry.Empty) = inl (shown (record { fields = [] }))
  shown_or_refused (Some (entry.Value p)) = told_or_refused (h.extended.describe_portal s.info p.bound)

-- an answer without rows and errors, and what it leaves; of a portal that has a name, that stands
record IsQuiet {S : Type 0} (name : List ℕ) (left : List RowItem) (a : Answer (State S)) : Type 0 where
  rows : rows_among a.replies ≡ []
  errors : errors_among a.replies ≡ []
  leaves : LeavesOrGone name left a.next
  stands : name ≢ [] → Leaves name left a.next

-- what a FETCH tells of its portal, and what it leaves
pub record Fetches {S : Type 0} (name : List ℕ) (limit : ℤ) (items : List RowItem) (a : Answer (State S)) : Type 0 where
  pub first : List Taken
  pub left : List RowItem
  pub told : TellsFetch limit a.replies first
  pub joined : items ≡ joined_items first ++ left
  pub leaves : LeavesOrGone name left a.next
  pub stands : name ≢ [] → Leaves name left a.next

module _ {S : Type 0} (h : Handlers S) (name : List ℕ) where
  behind_named : (t : State S) (left : List RowItem) → HasStarted (stage_under t name) → items_to_come (stage_under t name) ≡ left
      → name ≢ [] → Leaves name left (Goes (behind_sync t))
  behind_named t left k e ne =
      let same : fin.get (fin.remove t.portals []) name ≡ fin.get t.portals name = get-left t.portals [] name ne in (
        subst (λ o. HasStarted (stage_in (value_under o))) (sym same) k,
        ap (λ o. items_to_come (stage_in (value_under o))) same ∙ e,
      )

  behind : (t : State S) (left : List RowItem) → HasStarted (stage_under t name) → items_to_come (stage_under t name) ≡ left
      → LeavesOrGone name left (Goes (behind_sync t))
  behind t left k e = by_name (one_or_two name [])
    where
      by_name : (name ≡ []) ⊎ (name ≡ [] → ⊥) → LeavesOrGone name left (Goes (behind_sync t))
      by_name (inl is) = inr (subst (λ o. IsUnstarted (stage_in (value_under o)))
          (sym (ap (fin.get (fin.remove t.portals [])) is ∙ get-removed t.portals [])) tt)
      by_name (inr ne) = inl (behind_named t left k e ne)

  sync_in : (answers : List Bool) (t : State S) (left : List RowItem) → HasStarted (stage_under t name)
      → items_to_come (stage_under t name) ≡ left → (x : PgWireConnectionState)
      → IsQuiet name left (let given = settle (scope_in x sync) (row h answers t sync x) in
      continued given given.next (λ u. record { replies = []; calls = []; next = Goes u }))
  sync_in answers t left k e phase.ReadyForQuery = record {
    rows = refl;
    errors = refl;
    leaves = behind t left k e;
    stands = behind_named t left k e;
  }
  sync_in answers t left k e phase.AwaitingSync = record {
    rows = refl;
    errors = refl;
    leaves = behind t left k e;
    stands = behind_named t left k e;
  }
  sync_in answers t left k e phase.AwaitingStartup = record {
    rows = refl;
    errors = refl;
    leaves = inl (k, e);
    stands = λ ne. (k, e);
  }
  sync_in answers t left k e (phase.CopyInProgress is_extended) = record {
    rows = refl;
    errors = refl;
    leaves = inl (k, e);
    stands = λ ne. (k, e);
  }

  -- the Sync of a FETCH
  sync_quiet : (answers : List Bool) (t : State S) (left : List RowItem) → HasStarted (stage_under t name)
      → items_to_come (stage_under t name) ≡ left → IsQuiet name left (conversation (whole_table h) answers t (sync ∷ []))
  sync_quiet answers t left k e = sync_in answers t left k e t.info.state

  -- ---- the messages of a FETCH

  module _ (limit : ℤ) (items : List RowItem) where
    -- what an answer to the messages tells, and what it leaves
    abbrev pub FetchStep : Answer (State S) → Type 0
    FetchStep a = Fetches name limit items a

    module _ (a : Answer (State S)) (k : TakesPage name limit items a) (clean : IsClean a) (others : State S → Answer (State S))
        (quiet : (t : State S) (left : List RowItem) → HasStarted (stage_under t name) → items_to_come (stage_under t name) ≡ left
        → IsQuiet name left (others t)) where
      taken : Took limit items k.left a.replies
      taken = took limit items k.left a k.page k.joined k.told k.within clean

      by_next : (next : Next (State S)) → Leaves name k.left next → FetchStep (continued a next others)
      by_next (Goes t) l =
          let b = quiet t k.left l.0 l.1 in
          record {
            first = taken.pages;
            left = k.left;
            told = same_told limit a.replies (a.replies ++ (others t).replies)
                (rows_both a.replies (others t).replies ∙ ap (λ l. rows_among a.replies ++ l) b.rows ∙ append-nil (rows_among a.replies))
                (errors_both a.replies (others t).replies ∙ ap (λ l. errors_among a.replies ++ l) b.errors
                ∙ append-nil (errors_among a.replies))
                taken.pages taken.told;
            joined = taken.joins;
            leaves = b.leaves;
            stands = b.stands;
          }
      by_next (Ends kind) l = record {
        first = taken.pages;
        left = k.left;
        told = taken.told;
        joined = taken.joins;
        leaves = left_so name k.left a.next k.leaves;
        stands = λ ne. k.leaves;
      }
      by_next Stops l = absurd l

      -- the Execute and what is behind it
      executed_step : FetchStep (continued a a.next others)
      executed_step = by_next a.next k.leaves

    -- replies without rows and errors before them
    behind_columns : (s : State S) (replies : Replies) → rows_among replies ≡ [] → errors_among replies ≡ [] → (a : Answer (State S))
        → FetchStep a → FetchStep (joined (record { replies = replies; calls = []; next = Goes s }) a)
    behind_columns s replies rows errors a k = record {
      first = k.first;
      left = k.left;
      told = same_told limit a.replies (replies ++ a.replies)
          (rows_both replies a.replies ∙ ap (λ l. l ++ rows_among a.replies) rows)
          (errors_both replies a.replies ∙ ap (λ l. l ++ errors_among a.replies) errors) k.first k.told;
      joined = k.joined;
      leaves = k.leaves;
      stands = k.stands;
    }

    module _ (answers : List Bool) (s : State S) where
      -- the Execute and the Sync
      abbrev behind_describe : List PgWireFrontendMessage
      behind_describe = executing name limit ∷ sync ∷ []

      -- what the messages are answered where Describe has this effect
      abbrev answered_by : Effect S → Answer (State S)
      answered_by effect =
          let given = settle UntilSync (silent effect) in
          continued given given.next (λ t. conversation (whole_table h) (left_by given.calls answers) t behind_describe)

      shown_step : (effect : Effect S) → IsShown s effect → FetchStep (conversation (whole_table h) answers s behind_describe)
          → FetchStep (answered_by effect)
      shown_step effect x k = subst (λ effect. FetchStep (answered_by effect)) (sym x.is)
          (behind_columns s x.replies x.rows x.errors (conversation (whole_table h) answers s behind_describe) k)

      refused_in : HasStarted (stage_under s name) → items_to_come (stage_under s name) ≡ items → (info : ErrorInfo) (fatal : Bool)
          → FetchStep (let given : Answer (State S) = if fatal
          then (let a : Answer (State S) = record { replies = [] ++ error_reply info ∷ []; calls = []; next = Ends end.Fatal } in a)
          else (record {
            replies = [] ++ error_reply info ∷ (after_error UntilSync s).0;
            calls = [];
            next = Goes (after_error UntilSync s).1;
          }) in
          continued given given.next (λ t. conversation (whole_table h) (left_by given.calls answers) t behind_describe))
      refused_in k e info true = record {
        first = [];
        left = items;
        told = inr (refl, (refl, (info, refl)));
        joined = refl;
        leaves = tt;
        stands = λ ne. tt;
      }
      refused_in k e info false = record {
        first = [];
        left = items;
        told = inr (refl, (refl, (info, refl)));
        joined = refl;
        leaves = behind (after_error UntilSync s).1 items k e;
        stands = behind_named (after_error UntilSync s).1 items k e;
      }

      refused_step : (effect : Effect S) (e : PgWireError) → effect ≡ refuses s e → HasStarted (stage_under s name)
          → items_to_come (stage_under s name) ≡ items → FetchStep (answered_by effect)
      refused_step effect e is k left = subst (λ effect. FetchStep (answered_by effect)) (sym is)
          (refused_in k left (info_of e) (is_fatal (info_of e)))

      -- the messages in the phase that is ready
      in_ready : s.info.state ≡ phase.ReadyForQuery → FetchStep (answered_by (described_portal h.extended s name (fin.get s.portals name)))
          → FetchStep (conversation (whole_table h) answers s (messages_of (Fetch limit name)))
      in_ready q k = subst (λ (x : PgWireConnectionState). FetchStep
          (let given = settle (scope_in x (describing portal_target name)) (row h answers s (describing portal_target name) x) in
          continued given given.next (λ t. conversation (whole_table h) (left_by given.calls answers) t behind_describe))) (sym q) k

      -- a FETCH by what its messages are answered
      pub by_messages : FetchStep (conversation (whole_table h) answers s (messages_of (Fetch limit name)))
          → FetchStep (command_row (whole_table h) answers s (Fetch limit name))
      by_messages k = record {
        first = k.first;
        left = k.left;
        told = fetch_told limit name (conversation (whole_table h) answers s (messages_of (Fetch limit name))).replies limit k.first
            k.told;
        joined = k.joined;
        leaves = k.leaves;
        stands = k.stands;
      }

  module _ (answers : List Bool) (s : State S) (limit : ℤ) where
    -- the Execute of a FETCH
    abbrev asked : Execute
    asked = record { name = name; max_rows = limit }

    executing_step : (items : List RowItem) → TakesPage name limit items (whole_table h answers s (client.Execute asked))
        → IsClean (whole_table h answers s (client.Execute asked))
        → FetchStep limit items (conversation (whole_table h) answers s (behind_describe limit items answers s))
    executing_step items k clean =
        let a = whole_table h answers s (client.Execute asked) in
        executed_step limit items a k clean (λ t. conversation (whole_table h) (left_by a.calls answers) t (sync ∷ []))
        (λ t left k e. sync_quiet (left_by a.calls answers) t left k e)

    abbrev to_come : List RowItem
    to_come = items_to_come (stage_under s name)

    -- the portal's Describe
    abbrev describes : Effect S
    describes = described_portal h.extended s name (fin.get s.portals name)

    by_case : s.info.state ≡ phase.ReadyForQuery → HasStarted (stage_under s name)
        → IsShown s describes ⊎ ((e : PgWireError) × (describes ≡ refuses s e))
        → FetchStep limit to_come (answered_by limit to_come answers s describes)
    by_case q k (inl x) = shown_step limit to_come answers s describes x
        (executing_step to_come (execute_takes h answers s asked q k) (execute_clean h answers s asked q k))
    by_case q k (inr x) = refused_step limit to_come answers s describes x.0 x.1 k refl

    -- a FETCH of a portal that has started
    pub fetch_step : s.info.state ≡ phase.ReadyForQuery → HasStarted (stage_under s name)
        → FetchStep limit to_come (command_row (whole_table h) answers s (Fetch limit name))
    fetch_step q k = by_messages limit to_come answers s
        (in_ready limit to_come answers s q (by_case q k (shown_or_refused h s name (fin.get s.portals name))))

    -- a FETCH that starts its portal
    pub start_step : (r : ToldRows) (k : Starts h answers s asked r) (d : DescribePortalResponse)
        → h.extended.describe_portal s.info k.portal.bound ≡ Ok d
        → FetchStep limit r.items (command_row (whole_table h) answers s (Fetch limit name))
    start_step r k d told = by_messages limit r.items answers s (in_ready limit r.items answers s k.is_ready
        (subst (λ o. FetchStep limit r.items (answered_by limit r.items answers s (described_portal h.extended s name o))) (sym k.stored)
        (subst (λ e. FetchStep limit r.items (answered_by limit r.items answers s (described s portal_description e))) (sym told)
        (shown_step limit r.items answers s _ (shown h s name d)
        (executing_step r.items (start_takes h answers s asked r k) (start_clean h answers s asked r k))))))
