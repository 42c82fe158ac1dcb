-- Whatever messages come and whatever the registry answers, each cell of the replies stands for a stored interval.
use Rattle.std.proofs.Common.{subst, ◌⊎◌, ◌++◌, ◌≡◌, ◌==◌, ℕ, ℤ, Bool, true, false, if◌then◌else◌, List, [], ◌∷◌, Option, Some, None, refl, ap, sym, ◌∙◌, inl, inr}
use Rattle.std.specs.Cmp.Lexicographic.{slice_cmp}
use Rattle.std.specs.Ordering.{nat_cmp}
use Rattle.std.specs.FinMap as fin
use Rattle.std.specs.List.{AllByRecursion, Contains}
use Rattle.pg_messages.specs.declared.startup.CancelRequest.{CancelRequest}
use Rattle.pg_messages.specs.declared.startup.Startup.{Startup}
use Rattle.pg_messages.specs.declared.startup.SslNegotiationKind.{SslNegotiationKind}
use Rattle.pg_messages.specs.declared.startup.SslNegotiationKind.TheVariants as encryption
use Rattle.pg_messages.specs.declared.frontend.PgWireFrontendMessage.{PgWireFrontendMessage}
use Rattle.pg_messages.specs.declared.frontend.PgWireFrontendMessage.TheVariants as client
use Rattle.pg_messages.specs.declared.backend.PgWireBackendMessage.{PgWireBackendMessage}
use Rattle.pg_messages.specs.declared.backend.PgWireBackendMessage.TheVariants as server
use Rattle.pg_messages.specs.declared.codec.ProtocolVersion.{ProtocolVersion}
use Rattle.pg_messages.specs.declared.codec.ProtocolVersion.TheVariants.{PROTOCOL3_0, PROTOCOL3_2}
use Rattle.pg_messages.specs.Frames.{protocol_3_0, protocol_3_2}
use Rattle.pg_text.specs.declared.format.interval_style.IntervalStyle.{IntervalStyle}
use Rattle.pg_results.specs.declared.error.PgWireError.TheVariants as wire
use Rattle.pg_results.specs.declared.format.Format.{Format}
use Rattle.pg_results.specs.declared.format.Format.TheVariants as format
use Rattle.pg_portal.specs.declared.store.Entry.{Entry}
use Rattle.pg_portal.specs.Told.{value_under}
use Rattle.pg_client.specs.declared.desk.DeskCall.{DeskCall}
use Rattle.pg_client.specs.Answer.{Answer, Next, Goes, Ends, Stops, continued, conversation, left_by}
use Rattle.pg_client.specs.Effect.{UntilSync, refuses, silent, settle}
use Rattle.pg_client.specs.Errors.{unsupported_version}
use Rattle.pg_replies.specs.Replies.{Replies, startup_replies}
use Rattle.pg_client.specs.StartupRows.{no_encryption, accepts, told_key, narrowing, started_session}
use Rattle.pg_client.specs.State.{first_state}
use Rattle.conversation_table.specs.Table.{whole_table, awaits}
use Rattle.conversation_table.proofs.GoodStores.{Each}
use Rattle.relation_tables.specs.declared.Relation.{Relation}
use Rattle.relation_tables.specs.Relations.{HaveEvenRows}
use Rattle.relation_tables.specs.RelationHandler.{relation_handlers}
use Rattle.relation_handlers.specs.Tables.{HoldIntervals}
use Rattle.cell_laws.specs.ShownCells.{style_of, IsChosen, ShowsStoredRow, ShowsStoredLine, ShowsReply, ShowStored, IsOwnFormat, ShowInOwnFormat}
use Rattle.cell_laws.proofs.CellsPaged.{ReplyIs, Are}
use Rattle.cell_laws.proofs.CellsShown.{each_of}
use Rattle.cell_laws.proofs.CellsKept.{Talk, Picks, PortalIs, Good, Shown, StartedIs, started_is, step_is}

none_yet : {X : Type 0} (P : X → Type 0) → Each P fin.empty
none_yet {X} P q x e = absurd (no (ap value_under (sym (fin.get-empty {X = Entry X} (slice_cmp nat_cmp) q)) ∙ e))
  where
    no : value_under {T = X} None ≡ Some x → ⊥
    no e = cc

module _ (relations : List Relation) (within : HoldIntervals relations) (even : HaveEvenRows relations) (IsFormat : Format → Type 0)
    (text_is : IsFormat format.UnifiedText) (pid : ℤ) (key : List ℕ) where
  abbrev first : Talk
  first = first_state pid key

  abbrev table : List Bool → Talk → PgWireFrontendMessage → Answer Talk
  table = whole_table (relation_handlers relations)

  -- what the replies to these messages show, and where the conversation stands then: before its startup packet, or in a good state

  abbrev ShownBy : List PgWireFrontendMessage → Replies → Type 0
  ShownBy messages replies = Shown relations within even IsFormat text_is (style_of messages) IsFormat replies

  abbrev LastIs : List PgWireFrontendMessage → Next Talk → Type 0
  LastIs messages (Goes s) = (s ≡ first) ⊎ ((awaits s ≡ false) × Good relations within even IsFormat text_is (style_of messages) s)
  LastIs messages (Ends kind) = Unit {0}
  LastIs messages Stops = Unit {0}

  abbrev RunIs : List PgWireFrontendMessage → Answer Talk → Type 0
  RunIs messages a = ShownBy messages a.replies × LastIs messages a.next

  started_last : (messages : List PgWireFrontendMessage) (n : Next Talk)
      → StartedIs relations within even IsFormat text_is (style_of messages) n → LastIs messages n
  started_last messages (Goes s) h = inr h
  started_last messages (Ends kind) h = tt
  started_last messages Stops h = tt

  cancel_is : (answers : List Bool) (m : CancelRequest) (messages : List PgWireFrontendMessage)
      → RunIs (client.CancelRequest m ∷ messages) (conversation table answers first (client.CancelRequest m ∷ messages))
  cancel_is [] m messages = (tt, tt)
  cancel_is (told ∷ answers) m messages = (tt, tt)

  encryption_is : (messages : List PgWireFrontendMessage) (kind : SslNegotiationKind) (others : Replies) → ShownBy messages others
      → ShownBy messages (no_encryption kind ∷ others)
  encryption_is messages encryption.PostgresSsl others h = (tt, h)
  encryption_is messages encryption.PostgresGss others h = (tt, h)

  -- behind a startup packet that is accepted
  accepted_is : (left : List Bool) (calls : List DeskCall) (m : Startup) (messages : List PgWireFrontendMessage)
      → (version : ProtocolVersion) → AllByRecursion (Picks IsFormat) messages
      → let behind = conversation table left (started_session first version m) messages in
      RunIs (client.Startup m ∷ messages) (record {
        replies = startup_replies pid (told_key version key) ++ behind.replies;
        calls = calls ++ behind.calls;
        next = behind.next;
      })
  accepted_is left calls m messages version picked =
      let style = style_of (client.Startup m ∷ messages) in
      let run = started_is relations within even IsFormat text_is style left (started_session first version m) messages refl
      (refl, none_yet (PortalIs relations within even IsFormat text_is style)) picked in
      ((tt, (tt, (tt, (tt, (tt, (tt, (tt, run.0))))))), started_last (client.Startup m ∷ messages) _ run.1)

  startup_is : (answers : List Bool) (m : Startup) (messages : List PgWireFrontendMessage) (b c : Bool)
      → AllByRecursion (Picks IsFormat) messages
      → let given = settle UntilSync (if b then accepts first PROTOCOL3_0 m else if c then accepts first PROTOCOL3_2 m
      else silent (refuses first (wire.UserError (unsupported_version m.code)))) in
      RunIs (client.Startup m ∷ messages)
      (continued given given.next (λ t. conversation table (left_by given.calls answers) t messages))
  startup_is answers m messages true c picked =
      let calls = narrowing PROTOCOL3_0 key in accepted_is (left_by calls answers) calls m messages PROTOCOL3_0 picked
  startup_is answers m messages false true picked = accepted_is answers [] m messages PROTOCOL3_2 picked
  startup_is answers m messages false false picked = ((tt, tt), tt)

  conversation_is : (answers : List Bool) (messages : List PgWireFrontendMessage) → AllByRecursion (Picks IsFormat) messages
      → RunIs messages (conversation table answers first messages)
  conversation_is answers [] picked = (tt, inl refl)
  conversation_is answers (client.SslNegotiation kind ∷ messages) picked =
      let behind = conversation_is answers messages picked.1 in
      (encryption_is messages kind (conversation table answers first messages).replies behind.0, behind.1)
  conversation_is answers (client.CancelRequest m ∷ messages) picked = cancel_is answers m messages
  conversation_is answers (client.Startup m ∷ messages) picked =
      startup_is answers m messages (m.code == protocol_3_0) (m.code == protocol_3_2) picked.1
  conversation_is answers (m ∷ messages) picked = conversation_is answers messages picked.1

  -- ---- a message before the startup packet, and the startup packet, show nothing

  abbrev ShowsNone : Option IntervalStyle → Talk → PgWireFrontendMessage → Answer Talk → Type 0
  ShowsNone style s m a = Shown relations within even IsFormat text_is style (IsOwnFormat s m) a.replies

  cancel_none : (style : Option IntervalStyle) (answers : List Bool) (m : CancelRequest)
      → ShowsNone style first (client.CancelRequest m) (table answers first (client.CancelRequest m))
  cancel_none style [] m = tt
  cancel_none style (told ∷ answers) m = tt

  startup_none : (style : Option IntervalStyle) (m : Startup) (b c : Bool)
      → ShowsNone style first (client.Startup m) (settle UntilSync (if b then accepts first PROTOCOL3_0 m
      else if c then accepts first PROTOCOL3_2 m else silent (refuses first (wire.UserError (unsupported_version m.code)))))
  startup_none style m true c = (tt, (tt, (tt, (tt, (tt, (tt, (tt, tt)))))))
  startup_none style m false true = (tt, (tt, (tt, (tt, (tt, (tt, (tt, tt)))))))
  startup_none style m false false = (tt, tt)

  first_none : (style : Option IntervalStyle) (answers : List Bool) (m : PgWireFrontendMessage)
      → ShowsNone style first m (table answers first m)
  first_none style answers (client.SslNegotiation encryption.PostgresSsl) = (tt, tt)
  first_none style answers (client.SslNegotiation encryption.PostgresGss) = (tt, tt)
  first_none style answers (client.CancelRequest m) = cancel_none style answers m
  first_none style answers (client.Startup m) = startup_none style m (m.code == protocol_3_0) (m.code == protocol_3_2)
  first_none style answers _ = tt

  message_is : (style : Option IntervalStyle) (answers : List Bool) (s : Talk) (m : PgWireFrontendMessage) → Picks IsFormat m
      → (s ≡ first) ⊎ ((awaits s ≡ false) × Good relations within even IsFormat text_is style s) → ShowsNone style s m (table answers s m)
  message_is style answers s m picked (inl e) = subst (λ t. ShowsNone style t m (table answers t m)) (sym e) (first_none style answers m)
  message_is style answers s m picked (inr h) = (step_is relations within even IsFormat text_is style answers s m h.0 h.1 picked).0

-- ---- in the formats that the messages choose

picked : (messages : List PgWireFrontendMessage) (m : PgWireFrontendMessage) → Contains messages m → Picks (IsChosen messages) m
picked messages (client.Bind m) is = inr (m, is, refl)
picked messages _ is = tt

module _ (relations : List Relation) (style : Option IntervalStyle) (IsFormat : Format → Type 0) where
  same_reply : (m : PgWireBackendMessage)
      → ReplyIs (λ d. ShowsStoredRow relations style IsFormat d) (λ d. ShowsStoredLine relations style d) m
      → ShowsReply relations style IsFormat m
  same_reply (server.DataRow d) h = h
  same_reply (server.CopyData d) h = h
  same_reply _ h = tt

  same_replies : (replies : Replies) → Are (λ d. ShowsStoredRow relations style IsFormat d) (λ d. ShowsStoredLine relations style d) replies
      → AllByRecursion (ShowsReply relations style IsFormat) replies
  same_replies [] h = tt
  same_replies (m ∷ replies) h = (same_reply m h.0, same_replies replies h.1)

pub stored_shown : (relations : List Relation) → HoldIntervals relations → HaveEvenRows relations → (pid : ℤ) (key : List ℕ)
    → (answers : List Bool) (messages : List PgWireFrontendMessage)
    → ShowStored relations messages (conversation (whole_table (relation_handlers relations)) answers (first_state pid key)
    messages).replies
stored_shown relations within even pid key answers messages =
    same_replies relations (style_of messages) (IsChosen messages) _
    (conversation_is relations within even (IsChosen messages) (inl refl) pid key answers messages
    (each_of (Picks (IsChosen messages)) messages (picked messages))).0

-- ---- in each message's own format

abbrev Any : Format → Type 0
Any chosen = Unit {0}

picks_any : (m : PgWireFrontendMessage) → Picks Any m
picks_any (client.Bind m) = tt
picks_any _ = tt

pub shown_in_own_format : (relations : List Relation) → HoldIntervals relations → HaveEvenRows relations → (pid : ℤ) (key : List ℕ)
    → (answers more : List Bool) (messages : List PgWireFrontendMessage) (s : Talk) (m : PgWireFrontendMessage)
    → (conversation (whole_table (relation_handlers relations)) answers (first_state pid key) messages).next ≡ Goes s
    → ShowInOwnFormat relations (style_of messages) s m (whole_table (relation_handlers relations) more s m).replies
shown_in_own_format relations within even pid key answers more messages s m e =
    let style = style_of messages in
    let run = conversation_is relations within even Any tt pid key answers messages (each_of (Picks Any) messages (λ m is. picks_any m)) in
    same_replies relations style (IsOwnFormat s m) _
    (message_is relations within even Any tt pid key style more s m (picks_any m)
    (subst (LastIs relations within even Any tt pid key messages) e run.1))
