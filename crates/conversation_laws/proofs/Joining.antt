-- The pages of a portal over a conversation join to its items.
use Rattle.std.proofs.Common.{◌≡◌, ◌∙◌, inl, inr, ℕ, Bool, true, false, List, [], ◌∷◌, ◌++◌, refl, ap, sym, subst}
use Rattle.std.proofs.lemmas.List.{append-nil}
use Rattle.std.specs.Str.{bytes_eq}
use Rattle.std.proofs.lemmas.Slice.Eq.{bytes_eq-Decides}
use Rattle.pg_messages.specs.declared.extendedquery.Execute.{Execute}
use Rattle.pg_messages.specs.declared.frontend.PgWireFrontendMessage.{PgWireFrontendMessage}
use Rattle.pg_messages.specs.declared.frontend.PgWireFrontendMessage.TheVariants as client
use Rattle.pg_results.specs.declared.client.PgWireConnectionState.{PgWireConnectionState}
use Rattle.pg_results.specs.declared.client.PgWireConnectionState.TheVariants as phase
use Rattle.pg_portal.specs.Fetching.{items_to_come}
use Rattle.pg_results.specs.Rows.{RowItem}
use Rattle.pg_results.specs.Told.{ToldRows}
use Rattle.pg_portal.specs.Told.{value_under}
use Rattle.pg_client.specs.Answer.{Next, Goes, Ends, Stops}
use Rattle.conversation_table.specs.Handlers.{Handlers}
use Rattle.pg_replies.specs.Replies.{Replies}
use Rattle.pg_client.specs.State.{State}
use Rattle.conversation_table.specs.Table.{whole_table}
use Rattle.conversation_laws.specs.Pages.{Taken, HasStarted, IsTold, IsWithin, PagesJoin, Replaces, Starts, TakesPage, TellsPageWhere, TellsPages, is_execute_of, items_of, stage_in, stage_under}
use Rattle.conversation_laws.proofs.Gathering.{Step, LeavesOrGone, follows, left_so, step_joins}
use Rattle.conversation_laws.proofs.Keeping.{KeepsNext, message_keeps}
use Rattle.conversation_laws.proofs.Names.{is_same}
use Rattle.conversation_laws.proofs.Taking.{execute_takes, start_takes}

tells_page : (name : List ℕ) (m : Execute) (x : PgWireConnectionState) (replies : Replies) (page : Taken) → x ≡ phase.ReadyForQuery
    → m.name ≡ name → IsTold page replies → IsWithin m.max_rows (items_of page) → TellsPages name x (client.Execute m) replies (page ∷ [])
tells_page name m x replies page q is told within =
    subst (λ (x : PgWireConnectionState). TellsPages name x (client.Execute m) replies (page ∷ [])) (sym q)
    (subst (λ (b : Bool). TellsPageWhere b m.max_rows replies (page ∷ []))
    (sym (ap (bytes_eq m.name) (sym is) ∙ is_same m.name)) (page, refl, told, within))

tells_none : (name : List ℕ) (x : PgWireConnectionState) (m : PgWireFrontendMessage) (replies : Replies) → is_execute_of name x m ≡ false
    → TellsPages name x m replies []
tells_none name phase.ReadyForQuery (client.Execute m) replies e =
    subst (λ (b : Bool). TellsPageWhere b m.max_rows replies []) (sym e) refl
tells_none name phase.ReadyForQuery _ replies e = refl
tells_none name phase.AwaitingStartup _ replies e = refl
tells_none name phase.AwaitingSync _ replies e = refl
tells_none name (phase.CopyInProgress is_extended) _ replies e = refl

module _ {S : Type 0} (h : Handlers S) (name : List ℕ) where
  -- what a message tells of the portal, and what it leaves
  abbrev pub PageStep : List Bool → State S → PgWireFrontendMessage → List RowItem → Type 0
  PageStep answers s m items = Step name (TellsPages name s.info.state m) items (whole_table h answers s m)

  -- an Execute of the portal
  pub page_step : (answers : List Bool) (s : State S) (m : Execute) (items : List RowItem) → s.info.state ≡ phase.ReadyForQuery
      → m.name ≡ name → TakesPage name m.max_rows items (whole_table h answers s (client.Execute m))
      → PageStep answers s (client.Execute m) items
  page_step answers s m items q is k = record {
    first = k.page ∷ [];
    left = k.left;
    told = tells_page name m s.info.state (whole_table h answers s (client.Execute m)).replies k.page q is k.told k.within;
    joined = k.joined ∙ ap (λ l. l ++ k.left) (sym (append-nil (items_of k.page)));
    leaves = left_so name k.left (whole_table h answers s (client.Execute m)).next k.leaves;
  }

  pub kept_so : (R : Type 0) (s : State S) (next : Next (State S)) → HasStarted (stage_under s name) → KeepsNext h s name R next
      → LeavesOrGone name (items_to_come (stage_under s name)) next
  kept_so R s (Goes t) k (inl e) =
      let same : stage_under t name ≡ stage_under s name = ap (λ o. stage_in (value_under o)) e in
      inl (subst HasStarted (sym same) k, ap items_to_come same)
  kept_so R s (Goes t) k (inr gone) = inr gone.1
  kept_so R s (Ends kind) k e = tt
  kept_so R s Stops k e = tt

  -- any other message
  other_step : (answers : List Bool) (s : State S) (m : PgWireFrontendMessage) → HasStarted (stage_under s name)
      → is_execute_of name s.info.state m ≡ false → PageStep answers s m (items_to_come (stage_under s name))
  other_step answers s m k e = record {
    first = [];
    left = items_to_come (stage_under s name);
    told = tells_none name s.info.state m (whole_table h answers s m).replies e;
    joined = refl;
    leaves = kept_so (Replaces h s name m) s (whole_table h answers s m).next k (message_keeps h s name answers m e);
  }

  ready_step : (answers : List Bool) (s : State S) (m : Execute) → HasStarted (stage_under s name) → s.info.state ≡ phase.ReadyForQuery
      → (b : Bool) → bytes_eq m.name name ≡ b → PageStep answers s (client.Execute m) (items_to_come (stage_under s name))
  ready_step answers s m k q true e = is_named ((bytes_eq-Decides m.name name).0 e)
    where
      is_named : m.name ≡ name → PageStep answers s (client.Execute m) (items_to_come (stage_under s name))
      is_named is = page_step answers s m (items_to_come (stage_under s name)) q is
          (subst (λ n. TakesPage n m.max_rows (items_to_come (stage_under s n)) (whole_table h answers s (client.Execute m))) is
          (execute_takes h answers s m q (subst (λ n. HasStarted (stage_under s n)) (sym is) k)))
  ready_step answers s m k q false e = other_step answers s (client.Execute m) k
      (ap (λ (x : PgWireConnectionState). is_execute_of name x (client.Execute m)) q ∙ e)

  step : (answers : List Bool) (s : State S) (x : PgWireConnectionState) → s.info.state ≡ x → (m : PgWireFrontendMessage)
      → HasStarted (stage_under s name) → PageStep answers s m (items_to_come (stage_under s name))
  step answers s phase.ReadyForQuery q (client.Execute m) k = ready_step answers s m k q (bytes_eq m.name name) refl
  step answers s phase.ReadyForQuery q m k = other_step answers s m k (ap (λ (x : PgWireConnectionState). is_execute_of name x m) q)
  step answers s phase.AwaitingStartup q m k = other_step answers s m k (ap (λ (x : PgWireConnectionState). is_execute_of name x m) q)
  step answers s phase.AwaitingSync q m k = other_step answers s m k (ap (λ (x : PgWireConnectionState). is_execute_of name x m) q)
  step answers s (phase.CopyInProgress is_extended) q m k =
      other_step answers s m k (ap (λ (x : PgWireConnectionState). is_execute_of name x m) q)

  -- any message
  pub message_step : (answers : List Bool) (s : State S) (m : PgWireFrontendMessage) → HasStarted (stage_under s name)
      → PageStep answers s m (items_to_come (stage_under s name))
  message_step answers s m k = step answers s s.info.state refl m k

-- a portal that stands
pub pages_join_later : {S : Type 0} (h : Handlers S) (answers : List Bool) (s : State S) (name : List ℕ)
    (messages : List PgWireFrontendMessage)
    → HasStarted (stage_under s name) → PagesJoin (whole_table h) name answers s messages (items_to_come (stage_under s name))
pages_join_later {S} h answers s name messages k =
    let j = follows name (λ (s : State S) (m : PgWireFrontendMessage). TellsPages name s.info.state m) (whole_table h)
    (message_step h name) messages answers s k in
    record { pages = j.pages; left = j.left; told = j.told; joined = j.joined }

-- a portal from its start
pub pages_join_from_start : {S : Type 0} (h : Handlers S) (answers : List Bool) (s : State S) (m : Execute) (r : ToldRows)
    (messages : List PgWireFrontendMessage) → Starts h answers s m r
    → PagesJoin (whole_table h) m.name answers s (client.Execute m ∷ messages) r.items
pages_join_from_start {S} h answers s m r messages k =
    let tells = λ (s : State S) (given : PgWireFrontendMessage). TellsPages m.name s.info.state given in
    let j = step_joins m.name tells (whole_table h) answers s (client.Execute m) messages r.items
    (follows m.name tells (whole_table h) (message_step h m.name) messages)
    (page_step h m.name answers s m r.items k.is_ready refl (start_takes h answers s m r k)) in
    record { pages = j.pages; left = j.left; told = j.told; joined = j.joined }
