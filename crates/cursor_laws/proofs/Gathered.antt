-- The pages that a conversation with cursors tells of a portal join to its items.
use Rattle.std.proofs.Common.{◌≡◌, ◌≢◌, ◌∙◌, ℕ, ℤ, Bool, true, false, if◌then◌else◌, List, [], ◌∷◌, Option, Some, None, refl, ap, sym, subst}
use Rattle.std.specs.Str.{bytes_eq}
use Rattle.std.proofs.lemmas.Slice.Eq.{bytes_eq-Decides}
use Rattle.pg_messages.specs.declared.extendedquery.Execute.{Execute}
use Rattle.pg_messages.specs.declared.frontend.PgWireFrontendMessage.{PgWireFrontendMessage}
use Rattle.pg_messages.specs.declared.frontend.PgWireFrontendMessage.TheVariants as client
use Rattle.pg_messages.specs.declared.simplequery.Query.{Query}
use Rattle.pg_results.specs.declared.client.PgWireConnectionState.{PgWireConnectionState}
use Rattle.pg_results.specs.declared.client.PgWireConnectionState.TheVariants as phase
use Rattle.pg_portal.specs.Fetching.{items_to_come}
use Rattle.pg_results.specs.Rows.{RowItem}
use Rattle.pg_results.specs.Told.{ToldRows}
use Rattle.pg_client.specs.Answer.{Goes}
use Rattle.conversation_table.specs.Handlers.{Handlers}
use Rattle.pg_client.specs.State.{State}
use Rattle.conversation_table.specs.Table.{whole_table}
use Rattle.conversation_laws.specs.Pages.{HasStarted, Starts, stage_under}
use Rattle.conversation_laws.proofs.Gathering.{Step, follows, step_joins}
use Rattle.conversation_laws.proofs.Joining.{kept_so, message_step, page_step}
use Rattle.conversation_laws.proofs.Keeping.{KeepsNext}
use Rattle.conversation_laws.proofs.Names.{is_same}
use Rattle.conversation_laws.proofs.Taking.{start_takes}
use Rattle.cursor_commands.specs.declared.command.CursorCommand.{CursorCommand}
use Rattle.cursor_commands.specs.declared.command.CursorCommand.TheVariants.{Declare, Fetch, Close}
use Rattle.cursor_commands.specs.Commands.{command_of}
use Rattle.cursor_table.specs.CursorTable.{asked_command, command_row, cursor_table, is_ready, is_ready_phase, row_by}
use Rattle.cursor_laws.specs.CursorPages.{FetchStarts, FetchesPage, KeepsCursor, ReplacesBy, RowsJoin, TellsBy, TellsByCommand, TellsFetchWhere, TellsRows, command_taken, is_fetch_of}
use Rattle.cursor_laws.proofs.Fetching.{Fetches, fetch_step, start_step}
use Rattle.cursor_laws.proofs.Keeping.{command_keeps}

ready_so : (x : PgWireConnectionState) → is_ready_phase x ≡ true → x ≡ phase.ReadyForQuery
ready_so phase.ReadyForQuery e = refl
ready_so phase.AwaitingStartup e = absurd (let k = e in cc)
ready_so phase.AwaitingSync e = absurd (let k = e in cc)
ready_so (phase.CopyInProgress is_extended) e = absurd (let k = e in cc)

module _ {S : Type 0} (h : Handlers S) (name : List ℕ) (answers : List Bool) (s : State S) where
  -- what a command tells of the portal, and what it leaves
  abbrev CommandStep : CursorCommand → List RowItem → Type 0
  CommandStep command items = Step name (TellsByCommand name command) items (command_row (whole_table h) answers s command)

  -- a FETCH of the portal
  named_step : (limit : ℤ) (items : List RowItem)
      → Fetches name limit items (command_row (whole_table h) answers s (Fetch limit name))
      → CommandStep (Fetch limit name) items
  named_step limit items k = record {
    first = k.first;
    left = k.left;
    told = subst
        (λ (b : Bool). TellsFetchWhere b limit (command_row (whole_table h) answers s (Fetch limit name)).replies k.first)
        (sym (is_same name)) k.told;
    joined = k.joined;
    leaves = k.leaves;
  }

  tells_nothing : (command : CursorCommand) → is_fetch_of name command ≡ false
      → (replies : _) → TellsByCommand name command replies []
  tells_nothing (Declare portal relation) e replies = refl
  tells_nothing (Fetch limit portal) e replies = subst (λ (b : Bool). TellsFetchWhere b limit replies []) (sym e) refl
  tells_nothing (Close portal) e replies = refl

  module _ (k : HasStarted (stage_under s name)) where
    -- any other command
    other_step : (command : CursorCommand) → is_fetch_of name command ≡ false → CommandStep command (items_to_come (stage_under s name))
    other_step command e = record {
      first = [];
      left = items_to_come (stage_under s name);
      told = tells_nothing command e (command_row (whole_table h) answers s command).replies;
      joined = refl;
      leaves = kept_so h name (ReplacesBy name command) s (command_row (whole_table h) answers s command).next k
          (command_keeps h name command e answers s);
    }

    fetch_by_name : (limit : ℤ) (portal : List ℕ) → s.info.state ≡ phase.ReadyForQuery → (b : Bool) → bytes_eq portal name ≡ b
        → CommandStep (Fetch limit portal) (items_to_come (stage_under s name))
    fetch_by_name limit portal q true e =
        subst (λ n. CommandStep (Fetch limit n) (items_to_come (stage_under s name))) (sym ((bytes_eq-Decides portal name).0 e))
        (named_step limit (items_to_come (stage_under s name)) (fetch_step h name answers s limit q k))
    fetch_by_name limit portal q false e = other_step (Fetch limit portal) e

    command_step : s.info.state ≡ phase.ReadyForQuery → (command : CursorCommand)
        → CommandStep command (items_to_come (stage_under s name))
    command_step q (Declare portal relation) = other_step (Declare portal relation) refl
    command_step q (Fetch limit portal) = fetch_by_name limit portal q (bytes_eq portal name) refl
    command_step q (Close portal) = other_step (Close portal) refl

    -- a message, whether the server is ready or not, and whether it is a command or not
    step_where : (m : PgWireFrontendMessage) (b : Bool) → is_ready_phase s.info.state ≡ b → (command : Option CursorCommand)
        → Step name (TellsBy name s.info.state m (if b then command else None)) (items_to_come (stage_under s name))
        (if b then row_by (whole_table h) answers s m command else whole_table h answers s m)
    step_where m true e (Some command) = command_step (ready_so s.info.state e) command
    step_where m true e None = message_step h name answers s m k
    step_where m false e command = message_step h name answers s m k

  pub rows_step : (m : PgWireFrontendMessage) → HasStarted (stage_under s name)
      → Step name (TellsRows name s m) (items_to_come (stage_under s name)) (cursor_table is_ready (whole_table h) answers s m)
  rows_step m k = step_where k m (is_ready s) refl (asked_command m)

-- ---- each message

-- a command is answered by its row
pub row_is : {S : Type 0} (h : Handlers S) (answers : List Bool) (s : State S) (query : Query) (command : CursorCommand)
    → s.info.state ≡ phase.ReadyForQuery → command_of query.query ≡ Some command
    → cursor_table is_ready (whole_table h) answers s (client.Query query) ≡ command_row (whole_table h) answers s command
row_is h answers s query command q e =
    ap (λ (x : PgWireConnectionState). if is_ready_phase x
    then row_by (whole_table h) answers s (client.Query query) (command_of query.query)
    else whole_table h answers s (client.Query query)) q
    ∙ ap (λ (c : Option CursorCommand). row_by (whole_table h) answers s (client.Query query) c) e

pub fetches_page : {S : Type 0} (h : Handlers S) (answers : List Bool) (s : State S) (query : Query) (name : List ℕ) (limit : ℤ)
    → s.info.state ≡ phase.ReadyForQuery → command_of query.query ≡ Some (Fetch limit name) → name ≢ []
    → HasStarted (stage_under s name)
    → FetchesPage name limit (items_to_come (stage_under s name)) (cursor_table is_ready (whole_table h) answers s (client.Query query))
fetches_page h answers s query name limit q e ne k =
    subst (FetchesPage name limit (items_to_come (stage_under s name)))
    (sym (row_is h answers s query (Fetch limit name) q e))
    (let f = fetch_step h name answers s limit q k in
    record { pages = f.first; left = f.left; joined = f.joined; told = f.told; leaves = f.stands ne })

pub other_keeps : {S : Type 0} (h : Handlers S) (answers : List Bool) (s t : State S) (name : List ℕ) (query : Query)
    (command : CursorCommand) → s.info.state ≡ phase.ReadyForQuery → command_of query.query ≡ Some command
    → is_fetch_of name command ≡ false → (cursor_table is_ready (whole_table h) answers s (client.Query query)).next ≡ Goes t
    → KeepsCursor name command s t
other_keeps h answers s t name query command q e is_other next =
    subst (KeepsNext h s name (ReplacesBy name command)) (sym (ap (λ a. a.next) (row_is h answers s query command q e)) ∙ next)
    (command_keeps h name command is_other answers s)

plain_where : {S : Type 0} (h : Handlers S) (answers : List Bool) (s : State S) (m : PgWireFrontendMessage) (b : Bool)
    (command : Option CursorCommand) → (if b then command else None) ≡ None
    → (if b then row_by (whole_table h) answers s m command else whole_table h answers s m) ≡ whole_table h answers s m
plain_where h answers s m true (Some command) e = absurd (let k = e in cc)
plain_where h answers s m true None e = refl
plain_where h answers s m false command e = refl

pub no_command : {S : Type 0} (h : Handlers S) (answers : List Bool) (s : State S) (m : PgWireFrontendMessage)
    → command_taken s.info.state m ≡ None → cursor_table is_ready (whole_table h) answers s m ≡ whole_table h answers s m
no_command h answers s m e = plain_where h answers s m (is_ready s) (asked_command m) e

-- ---- a conversation

-- a portal that stands
pub rows_join_later : {S : Type 0} (h : Handlers S) (answers : List Bool) (s : State S) (name : List ℕ)
    (messages : List PgWireFrontendMessage) → HasStarted (stage_under s name)
    → RowsJoin (cursor_table is_ready (whole_table h)) name answers s messages (items_to_come (stage_under s name))
rows_join_later {S} h answers s name messages k =
    let j = follows name (λ (s : State S) (m : PgWireFrontendMessage). TellsRows name s m) (cursor_table is_ready (whole_table h))
    (rows_step h name) messages answers s k in
    record { pages = j.pages; left = j.left; told = j.told; joined = j.joined }

-- a portal from the message that starts it
joins_from : {S : Type 0} (h : Handlers S) (answers : List Bool) (s : State S) (name : List ℕ) (m : PgWireFrontendMessage)
    (messages : List PgWireFrontendMessage) (items : List RowItem)
    → Step name (TellsRows name s m) items (cursor_table is_ready (whole_table h) answers s m)
    → RowsJoin (cursor_table is_ready (whole_table h)) name answers s (m ∷ messages) items
joins_from {S} h answers s name m messages items k =
    let tells = λ (s : State S) (m : PgWireFrontendMessage). TellsRows name s m in
    let table = cursor_table is_ready (whole_table h) in
    let j = step_joins name tells table answers s m messages items (follows name tells table (rows_step h name) messages) k in
    record { pages = j.pages; left = j.left; told = j.told; joined = j.joined }

-- an Execute is no command
execute_step : {S : Type 0} (h : Handlers S) (answers : List Bool) (s : State S) (m : Execute) (items : List RowItem) (b : Bool)
    → Step m.name (TellsBy m.name s.info.state (client.Execute m) None) items (whole_table h answers s (client.Execute m))
    → Step m.name (TellsBy m.name s.info.state (client.Execute m) (if b then None else None)) items
    (if b then row_by (whole_table h) answers s (client.Execute m) None else whole_table h answers s (client.Execute m))
execute_step h answers s m items true k = k
execute_step h answers s m items false k = k

pub rows_join_from_execute : {S : Type 0} (h : Handlers S) (answers : List Bool) (s : State S) (m : Execute) (r : ToldRows)
    (messages : List PgWireFrontendMessage) → Starts h answers s m r
    → RowsJoin (cursor_table is_ready (whole_table h)) m.name answers s (client.Execute m ∷ messages) r.items
rows_join_from_execute h answers s m r messages k = joins_from h answers s m.name (client.Execute m) messages r.items
    (execute_step h answers s m r.items (is_ready s)
    (page_step h m.name answers s m r.items k.is_ready refl (start_takes h answers s m r k)))

-- a FETCH is a command
fetching_step : {S : Type 0} (h : Handlers S) (answers : List Bool) (s : State S) (query : Query) (name : List ℕ) (limit : ℤ)
    (items : List RowItem) (b : Bool) (command : Option CursorCommand) → b ≡ true → command ≡ Some (Fetch limit name)
    → Fetches name limit items (command_row (whole_table h) answers s (Fetch limit name))
    → Step name (TellsBy name s.info.state (client.Query query) (if b then command else None)) items
    (if b then row_by (whole_table h) answers s (client.Query query) command else whole_table h answers s (client.Query query))
fetching_step h answers s query name limit items b command ready is k = rw (ready, is) (named_step h name answers s limit items k)

pub rows_join_from_fetch : {S : Type 0} (h : Handlers S) (answers : List Bool) (s : State S) (query : Query) (name : List ℕ)
    (r : ToldRows) (messages : List PgWireFrontendMessage) → FetchStarts h answers s query name r
    → RowsJoin (cursor_table is_ready (whole_table h)) name answers s (client.Query query ∷ messages) r.items
rows_join_from_fetch h answers s query name r messages k = joins_from h answers s name (client.Query query) messages r.items
    (fetching_step h answers s query name k.limit r.items (is_ready s) (command_of query.query)
    (ap is_ready_phase k.starts.is_ready) k.asked
    (start_step h name answers s k.limit r k.starts k.columns k.described))
