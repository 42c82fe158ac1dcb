-- Over relations, messages of extended queries with binary results are answered alike by the whole table and by the core table.
use Rattle.std.proofs.Common.{◌≡◌, Bool, true, List, [], refl}
use Rattle.pg_messages.specs.declared.frontend.PgWireFrontendMessage.{PgWireFrontendMessage}
use Rattle.pg_messages.specs.declared.frontend.PgWireFrontendMessage.TheVariants as client
use Rattle.pg_results.specs.declared.client.PgWireConnectionState.{PgWireConnectionState}
use Rattle.pg_results.specs.declared.client.PgWireConnectionState.TheVariants as phase
use Rattle.pg_client.specs.Answer.{Answer, Next, Goes, Ends, Stops, conversation}
use Rattle.pg_client.specs.Effect.{UntilSync, silent, settle}
use Rattle.pg_client.specs.StartupRows.{startup_row}
use Rattle.pg_client.specs.State.{State, first_state}
use Rattle.conversation_table.specs.Table.{ready_row, awaiting_sync_row, scope_of, scope_in, row, whole_table, awaits, is_startup_phase}
use Rattle.relation_tables.specs.declared.RelationStatement.{RelationStatement}
use Rattle.relation_tables.specs.Relations.{HaveEvenRows}
use Rattle.relation_tables.specs.RelationHandler.{relation_handlers}
use Rattle.relation_tables.specs.CoreTable.{Setting, CoreState, CorePhase, NotStarted, Ready, AwaitingSync, core_row, core_table, core_awaits, is_not_started, first_core_state}
use Rattle.relation_tables.specs.Premises.{IsCore, AreCore, AreAlike, IsSameNext}
use Rattle.relation_tables.proofs.Agreement.{Agrees, AgreePhase, StatementAgrees, PortalAgrees, says_agree}
use Rattle.relation_tables.proofs.ExecutesAgree.{execute_agrees}
use Rattle.relation_tables.proofs.NameMaps.{agree_empty}
use Rattle.relation_tables.proofs.Runs.{Agree, AgreeNext, TablesAgree, runs_agree}
use Rattle.relation_tables.proofs.StatementsAgree.{startup_agrees, parse_agrees, bind_agrees, describe_agrees, close_agrees, sync_agrees}

module _ (waits : Bool) (setting : Setting) (even : HaveEvenRows setting.relations) where
  in_startup : (answers : List Bool) (s : State RelationStatement) (c : CoreState) (m : PgWireFrontendMessage) → IsCore m
      → c.phase ≡ NotStarted → Agrees waits setting s c
      → Agree (Agrees waits setting) (settle UntilSync (startup_row answers s m)) (core_row setting answers c NotStarted m)
  in_startup answers s c (client.Startup m) is at h = startup_agrees waits setting s c h at waits m
  in_startup answers s c (client.SslNegotiation m) is at h = absurd is
  in_startup answers s c (client.CancelRequest m) is at h = absurd is
  in_startup answers s c _ is at h = says_agree waits setting [] s c h

  in_ready : (answers : List Bool) (s : State RelationStatement) (c : CoreState) (m : PgWireFrontendMessage) → IsCore m
      → Agrees waits setting s c
      → Agree (Agrees waits setting) (settle (scope_of m) (ready_row (relation_handlers setting.relations) answers s m))
      (core_row setting answers c Ready m)
  in_ready answers s c (client.Query m) is h = absurd is
  in_ready answers s c (client.Parse m) is h = parse_agrees waits setting s c h m
  in_ready answers s c (client.Bind m) is h = bind_agrees waits setting s c h m is
  in_ready answers s c (client.Describe m) is h = describe_agrees waits setting s c h m
  in_ready answers s c (client.Execute m) is h = execute_agrees waits setting s c h answers m even
  in_ready answers s c (client.Close m) is h = close_agrees waits setting s c h m
  in_ready answers s c (client.PgSync m) is h = sync_agrees waits setting s c h
  in_ready answers s c (client.Terminate m) is h = record { replies = refl; calls = refl; next = refl }
  in_ready answers s c _ is h = says_agree waits setting [] s c h

  in_awaiting_sync : (answers : List Bool) (s : State RelationStatement) (c : CoreState) (m : PgWireFrontendMessage)
      → Agrees waits setting s c
      → Agree (Agrees waits setting) (settle UntilSync (silent (awaiting_sync_row s m))) (core_row setting answers c AwaitingSync m)
  in_awaiting_sync answers s c (client.PgSync m) h = sync_agrees waits setting s c h
  in_awaiting_sync answers s c (client.Terminate m) h = record { replies = refl; calls = refl; next = refl }
  in_awaiting_sync answers s c _ h = says_agree waits setting [] s c h

  in_phase : (answers : List Bool) (s : State RelationStatement) (c : CoreState) (m : PgWireFrontendMessage) → IsCore m
      → Agrees waits setting s c
      → (x : PgWireConnectionState) (y : CorePhase) → c.phase ≡ y → AgreePhase waits x y
      → Agree (Agrees waits setting) (settle (scope_in x m) (row (relation_handlers setting.relations) answers s m x))
      (core_row setting answers c y m)
  in_phase answers s c m is h phase.AwaitingStartup NotStarted at e = in_startup answers s c m is at h
  in_phase answers s c m is h phase.ReadyForQuery Ready at e = in_ready answers s c m is h
  in_phase answers s c m is h phase.AwaitingSync AwaitingSync at e = in_awaiting_sync answers s c m h
  in_phase answers s c m is h _ _ at e = absurd e

  pub tables_agree : TablesAgree IsCore (Agrees waits setting) (whole_table (relation_handlers setting.relations)) (core_table setting)
  tables_agree answers s c m is h = in_phase answers s c m is h s.info.state c.phase refl h.phase

  -- ---- what a reader sees of states that agree

  same_phase : (x : PgWireConnectionState) (y : CorePhase) → AgreePhase waits x y → is_startup_phase x ≡ is_not_started y
  same_phase phase.AwaitingStartup NotStarted e = refl
  same_phase phase.ReadyForQuery Ready e = refl
  same_phase phase.AwaitingSync AwaitingSync e = refl
  same_phase _ _ e = absurd e

  same_next : (x : Next (State RelationStatement)) (y : Next CoreState) → AgreeNext (Agrees waits setting) x y
      → IsSameNext awaits core_awaits x y
  same_next (Goes s) (Goes c) h = same_phase s.info.state c.phase h.phase
  same_next (Ends kind) (Ends other) h = h
  same_next Stops Stops h = tt
  same_next _ _ h = absurd h

  pub alike : (a : Answer (State RelationStatement)) (b : Answer CoreState) → Agree (Agrees waits setting) a b
      → AreAlike awaits core_awaits a b
  alike a b h = record { replies = h.replies; calls = h.calls; next = same_next a.next b.next h.next }

pub first_agree : (setting : Setting) → Agrees true setting (first_state setting.pid setting.key) first_core_state
first_agree setting = record {
  pid = refl;
  key = λ e. refl;
  phase = refl;
  status = refl;
  statements = agree_empty StatementAgrees;
  portals = agree_empty (PortalAgrees setting.relations);
}

-- The whole conversation is the core conversation: replies, calls, and where it stands.
pub conversations_alike : (setting : Setting) → HaveEvenRows setting.relations
    → (answers : List Bool) (messages : List PgWireFrontendMessage)
    → AreCore messages
    → AreAlike awaits core_awaits
    (conversation (whole_table (relation_handlers setting.relations)) answers (first_state setting.pid setting.key) messages)
    (conversation (core_table setting) answers first_core_state messages)
conversations_alike setting even answers messages each =
    alike true setting even _ _
    (runs_agree IsCore (Agrees true setting) (whole_table (relation_handlers setting.relations)) (core_table setting)
    (tables_agree true setting even) answers _ _ messages each (first_agree setting))
