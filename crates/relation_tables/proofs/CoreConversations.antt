-- A core conversation is answered alike by both tables up to its end, whatever stands behind that.
use Rattle.std.proofs.Common.{◌==◌, ◌||◌, Bool, true, false, IsTrue, if◌then◌else◌, List, [], ◌∷◌, refl}
use Rattle.pg_messages.specs.declared.codec.ProtocolVersion.{ProtocolVersion}
use Rattle.pg_messages.specs.declared.codec.ProtocolVersion.TheVariants.{PROTOCOL3_0, PROTOCOL3_2}
use Rattle.pg_messages.specs.declared.startup.Startup.{Startup}
use Rattle.pg_messages.specs.declared.startup.Terminate.{Terminate}
use Rattle.pg_messages.specs.declared.frontend.PgWireFrontendMessage.{PgWireFrontendMessage}
use Rattle.pg_messages.specs.declared.frontend.PgWireFrontendMessage.TheVariants as client
use Rattle.pg_messages.specs.Frames.{protocol_3_0, protocol_3_2}
use Rattle.pg_results.specs.declared.client.PgWireConnectionState.{PgWireConnectionState}
use Rattle.pg_results.specs.declared.client.PgWireConnectionState.TheVariants as phase
use Rattle.pg_results.specs.declared.error.PgWireError.TheVariants as wire
use Rattle.pg_client.specs.declared.ends.EndKind.TheVariants as end
use Rattle.pg_client.specs.Answer.{Answer, Table, conversation, continued, left_by}
use Rattle.pg_client.specs.Effect.{UntilSync, refuses, silent, settle}
use Rattle.pg_client.specs.Errors.{unsupported_version}
use Rattle.pg_replies.specs.Replies.{error_reply}
use Rattle.pg_client.specs.StartupRows.{accepts}
use Rattle.pg_client.specs.State.{State, first_state}
use Rattle.conversation_table.specs.Table.{row, scope_in, whole_table, awaits}
use Rattle.relation_tables.specs.declared.RelationStatement.{RelationStatement}
use Rattle.relation_tables.specs.Relations.{HaveEvenRows}
use Rattle.relation_tables.specs.RelationHandler.{relation_handlers}
use Rattle.relation_tables.specs.CoreTable.{Setting, CoreState, CorePhase, NotStarted, Ready, AwaitingSync, core_row, core_table, core_awaits, core_accepts, core_ends, first_core_state}
use Rattle.relation_tables.specs.Premises.{IsCore, AreCoreToTerminate, IsCoreConversation, AreAlike}
use Rattle.relation_tables.proofs.Agreement.{Agrees, AgreePhase}
use Rattle.relation_tables.proofs.Runs.{Agree, continued_agree}
use Rattle.relation_tables.proofs.StatementsAgree.{accepted}
use Rattle.relation_tables.proofs.WholeIsCore.{tables_agree, first_agree, alike}

module _ (setting : Setting) (even : HaveEvenRows setting.relations) where
  abbrev whole : Table (State RelationStatement)
  whole = whole_table (relation_handlers setting.relations)

  abbrev core : Table CoreState
  core = core_table setting

  -- both answers, and what follows them
  abbrev AgreeOn : List Bool → List PgWireFrontendMessage → Answer (State RelationStatement) → Answer CoreState → Type 0
  AgreeOn answers messages a b = Agree (Agrees false setting)
      (continued a a.next (λ t. conversation whole (left_by a.calls answers) t messages))
      (continued b b.next (λ t. conversation core (left_by b.calls answers) t messages))

  -- what follows agrees under any answers
  abbrev AgreeBehind : List PgWireFrontendMessage → Type 0
  AgreeBehind messages = (answers : List Bool) (s : State RelationStatement) (c : CoreState) → Agrees false setting s c
      → Agree (Agrees false setting) (conversation whole answers s messages) (conversation core answers c messages)

  agree_on : (answers : List Bool) (messages : List PgWireFrontendMessage) (a : Answer (State RelationStatement)) (b : Answer CoreState)
      → Agree (Agrees false setting) a b → AgreeBehind messages → AgreeOn answers messages a b
  agree_on answers messages a b first behind =
      continued_agree (Agrees false setting) a b a.next b.next (λ t. conversation whole (left_by a.calls answers) t messages)
      (λ t. conversation core (left_by b.calls answers) t messages) first.replies first.calls first.next first.next
      (λ t u r. rw first.calls (behind (left_by b.calls answers) t u r))

  -- Terminate behind the startup packet ends both.
  terminated : (answers : List Bool) (s : State RelationStatement) (c : CoreState) (t : Terminate) (messages : List PgWireFrontendMessage)
      → Agrees false setting s c
      → AgreeOn answers messages (whole answers s (client.Terminate t)) (core answers c (client.Terminate t))
  terminated answers s c t messages h = by_phase s.info.state c.phase h.phase
    where
      by_phase : (x : PgWireConnectionState) (y : CorePhase) → AgreePhase false x y
          → AgreeOn answers messages
          (settle (scope_in x (client.Terminate t)) (row (relation_handlers setting.relations) answers s (client.Terminate t) x))
          (core_row setting answers c y (client.Terminate t))
      by_phase phase.AwaitingStartup NotStarted e = cc
      by_phase phase.ReadyForQuery Ready e = record { replies = refl; calls = refl; next = refl }
      by_phase phase.AwaitingSync AwaitingSync e = record { replies = refl; calls = refl; next = refl }
      by_phase _ _ e = absurd e

  step : (answers : List Bool) (s : State RelationStatement) (c : CoreState) (m : PgWireFrontendMessage)
      → (messages : List PgWireFrontendMessage) → IsCore m → Agrees false setting s c → AgreeBehind messages
      → AgreeOn answers messages (whole answers s m) (core answers c m)
  step answers s c m messages is h behind =
      agree_on answers messages (whole answers s m) (core answers c m) (tables_agree false setting even answers s c m is h) behind

  later_agree : (messages : List PgWireFrontendMessage) → AreCoreToTerminate messages → AgreeBehind messages
  later_agree [] each answers s c h = record { replies = refl; calls = refl; next = h }
  later_agree (client.Terminate t ∷ messages) each answers s c h = terminated answers s c t messages h
  later_agree (m ∷ messages) each answers s c h = step answers s c m messages each.0 h (later_agree messages each.1)

  -- ---- the startup packet

  module _ (answers : List Bool) (m : Startup) (messages : List PgWireFrontendMessage) where
    abbrev s : State RelationStatement
    s = first_state setting.pid setting.key

    served : (version : ProtocolVersion) → AreCoreToTerminate messages
        → AgreeOn answers messages (settle UntilSync (accepts s version m))
        (core_accepts setting first_core_state version)
    served version each =
        agree_on answers messages _ _ (accepted true setting s first_core_state (first_agree setting) refl false version m)
        (later_agree messages each)

    by_code : (a b : Bool) → (IsTrue (a || b) → AreCoreToTerminate messages)
        → AgreeOn answers messages (settle UntilSync (if a then accepts s PROTOCOL3_0 m else if b then accepts s PROTOCOL3_2 m
        else silent (refuses s (wire.UserError (unsupported_version m.code)))))
        (if a then core_accepts setting first_core_state PROTOCOL3_0
        else if b then core_accepts setting first_core_state PROTOCOL3_2
        else core_ends (error_reply (unsupported_version m.code) ∷ []) end.Fatal)
    by_code true b each = served PROTOCOL3_0 (each refl)
    by_code false true each = served PROTOCOL3_2 (each refl)
    by_code false false each = record { replies = refl; calls = refl; next = refl }

  pub core_conversations_alike : (answers : List Bool) (messages : List PgWireFrontendMessage) → IsCoreConversation messages
      → AreAlike awaits core_awaits
      (conversation whole answers (first_state setting.pid setting.key) messages)
      (conversation core answers first_core_state messages)
  core_conversations_alike answers [] each = record { replies = refl; calls = refl; next = refl }
  core_conversations_alike answers (client.Startup m ∷ messages) each =
      alike false setting even _ _ (by_code answers m messages (m.code == protocol_3_0) (m.code == protocol_3_2) each)
  core_conversations_alike answers (m ∷ messages) each = absurd each
