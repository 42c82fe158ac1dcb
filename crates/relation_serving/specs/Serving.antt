-- What the server of relations owes its client: the answer of the whole table, and of the core table where the client
-- speaks as the core table does.
use Rattle.std.specs.Prelude.{ℕ, ℤ, true, List, ◌++◌, Option, Result, Ok, Err, IfSome, ◌≡◌}
use Rattle.pg_messages.specs.declared.frontend.PgWireFrontendMessage.{PgWireFrontendMessage}
use Rattle.pg_messages.specs.declared.backend.PgWireBackendMessage.{PgWireBackendMessage}
use Rattle.pg_messages.specs.Frames.{DividesInto}
use Rattle.pg_messages.specs.Replies.{replies_bytes}
use Rattle.pg_client.specs.declared.desk.DeskCall.{DeskCall}
use Rattle.pg_client.specs.declared.ends.EndKind.{EndKind}
use Rattle.pg_client.specs.Answer.{answers_of, conversation}
use Rattle.pg_client.specs.State.{first_state}
use Rattle.conversation_table.specs.Table.{whole_table}
use Rattle.conversation_runs.specs.declared.ends.ServeError.{ServeError}
use Rattle.conversation_runs.specs.Run.{Rules}
use Rattle.conversation_runs.specs.Session.{whole_rules}
use Rattle.conversation_runs.specs.Streams.{GrowsBy, GrowsByFront}
use Rattle.pg_engine.specs.Around.{Around, ServesSession}
use Rattle.pg_engine.specs.Serving.{TakesFrom, WentSo}
use Rattle.relation_tables.specs.declared.Relation.{Relation}
use Rattle.relation_tables.specs.CoreTable.{Setting, CoreState, core_table, core_awaits, first_core_state}
use Rattle.relation_tables.specs.Premises.{IsCoreConversation}
use Rattle.relation_tables.specs.RelationHandler.{relation_handlers}
use Rattle.cell_laws.specs.ShownCells.{ShowStored}
use Rattle.relation_serving.specs.Completeness.{IsComplete}

-- the rules of the conversation by the core table
abbrev pub core_rules : Setting → Rules CoreState
core_rules setting = record { table = core_table setting; awaits = core_awaits }

-- relations that are served under a registration: a pid and a key
abbrev pub setting_of : List Relation → ℤ × List ℕ → Setting
setting_of relations registration = record { relations = relations; pid = registration.0; key = registration.1 }

-- The client speaks as the core table does: whatever frames its bytes begin with, a startup packet comes first, and
-- after it messages of the extended query, whose results are binary, up to Terminate.
abbrev pub SpeaksCore : List ℕ → Type 0
SpeaksCore text = (messages : List PgWireFrontendMessage) (rest : List ℕ) → DividesInto true text messages rest
    → IsCoreConversation messages

-- what was written and called is the whole table's answer
abbrev pub WentByWhole : List Relation → ℤ × List ℕ → Result EndKind ServeError → Option (List ℕ) → Option (List ℕ) → Option (List ℕ)
    → Option (List ℕ)
    → List DeskCall → Type 0
WentByWhole relations registration answer left new_left old new calls =
    WentSo (whole_rules (relation_handlers relations)) (first_state registration.0 registration.1) answer left new_left old new calls

-- what was written and called is the core table's answer
abbrev pub WentByCore : List Relation → ℤ × List ℕ → Result EndKind ServeError → Option (List ℕ) → Option (List ℕ) → Option (List ℕ)
    → Option (List ℕ)
    → List DeskCall → Type 0
WentByCore relations registration answer left new_left old new calls =
    WentSo (core_rules (setting_of relations registration)) first_core_state answer left new_left old new calls

-- the bytes of the client that were answered: all of them at an end, and else those that were taken
abbrev pub IsAnsweredText : Result EndKind ServeError → Option (List ℕ) → Option (List ℕ) → List ℕ → Type 0
IsAnsweredText (Ok kind) left new_left text = IfSome left (λ bytes. text ≡ bytes)
IsAnsweredText (Err e) left new_left text = TakesFrom left new_left text

-- what was written has grown by these replies at an end, and else by a front of them
abbrev pub WritesReplies : Result EndKind ServeError → Option (List ℕ) → Option (List ℕ) → List PgWireBackendMessage → Type 0
WritesReplies (Ok kind) old new replies = GrowsBy old new (replies_bytes replies)
WritesReplies (Err e) old new replies = GrowsByFront old new (replies_bytes replies)

-- What was written shows stored intervals: it is the whole table's replies to the client's messages, or a front of them, and each of their
-- cells stands for a stored interval and for no other, in the session's style and in a format that a Bind among the messages chose, or in
-- text.
pub record ShowsCells (relations : List Relation) (registration : ℤ × List ℕ) (answer : Result EndKind ServeError) (left new_left old new : Option (List ℕ)) : Type 0
  where
    pub text : List ℕ
    pub messages : List PgWireFrontendMessage
    pub rest : List ℕ
    pub replies : List PgWireBackendMessage
    pub made : List DeskCall
    pub answered : IsAnsweredText answer left new_left text
    pub division : DividesInto true text messages rest
    pub told : (conversation (whole_table (relation_handlers relations)) (answers_of made) (first_state registration.0 registration.1)
        messages).replies ≡ replies
    pub written : WritesReplies answer old new replies
    pub shown : ShowStored relations messages replies

-- What was written and called is the answer of both tables: of the whole table whatever the client sends, and of the
-- core table where the client's bytes are known and speak as the core table does. Each cell that was written stands for
-- a stored interval.
pub record WentByTables (relations : List Relation) (registration : ℤ × List ℕ) (answer : Result EndKind ServeError)
    (left new_left old new : Option (List ℕ)) (calls : List DeskCall) : Type 0 where
  pub whole : WentByWhole relations registration answer left new_left old new calls
  pub core : IfSome left (λ text. SpeaksCore text → WentByCore relations registration answer left new_left old new calls)
  pub cells : ShowsCells relations registration answer left new_left old new

-- A client of relations was served, with the registration that the desk has. What was written and called is the answer
-- of both tables. With enough turns the conversation comes to its end. All else is as a session over the relations
-- serves.
pub record ServesRelations (relations : List Relation) (turns : ℕ) (answer : Result EndKind ServeError) (before after : Around) : Type 0
  where
    pub went : (calls : List DeskCall) × (after.desk.calls ≡ before.desk.calls ++ calls)
        × WentByTables relations before.desk.registration answer before.left after.left before.written after.written calls
    pub complete : IsComplete relations turns answer before.left before.counts after.counts
    pub serves : ServesSession (relation_handlers relations) turns answer before after
