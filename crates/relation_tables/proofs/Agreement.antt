-- When a state of the whole table, served by the relation handlers, is one of the core table; and the rows that need no case by case.
use Rattle.std.proofs.Common.{◌≡◌, ◌≤◌, ◌-◌, ◌^◌, ℕ, Bool, true, false, if◌then◌else◌, IsTrue, List, [], Some, Ok, codes, refl, ap, map, drop}
use Rattle.std.specs.FinMap as fin
use Rattle.pg_interval.specs.declared.pg_interval.Interval.{Interval}
use Rattle.pg_messages.specs.Status.{to_error_state}
use Rattle.pg_types.specs.declared.field_format.FieldFormat.TheVariants as field
use Rattle.pg_types.specs.Types.{oid_of}
use Rattle.pg_results.specs.declared.client.PgWireConnectionState.{PgWireConnectionState}
use Rattle.pg_results.specs.declared.client.PgWireConnectionState.TheVariants as phase
use Rattle.pg_results.specs.declared.error.PgWireError.{PgWireError}
use Rattle.pg_results.specs.declared.format.Format.{Format}
use Rattle.pg_results.specs.declared.stmt.StoredStatement.{StoredStatement}
use Rattle.pg_portal.specs.declared.store.Entry.{Entry}
use Rattle.pg_results.specs.Errors.{info_of}
use Rattle.pg_results.specs.Rows.{RowItem}
use Rattle.pg_portal.specs.Told.{TablePortal, Stage, Unstarted, Started, Ended}
use Rattle.pg_client.specs.Answer.{Answer}
use Rattle.pg_client.specs.Effect.{Effect, Called, UntilSync, says, refuses, silent, settle}
use Rattle.pg_client.specs.Errors.{is_fatal}
use Rattle.pg_replies.specs.Replies.{Replies}
use Rattle.pg_client.specs.State.{State, in_phase, with_status, with_statement, with_portal, without_statement, without_portal}
use Rattle.relation_tables.specs.declared.Relation.{Relation}
use Rattle.relation_tables.specs.declared.RelationStatement.{RelationStatement}
use Rattle.relation_tables.specs.declared.RelationStatement.TheVariants as statement
use Rattle.relation_tables.specs.Relations.{relation_at, columns_of, binary_row}
use Rattle.relation_tables.specs.RelationHandler.{column_formats, given_types}
use Rattle.relation_tables.specs.CoreTable.{Setting, CoreState, CorePhase, NotStarted, Ready, AwaitingSync, CoreStatement, CorePortal, core_says, core_refuses}
use Rattle.relation_tables.proofs.NameMaps.{AgreeEntry, AgreeNames, agree_with, agree_without}
use Rattle.relation_tables.proofs.Runs.{Agree}

-- the same phase, which is that before the startup packet only where that may still be awaited
abbrev pub AgreePhase : Bool → PgWireConnectionState → CorePhase → Type 0
AgreePhase waits phase.AwaitingStartup NotStarted = IsTrue waits
AgreePhase waits phase.ReadyForQuery Ready = Unit {0}
AgreePhase waits phase.AwaitingSync AwaitingSync = Unit {0}
AgreePhase waits _ _ = ⊥

pub record StatementAgrees (s : StoredStatement RelationStatement) (c : CoreStatement) : Type 0 where
  pub meaning : s.statement ≡ c.means
  pub oids : map oid_of (given_types s.parameter_types) ≡ c.oids

-- each of these columns is binary
abbrev pub IsBinaryIn : Format → List (List ℕ) → Type 0
IsBinaryIn formats names = column_formats formats names ≡ map (λ name. field.Binary) names

abbrev pub binary_item : List Interval → RowItem
binary_item row = Ok (binary_row row)

-- A started portal's items are the binary rows from its position on, and as many rows were delivered.
abbrev pub StageAgrees : List Relation → RelationStatement → Stage → ℕ → ℕ → Bool → Type 0
StageAgrees relations means Unstarted position delivered false = (position ≡ 0) × (delivered ≡ 0)
StageAgrees relations (statement.Relation place) (Started r told) position delivered true = (r.command_tag ≡ codes "SELECT")
    × (r.items ≡ map binary_item (drop position (relation_at relations place).rows)) × (told ≡ delivered)
StageAgrees relations (statement.Relation place) (Ended told) position delivered true =
    (drop position (relation_at relations place).rows ≡ []) × (told ≡ delivered) × (delivered ≤ 2 ^ 64 - 1)
StageAgrees relations _ _ _ _ _ = ⊥

pub record PortalAgrees (relations : List Relation) (p : TablePortal RelationStatement) (c : CorePortal) : Type 0 where
  pub meaning : p.bound.statement.statement ≡ c.means
  pub binary : IsBinaryIn p.bound.result_column_format (columns_of relations c.means)
  pub come : StageAgrees relations c.means p.stage c.position c.delivered c.is_started

pub record Agrees (waits : Bool) (setting : Setting) (s : State RelationStatement) (c : CoreState) : Type 0 where
  pub pid : s.info.pid ≡ setting.pid
  pub key : c.phase ≡ NotStarted → s.info.secret_key ≡ setting.key
  pub phase : AgreePhase waits s.info.state c.phase
  pub status : s.info.status ≡ c.transaction
  pub statements : AgreeNames StatementAgrees s.statements c.statements
  pub portals : AgreeNames (PortalAgrees setting.relations) s.portals c.portals

module _ (waits : Bool) (setting : Setting) where
  abbrev pub AgreeRow : Effect RelationStatement → Answer CoreState → Type 0
  AgreeRow e a = Agree (Agrees waits setting) (settle UntilSync (silent e)) a

  abbrev pub AgreeCall : Called RelationStatement → Answer CoreState → Type 0
  AgreeCall e a = Agree (Agrees waits setting) (settle UntilSync e) a

  pub says_agree : (replies : Replies) (s : State RelationStatement) (c : CoreState) → Agrees waits setting s c
      → AgreeRow (says replies s) (core_says replies c)
  says_agree replies s c h = record { replies = refl; calls = refl; next = h }

  pub refused_state : (s : State RelationStatement) (c : CoreState) → Agrees waits setting s c
      → Agrees waits setting (in_phase (with_status s (to_error_state s.info.status)) phase.AwaitingSync)
      (record c { phase = AwaitingSync; transaction = to_error_state c.transaction })
  refused_state s c h = record {
    pid = h.pid;
    key = λ e. let f : ⊥ = cc in absurd f;
    phase = tt;
    status = ap to_error_state h.status;
    statements = h.statements;
    portals = h.portals;
  }

  pub refuses_agree : (e : PgWireError) → is_fatal (info_of e) ≡ false → (s : State RelationStatement) (c : CoreState)
      → Agrees waits setting s c
      → AgreeRow (refuses s e) (core_refuses c e)
  refuses_agree e goes_on s c h = rw goes_on (record { replies = refl; calls = refl; next = refused_state s c h })

  pub either_row : (b : Bool) (x y : Effect RelationStatement) (x' y' : Answer CoreState) → AgreeRow x x' → AgreeRow y y'
      → AgreeRow (if b then x else y) (if b then x' else y')
  either_row true x y x' y' h h' = h
  either_row false x y x' y' h h' = h'

  pub with_statement_agrees : (s : State RelationStatement) (c : CoreState) → Agrees waits setting s c
      → (name : List ℕ) (a : Entry (StoredStatement RelationStatement)) (b : Entry CoreStatement)
      → AgreeEntry StatementAgrees (Some a) (Some b)
      → Agrees waits setting (with_statement s name a) (record c { statements = fin.insert c.statements name b })
  with_statement_agrees s c h name a b e = record {
    pid = h.pid;
    key = h.key;
    phase = h.phase;
    status = h.status;
    statements = agree_with StatementAgrees s.statements c.statements h.statements name a b e;
    portals = h.portals;
  }

  pub with_portal_agrees : (s : State RelationStatement) (c : CoreState) → Agrees waits setting s c
      → (name : List ℕ) (a : Entry (TablePortal RelationStatement)) (b : Entry CorePortal)
      → AgreeEntry (PortalAgrees setting.relations) (Some a) (Some b)
      → Agrees waits setting (with_portal s name a) (record c { portals = fin.insert c.portals name b })
  with_portal_agrees s c h name a b e = record {
    pid = h.pid;
    key = h.key;
    phase = h.phase;
    status = h.status;
    statements = h.statements;
    portals = agree_with (PortalAgrees setting.relations) s.portals c.portals h.portals name a b e;
  }

  pub without_statement_agrees : (s : State RelationStatement) (c : CoreState) → Agrees waits setting s c → (name : List ℕ)
      → Agrees waits setting (without_statement s name) (record c { statements = fin.remove c.statements name })
  without_statement_agrees s c h name = record {
    pid = h.pid;
    key = h.key;
    phase = h.phase;
    status = h.status;
    statements = agree_without StatementAgrees s.statements c.statements h.statements name;
    portals = h.portals;
  }

  pub without_portal_agrees : (s : State RelationStatement) (c : CoreState) → Agrees waits setting s c → (name : List ℕ)
      → Agrees waits setting (without_portal s name) (record c { portals = fin.remove c.portals name })
  without_portal_agrees s c h name = record {
    pid = h.pid;
    key = h.key;
    phase = h.phase;
    status = h.status;
    statements = h.statements;
    portals = agree_without (PortalAgrees setting.relations) s.portals c.portals h.portals name;
  }
