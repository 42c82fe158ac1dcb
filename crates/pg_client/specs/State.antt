-- The state of a conversation: what is known of the client, and the statements and portals under their names.
use Rattle.std.specs.Prelude.{ℕ, ℤ, List, []}
use Rattle.std.specs.FinMap as fin
use Rattle.pg_messages.specs.declared.response.TransactionStatus.{TransactionStatus}
use Rattle.pg_messages.specs.declared.response.TransactionStatus.TheVariants as status
use Rattle.pg_messages.specs.declared.codec.ProtocolVersion.TheVariants.{PROTOCOL3_0}
use Rattle.pg_results.specs.declared.client.ClientInfo.{ClientInfo}
use Rattle.pg_results.specs.declared.client.PgWireConnectionState.{PgWireConnectionState}
use Rattle.pg_results.specs.declared.client.PgWireConnectionState.TheVariants as phase
use Rattle.pg_results.specs.declared.stmt.StoredStatement.{StoredStatement}
use Rattle.pg_portal.specs.declared.store.Entry.{Entry}
use Rattle.pg_portal.specs.Maps.{Maps}
use Rattle.named_entries.specs.Names.{NameMap}
use Rattle.pg_portal.specs.Told.{TablePortal}
use Rattle.pg_client.specs.declared.client.Client.{Client}

pub record State (S : Type 0) : Type 0 where
  pub info : ClientInfo
  pub statements : NameMap (Entry (StoredStatement S))
  pub portals : NameMap (Entry (TablePortal S))

-- the state of a client with this info and these maps
abbrev pub state_in : {S : Type 0} → ClientInfo → Maps S → State S
state_in info maps = record { info = info; statements = maps.statements; portals = maps.portals }

-- the state of a client, with the maps of its store
abbrev pub state_of : {S St : Type 0} → (St → Maps S) → Client St → State S
state_of maps client = state_in client.info (maps client.store)

-- what is known of a client before its startup packet, under a registration
abbrev pub first_info : ℤ → List ℕ → ClientInfo
first_info pid key = record {
  pid = pid;
  secret_key = key;
  protocol = PROTOCOL3_0;
  metadata = fin.empty;
  status = status.Idle;
  state = phase.AwaitingStartup;
}

-- the conversation before its startup packet, under a registration
abbrev pub first_state : {S : Type 0} → ℤ → List ℕ → State S
first_state pid key = record { info = first_info pid key; statements = fin.empty; portals = fin.empty }

abbrev pub in_phase : {S : Type 0} → State S → PgWireConnectionState → State S
in_phase s phase = record s { info = record s.info { state = phase } }

abbrev pub with_status : {S : Type 0} → State S → TransactionStatus → State S
with_status s status = record s { info = record s.info { status = status } }

abbrev pub with_statement : {S : Type 0} → State S → List ℕ → Entry (StoredStatement S) → State S
with_statement s name e = record s { statements = fin.insert s.statements name e }

abbrev pub with_portal : {S : Type 0} → State S → List ℕ → Entry (TablePortal S) → State S
with_portal s name e = record s { portals = fin.insert s.portals name e }

abbrev pub without_statement : {S : Type 0} → State S → List ℕ → State S
without_statement s name = record s { statements = fin.remove s.statements name }

abbrev pub without_portal : {S : Type 0} → State S → List ℕ → State S
without_portal s name = record s { portals = fin.remove s.portals name }

-- the unnamed portal goes
abbrev pub without_unnamed_portal : {S : Type 0} → State S → State S
without_unnamed_portal s = without_portal s []
