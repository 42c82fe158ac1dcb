-- The calls of a connection as the session of its client sees them.
use Rattle.std.specs.Prelude.{ℕ, ℤ, true, false, List, [], ◌∷◌, ◌++◌, ◌≡◌, Option, None, Result}
use Rattle.std.specs.List.{flat_map}
use mathlib.Core.List.{IsPrefix}
use Rattle.pg_cancel.specs.Connections.{Connection, calls_of, origin_of}
use Rattle.pg_cancel.specs.LegalHistory.{IsLegal}
use Rattle.pg_cancel.specs.declared.entries.Entry.{Entry}
use Rattle.pg_cancel.specs.declared.entries.RegistryCall.{RegistryCall}
use Rattle.pg_cancel.specs.declared.entries.RegistryCall.TheVariants as registry
use Rattle.pg_cancel.specs.declared.entries.RegistryAnswer.{RegistryAnswer}
use Rattle.pg_cancel.specs.declared.entries.RegistryAnswer.TheVariants.{Yes, No}
use Rattle.pg_client.specs.Desk.{DeskTold, narrowed}
use Rattle.pg_client.specs.declared.desk.DeskCall.{DeskCall}
use Rattle.pg_client.specs.declared.desk.DeskCall.TheVariants as desk
use Rattle.pg_client.specs.declared.ends.EndKind.{EndKind}
use Rattle.conversation_runs.specs.declared.ends.ServeError.{ServeError}
use Rattle.conversation_runs.specs.Run.{Rules}
use Rattle.pg_engine.specs.Around.{Around, around}
use Rattle.pg_engine.specs.Serving.{WentSo}
use Rattle.pg_streams.specs.declared.socket.MaybeTls.{MaybeTls}
use Rattle.pg_streams.specs.Sockets.{faults_of, reads_of}

-- a call of the registry as one of a desk; a session neither registers nor ends a registration
abbrev pub desk_call : RegistryCall → RegistryAnswer → List DeskCall
desk_call registry.Start answer = desk.Start ∷ []
desk_call registry.Ask Yes = desk.Ask true ∷ []
desk_call registry.Ask No = desk.Ask false ∷ []
desk_call (registry.Cancel pid key) Yes = desk.Cancel pid key true ∷ []
desk_call (registry.Cancel pid key) No = desk.Cancel pid key false ∷ []
desk_call registry.Narrow answer = desk.Narrow ∷ []
desk_call call answer = []

-- the calls of a session among entries, in order
abbrev pub desk_calls : List Entry → List DeskCall
desk_calls entries = flat_map (λ e. desk_call e.call e.answer) entries

-- the pid and the key of a connection
abbrev pub registration_of : Connection → ℤ × List ℕ
registration_of h = (h.pid, h.key)

-- the desk over a connection, with the name of the reference that it was lent
abbrev pub desk_over : ℕ → Connection → DeskTold
desk_over name h =
    record { registration = registration_of h; calls = desk_calls h.mine; origin = origin_of name h.number h.issuer }

-- a connection as the desk of its client, whatever the name of the reference to it
abbrev pub desk_of : Connection → DeskTold
desk_of h = desk_over 0 h

-- What surrounds a client at a socket: no bytes are known, only the counts of the handles that are read and written,
-- and the connection.
abbrev pub around_socket : MaybeTls → MaybeTls → Connection → Around
around_socket reader writer h =
    around (λ _. None) reads_of faults_of (λ _. []) (λ _. None) faults_of (λ _. []) desk_of reader writer h

-- The connection is the same one, after the calls of a session: its key is narrowed where one of them is Narrow.
pub record ConnectionGoesOn (old new : Connection) : Type 0 where
  pub issuer : new.issuer ≡ old.issuer
  pub number : new.number ≡ old.number
  pub calls : List DeskCall
  pub grown : desk_calls new.mine ≡ desk_calls old.mine ++ calls
  pub registration : registration_of new ≡ narrowed (registration_of old) calls

-- The connection stays usable after the calls of a session. It is the same one. What it has seen of the one history has
-- only grown, is legal, and has exactly its own calls under its number.
pub record StaysUsable (old new : Connection) : Type 0 where
  pub same : ConnectionGoesOn old new
  pub seen : IsPrefix old.seen new.seen
  pub legal : IsLegal new.seen
  pub own : calls_of new.number new.seen ≡ new.mine

-- A client was served through its connection: its own calls, which were `mine`, grew by those that it made, and these with what was
-- written and the end are those of a run.
abbrev pub WentByCalls : {T : Type 0} → Rules T → T → List Entry → List Entry → Result EndKind ServeError
    → Option (List ℕ) → Option (List ℕ) → Option (List ℕ) → Option (List ℕ) → Type 0
WentByCalls rules first mine new_mine answer left new_left old new = (made : List Entry) × (new_mine ≡ mine ++ made)
    × WentSo rules first answer left new_left old new (desk_calls made)
