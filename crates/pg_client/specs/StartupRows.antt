-- The startup phase (protocol: Message Flow, Start-up; Canceling Requests in Progress; SSL and GSSAPI Session Encryption).
use Rattle.std.specs.Prelude.{ℕ, Bool, false, List, [], ◌∷◌, ◌==◌, nat_lt, length, take, if◌then◌else◌}
use Rattle.std.specs.FinMap as fin
use Rattle.std.specs.Str.{str_to_ascii_lowercase}
use Rattle.pg_messages.specs.declared.startup.Startup.{Startup}
use Rattle.pg_messages.specs.declared.startup.CancelRequest.{CancelRequest}
use Rattle.pg_messages.specs.declared.startup.SslNegotiationKind.{SslNegotiationKind}
use Rattle.pg_messages.specs.declared.startup.SslNegotiationKind.TheVariants as encryption
use Rattle.pg_messages.specs.declared.frontend.PgWireFrontendMessage.{PgWireFrontendMessage}
use Rattle.pg_messages.specs.declared.frontend.PgWireFrontendMessage.TheVariants as client
use Rattle.pg_messages.specs.declared.backend.PgWireBackendMessage.{PgWireBackendMessage}
use Rattle.pg_messages.specs.declared.backend.PgWireBackendMessage.TheVariants as server
use Rattle.pg_messages.specs.declared.response.TransactionStatus.TheVariants as status
use Rattle.pg_messages.specs.declared.codec.ProtocolVersion.{ProtocolVersion}
use Rattle.pg_messages.specs.declared.codec.ProtocolVersion.TheVariants.{PROTOCOL3_0, PROTOCOL3_2}
use Rattle.pg_messages.specs.Frames.{protocol_3_0, protocol_3_2}
use Rattle.pg_results.specs.declared.error.PgWireError.TheVariants as wire
use Rattle.pg_results.specs.declared.client.PgWireConnectionState.TheVariants as phase
use Rattle.named_entries.specs.Names.{NameMap}
use Rattle.pg_client.specs.declared.desk.DeskCall.{DeskCall}
use Rattle.pg_client.specs.declared.desk.DeskCall.TheVariants as desk
use Rattle.pg_client.specs.declared.ends.EndKind.TheVariants as end
use Rattle.pg_client.specs.Errors.{unsupported_version}
use Rattle.pg_replies.specs.Replies.{startup_replies}
use Rattle.pg_client.specs.State.{State}
use Rattle.pg_client.specs.Effect.{Called, says, refuses, over, stopped, silent}

-- SSLRequest, GSSENCRequest: no encryption.
abbrev pub no_encryption : SslNegotiationKind → PgWireBackendMessage
no_encryption encryption.PostgresSsl = server.SslResponse (record {})
no_encryption encryption.PostgresGss = server.GssEncResponse (record {})

-- CancelRequest: one cancel call, which takes an answer; nothing is replied.
abbrev pub on_cancel_request : {S : Type 0} → List Bool → CancelRequest → Called S
on_cancel_request [] m = silent stopped
on_cancel_request (told ∷ answers) m = record { calls = desk.Cancel m.pid m.secret_key told ∷ []; effect = over end.CancelServed }

-- The startup parameters: names in lower case, and the last of a repeated name wins.
abbrev pub with_parameters : NameMap (List ℕ) → List (List ℕ × List ℕ) → NameMap (List ℕ)
with_parameters names [] = names
with_parameters names (p ∷ parameters) = with_parameters (fin.insert names (str_to_ascii_lowercase p.0) p.1) parameters

-- the key that a client is told: in 3.0 the first four bytes, in 3.2 the whole key
abbrev pub told_key : ProtocolVersion → List ℕ → List ℕ
told_key PROTOCOL3_0 key = take 4 key
told_key PROTOCOL3_2 key = key

-- whether that is less than the whole key
abbrev pub tells_less : ProtocolVersion → List ℕ → Bool
tells_less PROTOCOL3_0 key = nat_lt 4 (length key)
tells_less PROTOCOL3_2 key = false

-- Where it is less, the registration is narrowed to it.
abbrev pub narrowing : ProtocolVersion → List ℕ → List DeskCall
narrowing version key = if tells_less version key then desk.Narrow ∷ [] else []

-- the session is ready, outside a transaction, with this version, these parameters, and the key that the client is told
abbrev pub started_session : {S : Type 0} → State S → ProtocolVersion → Startup → State S
started_session s version m = record s {
  info = record s.info {
    secret_key = told_key version s.info.secret_key;
    protocol = version;
    metadata = with_parameters fin.empty m.parameters;
    status = status.Idle;
    state = phase.ReadyForQuery;
  };
}

abbrev pub accepts : {S : Type 0} → State S → ProtocolVersion → Startup → Called S
accepts s version m = record {
  calls = narrowing version s.info.secret_key;
  effect = says (startup_replies s.info.pid (told_key version s.info.secret_key)) (started_session s version m);
}

-- Startup: versions 3.0 and 3.2 are accepted, and every other is refused.
abbrev pub on_startup : {S : Type 0} → State S → Startup → Called S
on_startup s m =
    if m.code == protocol_3_0 then accepts s PROTOCOL3_0 m
    else if m.code == protocol_3_2 then accepts s PROTOCOL3_2 m
    else silent (refuses s (wire.UserError (unsupported_version m.code)))

-- No other message has a frame in this phase.
abbrev pub startup_row : {S : Type 0} → List Bool → State S → PgWireFrontendMessage → Called S
startup_row answers s (client.SslNegotiation kind) = silent (says (no_encryption kind ∷ []) s)
startup_row answers s (client.CancelRequest m) = on_cancel_request answers m
startup_row answers s (client.Startup m) = on_startup s m
startup_row answers s _ = silent (says [] s)
