-- The versions of the protocol that the server supports (protocol: Message Formats, StartupMessage).
use Rattle.std.specs.Prelude.{ℕ, Option, Some, None, ◌==◌, if◌then◌else◌}
use Rattle.pg_messages.specs.declared.codec.ProtocolVersion.{ProtocolVersion}
use Rattle.pg_messages.specs.declared.codec.ProtocolVersion.TheVariants.{PROTOCOL3_0, PROTOCOL3_2}
use Rattle.pg_messages.specs.Frames.{protocol_3_0, protocol_3_2}

-- the version that a startup packet's code names, if the server supports it
abbrev pub spoken_version : ℕ → Option ProtocolVersion
spoken_version code = if code == protocol_3_0 then Some PROTOCOL3_0 else if code == protocol_3_2 then Some PROTOCOL3_2 else None
