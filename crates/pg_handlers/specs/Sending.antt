-- What a response left.
use Rattle.pg_handlers.specs.declared.query.respond.Behind.{Behind}
use Rattle.pg_replies.specs.ResponseRows.{Sent}

-- the status and the COPY that a response left
abbrev pub behind : Sent → Behind
behind sent = record { status = sent.status; copying = sent.copying }
