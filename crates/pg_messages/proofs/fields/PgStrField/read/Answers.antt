use Rattle.std.proofs.Common.{arith}
use Rattle.std.proofs.lemmas.List.{take_rest}
use Rattle.pg_messages.proofs.EmptyText.{empty_text}
use Rattle.pg_messages.proofs.fields.PgStrField.read.Goals as goal

pub returns-in-len1-up : goal.returns-in-len1-up
returns-in-len1-up c =
    rw (c.from_string.ensures, c.new.ensures.bytes, take_rest c.args.bytes.now 1)
    (empty_text c.args.bytes.now (omega (arith, c.in-len1-up.len_at_least)) c.if-byte-eq0.true)
