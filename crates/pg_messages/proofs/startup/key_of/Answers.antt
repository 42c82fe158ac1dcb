use Rattle.std.proofs.Common.{Err, ap}
use Rattle.pg_messages.proofs.MessageLaws.{no_key}
use Rattle.pg_messages.proofs.startup.key_of.Goals as goal

pub returns-in-Err-BadLength : goal.returns-in-Err-BadLength
returns-in-Err-BadLength c =
    no_key c.in-Err-BadLength.field-0-0 c.args.bytes.now ((c.in-Err-BadLength.ensures.bad_length
    c.in-Err-BadLength.field-0-0).0 (ap Err c.in-Err-BadLength.field-0-is))
