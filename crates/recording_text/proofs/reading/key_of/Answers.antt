-- A key that is refused for its length isn't a key.
use Rattle.std.proofs.Common.{◌∙◌, ap, arith}
use Rattle.std.proofs.Common.{Err}
use Rattle.recording_text.proofs.reading.key_of.Goals as goal

pub unreachable-requires : goal.unreachable-requires
unreachable-requires c =
    let e = c.in-Err-BadLength in
    let bad = (c.try_new.ensures.bad_length e.field-0-0).0 (e.is ∙ ap Err e.field-0-is) in
    omega (arith, bad.0, bad.1)
