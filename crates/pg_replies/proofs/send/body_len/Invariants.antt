-- The columns so far are counted.
use Rattle.std.proofs.Common.{◌≡◌, ◌+◌, length, take}
use Rattle.pg_replies.proofs.Pieces.{told}
use Rattle.pg_replies.proofs.send.body_len.Given as goal

abbrev pub invariant-loop-field : goal.invariant-loop-field
invariant-loop-field l = l.len ≡ 2 + length (told (take l.field-index l.fields))
