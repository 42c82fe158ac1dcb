-- The columns so far stand behind the head.
use Rattle.std.proofs.Common.{◌≡◌, ◌++◌, take}
use Rattle.pg_replies.proofs.Pieces.{told}
use Rattle.pg_replies.proofs.send.push_row_description.Given as goal

abbrev pub invariant-loop-field : goal.invariant-loop-field
invariant-loop-field l = l.outbox ≡ l.initial.outbox ++ told (take l.field-index l.fields)
