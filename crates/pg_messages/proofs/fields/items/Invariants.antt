use Rattle.std.proofs.Common.{◌≡◌, ◌-◌}
use Rattle.pg_messages.specs.Reading.{items_at}
use Rattle.pg_messages.proofs.Loops.{with_front}
use Rattle.pg_messages.proofs.fields.items.Given as goal

abbrev pub invariant-loop : goal.invariant-loop
invariant-loop g l = with_front l.items (items_at g.T.Field.field_at (l.count - l.counter) l.rest)
    ≡ items_at g.T.Field.field_at l.count l.bytes
