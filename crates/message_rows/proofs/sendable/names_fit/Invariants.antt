use Rattle.std.proofs.Common.{map, drop}
use Rattle.std.specs.List.{AllByRecursion}
use Rattle.pg_messages.specs.Replies.{HasNoZero}
use Rattle.message_rows.proofs.sendable.names_fit.Given as goal

abbrev pub invariant-loop-field : goal.invariant-loop-field
invariant-loop-field l = AllByRecursion HasNoZero (map (λ f. f.name) (drop l.field-index l.fields))
    → AllByRecursion HasNoZero (map (λ f. f.name) l.fields)
