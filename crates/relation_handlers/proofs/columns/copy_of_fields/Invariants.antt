use Rattle.std.proofs.Common.{◌≡◌, take}
use Rattle.relation_handlers.proofs.columns.copy_of_fields.Given as goal

-- the columns so far are copied
abbrev pub invariant-loop-field : goal.invariant-loop-field
invariant-loop-field l = l.copy ≡ take l.field-index l.fields
