use Rattle.std.proofs.Common.{◌≡◌, ◌+◌, ◌-◌, ◌^◌, min, length, take}
use Rattle.std.specs.List.{flat_map}
use Rattle.pg_messages.proofs.put.list_len.Given as goal

abbrev pub invariant-loop-value : goal.invariant-loop-value
invariant-loop-value g l = l.len ≡ min (l.before + length (flat_map g.T.Put.bytes_of (take l.value-index l.values))) (2 ^ 64 - 1)
