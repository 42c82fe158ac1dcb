use Rattle.std.proofs.Common.{◌≡◌, ◌+◌, ◌++◌, length, take}
use Rattle.std.specs.List.{flat_map}
use Rattle.pg_messages.proofs.put.put_all.Given as goal

abbrev pub invariant-loop-value : goal.invariant-loop-value
invariant-loop-value g l =
    let done = flat_map g.T.Put.bytes_of (take l.value-index l.values) in
    record { items : l.dst.items ≡ l.initial.dst.items ++ done; spare : l.dst.spare + length done ≡ l.initial.dst.spare }
