use Rattle.std.proofs.Common.{◌≡◌, map, take}
use Rattle.pg_types.specs.Types.{type_of_oid}
use Rattle.pg_results.proofs.stmt.types_of.Given as goal

-- the types so far are those of the numbers
abbrev pub invariant-loop-oid : goal.invariant-loop-oid
invariant-loop-oid l = l.types ≡ map type_of_oid (take l.oid-index l.oids)
