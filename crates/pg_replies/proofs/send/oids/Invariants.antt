use Rattle.std.proofs.Common.{◌≡◌, map, take}
use Rattle.pg_types.specs.Types.{oid_of}
use Rattle.pg_replies.proofs.send.oids.Given as goal

abbrev pub invariant-loop-ty : goal.invariant-loop-ty
invariant-loop-ty l = l.told ≡ map oid_of (take l.ty-index l.types)
