-- The types of parameters can be sent as a reply.
use Rattle.std.proofs.Common.{◌≡◌, ℕ, ◌≤◌, ◌*◌, pos, List, [], ◌∷◌, FitsSigned, length, map, refl, arith, length-append}
use Rattle.std.specs.Int.{w16}
use Rattle.std.specs.List.{flat_map}
use Rattle.std.proofs.lemmas.Int.{ints}
use Rattle.std.proofs.lemmas.List.{length-map}
use Rattle.pg_messages.specs.Fields.{count16, count32}
use Rattle.pg_messages.specs.Replies.{IsEncodable}
use Rattle.pg_types.specs.declared.pg_type.PgType.{PgType}
use Rattle.pg_types.specs.Types.{oid_of}
use Rattle.pg_replies.specs.Replies.{parameter_description}

oids_len : (oids : List ℕ) → length (flat_map count32 oids) ≡ 4 * length oids
oids_len [] = refl
oids_len (oid ∷ oids) = omega (arith, length-append (count32 oid) (flat_map count32 oids), oids_len oids)

count_fits : (n : ℕ) → n ≤ 32767 → FitsSigned w16 (pos n)
count_fits n few = omega (arith, ints)

pub types_sendable : (types : List PgType) → length types ≤ 32767 → IsEncodable (parameter_description types)
types_sendable types few =
    let oids = map oid_of types in let count = length-map types oid_of in
    record {
      body = omega (arith, length-append (count16 (length oids)) (flat_map count32 oids), oids_len oids, count, few);
      counts = (count_fits (length oids) (omega (arith, count, few)), tt);
      texts = tt;
    }
