-- What Parse stores is good.
use Rattle.std.proofs.Common.{◌≡◌, ◌<◌, ◌^◌, Bool, true, false, inl, inr, IsTrue, IfSome, Option, Some, None, Result, Ok, Err, length, map, ap, subst, ◌∙◌, arith, if◌then◌else◌}
use Rattle.std.proofs.lemmas.List.{length-map}
use Rattle.pg_messages.specs.declared.extendedquery.Parse.{Parse}
use Rattle.pg_types.specs.Types.{type_of_oid}
use Rattle.pg_results.specs.declared.client.ClientInfo.{ClientInfo}
use Rattle.pg_results.specs.declared.error.PgWireError.{PgWireError}
use Rattle.pg_results.specs.declared.stmt.StoredStatement.{StoredStatement}
use Rattle.pg_results.specs.Statements.{prepared, stored}
use Rattle.pg_results.specs.Told.{ParserTold, IsOutcome}
use Rattle.pg_portal.specs.Told.{value_of}
use Rattle.conversation_table.specs.ExtendedRows.{entry_of}
use Rattle.conversation_table.specs.Good.{IsGoodStatement}

-- as many types as the message names
types_counted : {S : Type 0} (m : Parse) (r : Result (Option S) PgWireError) (is_blank : Bool) (x : StoredStatement S)
    → Ok (Some x) ≡ (if is_blank then Ok None else stored m r) → length x.parameter_types ≡ length m.type_oids
types_counted m r true x e = cc
types_counted m (Ok (Some told)) false x e =
    let same : x ≡ record { id = m.name; statement = told; parameter_types = map type_of_oid m.type_oids } = cc in
    ap (λ s. length s.parameter_types) same ∙ length-map m.type_oids type_of_oid
types_counted m (Ok None) false x e = cc
types_counted m (Err told) false x e = cc

types_told : {S : Type 0} (parser : ParserTold S) (info : ClientInfo) (m : Parse) (x : StoredStatement S)
    → IsOutcome (prepared parser info m) (Ok (Some x))
    → length x.parameter_types ≡ length m.type_oids
types_told parser info m x (inl e) = types_counted m _ _ x e
types_told parser info m x (inr e) = cc

pub parsed_is_good : {S : Type 0} (parser there : ParserTold S) (info : ClientInfo) (m : Parse) (found : Option (StoredStatement S))
    → there ≡ parser
    → length m.type_oids < 2 ^ 15 → IsOutcome (prepared there info m) (Ok found) → IfSome found (λ x. IsTrue (there.gives x.statement))
    → (x : StoredStatement S) → value_of (entry_of found) ≡ Some x → IsGoodStatement parser x
parsed_is_good parser there info m None i few outcome given x e = cc
parsed_is_good parser there info m (Some y) i few outcome given x e =
    let same : y ≡ x = cc in let count = types_told there info m y outcome in
    subst (IsGoodStatement parser) same (record { given = subst (λ p. IsTrue (p.gives y.statement)) i given; types = omega arith })

-- it stands under the name that the message tells
named_so : {S : Type 0} (m : Parse) (r : Result (Option S) PgWireError) (is_blank : Bool) (x : StoredStatement S)
    → Ok (Some x) ≡ (if is_blank then Ok None else stored m r) → x.id ≡ m.name
named_so m r true x e = cc
named_so m (Ok (Some told)) false x e =
    let same : x ≡ record { id = m.name; statement = told; parameter_types = map type_of_oid m.type_oids } = cc in ap (λ s. s.id) same
named_so m (Ok None) false x e = cc
named_so m (Err told) false x e = cc

pub parsed_named : {S : Type 0} (parser : ParserTold S) (info : ClientInfo) (m : Parse) (found : Option (StoredStatement S))
    → IsOutcome (prepared parser info m) (Ok found) → IfSome found (λ x. x.id ≡ m.name)
parsed_named parser info m None outcome = tt
parsed_named parser info m (Some x) (inl e) = named_so m _ _ x e
parsed_named parser info m (Some x) (inr e) = cc
