-- The rows of a valid table are as wide as the columns.
use Rattle.std.proofs.Common.{◌≡◌, ◌++◌, arith, zero, List, [], ◌∷◌, length, Option, Some, None}
use Rattle.std.specs.Option.{is_some}
use Rattle.relation_tables.specs.declared.Relation.{Relation}
use Rattle.relation_tables.specs.Relations.{HaveEvenRows, place_of}
use Rattle.relation_handlers.specs.declared.table.TableError.{TableError}
use Rattle.relation_handlers.specs.Tables.{IsSound, IsValid, refusal_at, refusal_after, or_else}
use Rattle.relation_handlers.proofs.TableLemmas.{IsSound-at}

later_none : (o p : Option TableError) → or_else o p ≡ None → p ≡ None
later_none None p h = h
later_none (Some e) p h = absurd (let f : ⊥ = cc in f)

even_after : (earlier relations : List Relation) → refusal_after earlier relations ≡ None → HaveEvenRows relations
even_after earlier [] h = tt
even_after earlier (r ∷ relations) h =
    let sound : IsSound r = IsSound-at earlier (r ∷ relations) h zero r (omega arith) in (
      sound.rows,
      even_after (earlier ++ r ∷ []) relations
          (later_none (refusal_at (length earlier) (is_some (place_of earlier r.name)) r) (refusal_after (earlier ++ r ∷ []) relations) h),
    )

pub even : (relations : List Relation) → IsValid relations → HaveEvenRows relations
even relations valid = even_after [] relations valid
