use Rattle.std.proofs.lemmas.Result.{err_from_is_err_and}
use Rattle.relation_handlers.proofs.table.judged.Goals as goal

pub shared-requires : goal.shared-requires
shared-requires c = record {
  valid = rw c.as_slice.ensures at c.in_ok-places.ensures.valid;
  places = rw c.as_slice.ensures at c.in_ok-places.ensures.places;
  columns = rw c.as_slice-2.ensures at c.in_ok-columns.ensures;
}

pub returns-in_err-places : goal.returns-in_err-places
returns-in_err-places c =
    let p = err_from_is_err_and c.from_residual.result c.from_residual.ensures.1 in
    rw (p.1, p.2) (record { ok = tt; valid = tt; refused = rw c.as_slice.ensures at c.in_err-places.ensures.refused })
