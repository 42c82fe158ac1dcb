use Rattle.std.proofs.Common.{rules}
use Rattle.std.proofs.lemmas.Int.{to_z-of_z}
use Rattle.std.proofs.lemmas.Result.{err_from_is_err_and}
use Rattle.pg_replies.proofs.send.deliver_to.Goals as goal

pub returns-in_err-page-clause-cut_short : goal.returns-in_err-page-clause-cut_short
returns-in_err-page-clause-cut_short g c =
    let p = err_from_is_err_and c.from_residual.result c.from_residual.ensures.1 in
    let fits = c.ranges.max_rows in
    let x = simp to_z-of_z at c.in_err-page.ensures.cut_short in
    rw (p.1, p.2) (x.0, x.1, (let sent = x.2 in search rules))
