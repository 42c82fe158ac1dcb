use Rattle.std.proofs.lemmas.Int.{to_z-of_z}
use Rattle.pg_results.proofs.page.deliver_page.Goals as goal

pub returns-clause-cut_short : goal.returns-clause-cut_short
returns-clause-cut_short g c = let fits = c.ranges.max_rows in simp to_z-of_z at c.deliver_through.ensures.cut_short
