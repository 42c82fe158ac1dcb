use Rattle.pg_results.proofs.SameColumns.{equal_is_one}
use Rattle.pg_portal.proofs.laws.equal_columns_are_one.Goals as goal

pub returns : goal.returns
returns c = equal_is_one
