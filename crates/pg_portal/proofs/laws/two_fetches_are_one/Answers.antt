use Rattle.pg_portal.proofs.TwoFetches.{one_fetch}
use Rattle.pg_portal.proofs.laws.two_fetches_are_one.Goals as goal

pub returns : goal.returns
returns c = one_fetch
