use Rattle.std.proofs.Common.{rules}
use Rattle.pg_cancel.proofs.Turning.{looks, takes_turn}
use Rattle.pg_cancel.proofs.manager.ConnectionManager.take_turn.Goals as goal

pub load-word-requires : goal.load-word-requires
load-word-requires g c = (search rules, search rules, looks _ _ _)

pub compare_exchange-found-requires : goal.compare_exchange-found-requires
compare_exchange-found-requires g c = (search rules, search rules, takes_turn _ _ _ _ (search rules) (search rules))
