use Rattle.named_entries.proofs.NameMaps.{get-put, get-other}
use Rattle.pg_portal.proofs.laws.what_is_put_is_got.Goals as goal

pub returns-clause-put : goal.returns-clause-put
returns-clause-put g c = get-put

pub returns-clause-others : goal.returns-clause-others
returns-clause-others g c = λ m k q v ne. get-other m k v q ne
