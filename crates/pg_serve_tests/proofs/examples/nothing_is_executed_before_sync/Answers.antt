use Rattle.std.proofs.Common.{◌≡◌, refl}
use Rattle.pg_serve_tests.proofs.examples.nothing_is_executed_before_sync.Goals as goal

pub returns : goal.returns
returns c = λ s row awaits. rw awaits
