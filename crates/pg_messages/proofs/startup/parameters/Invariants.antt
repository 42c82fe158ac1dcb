use Rattle.std.proofs.Common.{◌≡◌, ◌-◌}
use Rattle.pg_messages.specs.Reading.{parameters_at, all_parameters_at}
use Rattle.pg_messages.proofs.Loops.{with_front}
use Rattle.pg_messages.proofs.startup.parameters.Given as goal

abbrev pub invariant-loop : goal.invariant-loop
invariant-loop l = with_front l.parameters (parameters_at (l.end - l.counter) l.rest) ≡ all_parameters_at l.bytes
