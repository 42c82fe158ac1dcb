use Rattle.std.proofs.Common.{◌≡◌, Ok, replicate}
use Rattle.std.specs.List.{AllByRecursion}
use Rattle.pg_results.specs.Rows.{IsSendable}
use Rattle.sample_handlers.specs.Told.{first_row}
use Rattle.sample_handlers.proofs.rows.long_rows.Given as goal

abbrev pub invariant-loop : goal.invariant-loop
invariant-loop l = record {
  rows : l.items ≡ replicate l.counter (Ok (first_row l.format));
  sendable : AllByRecursion IsSendable l.items;
}
