use Rattle.std.proofs.Common.{rules}
use Rattle.pg_interval.specs.Cell.{IsInterval}
use Rattle.pg_interval.proofs.CellLemmas.{interval_cell-from_bytes}
use Rattle.pg_interval.proofs.pg_interval.Interval.to_cell.Goals as goal

pub returns : goal.returns
returns c =
    let fits : IsInterval c.args.self.now = record { months = search rules; days = search rules; microseconds = search rules } in
    interval_cell-from_bytes c.args.self.now _ _ _ fits c.to_be_bytes.ensures c.to_be_bytes-2.ensures c.to_be_bytes-3.ensures
