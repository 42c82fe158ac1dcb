use Rattle.std.proofs.Common.{◌≡◌, true, false, rules, ◌<◌, length}
use Rattle.pg_interval.specs.Cell.{IsInterval}
use Rattle.pg_text.proofs.Cells.{read_some}
use Rattle.pg_text.proofs.from_sql.IntervalFromSql.from_sql.Goals as goal

pub returns-in-Some : goal.returns-in-Some
returns-in-Some c =
    let fits : IsInterval c.in-Some.interval = record { months = search rules; days = search rules; microseconds = search rules } in
    let long : ¬ (length c.args.raw.now < 16) = λ h. (let e : true ≡ false = c.in-Some.ensures.short.1 h in cc) in
    read_some c.args.raw.now c.in-Some.interval long fits c.in-Some.ensures.cell
