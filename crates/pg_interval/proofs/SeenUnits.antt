-- Six units at most have a number, and a number of another makes them one more.
use Rattle.std.proofs.Common.{◌≡◌, ◌+◌, ◌≤◌, Bool, true, false, arith}
use Rattle.pg_interval.specs.Amounts.{one_if, units_in}
use Rattle.pg_interval.specs.Decimals.{TimeUnit, Year, Month, Day, Hour, Minute, Second}
use Rattle.pg_interval.specs.WordReader.{has, with_unit}
use Rattle.pg_interval.specs.declared.interval_parse.parts.Seen.{Seen}

one_at_most : (b : Bool) → one_if b ≤ 1
one_at_most true = omega arith
one_at_most false = omega arith

pub six_at_most : (s : Seen) → units_in s ≤ 6
six_at_most s =
    omega (
      arith,
      one_at_most s.year,
      one_at_most s.month,
      one_at_most s.day,
      one_at_most s.hour,
      one_at_most s.minute,
      one_at_most s.second,
    )

pub one_more : (s : Seen) (u : TimeUnit) → has s u ≡ false → units_in (with_unit s u) ≡ units_in s + 1
one_more s Year free = rw free (omega arith)
one_more s Month free = rw free (omega arith)
one_more s Day free = rw free (omega arith)
one_more s Hour free = rw free (omega arith)
one_more s Minute free = rw free (omega arith)
one_more s Second free = rw free (omega arith)
