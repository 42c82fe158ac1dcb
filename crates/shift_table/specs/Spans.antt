-- How long an interval is, where PostgreSQL compares it with another.
use Rattle.std.specs.Prelude.{ℤ, pos, ◌+ℤ◌, ◌*ℤ◌}
use Rattle.pg_interval.specs.declared.pg_interval.Interval.{Interval}

-- its microseconds, where a month counts as thirty days and a day as 24 hours
abbrev pub span_of : Interval → ℤ
span_of i = (((i.months *ℤ pos 30) +ℤ i.days) *ℤ pos 86400000000) +ℤ i.microseconds
