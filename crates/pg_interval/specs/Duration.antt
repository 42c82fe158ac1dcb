-- The interval of a duration of some nanoseconds.
use Rattle.std.specs.Prelude.{ℤ, pos, ◌-ℤ◌, ◌*ℤ◌, int_div}
use Rattle.std.specs.Int.{w32, saturate_signed}
use Rattle.pg_interval.specs.declared.pg_interval.Interval.{Interval}

-- the whole days, toward zero and at most as many as an i32 holds
abbrev pub whole_days : ℤ → ℤ
whole_days nanos = saturate_signed w32 (int_div nanos (pos 86400000000000))

-- no months, the whole days, and the microseconds of the rest, toward zero
abbrev pub duration_interval : ℤ → Interval
duration_interval nanos = record {
  months = pos 0;
  days = whole_days nanos;
  microseconds = int_div (nanos -ℤ (whole_days nanos *ℤ pos 86400000000000)) (pos 1000);
}
