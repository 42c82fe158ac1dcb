-- How many digits the numbers of a normal form have at most.
use Rattle.std.specs.Prelude.{ℕ, ◌<◌, ◌≤◌, length, unsigned_abs}
use Rattle.pg_interval.specs.Printed.{digits_of}
use Rattle.pg_interval.specs.declared.interval_norm.IntervalNorm.{IntervalNorm}

pub record HasWidths (n : IntervalNorm) : Type 0 where
  pub years : length (digits_of n.years) ≤ 9
  pub months : length (digits_of n.months) ≤ 2
  pub days : length (digits_of n.days) ≤ 10
  pub hours : length (digits_of n.hours) ≤ 10
  pub minutes : length (digits_of n.minutes) ≤ 2
  pub minutes_small : unsigned_abs n.minutes < 100
  pub seconds : length (digits_of n.seconds) ≤ 2
  pub seconds_small : unsigned_abs n.seconds < 100
  pub microseconds_small : unsigned_abs n.microseconds < 1000000

-- The numbers are as short as a normal form's, and of the array's 96 bytes at least `most` come before `end`.
pub record HasRoom (most : ℕ) (n : IntervalNorm) (end : ℕ) : Type 0 where
  pub widths : HasWidths n
  pub room : (most ≤ end) × (end ≤ 96)
