-- How large the sums of a reader may grow, and how many numbers they may have.
use Rattle.std.specs.Prelude.{ℕ, ◌+◌, ◌*◌, ◌^◌, ◌≤◌, Bool, if◌then◌else◌}
use Rattle.pg_interval.specs.declared.interval_parse.parts.Amount.{Amount}
use Rattle.pg_interval.specs.declared.interval_parse.parts.Seen.{Seen}

-- each part is at most n times 2 ^ 104
pub record IsWithin (n : ℕ) (a : Amount) : Type 0 where
  pub months : a.months ≤ n * 2 ^ 104
  pub days : a.days ≤ n * 2 ^ 104
  pub microseconds : a.microseconds ≤ n * 2 ^ 104

abbrev pub one_if : Bool → ℕ
one_if b = if b then 1 else 0

-- how many units have a number
abbrev pub units_in : Seen → ℕ
units_in s = one_if s.year + one_if s.month + one_if s.day + one_if s.hour + one_if s.minute + one_if s.second
