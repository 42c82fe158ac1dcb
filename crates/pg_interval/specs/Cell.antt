-- The binary format of an interval in PostgreSQL: Int64 microseconds, Int32 days, Int32 months.
use Rattle.std.specs.Prelude.{ℕ, ℤ, List, ◌++◌, FitsSigned}
use Rattle.std.specs.Int.{w32, w64, cast_unsigned, to_be_bytes}
use Rattle.pg_interval.specs.declared.pg_interval.Interval.{Interval}

-- the bytes of an Int64 and of an Int32 of the protocol: two's complement, the high byte first
abbrev pub int64_bytes : ℤ → List ℕ
int64_bytes z = to_be_bytes w64 (cast_unsigned w64 z)

abbrev pub int32_bytes : ℤ → List ℕ
int32_bytes z = to_be_bytes w32 (cast_unsigned w32 z)

-- the sixteen bytes of an interval
unfoldable pub interval_cell : Interval → List ℕ
interval_cell i = int64_bytes i.microseconds ++ int32_bytes i.days ++ int32_bytes i.months

-- the three numbers lie in their types
pub record IsInterval (i : Interval) : Type 0 where
  pub months : FitsSigned w32 i.months
  pub days : FitsSigned w32 i.days
  pub microseconds : FitsSigned w64 i.microseconds
