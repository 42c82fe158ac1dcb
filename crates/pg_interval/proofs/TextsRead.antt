-- The grammars at texts whose meaning is known, computed.
use Rattle.std.proofs.Common.{◌≡◌, refl, ℤ, pos, negsuc, ℕ, List, [], ◌∷◌, map, Result, Ok, Err, codes, replicate}
use Rattle.pg_interval.specs.declared.pg_interval.Interval.{Interval}
use Rattle.interval_errors.specs.declared.ParseError.{ParseError}
use Rattle.pg_interval.specs.Reading.{reading, Style, Postgres, PostgresVerbose, Iso8601, SqlStandard}
use Rattle.pg_interval.specs.PostgresText.{postgres_pairs, verbose_pairs}
use Rattle.pg_interval.specs.IsoText.{iso_pairs}
use Rattle.pg_interval.specs.SqlText.{sql_pairs}
use Rattle.interval_errors.specs.declared.DecimalError.TheVariants as decimals
use Rattle.interval_errors.specs.declared.IntError.TheVariants as integers
use Rattle.interval_errors.specs.declared.Reason.TheVariants.{TooLong, Shape, Overflow}
use Rattle.interval_errors.specs.declared.ParseError.TheVariants.{ParseIntErr, ParseFloatErr, InvalidYearMonth}
use Rattle.interval_errors.specs.declared.ParseError.TheVariants.{InvalidTime, InvalidInterval}

abbrev of : ℤ → ℤ → ℤ → Interval
of months days microseconds = record { months = months; days = days; microseconds = microseconds }

-- a text in a style, and what it stands for
abbrev examples : List (Style × List ℕ × Result Interval ParseError)
examples = (
  Postgres,
  codes "-178956970 years -8 mons -2147483648 days -2562047788:00:54.775808",
  Ok (of (negsuc 2147483647) (negsuc 2147483647) (negsuc 9223372036854775807)),
) ∷ (
  PostgresVerbose,
  codes "@ 178956970 years 8 mons 2147483648 days 2562047788 hours 54.775808 secs ago",
  Ok (of (negsuc 2147483647) (negsuc 2147483647) (negsuc 9223372036854775807)),
) ∷ (
  Iso8601,
  codes "P-178956970Y-8M-2147483648DT-2562047788H-54.775808S",
  Ok (of (negsuc 2147483647) (negsuc 2147483647) (negsuc 9223372036854775807)),
) ∷ (
  SqlStandard,
  codes "-178956970-8 -2147483648 -2562047788:00:54.775808",
  Ok (of (negsuc 2147483647) (negsuc 2147483647) (negsuc 9223372036854775807)),
) ∷
    (Postgres, codes "-00:00:00.500000", Ok (of (pos 0) (pos 0) (negsuc 499999))) ∷
    (PostgresVerbose, codes "@ 0.5 secs ago", Ok (of (pos 0) (pos 0) (negsuc 499999))) ∷
    (Iso8601, codes "PT-0.500000S", Ok (of (pos 0) (pos 0) (negsuc 499999))) ∷
    (SqlStandard, codes "-0:00:00.500000", Ok (of (pos 0) (pos 0) (negsuc 499999))) ∷
    (Postgres, codes "-1 mons 2 days 00:00:03", Ok (of (negsuc 0) (pos 2) (pos 3000000))) ∷
    (PostgresVerbose, codes "@ 1 mon -2 days -3 secs ago", Ok (of (negsuc 0) (pos 2) (pos 3000000))) ∷
    (Iso8601, codes "P-1M2DT3S", Ok (of (negsuc 0) (pos 2) (pos 3000000))) ∷
    (SqlStandard, codes "-0-1 +2 +0:00:03", Ok (of (negsuc 0) (pos 2) (pos 3000000))) ∷
    (Postgres, codes "00:00:00", Ok (of (pos 0) (pos 0) (pos 0))) ∷
    (PostgresVerbose, codes "@ 0", Ok (of (pos 0) (pos 0) (pos 0))) ∷
    (Iso8601, codes "PT0S", Ok (of (pos 0) (pos 0) (pos 0))) ∷
    (SqlStandard, codes "0", Ok (of (pos 0) (pos 0) (pos 0))) ∷
    (Postgres, codes "-1 years -1 mons -1 days -01:10:15.123456", Ok (of (negsuc 12) (negsuc 0) (negsuc 4215123455))) ∷
    (SqlStandard, codes "-1 1:00:00", Ok (of (pos 0) (negsuc 0) (negsuc 3599999999))) ∷
    (SqlStandard, codes "-1-1 -1 +0:00:00", Ok (of (negsuc 12) (negsuc 0) (pos 0))) ∷
    (SqlStandard, codes "+1-1 +1 +1:10:15.123456", Ok (of (pos 13) (pos 1) (pos 4215123456))) ∷
    (SqlStandard, codes "--1:00:00", Err (InvalidInterval Shape)) ∷
    (SqlStandard, codes "invalid", Err (InvalidInterval Shape)) ∷
    (SqlStandard, codes "a-1", Err (ParseIntErr integers.InvalidDigit)) ∷
    (SqlStandard, codes "2147483648 0:00:00", Err (ParseIntErr integers.OutOfRange)) ∷
    (SqlStandard, codes " 0 ", Ok (of (pos 0) (pos 0) (pos 0))) ∷
    (SqlStandard, codes "1:00:00.", Ok (of (pos 0) (pos 0) (pos 3600000000))) ∷
    (SqlStandard, codes "1:00:00.1234567", Err (InvalidInterval Shape)) ∷
    (SqlStandard, codes "--1", Err (ParseIntErr integers.Empty)) ∷
    (SqlStandard, codes "1.5:00", Err (ParseIntErr integers.InvalidDigit)) ∷
    (SqlStandard, codes "1-2 1:00", Err (ParseIntErr integers.InvalidDigit)) ∷
    (SqlStandard, codes "1:00:00.-5", Err (ParseIntErr integers.InvalidDigit)) ∷
    (SqlStandard, codes "", Err (InvalidInterval Shape)) ∷
    (SqlStandard, codes "-2147483648 0:00:00", Ok (of (pos 0) (negsuc 2147483647) (pos 0))) ∷
    (SqlStandard, codes "1:00:00.5", Ok (of (pos 0) (pos 0) (pos 3600500000))) ∷
    (SqlStandard, codes "1 2 3 4", Err (InvalidInterval Shape)) ∷
    (Iso8601, codes "PT", Ok (of (pos 0) (pos 0) (pos 0))) ∷
    (Iso8601, codes "PT5S5S", Ok (of (pos 0) (pos 0) (pos 10000000))) ∷
    (Iso8601, codes "PT.5S", Ok (of (pos 0) (pos 0) (pos 500000))) ∷
    (Iso8601, codes "P1.2YT0S", Ok (of (pos 14) (pos 0) (pos 0))) ∷
    (Iso8601, codes "P1.2MT0S", Ok (of (pos 1) (pos 6) (pos 0))) ∷
    (Iso8601, codes "PT0.0000005S", Ok (of (pos 0) (pos 0) (pos 1))) ∷
    (Iso8601, codes "PTT", Err (InvalidInterval Shape)) ∷
    (Iso8601, codes "P", Err (InvalidInterval Shape)) ∷
    (Iso8601, codes "1Y", Err (InvalidInterval Shape)) ∷
    (Iso8601, codes "P1PY", Err (InvalidInterval Shape)) ∷
    (Iso8601, codes "PT10", Err (InvalidInterval Shape)) ∷
    (Iso8601, codes "PTS", Err (ParseFloatErr decimals.Empty)) ∷
    (Iso8601, codes "P1Y1M1DT1H", Ok (of (pos 13) (pos 1) (pos 3600000000))) ∷
    (Iso8601, codes "P178956970Y8M", Err (InvalidYearMonth Overflow)) ∷
    (Iso8601, codes "PT9223372036854775808S", Err (ParseFloatErr decimals.OutOfRange)) ∷
    (Iso8601, codes "PT-9223372036854775808S", Err (InvalidTime Overflow)) ∷
    (Iso8601, codes "P2147483647D1D", Err (InvalidInterval Overflow)) ∷
    (Iso8601, codes "PT0.0000000000000000001S", Err (ParseFloatErr decimals.TooManyDigits)) ∷
    (Iso8601, codes "P-Y", Err (ParseFloatErr decimals.Malformed)) ∷
    (Iso8601, codes "P1..2Y", Err (ParseFloatErr decimals.Malformed)) ∷
    (Iso8601, codes "PY", Err (ParseFloatErr decimals.Empty)) ∷
    (Iso8601, codes "P1H", Ok (of (pos 0) (pos 0) (pos 3600000000))) ∷
    (Iso8601, codes "P1S", Err (InvalidInterval Shape)) ∷
    (Iso8601, codes "PT-0.0000005S", Ok (of (pos 0) (pos 0) (negsuc 0))) ∷
    (Iso8601, codes "P+1Y", Err (InvalidInterval Shape)) ∷
    (Postgres, codes "1 years 1 months 1 days 1 hours", Ok (of (pos 13) (pos 1) (pos 3600000000))) ∷
    (Postgres, codes "-1 days +02:03:04", Ok (of (pos 0) (negsuc 0) (pos 7384000000))) ∷
    (Postgres, codes "1.2 months", Ok (of (pos 1) (pos 6) (pos 0))) ∷
    (Postgres, codes "01:02:03.1234567", Ok (of (pos 0) (pos 0) (pos 3723123456))) ∷
    (Postgres, codes "", Ok (of (pos 0) (pos 0) (pos 0))) ∷
    (Postgres, codes "1 00:00:00 years", Err (InvalidInterval Shape)) ∷
    (Postgres, codes "years 1", Err (InvalidInterval Shape)) ∷
    (Postgres, codes "10", Err (InvalidInterval Shape)) ∷
    (Postgres, codes "- years", Err (ParseFloatErr decimals.Malformed)) ∷
    (Postgres, codes "1 month", Err (InvalidInterval Shape)) ∷
    (Postgres, codes "1years", Ok (of (pos 12) (pos 0) (pos 0))) ∷
    (Postgres, codes "1 year 2 years", Err (InvalidInterval Shape)) ∷
    (Postgres, codes "0 hours 1:00:00", Err (InvalidInterval Shape)) ∷
    (Postgres, codes "1 hours 00:05:00", Ok (of (pos 0) (pos 0) (pos 3900000000))) ∷
    (Postgres, codes "-1.5 days", Ok (of (pos 0) (negsuc 0) (negsuc 43199999999))) ∷
    (PostgresVerbose, codes "@ 1 mon -2 days -3 secs ago", Ok (of (negsuc 0) (pos 2) (pos 3000000))) ∷
    (PostgresVerbose, codes "@ 2147483648 days ago", Ok (of (pos 0) (negsuc 2147483647) (pos 0))) ∷
    (PostgresVerbose, codes "@ 2147483648 days", Err (ParseFloatErr decimals.OutOfRange)) ∷
    (PostgresVerbose, codes "@", Ok (of (pos 0) (pos 0) (pos 0))) ∷
    (PostgresVerbose, codes "@ago", Ok (of (pos 0) (pos 0) (pos 0))) ∷
    (PostgresVerbose, codes "@ ago", Ok (of (pos 0) (pos 0) (pos 0))) ∷
    (PostgresVerbose, codes " @ 1 dayago ", Ok (of (pos 0) (negsuc 0) (pos 0))) ∷
    (PostgresVerbose, codes "1 day", Err (InvalidInterval Shape)) ∷
    (PostgresVerbose, codes "@ 0 ago", Ok (of (pos 0) (pos 0) (pos 0))) ∷
    []

read_so : map (λ e. reading e.0 e.1) examples ≡ map (λ e. e.2) examples
unfolding reading postgres_pairs verbose_pairs iso_pairs sql_pairs
read_so = refl

too_long : reading Postgres (replicate 4097 32) ≡ Err (InvalidInterval TooLong)
unfolding reading
too_long = refl
