-- The printed texts of some intervals, computed: worked examples, and expectations made by hand from the printers' rules.
use Rattle.std.proofs.Common.{◌≡◌, refl, ℤ, pos, negsuc, ℕ, List, [], ◌∷◌, map, codes}
use Rattle.std.specs.Fmt.{digits}
use Rattle.pg_interval.specs.declared.pg_interval.Interval.{Interval}
use Rattle.pg_interval.specs.NormalForm.{normal_form}
use Rattle.pg_interval.specs.Reading.{Style, Postgres, PostgresVerbose, Iso8601, SqlStandard}
use Rattle.pg_interval.specs.Printed.{printed, postgres_text, verbose_text, iso_text, sql_text, is_zero, second_digits, is_second_zero}
use Rattle.pg_interval.specs.Printed.{fields_text, signed_days_text, word_end, two_digits_of, six_digits, fraction_of, after_hours}
use Rattle.pg_interval.specs.Printed.{part_of, part_text, date_parts, time_texts, decimals_of, second_parts, verbose_time_parts}
use Rattle.pg_interval.specs.Printed.{verbose_part_text, item_text, second_text, iso_time_text, year_month_text, sql_time_text}
use Rattle.pg_interval.specs.Printed.{day_time_text, signed_text, without_last_zeros, is_all_zero, is_time_zero, is_year_month_zero}

abbrev of : ℤ → ℤ → ℤ → Interval
of months days microseconds = record { months = months; days = days; microseconds = microseconds }

-- an interval in a style, and its text
abbrev examples : List (Style × Interval × List ℕ)
examples = (
  Postgres,
  of (negsuc 2147483647) (negsuc 2147483647) (negsuc 9223372036854775807),
  codes "-178956970 years -8 mons -2147483648 days -2562047788:00:54.775808",
) ∷ (
  PostgresVerbose,
  of (negsuc 2147483647) (negsuc 2147483647) (negsuc 9223372036854775807),
  codes "@ 178956970 years 8 mons 2147483648 days 2562047788 hours 54.775808 secs ago",
) ∷ (
  Iso8601,
  of (negsuc 2147483647) (negsuc 2147483647) (negsuc 9223372036854775807),
  codes "P-178956970Y-8M-2147483648DT-2562047788H-54.775808S",
) ∷ (
  SqlStandard,
  of (negsuc 2147483647) (negsuc 2147483647) (negsuc 9223372036854775807),
  codes "-178956970-8 -2147483648 -2562047788:00:54.775808",
) ∷
    (Postgres, of (pos 0) (pos 0) (negsuc 499999), codes "-00:00:00.500000") ∷
    (PostgresVerbose, of (pos 0) (pos 0) (negsuc 499999), codes "@ 0.5 secs ago") ∷
    (Iso8601, of (pos 0) (pos 0) (negsuc 499999), codes "PT-0.500000S") ∷
    (SqlStandard, of (pos 0) (pos 0) (negsuc 499999), codes "-0:00:00.500000") ∷
    (Postgres, of (negsuc 0) (pos 2) (pos 3000000), codes "-1 mons 2 days 00:00:03") ∷
    (PostgresVerbose, of (negsuc 0) (pos 2) (pos 3000000), codes "@ 1 mon -2 days -3 secs ago") ∷
    (Iso8601, of (negsuc 0) (pos 2) (pos 3000000), codes "P-1M2DT3S") ∷
    (SqlStandard, of (negsuc 0) (pos 2) (pos 3000000), codes "-0-1 +2 +0:00:03") ∷
    (Postgres, of (pos 0) (pos 0) (pos 0), codes "00:00:00") ∷
    (PostgresVerbose, of (pos 0) (pos 0) (pos 0), codes "@ 0") ∷
    (Iso8601, of (pos 0) (pos 0) (pos 0), codes "PT0S") ∷
    (SqlStandard, of (pos 0) (pos 0) (pos 0), codes "0") ∷
    (Postgres, of (negsuc 12) (negsuc 0) (negsuc 4215123455), codes "-1 years -1 mons -1 days -01:10:15.123456") ∷
    (Postgres, of (pos 13) (pos 1) (pos 4215000000), codes "1 year 1 mon 1 day 01:10:15") ∷
    (Iso8601, of (pos 13) (pos 1) (pos 4215000000), codes "P1Y1M1DT1H10M15S") ∷
    (Iso8601, of (pos 13) (pos 1) (pos 3600000000), codes "P1Y1M1DT1H") ∷
    (Postgres, of (pos 1) (pos 0) (pos 0), codes "1 mon") ∷
    (PostgresVerbose, of (pos 1) (pos 0) (pos 0), codes "@ 1 mon") ∷
    (Iso8601, of (pos 1) (pos 0) (pos 0), codes "P1M") ∷
    (SqlStandard, of (pos 1) (pos 0) (pos 0), codes "0-1") ∷
    (Postgres, of (pos 14) (pos 0) (pos 0), codes "1 year 2 mons") ∷
    (PostgresVerbose, of (pos 14) (pos 0) (pos 0), codes "@ 1 year 2 mons") ∷
    (Iso8601, of (pos 14) (pos 0) (pos 0), codes "P1Y2M") ∷
    (SqlStandard, of (pos 14) (pos 0) (pos 0), codes "1-2") ∷
    (Postgres, of (negsuc 23) (pos 0) (pos 0), codes "-2 years") ∷
    (PostgresVerbose, of (negsuc 23) (pos 0) (pos 0), codes "@ 2 years ago") ∷
    (Iso8601, of (negsuc 23) (pos 0) (pos 0), codes "P-2Y") ∷
    (SqlStandard, of (negsuc 23) (pos 0) (pos 0), codes "-2-0") ∷
    (Postgres, of (pos 0) (pos 1) (pos 0), codes "1 day") ∷
    (PostgresVerbose, of (pos 0) (pos 1) (pos 0), codes "@ 1 day") ∷
    (Iso8601, of (pos 0) (pos 1) (pos 0), codes "P1D") ∷
    (SqlStandard, of (pos 0) (pos 1) (pos 0), codes "1 0:00:00") ∷
    (Postgres, of (pos 0) (negsuc 0) (pos 0), codes "-1 days") ∷
    (PostgresVerbose, of (pos 0) (negsuc 0) (pos 0), codes "@ 1 day ago") ∷
    (Iso8601, of (pos 0) (negsuc 0) (pos 0), codes "P-1D") ∷
    (SqlStandard, of (pos 0) (negsuc 0) (pos 0), codes "-1 0:00:00") ∷
    (Postgres, of (pos 0) (pos 3) (negsuc 0), codes "3 days -00:00:00.000001") ∷
    (PostgresVerbose, of (pos 0) (pos 3) (negsuc 0), codes "@ 3 days -0.000001 secs") ∷
    (Iso8601, of (pos 0) (pos 3) (negsuc 0), codes "P3DT-0.000001S") ∷
    (SqlStandard, of (pos 0) (pos 3) (negsuc 0), codes "+0-0 +3 -0:00:00.000001") ∷
    (Postgres, of (pos 0) (negsuc 2) (pos 1000001), codes "-3 days 00:00:01.000001") ∷
    (PostgresVerbose, of (pos 0) (negsuc 2) (pos 1000001), codes "@ 3 days -1.000001 secs ago") ∷
    (Iso8601, of (pos 0) (negsuc 2) (pos 1000001), codes "P-3DT1.000001S") ∷
    (SqlStandard, of (pos 0) (negsuc 2) (pos 1000001), codes "+0-0 -3 +0:00:01.000001") ∷
    (Postgres, of (pos 0) (pos 0) (pos 1000000), codes "00:00:01") ∷
    (PostgresVerbose, of (pos 0) (pos 0) (pos 1000000), codes "@ 1 sec") ∷
    (Iso8601, of (pos 0) (pos 0) (pos 1000000), codes "PT1S") ∷
    (SqlStandard, of (pos 0) (pos 0) (pos 1000000), codes "0:00:01") ∷
    (Postgres, of (pos 0) (pos 0) (negsuc 60999999), codes "-00:01:01") ∷
    (PostgresVerbose, of (pos 0) (pos 0) (negsuc 60999999), codes "@ 1 min 1 sec ago") ∷
    (Iso8601, of (pos 0) (pos 0) (negsuc 60999999), codes "PT-1M-1S") ∷
    (SqlStandard, of (pos 0) (pos 0) (negsuc 60999999), codes "-0:01:01") ∷
    (Postgres, of (pos 0) (pos 0) (pos 442920000000), codes "123:02:00") ∷
    (PostgresVerbose, of (pos 0) (pos 0) (pos 442920000000), codes "@ 123 hours 2 mins") ∷
    (Iso8601, of (pos 0) (pos 0) (pos 442920000000), codes "PT123H2M") ∷
    (SqlStandard, of (pos 0) (pos 0) (pos 442920000000), codes "123:02:00") ∷
    (Postgres, of (pos 12) (pos 0) (negsuc 999999), codes "1 year -00:00:01") ∷
    (PostgresVerbose, of (pos 12) (pos 0) (negsuc 999999), codes "@ 1 year -1 secs") ∷
    (Iso8601, of (pos 12) (pos 0) (negsuc 999999), codes "P1YT-1S") ∷
    (SqlStandard, of (pos 12) (pos 0) (negsuc 999999), codes "+1-0 +0 -0:00:01") ∷
    (Postgres, of (pos 0) (pos 2) (pos 7384120000), codes "2 days 02:03:04.120000") ∷
    (PostgresVerbose, of (pos 0) (pos 2) (pos 7384120000), codes "@ 2 days 2 hours 3 mins 4.12 secs") ∷
    (Iso8601, of (pos 0) (pos 2) (pos 7384120000), codes "P2DT2H3M4.120000S") ∷
    (SqlStandard, of (pos 0) (pos 2) (pos 7384120000), codes "2 2:03:04.120000") ∷
    (Postgres, of (negsuc 11) (negsuc 3) (negsuc 3599999999), codes "-1 years -4 days -01:00:00") ∷
    (PostgresVerbose, of (negsuc 11) (negsuc 3) (negsuc 3599999999), codes "@ 1 year 4 days 1 hour ago") ∷
    (Iso8601, of (negsuc 11) (negsuc 3) (negsuc 3599999999), codes "P-1Y-4DT-1H") ∷
    (SqlStandard, of (negsuc 11) (negsuc 3) (negsuc 3599999999), codes "-1-0 -4 -1:00:00") ∷
    (Postgres, of (pos 0) (negsuc 3) (negsuc 3599999999), codes "-4 days -01:00:00") ∷
    (PostgresVerbose, of (pos 0) (negsuc 3) (negsuc 3599999999), codes "@ 4 days 1 hour ago") ∷
    (Iso8601, of (pos 0) (negsuc 3) (negsuc 3599999999), codes "P-4DT-1H") ∷
    (SqlStandard, of (pos 0) (negsuc 3) (negsuc 3599999999), codes "-4 1:00:00") ∷
    []

printed_so : map (λ e. printed e.0 e.1) examples ≡ map (λ e. e.2) examples
unfolding normal_form digits postgres_text verbose_text iso_text sql_text is_zero second_digits is_second_zero fields_text
    signed_days_text word_end two_digits_of six_digits fraction_of after_hours part_of part_text date_parts time_texts decimals_of
    second_parts verbose_time_parts verbose_part_text item_text second_text iso_time_text year_month_text sql_time_text day_time_text
    signed_text without_last_zeros is_all_zero is_time_zero is_year_month_zero
printed_so = refl
