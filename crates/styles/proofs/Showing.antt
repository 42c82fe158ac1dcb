-- The row of an interval shows it, and is what a query that stands for it is answered.
use Rattle.std.proofs.Common.{◌≡◌, ℕ, List, Result, Ok, refl}
use Rattle.pg_interval.specs.Printed.{printed}
use Rattle.pg_interval.specs.Reading.{Style, Postgres, PostgresVerbose, Iso8601, SqlStandard, StandsForOnly, reading}
use Rattle.pg_interval.specs.declared.pg_interval.Interval.{Interval}
use Rattle.pg_results.specs.declared.error.PgWireError.{PgWireError}
use Rattle.pg_results.specs.declared.format.Format.{Format}
use Rattle.row_handlers.specs.Told.{alone, answered, simple_answer}
use Rattle.styles.specs.Rows.{Shows, columns, row_of}
use Rattle.styles.specs.Told.{AreAnsweredBy, IsAnsweredBy, rows_of, stated, told_styles}

-- a text that stands for an interval stands for no other
stands_alone : (style : Style) (text : List ℕ) (i : Interval) → reading style text ≡ Ok i → StandsForOnly style text i
stands_alone style text i read = (read, λ other also. cc)

pub shows : (i : Interval) → reading Postgres (printed Postgres i) ≡ Ok i → reading PostgresVerbose (printed PostgresVerbose i) ≡ Ok i
    → reading Iso8601 (printed Iso8601 i) ≡ Ok i → reading SqlStandard (printed SqlStandard i) ≡ Ok i → Shows (row_of i) i
shows i a b c d = record {
  postgres = printed Postgres i;
  verbose = printed PostgresVerbose i;
  iso = printed Iso8601 i;
  sql = printed SqlStandard i;
  cells = refl;
  postgres_stands = stands_alone Postgres (printed Postgres i) i a;
  verbose_stands = stands_alone PostgresVerbose (printed PostgresVerbose i) i b;
  iso_stands = stands_alone Iso8601 (printed Iso8601 i) i c;
  sql_stands = stands_alone SqlStandard (printed SqlStandard i) i d;
}

pub answered_one : (formats : Format) (asked : Result Interval PgWireError) (i : Interval) → asked ≡ Ok i → Shows (row_of i) i
    → IsAnsweredBy formats (answered (columns formats) (rows_of asked)) i
answered_one formats asked i same h = (row_of i, rw same refl, h)

pub answered_alone : (read : Result Interval PgWireError) (i : Interval) → read ≡ Ok i → Shows (row_of i) i
    → AreAnsweredBy (alone (simple_answer told_styles (stated read))) i
answered_alone read i same h = (row_of i, rw same refl, h)
