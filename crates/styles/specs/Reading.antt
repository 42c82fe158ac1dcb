-- What a parameter stands for, or why it stands for no interval.
use Rattle.std.specs.Prelude.{ℕ, List, Option, Some, None, Result, Err, codes}
use Rattle.interval_texts.specs.Reading.{interval_in}
use Rattle.pg_interval.specs.declared.pg_interval.Interval.{Interval}
use Rattle.pg_types.specs.declared.field_format.FieldFormat.{FieldFormat}
use Rattle.pg_results.specs.Errors.{error}
use Rattle.pg_results.specs.declared.error.PgWireError.{PgWireError}
use Rattle.pg_results.specs.declared.error.PgWireError.TheVariants as wire

abbrev pub no_interval : PgWireError
no_interval = wire.UserError (error (codes "22004") (codes "there is no interval for $1"))

-- the interval of a parameter; a null stands for none
abbrev pub interval_given : Option FieldFormat → Option (Option (List ℕ)) → Result Interval PgWireError
interval_given format (Some (Some bytes)) = interval_in format bytes
interval_given format (Some None) = Err no_interval
interval_given format None = Err no_interval
