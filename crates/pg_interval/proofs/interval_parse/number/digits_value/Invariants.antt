use Rattle.std.proofs.Common.{◌≡◌, take}
use Rattle.std.specs.Str.Parse.{digits_value}
use Rattle.pg_interval.specs.Reader.{capped}
use Rattle.pg_interval.proofs.interval_parse.number.digits_value.Given as goal

abbrev pub invariant-loop-digit : goal.invariant-loop-digit
invariant-loop-digit l = l.value ≡ capped (digits_value 10 (take l.digit-index l.digits))
