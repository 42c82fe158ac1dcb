-- What a `ParseError` displays.
use Rattle.std.specs.Prelude.{ℕ, List, ◌++◌, codes}
use Rattle.interval_errors.specs.declared.IntError.{IntError}
use Rattle.interval_errors.specs.declared.IntError.TheVariants.{Empty as NoDigit, InvalidDigit, OutOfRange as IntOutOfRange}
use Rattle.interval_errors.specs.declared.DecimalError.{DecimalError}
use Rattle.interval_errors.specs.declared.DecimalError.TheVariants.{Empty as NoByte, Malformed, TooManyDigits, OutOfRange as DecimalOutOfRange}
use Rattle.interval_errors.specs.declared.Reason.{Reason}
use Rattle.interval_errors.specs.declared.Reason.TheVariants.{TooLong, Shape, Overflow}
use Rattle.interval_errors.specs.declared.ParseError.{ParseError}
use Rattle.interval_errors.specs.declared.ParseError.TheVariants.{ParseIntErr, ParseFloatErr, InvalidYearMonth, InvalidTime, InvalidInterval}

abbrev pub int_error_text : IntError → List ℕ
int_error_text NoDigit = codes "empty"
int_error_text InvalidDigit = codes "invalid digit"
int_error_text IntOutOfRange = codes "out of range"

abbrev pub decimal_error_text : DecimalError → List ℕ
decimal_error_text NoByte = codes "empty"
decimal_error_text Malformed = codes "malformed"
decimal_error_text TooManyDigits = codes "too many digits"
decimal_error_text DecimalOutOfRange = codes "out of range"

abbrev pub reason_text : Reason → List ℕ
reason_text TooLong = codes "text too long"
reason_text Shape = codes "broken shape"
reason_text Overflow = codes "overflow"

-- what is at fault, and why
abbrev pub error_text : ParseError → List ℕ
error_text (ParseIntErr e) = codes "Failed to parse integer: " ++ int_error_text e
error_text (ParseFloatErr e) = codes "Failed to parse float: " ++ decimal_error_text e
error_text (InvalidYearMonth r) = codes "Invalid year/month interval: " ++ reason_text r
error_text (InvalidTime r) = codes "Invalid time interval: " ++ reason_text r
error_text (InvalidInterval r) = codes "Invalid interval: " ++ reason_text r
