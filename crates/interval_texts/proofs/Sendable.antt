-- The errors of readers can stand in the place of a row.
use Rattle.std.proofs.Common.{◌≡◌, ℕ, ◌≤◌, IsTrue, List, ◌++◌, Option, Some, None, Result, Ok, Err, length, codes, IfErr, refl, arith, inl, inr, subst, length-append}
use Rattle.pg_interval.specs.declared.pg_interval.Interval.{Interval}
use Rattle.interval_errors.specs.declared.IntError.TheVariants as integer
use Rattle.interval_errors.specs.declared.DecimalError.TheVariants as decimal
use Rattle.interval_errors.specs.declared.Reason.TheVariants as why
use Rattle.interval_errors.specs.declared.ParseError.{ParseError}
use Rattle.interval_errors.specs.declared.ParseError.TheVariants as parse
use Rattle.pg_messages.specs.Replies.{HasNoZero}
use Rattle.pg_text.specs.Intervals.{read_in, read_interval}
use Rattle.pg_text.specs.Words.{interval_style_name}
use Rattle.pg_types.specs.declared.error.CellError.{CellError}
use Rattle.pg_types.specs.declared.error.CellError.TheVariants as cell
use Rattle.pg_types.specs.declared.field_format.FieldFormat.{FieldFormat}
use Rattle.pg_types.specs.declared.field_format.FieldFormat.TheVariants as field
use Rattle.pg_text.specs.declared.format.interval_style.IntervalStyle.{IntervalStyle}
use Rattle.pg_text.specs.declared.format.interval_style.IntervalStyle.TheVariants as style
use Rattle.pg_results.specs.Rows.{IsAnswerableItem, IsItemError}
use Rattle.pg_results.specs.Told.{IsOutcome}
use Rattle.pg_results.specs.declared.error.PgWireError.{PgWireError}
use Rattle.pg_replies.proofs.Encodable.{HasNoZero-append, by_test, has_no_zero}
use Rattle.conversation_table.proofs.ErrorTexts.{tellable_error}
use Rattle.interval_texts.specs.Reading.{interval_in, interval_of, or_refused, reason, refused, style_of}

-- ---- texts of errors

-- a text that is short and has no zero byte
record IsPlain (text : List ℕ) : Type 0 where
  short : length text ≤ 100
  clean : HasNoZero text

plain : (text : List ℕ) → length text ≤ 100 → IsTrue (has_no_zero text) → IsPlain text
plain text short clean = record { short = short; clean = by_test text clean }

parse_plain : (e : ParseError) → IsPlain (reason (cell.Parse e))
parse_plain (parse.ParseIntErr integer.Empty) = plain _ (omega arith) refl
parse_plain (parse.ParseIntErr integer.InvalidDigit) = plain _ (omega arith) refl
parse_plain (parse.ParseIntErr integer.OutOfRange) = plain _ (omega arith) refl
parse_plain (parse.ParseFloatErr decimal.Empty) = plain _ (omega arith) refl
parse_plain (parse.ParseFloatErr decimal.Malformed) = plain _ (omega arith) refl
parse_plain (parse.ParseFloatErr decimal.TooManyDigits) = plain _ (omega arith) refl
parse_plain (parse.ParseFloatErr decimal.OutOfRange) = plain _ (omega arith) refl
parse_plain (parse.InvalidYearMonth why.TooLong) = plain _ (omega arith) refl
parse_plain (parse.InvalidYearMonth why.Shape) = plain _ (omega arith) refl
parse_plain (parse.InvalidYearMonth why.Overflow) = plain _ (omega arith) refl
parse_plain (parse.InvalidTime why.TooLong) = plain _ (omega arith) refl
parse_plain (parse.InvalidTime why.Shape) = plain _ (omega arith) refl
parse_plain (parse.InvalidTime why.Overflow) = plain _ (omega arith) refl
parse_plain (parse.InvalidInterval why.TooLong) = plain _ (omega arith) refl
parse_plain (parse.InvalidInterval why.Shape) = plain _ (omega arith) refl
parse_plain (parse.InvalidInterval why.Overflow) = plain _ (omega arith) refl

reason_plain : (cause : CellError) → IsPlain (reason cause)
reason_plain (cell.Parse e) = parse_plain e
reason_plain cell.ShortCell = plain _ (omega arith) refl
reason_plain cell.WrongType = plain _ (omega arith) refl
reason_plain cell.NotUtf8 = plain _ (omega arith) refl
reason_plain (cell.InvalidOptionValue text) = plain _ (omega arith) refl
reason_plain cell.DurationOverflow = plain _ (omega arith) refl
reason_plain cell.NoMemory = plain _ (omega arith) refl

refused_item : (reader : List ℕ) → IsPlain reader → (cause : CellError) → IsItemError (refused reader cause)
refused_item reader r cause =
    let x = codes "no interval in " in let y = codes ": " in let why = y ++ reason cause in let q = reason_plain cause in
    let a = length-append x (reader ++ why) in let b = length-append reader why in let e = length-append y (reason cause) in
    let short = r.short in let few = q.short in
    record {
      tellable = tellable_error (codes "22007") (x ++ (reader ++ why)) (omega arith) (by_test (codes "22007") refl) (omega arith)
          (HasNoZero-append x (reader ++ why) (by_test x refl)
          (HasNoZero-append reader why r.clean (HasNoZero-append y (reason cause) (by_test y refl) q.clean)));
      is_own = refl;
    }

-- the error of an answer, where it is one, can stand in the place of a row
abbrev pub ErrsAsItem : Result Interval PgWireError → Type 0
ErrsAsItem (Ok i) = Unit {0}
ErrsAsItem (Err e) = IsItemError e

refused_or_read : (reader : List ℕ) → IsPlain reader → (read : Result Interval CellError) → ErrsAsItem (or_refused reader read)
refused_or_read reader r (Ok i) = tt
refused_or_read reader r (Err cause) = refused_item reader r cause

name_plain : (s : IntervalStyle) → IsPlain (interval_style_name s)
name_plain style.Postgres = plain _ (omega arith) refl
name_plain style.PostgresVerbose = plain _ (omega arith) refl
name_plain style.ISO8601 = plain _ (omega arith) refl
name_plain style.SQLStandard = plain _ (omega arith) refl

text_errs : (text : List ℕ) → ErrsAsItem (interval_of text)
text_errs text = refused_or_read (interval_style_name (style_of text)) (name_plain (style_of text)) (read_in text (Ok (style_of text)))

bytes_err : (format : Option FieldFormat) (bytes : List ℕ) → ErrsAsItem (interval_in format bytes)
bytes_err (Some field.Binary) bytes = refused_or_read (codes "binary") (plain _ (omega arith) refl) (read_interval bytes)
bytes_err (Some field.Text) bytes = text_errs bytes
bytes_err None bytes = text_errs bytes

-- ---- the error of a call that gave what is told

errs_answerable : (told : Result Interval PgWireError) (e : PgWireError) → ErrsAsItem told → Err e ≡ told → IsAnswerableItem e
errs_answerable (Ok i) e h same = cc
errs_answerable (Err d) e h same =
    let given : d ≡ e = cc in
    subst IsAnswerableItem given (inr h)

by_outcome : (told r : Result Interval PgWireError) → ErrsAsItem told → IsOutcome told r → IfErr r IsAnswerableItem
by_outcome told (Ok i) h given = tt
by_outcome told (Err e) h (inl same) = errs_answerable told e h same
by_outcome told (Err e) h (inr none) = inl (cc)

pub text_answerable : (text : List ℕ) (r : Result Interval PgWireError) → IsOutcome (interval_of text) r → IfErr r IsAnswerableItem
text_answerable text r given = by_outcome (interval_of text) r (text_errs text) given

pub bytes_answerable : (format : Option FieldFormat) (bytes : List ℕ) (r : Result Interval PgWireError)
    → IsOutcome (interval_in format bytes) r → IfErr r IsAnswerableItem
bytes_answerable format bytes r given = by_outcome (interval_in format bytes) r (bytes_err format bytes) given
