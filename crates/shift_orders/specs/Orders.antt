-- What a statement asks with its parameters.
use Rattle.std.specs.Prelude.{ℕ, List, ◌++◌, ◌+◌, Option, Some, None, Result, Ok, Err, if◌then◌else◌, slice_get, codes, decimal}
use Rattle.std.specs.Str.{is_utf8}
use denote.Ref.{Bor}
use Rattle.interval_texts.specs.Reading.{interval_in, interval_of}
use Rattle.pg_interval.specs.declared.pg_interval.Interval.{Interval}
use Rattle.pg_results.specs.Errors.{error}
use Rattle.pg_results.specs.Formats.{format_for}
use Rattle.pg_results.specs.declared.error.PgWireError.{PgWireError}
use Rattle.pg_results.specs.declared.error.PgWireError.TheVariants as wire
use Rattle.pg_results.specs.declared.format.Format.{Format}
use Rattle.shift_table.specs.Names.{name_fault}
use Rattle.shift_table.specs.declared.name.NameError.{NameError}
use Rattle.shift_table.specs.declared.name.NameError.TheVariants as fault
use Rattle.shift_orders.specs.declared.order.ShiftOrder.{ShiftOrder}
use Rattle.shift_orders.specs.declared.order.ShiftOrder.TheVariants as order
use Rattle.shift_orders.specs.declared.statement.Argument.{Argument}
use Rattle.shift_orders.specs.declared.statement.Argument.TheVariants.{Text, Parameter}
use Rattle.shift_orders.specs.declared.statement.ShiftStatement.{ShiftStatement}
use Rattle.shift_orders.specs.declared.statement.ShiftStatement.TheVariants.{Book, Cancel, Shifts, ShiftsOf, Begin, Commit, Rollback}

-- ---- errors

-- `$N` counts from 1
abbrev pub no_parameter : ℕ → PgWireError
no_parameter index = wire.UserError (error (codes "42P02") (codes "there is no parameter $" ++ decimal (index + 1)))

abbrev pub no_value : ℕ → PgWireError
no_value index = wire.UserError (error (codes "22004") (codes "there is no value for $" ++ decimal (index + 1)))

abbrev pub unreadable_name : PgWireError
unreadable_name = wire.UserError (error (codes "22021") (codes "a name is UTF-8 without zero bytes"))

abbrev pub name_of_other_length : PgWireError
name_of_other_length = wire.UserError (error (codes "22023") (codes "a name has 1 to 63 bytes"))

-- ---- values

-- what follows from a value; an error stays itself
abbrev pub and_then : {A B E : Type 0} → Result A E → (A → Result B E) → Result B E
and_then (Ok value) next = next value
and_then (Err e) next = Err e

-- the bytes of a parameter, which is there and no null
abbrev pub value_of : ℕ → Option (Option (List ℕ)) → Result (List ℕ) PgWireError
value_of index (Some (Some bytes)) = Ok bytes
value_of index (Some None) = Err (no_value index)
value_of index None = Err (no_parameter index)

-- the bytes of a call's result
abbrev pub bytes_told : Result (Bor (List ℕ)) PgWireError → Result (List ℕ) PgWireError
bytes_told (Ok bytes) = Ok bytes.now
bytes_told (Err e) = Err e

abbrev pub value_at : List (Option (List ℕ)) → ℕ → Result (List ℕ) PgWireError
value_at parameters index = value_of index (slice_get parameters index)

-- a text, unless it is no name
abbrev pub named : List ℕ → Option NameError → Result (List ℕ) PgWireError
named text None = Ok text
named text (Some fault.Length) = Err name_of_other_length
named text (Some fault.ZeroByte) = Err unreadable_name
named text (Some fault.NoMemory) = Err wire.NoMemory

-- the name that a text is
abbrev pub name_of : List ℕ → Result (List ℕ) PgWireError
name_of text = named text (name_fault text)

-- the name that bytes are, the same in text and in binary
abbrev pub name_in : List ℕ → Result (List ℕ) PgWireError
name_in bytes = if is_utf8 bytes then name_of bytes else Err unreadable_name

-- the name that an argument stands for
abbrev pub name_asked : Argument → List (Option (List ℕ)) → Result (List ℕ) PgWireError
name_asked (Text text) parameters = name_of text
name_asked (Parameter index) parameters = and_then (value_at parameters index) name_in

-- the interval that an argument stands for
abbrev pub interval_asked : Argument → List (Option (List ℕ)) → Format → Result Interval PgWireError
interval_asked (Text text) parameters formats = interval_of text
interval_asked (Parameter index) parameters formats =
    and_then (value_at parameters index) (λ bytes. interval_in (format_for formats index) bytes)

-- ---- orders

-- what a statement asks with parameters in formats: its arguments are read in the order in which they stand
abbrev pub order_of : ShiftStatement → List (Option (List ℕ)) → Format → Result ShiftOrder PgWireError
order_of (Book name start length) parameters formats =
    and_then (name_asked name parameters) (λ whose.
    and_then (interval_asked start parameters formats) (λ from.
    and_then (interval_asked length parameters formats) (λ long.
    Ok (order.Book (record { name = whose; start = from; length = long })))))
order_of (Cancel name start) parameters formats =
    and_then (name_asked name parameters) (λ whose.
    and_then (interval_asked start parameters formats) (λ from. Ok (order.Cancel whose from)))
order_of (ShiftsOf name) parameters formats = and_then (name_asked name parameters) (λ whose. Ok (order.ShiftsOf whose))
order_of Shifts parameters formats = Ok order.Shifts
order_of Begin parameters formats = Ok order.Begin
order_of Commit parameters formats = Ok order.Commit
order_of Rollback parameters formats = Ok order.Rollback
