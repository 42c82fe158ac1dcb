-- What the text of a query means.
use Rattle.std.specs.Prelude.{ℕ, Bool, true, false, List, [], ◌∷◌, ◌++◌, ◌+◌, ◌==◌, ◌&&◌, Result, Ok, Err, if◌then◌else◌, codes, bytes_eq, nat_eq}
use Rattle.std.specs.List.{list_any, starts_with}
use Rattle.pg_results.specs.Errors.{error}
use Rattle.pg_results.specs.declared.error.PgWireError.{PgWireError}
use Rattle.pg_results.specs.declared.error.PgWireError.TheVariants as wire
use Rattle.pg_types.specs.declared.pg_type.PgType.{PgType}
use Rattle.pg_types.specs.declared.pg_type.PgType.TheVariants as type
use Rattle.query_texts.specs.QueryTexts.{is_word, trimmed}
use Rattle.shift_orders.specs.Orders.{and_then}
use Rattle.shift_orders.specs.Tokens.{is_ended, tokens}
use Rattle.shift_orders.specs.declared.statement.Argument.{Argument}
use Rattle.shift_orders.specs.declared.statement.Argument.TheVariants.{Text, Parameter}
use Rattle.shift_orders.specs.declared.statement.ShiftStatement.{ShiftStatement}
use Rattle.shift_orders.specs.declared.statement.ShiftStatement.TheVariants.{Book, Cancel, Shifts, ShiftsOf, Begin, Commit, Rollback}
use Rattle.shift_orders.specs.declared.tokens.Token.{Token}
use Rattle.shift_orders.specs.declared.tokens.Token.TheVariants.{Word, Quoted}

-- ---- errors

abbrev pub no_statement : PgWireError
no_statement = wire.UserError (error (codes "42601")
    (codes "a query is BOOK name start length, CANCEL name start, SHIFTS, SHIFTS OF name, BEGIN, COMMIT or ROLLBACK"))

abbrev pub not_ended : PgWireError
not_ended = wire.UserError (error (codes "42601") (codes "a quote isn't ended"))

abbrev pub not_in_order : PgWireError
not_in_order = wire.UserError (error (codes "42P02") (codes "parameters stand in their order: $1, $2, $3"))

abbrev pub unknown_parameter : List ℕ → PgWireError
unknown_parameter word = wire.UserError (error (codes "42P02") (codes "there is no parameter " ++ word))

abbrev pub several : PgWireError
several = wire.UserError (error (codes "42601") (codes "a text with a semicolon stands in quotes"))

-- ---- arguments

-- a word that is no parameter stands for its text, unless it begins with `$` or has a semicolon in it
abbrev pub text_of : List ℕ → Result Argument PgWireError
text_of word =
    if starts_with nat_eq word (codes "$") then Err (unknown_parameter word)
    else if list_any (λ byte. byte == 59) word then Err several
    else Ok (Text word)

-- the argument that a token is: the words `$1`, `$2` and `$3` are parameters, and a quoted text stands for its text
abbrev pub argument_of : Token → Result Argument PgWireError
argument_of (Word word) =
    if bytes_eq word (codes "$1") then Ok (Parameter 0)
    else if bytes_eq word (codes "$2") then Ok (Parameter 1)
    else if bytes_eq word (codes "$3") then Ok (Parameter 2)
    else text_of word
argument_of (Quoted text) = Ok (Text text)

-- the arguments of a statement, in the order in which they stand
abbrev pub arguments : ShiftStatement → List Argument
arguments (Book name start length) = name ∷ start ∷ length ∷ []
arguments (Cancel name start) = name ∷ start ∷ []
arguments (ShiftsOf name) = name ∷ []
arguments _ = []

-- whether the parameters among arguments are the next ones in turn
abbrev pub in_order : ℕ → List Argument → Bool
in_order next [] = true
in_order next (Text text ∷ more) = in_order next more
in_order next (Parameter index ∷ more) = index == next && in_order (next + 1) more

-- how many parameters an argument is
abbrev pub parameters : Argument → ℕ
parameters (Text text) = 0
parameters (Parameter index) = 1

-- a statement whose parameters stand in their order, from `$1` on
abbrev pub ordered : ShiftStatement → Result ShiftStatement PgWireError
ordered statement = if in_order 0 (arguments statement) then Ok statement else Err not_in_order

-- ---- statements

-- `name start length`, behind BOOK: first how many there are, then what each stands for, from left to right
abbrev pub booking : List Token → Result ShiftStatement PgWireError
booking (name ∷ start ∷ length ∷ []) =
    and_then (argument_of name) (λ whose.
    and_then (argument_of start) (λ from.
    and_then (argument_of length) (λ long. ordered (Book whose from long))))
booking _ = Err no_statement

-- `name start`, behind CANCEL
abbrev pub canceling : List Token → Result ShiftStatement PgWireError
canceling (name ∷ start ∷ []) =
    and_then (argument_of name) (λ whose. and_then (argument_of start) (λ from. ordered (Cancel whose from)))
canceling _ = Err no_statement

-- a token is a key word, in any ASCII case; a quoted text is none
abbrev pub is_key : Token → List ℕ → Bool
is_key (Word word) key = is_word word key
is_key (Quoted text) key = false

-- `name`, behind SHIFTS OF
abbrev pub listing_of : List Token → Result ShiftStatement PgWireError
listing_of (name ∷ []) = and_then (argument_of name) (λ whose. ordered (ShiftsOf whose))
listing_of _ = Err no_statement

-- nothing or `OF name`, behind SHIFTS
abbrev pub listing : List Token → Result ShiftStatement PgWireError
listing [] = Ok Shifts
listing (of ∷ behind) = if is_key of (codes "OF") then listing_of behind else Err no_statement

-- nothing, behind a statement of one word
abbrev pub alone : ShiftStatement → List Token → Result ShiftStatement PgWireError
alone statement [] = Ok statement
alone statement (token ∷ tokens) = Err no_statement

-- the statement of a key word and what stands behind it
abbrev pub statement_of : List Token → Result ShiftStatement PgWireError
statement_of [] = Err no_statement
statement_of (key ∷ behind) =
    if is_key key (codes "BOOK") then booking behind
    else if is_key key (codes "CANCEL") then canceling behind
    else if is_key key (codes "SHIFTS") then listing behind
    else if is_key key (codes "BEGIN") then alone Begin behind
    else if is_key key (codes "COMMIT") then alone Commit behind
    else if is_key key (codes "ROLLBACK") then alone Rollback behind
    else Err no_statement

-- what a text without padding means
abbrev pub meaning : List ℕ → Result ShiftStatement PgWireError
meaning text = if is_ended text then statement_of (tokens text) else Err not_ended

-- what a query means, without whitespace and semicolons at both ends
abbrev pub meaning_of : List ℕ → Result ShiftStatement PgWireError
meaning_of query = meaning (trimmed query)

-- ---- parameters

-- the type of an argument that is a parameter
abbrev pub asked : PgType → Argument → List PgType
asked datatype (Text text) = []
asked datatype (Parameter index) = datatype ∷ []

-- the types of a statement's parameters: text for a name, and interval for a start and a length
abbrev pub parameter_types : ShiftStatement → List PgType
parameter_types (Book name start length) = asked type.Text name ++ asked type.Interval start ++ asked type.Interval length
parameter_types (Cancel name start) = asked type.Text name ++ asked type.Interval start
parameter_types (ShiftsOf name) = asked type.Text name
parameter_types _ = []
