-- The texts of intervals and of durations.
use Rattle.std.proofs.Common.{◌≡◌, ℕ, ◌≤◌, Bool, true, false, cond, List, length, nat_lt, Ok, Err, Result, refl, arith, sym, ap, ◌∙◌}
use Rattle.std.proofs.lemmas.Bool.Decides.{nat_tests}
use Rattle.std.proofs.lemmas.Str.{is_utf8-from_IsUtf8}
use Rattle.std.specs.Str.{IsUtf8}
use Rattle.pg_messages.proofs.Utf8.{is_utf8-fails}
use Rattle.pg_types.specs.declared.error.CellError.TheVariants.{NotUtf8}
use Rattle.pg_text.specs.declared.format.interval_style.IntervalStyle.{IntervalStyle}
use Rattle.pg_text.specs.Intervals.{as_parse, read_in}
use Rattle.pg_text.specs.Words.{printed_style}
use Rattle.interval_errors.specs.declared.ParseError.{ParseError}
use Rattle.pg_interval.specs.declared.pg_interval.Interval.{Interval}
use Rattle.pg_interval.specs.Reading.{Style, reading, StandsFor}

-- a text that stands for an interval isn't long
not_long : {T E : Type 0} (n : ℕ) (b : Bool) (e : E) (r : Result T E) (x : T) → nat_lt 4096 n ≡ b → cond b (Err e) r ≡ Ok x → n ≤ 4096
not_long n true e r x h same = absurd (cc)
not_long n false e r x h same = grind (arith, nat_tests)

pub length_stands : (style : Style) (text : List ℕ) (i : Interval) → StandsFor style text i → length text ≤ 4096
unfolding reading
length_stands style text i stands = not_long (length text) (nat_lt 4096 (length text)) _ _ i refl stands

-- the input's text, or none
pub read_as_text : (input text : List ℕ) (style : IntervalStyle) (r : Result Interval ParseError) → IsUtf8 input → text ≡ input
    → r ≡ reading (printed_style style) text → as_parse r ≡ read_in input (Ok style)
read_as_text input text style r utf8 same e =
    ap as_parse (e ∙ ap (reading (printed_style style)) same)
    ∙ sym (ap (λ b. cond b (as_parse (reading (printed_style style) input)) (Err NotUtf8)) (is_utf8-from_IsUtf8 input utf8))

pub read_no_text : (input : List ℕ) (style : IntervalStyle) → ¬ (IsUtf8 input) → Err NotUtf8 ≡ read_in input (Ok style)
read_no_text input style fails =
    sym (ap (λ b. cond b (as_parse (reading (printed_style style) input)) (Err NotUtf8)) (is_utf8-fails input fails))
