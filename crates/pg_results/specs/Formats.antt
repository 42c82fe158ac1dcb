-- Formats of values and columns (protocol: Extended Query, Bind; Formats and Format Codes).
use Rattle.std.specs.Prelude.{ℕ, ℤ, Bool, true, false, List, [], ◌∷◌, Option, Some, option_map, slice_get}
use Rattle.pg_types.specs.declared.field_format.FieldFormat.{FieldFormat}
use Rattle.pg_types.specs.declared.field_format.FieldFormat.TheVariants as field
use Rattle.pg_types.specs.Formats.{format_of_code}
use Rattle.pg_results.specs.declared.format.Format.{Format}
use Rattle.pg_results.specs.declared.format.Format.TheVariants as format

-- one format for all
abbrev pub unified : FieldFormat → Format
unified field.Text = format.UnifiedText
unified field.Binary = format.UnifiedBinary

-- the formats of a Bind's codes: none is text, one is for all, several are one for each
abbrev pub format_of : List ℤ → Format
format_of [] = format.UnifiedText
format_of (code ∷ []) = unified (format_of_code code)
format_of (code ∷ second ∷ codes) = format.Individual (code ∷ second ∷ codes)

-- the format of the value at an index; None past individual codes
abbrev pub format_for : Format → ℕ → Option FieldFormat
format_for format.UnifiedText index = Some field.Text
format_for format.UnifiedBinary index = Some field.Binary
format_for (format.Individual codes) index = option_map format_of_code (slice_get codes index)

abbrev pub is_text : FieldFormat → Bool
is_text field.Text = true
is_text field.Binary = false

abbrev pub is_binary : FieldFormat → Bool
is_binary field.Text = false
is_binary field.Binary = true
