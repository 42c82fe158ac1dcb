-- The two formats of a field: PostgreSQL's protocol, "Formats and Format Codes".
use Rattle.std.specs.Prelude.{ℤ, pos, if◌then◌else◌}
use Rattle.std.specs.Ordering.{int_eq}
use Rattle.pg_types.specs.declared.field_format.FieldFormat.{FieldFormat}
use Rattle.pg_types.specs.declared.field_format.FieldFormat.TheVariants.{Text, Binary}

abbrev pub format_code : FieldFormat → ℤ
format_code Text = pos 0
format_code Binary = pos 1

-- 1 is binary, and every other code text
abbrev pub format_of_code : ℤ → FieldFormat
format_of_code code = if int_eq code (pos 1) then Binary else Text
