-- The options of a session: what they are at first, and what a client's parameters make of them.
use Rattle.std.specs.Prelude.{◌≡◌, ℕ, ℤ, pos, List, Option, None, Some, codes, FitsSigned}
use Rattle.std.specs.BTreeMap.{BTreeMap, get}
use Rattle.std.specs.Cmp.Lexicographic.{slice_cmp}
use Rattle.std.specs.Ordering.{nat_cmp, int_cmp, ordering_then}
use Rattle.std.specs.declared.cmp.Ordering.{Ordering}
use Rattle.std.specs.Int.{w8}
use Rattle.std.specs.Str.Parse.{IsNumeral, without_leading_sign, signed_digits_value}
use Rattle.pg_types.specs.declared.format.FormatOptions.{FormatOptions}

abbrev pub default_options : FormatOptions
default_options = record {
  date_style = codes "ISO, YMD";
  interval_style = codes "postgres";
  bytea_output = codes "hex";
  time_zone = codes "Etc/UTC";
  extra_float_digits = pos 1;
}

-- the value under a name, where names are compared by their bytes
abbrev pub setting : BTreeMap (List ℕ) (List ℕ) → List ℕ → Option (List ℕ)
setting parameters name = get (slice_cmp nat_cmp) parameters name

-- an optional sign and one or more digits, whose number an i8 holds
abbrev pub IsSmallNumber : List ℕ → Type 0
IsSmallNumber text = IsNumeral 10 (without_leading_sign text) × FitsSigned w8 (signed_digits_value 10 text)

-- the number that a text gives, and 1 where it is absent or gives none
abbrev pub IsFloatDigits : Option (List ℕ) → ℤ → Type 0
IsFloatDigits None n = n ≡ pos 1
IsFloatDigits (Some text) n = (IsSmallNumber text → n ≡ signed_digits_value 10 text) × (¬ (IsSmallNumber text) → n ≡ pos 1)

-- the order of texts: byte by byte
abbrev pub text_cmp : List ℕ → List ℕ → Ordering
text_cmp a b = slice_cmp nat_cmp a b

-- the order of options: by their fields, from the first to the last
abbrev pub options_cmp : FormatOptions → FormatOptions → Ordering
options_cmp a b = ordering_then (text_cmp a.date_style b.date_style)
    (ordering_then (text_cmp a.interval_style b.interval_style)
    (ordering_then (text_cmp a.bytea_output b.bytea_output)
    (ordering_then (text_cmp a.time_zone b.time_zone) (int_cmp a.extra_float_digits b.extra_float_digits))))
