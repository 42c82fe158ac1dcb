-- When two columns are equal: all their parts are, and the options are compared by value. This is an equivalence.
use Rattle.std.specs.Prelude.{ℕ, List, Bool, nat_eq}
use Rattle.std.specs.Cmp.{IsEquivalence, nat_eq_equiv, int_eq_equiv, on_equiv, and_equiv}
use Rattle.std.specs.Cmp.Lexicographic.{pointwise, nat_list_eq_equiv, options_equiv}
use Rattle.std.specs.Option.{option_eq}
use Rattle.std.specs.Ordering.{int_eq, on, eq_of_both}
use Rattle.pg_types.specs.declared.format.FormatOptions.{FormatOptions}
use Rattle.pg_types.specs.Formats.{format_code}
use Rattle.pg_types.specs.Types.{oid_of}
use Rattle.pg_results.specs.Fields.{Field}

-- texts are compared by their bytes
abbrev pub is_same_text : List ℕ → List ℕ → Bool
is_same_text = pointwise nat_eq

abbrev pub is_same_options : FormatOptions → FormatOptions → Bool
is_same_options = eq_of_both (on (λ o. o.date_style) is_same_text)
    (eq_of_both (on (λ o. o.interval_style) is_same_text)
    (eq_of_both (on (λ o. o.bytea_output) is_same_text)
    (eq_of_both (on (λ o. o.time_zone) is_same_text) (on (λ o. o.extra_float_digits) int_eq))))

-- the name, and the place in a table
abbrev pub is_same_column : Field → Field → Bool
is_same_column = eq_of_both (on (λ f. f.name) is_same_text)
    (eq_of_both (on (λ f. f.table_id) (option_eq int_eq)) (on (λ f. f.column_id) (option_eq int_eq)))

-- the type, by its number, and the format, by its code
abbrev pub is_same_type : Field → Field → Bool
is_same_type = eq_of_both (on (λ f. oid_of f.datatype) nat_eq)
    (eq_of_both (on (λ f. format_code f.format) int_eq)
    (eq_of_both (on (λ f. f.type_size) int_eq) (on (λ f. f.type_modifier) int_eq)))

abbrev pub is_same_field : Field → Field → Bool
is_same_field = eq_of_both is_same_column (eq_of_both is_same_type (on (λ f. f.format_options) is_same_options))

-- ---- the laws

same_options_equiv : IsEquivalence is_same_options
same_options_equiv = and_equiv (on_equiv (λ o. o.date_style) nat_list_eq_equiv)
    (and_equiv (on_equiv (λ o. o.interval_style) nat_list_eq_equiv)
    (and_equiv (on_equiv (λ o. o.bytea_output) nat_list_eq_equiv)
    (and_equiv (on_equiv (λ o. o.time_zone) nat_list_eq_equiv) (on_equiv (λ o. o.extra_float_digits) int_eq_equiv))))

same_column_equiv : IsEquivalence is_same_column
same_column_equiv = and_equiv (on_equiv (λ f. f.name) nat_list_eq_equiv)
    (and_equiv (on_equiv (λ f. f.table_id) (options_equiv int_eq_equiv)) (on_equiv (λ f. f.column_id) (options_equiv int_eq_equiv)))

same_type_equiv : IsEquivalence is_same_type
same_type_equiv = and_equiv (on_equiv (λ f. oid_of f.datatype) nat_eq_equiv)
    (and_equiv (on_equiv (λ f. format_code f.format) int_eq_equiv)
    (and_equiv (on_equiv (λ f. f.type_size) int_eq_equiv) (on_equiv (λ f. f.type_modifier) int_eq_equiv)))

pub same_field_equiv : IsEquivalence is_same_field
same_field_equiv = and_equiv same_column_equiv (and_equiv same_type_equiv (on_equiv (λ f. f.format_options) same_options_equiv))
