-- `==` of columns decides whether they are one: no two types have one number, and no two formats one code.
use Rattle.std.proofs.Common.{◌≡◌, ◌∙◌, ◌↔◌, ℤ, Option, Some, None, Bool, true, false, refl, sym, ap, subst, unwrap_or, ◌&&◌}
use Rattle.std.proofs.lemmas.Bool.Decides.{Decides-eqb, Decides-int_eq}
use Rattle.std.specs.Cmp.Lexicographic.{same_text}
use Rattle.std.specs.Option.{option_eq}
use Rattle.std.specs.Ordering.{int_eq}
use Rattle.pg_types.specs.declared.field_format.FieldFormat.{FieldFormat}
use Rattle.pg_types.specs.declared.field_format.FieldFormat.TheVariants as format
use Rattle.pg_types.specs.declared.format.FormatOptions.{FormatOptions}
use Rattle.pg_types.specs.declared.pg_type.PgType.{PgType}
use Rattle.pg_types.specs.declared.pg_type.PgType.TheVariants as ty
use Rattle.pg_types.specs.Formats.{format_code, format_of_code}
use Rattle.pg_types.specs.Types.{oid_of, type_of_oid}
use Rattle.pg_results.specs.Fields.{Field}
use Rattle.pg_results.specs.SameFields.{is_same_field, is_same_column, is_same_type, is_same_options, same_field_equiv}

type_back : (t : PgType) → type_of_oid (oid_of t) ≡ Some t
type_back ty.Bool = refl
type_back ty.Bytea = refl
type_back ty.Char = refl
type_back ty.Name = refl
type_back ty.Int8 = refl
type_back ty.Int2 = refl
type_back ty.Int4 = refl
type_back ty.Text = refl
type_back ty.Oid = refl
type_back ty.Json = refl
type_back ty.Float4 = refl
type_back ty.Float8 = refl
type_back ty.Unknown = refl
type_back ty.Bpchar = refl
type_back ty.Varchar = refl
type_back ty.Date = refl
type_back ty.Time = refl
type_back ty.Timestamp = refl
type_back ty.Timestamptz = refl
type_back ty.Interval = refl
type_back ty.IntervalArray = refl
type_back ty.Timetz = refl
type_back ty.Numeric = refl
type_back ty.Void = refl
type_back ty.Uuid = refl
type_back ty.Jsonb = refl

same_type : (t u : PgType) → oid_of t ≡ oid_of u → t ≡ u
same_type t u e = ap (λ found. unwrap_or found t) (sym (type_back t) ∙ ap type_of_oid e ∙ type_back u)

format_back : (f : FieldFormat) → format_of_code (format_code f) ≡ f
format_back format.Text = refl
format_back format.Binary = refl

same_format : (f g : FieldFormat) → format_code f ≡ format_code g → f ≡ g
same_format f g e = sym (format_back f) ∙ ap format_of_code e ∙ format_back g

same_int : (x y : ℤ) → int_eq x y ≡ true → x ≡ y
same_int x y = (Decides-int_eq x y).0

same_option : (p q : Option ℤ) → option_eq int_eq p q ≡ true → p ≡ q
same_option None None e = refl
same_option None (Some y) e = cc
same_option (Some x) None e = cc
same_option (Some x) (Some y) e = ap Some (same_int x y e)

-- the two parts of a test of both
first : (s t : Bool) → (s && t) ≡ true → s ≡ true
first true t e = refl
first false t e = e

second : (s t : Bool) → (s && t) ≡ true → t ≡ true
second true t e = e
second false t e = cc

same_options : (a b : FormatOptions) → is_same_options a b ≡ true → a ≡ b
same_options a b e =
    let rest1 = second _ _ e in
    let rest2 = second _ _ rest1 in
    let rest3 = second _ _ rest2 in
    let dates = same_text _ _ (sym (first _ _ e)) in
    let intervals = same_text _ _ (sym (first _ _ rest1)) in
    let bytes = same_text _ _ (sym (first _ _ rest2)) in
    let zones = same_text _ _ (sym (first _ _ rest3)) in
    let digits = same_int _ _ (second _ _ rest3) in
    λ i. record {
      date_style = dates i;
      interval_style = intervals i;
      bytea_output = bytes i;
      time_zone = zones i;
      extra_float_digits = digits i;
    }

same_field : (a b : Field) → is_same_field a b ≡ true → a ≡ b
same_field a b e =
    let column = first (is_same_column a b) _ e in
    let place = second _ _ column in
    let rest = second (is_same_column a b) _ e in
    let types = first (is_same_type a b) _ rest in
    let types1 = second _ _ types in
    let types2 = second _ _ types1 in
    let names = same_text a.name b.name (sym (first _ _ column)) in
    let table = same_option a.table_id b.table_id (first _ _ place) in
    let number = same_option a.column_id b.column_id (second _ _ place) in
    let datatype = same_type a.datatype b.datatype ((Decides-eqb _ _).0 (first _ _ types)) in
    let formats = same_format a.format b.format (same_int _ _ (first _ _ types1)) in
    let sizes = same_int a.type_size b.type_size (first _ _ types2) in
    let modifiers = same_int a.type_modifier b.type_modifier (second _ _ types2) in
    let options = same_options a.format_options b.format_options (second (is_same_type a b) _ rest) in
    λ i. record {
      name = names i;
      table_id = table i;
      column_id = number i;
      datatype = datatype i;
      format = formats i;
      format_options = options i;
      type_size = sizes i;
      type_modifier = modifiers i;
    }

pub equal_is_one : (a b : Field) → (is_same_field a b ≡ true) ↔ (a ≡ b)
equal_is_one a b = (same_field a b, λ e. subst (λ f. is_same_field a f ≡ true) e (same_field_equiv.refl a))
