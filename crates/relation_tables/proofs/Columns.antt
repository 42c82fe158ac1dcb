-- Columns, their formats, and types of parameters, in both tables.
use Rattle.std.proofs.Common.{◌≡◌, ℕ, zero, suc, ◌+◌, ◌≤◌, ◌<◌, ◌==◌, ◌&&◌, ℤ, pos, Bool, true, false, if◌then◌else◌, List, [], ◌∷◌, refl, ap, map, length, arith, is_some, find, slice_get, nat_lt, nat_le, zip, Some}
use Rattle.std.proofs.Math.Path.{ap₂}
use Rattle.std.specs.List.{AllByRecursion}
use Rattle.std.specs.Option.{option_map, unwrap_or}
use Rattle.pg_types.specs.declared.field_format.FieldFormat.{FieldFormat}
use Rattle.pg_types.specs.declared.field_format.FieldFormat.TheVariants as field
use Rattle.pg_types.specs.declared.pg_type.PgType.{PgType}
use Rattle.pg_types.specs.declared.pg_type.PgType.TheVariants as type
use Rattle.pg_types.specs.Formats.{format_of_code}
use Rattle.pg_types.specs.Types.{oid_of, types}
use Rattle.pg_results.specs.declared.format.Format.{Format}
use Rattle.pg_results.specs.declared.format.Format.TheVariants as format
use Rattle.pg_results.specs.Describing.{is_empty_list}
use Rattle.pg_results.specs.Formats.{format_of}
use Rattle.pg_results.specs.Statements.{types_of}
use Rattle.relation_tables.specs.Relations.{column}
use Rattle.relation_tables.specs.RelationHandler.{column_formats, column_formats_from, columns_in, given_types}
use Rattle.relation_tables.specs.CoreTable.{core_oid}
use Rattle.relation_tables.specs.Premises.{AreBinary}
use Rattle.relation_tables.proofs.Agreement.{IsBinaryIn}

pub is_empty-map : {A B : Type 0} (f : A → B) (xs : List A) → is_empty_list (map f xs) ≡ is_empty_list xs
is_empty-map f [] = refl
is_empty-map f (x ∷ xs) = refl

text_from : (index : ℕ) (names : List (List ℕ)) → column_formats_from format.UnifiedText index names ≡ map (λ name. field.Text) names
text_from index [] = refl
text_from index (name ∷ names) = ap (λ fs. field.Text ∷ fs) (text_from (index + 1) names)

binary_from : (index : ℕ) (names : List (List ℕ)) → column_formats_from format.UnifiedBinary index names ≡ map (λ name. field.Binary) names
binary_from index [] = refl
binary_from index (name ∷ names) = ap (λ fs. field.Binary ∷ fs) (binary_from (index + 1) names)

zipped : (f : FieldFormat) (names : List (List ℕ)) → map (λ p. column p.0 p.1) (zip (map (λ name. f) names) names) ≡ map (column f) names
zipped f [] = refl
zipped f (name ∷ names) = ap (λ fs. column f name ∷ fs) (zipped f names)

in_format : (f : FieldFormat) (formats : Format) (names : List (List ℕ)) → column_formats formats names ≡ map (λ name. f) names
    → columns_in formats names ≡ map (column f) names
in_format f formats names e = rw e (zipped f names)

pub text_fields : (names : List (List ℕ)) → columns_in format.UnifiedText names ≡ map (column field.Text) names
text_fields names = in_format field.Text format.UnifiedText names (text_from 0 names)

pub binary_fields : (names : List (List ℕ)) (formats : Format) → IsBinaryIn formats names
    → columns_in formats names ≡ map (column field.Binary) names
binary_fields names formats h = in_format field.Binary formats names h

-- ---- binary results

abbrev AllOne : List ℤ → Type 0
AllOne codes = AllByRecursion (λ code. code ≡ pos 1) codes

one_is_binary : (code : ℤ) → code ≡ pos 1 → format_of_code code ≡ field.Binary
one_is_binary code e = rw e refl

one_at : (codes : List ℤ) (index : ℕ) → AllOne codes → index < length codes
    → unwrap_or (option_map format_of_code (slice_get codes index)) field.Text ≡ field.Binary
one_at [] index h inside = absurd (omega arith)
one_at (code ∷ codes) zero h inside = one_is_binary code h.0
one_at (code ∷ codes) (suc index) h inside = one_at codes index h.1 (omega arith)

individual_from : (codes : List ℤ) → AllOne codes → (index : ℕ) (names : List (List ℕ)) → index + length names ≤ length codes
    → column_formats_from (format.Individual codes) index names ≡ map (λ name. field.Binary) names
individual_from codes h index [] enough = refl
individual_from codes h index (name ∷ names) enough =
    ap₂ (λ f fs. f ∷ fs) (one_at codes index h (omega arith)) (individual_from codes h (index + 1) names (omega arith))

unified_binary : (code : ℤ) → code ≡ pos 1 → (names : List (List ℕ)) → IsBinaryIn (format_of (code ∷ [])) names
unified_binary code e names = rw e (binary_from 0 names)

pub binary_formats : (codes : List ℤ) → AreBinary codes → (names : List (List ℕ))
    → (nat_le 2 (length codes) && nat_lt (length codes) (length names)) ≡ false → IsBinaryIn (format_of codes) names
binary_formats [] h names few = absurd (h.0 refl)
binary_formats (code ∷ []) h names few = unified_binary code h.1.0 names
binary_formats (code ∷ next ∷ codes) h names few = individual_from (code ∷ next ∷ codes) h.1 0 names (grind (arith, few))

-- ---- types of parameters

known_oid : (oid : ℕ) (all : List PgType) → oid_of (unwrap_or (find (λ t. oid_of t == oid) all) type.Unknown)
    ≡ (if is_some (find (λ t. oid_of t == oid) all) then oid else 705)
known_oid oid [] = refl
known_oid oid (t ∷ all) = by_case (oid_of t == oid) refl (known_oid oid all)
  where
    by_case : (b : Bool) → (oid_of t == oid) ≡ b
        → oid_of (unwrap_or (find (λ t. oid_of t == oid) all) type.Unknown)
        ≡ (if is_some (find (λ t. oid_of t == oid) all) then oid else 705)
        → oid_of (unwrap_or (if b then Some t else find (λ t. oid_of t == oid) all) type.Unknown)
        ≡ (if is_some (if b then Some t else find (λ t. oid_of t == oid) all) then oid else 705)
    by_case true e later = grind (arith, e)
    by_case false e later = later

pub told_oids : (oids : List ℕ) → map oid_of (given_types (types_of oids)) ≡ map core_oid oids
told_oids [] = refl
told_oids (oid ∷ oids) = ap₂ (λ x xs. x ∷ xs) (known_oid oid types) (told_oids oids)
