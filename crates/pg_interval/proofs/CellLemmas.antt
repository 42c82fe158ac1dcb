-- The bytes of an interval's cell decide the interval.
use Rattle.std.proofs.Common.{◌≡◌, ℕ, ℤ, List, [], ◌∷◌, ◌++◌, get_or, ◌∙◌, sym, ap, refl, length, take, drop, slice_range, FitsSigned}
use Rattle.std.specs.Int.{w32, w64, cast_unsigned, cast_signed, from_be_bytes}
use Rattle.std.proofs.lemmas.Nat.{from_be_bytes-to_be_bytes_4, from_be_bytes-to_be_bytes_8}
use Rattle.std.proofs.Math.Facts.{Fits-of_z, to_z-of_z}
use Rattle.std.proofs.Math.Seq.{take-add}
use Rattle.pg_interval.specs.declared.pg_interval.Interval.{Interval}
use Rattle.pg_interval.specs.Cell.{int64_bytes, int32_bytes, interval_cell, IsInterval}

-- the number that eight bytes stand for
int64_of : List ℕ → ℤ
int64_of bytes = cast_signed w64 (from_be_bytes w64 bytes)

int32_of : List ℕ → ℤ
int32_of bytes = cast_signed w32 (from_be_bytes w32 bytes)

int64_of-int64_bytes : (z : ℤ) → FitsSigned w64 z → int64_of (int64_bytes z) ≡ z
unfolding int64_of
int64_of-int64_bytes z fits =
    ap (cast_signed w64) (from_be_bytes-to_be_bytes_8 (cast_unsigned w64 z) (Fits-of_z fits).fits) ∙ to_z-of_z fits

int32_of-int32_bytes : (z : ℤ) → FitsSigned w32 z → int32_of (int32_bytes z) ≡ z
unfolding int32_of
int32_of-int32_bytes z fits =
    ap (cast_signed w32) (from_be_bytes-to_be_bytes_4 (cast_unsigned w32 z) (Fits-of_z fits).fits) ∙ to_z-of_z fits

-- a cell has sixteen bytes
pub length-interval_cell : (i : Interval) → length (interval_cell i) ≡ 16
unfolding interval_cell
length-interval_cell i = refl

-- the first sixteen elements in the three parts of a cell
pub take_in_parts : (bytes : List ℕ) → take 16 bytes ≡ slice_range bytes 0 8 ++ slice_range bytes 8 12 ++ slice_range bytes 12 16
take_in_parts bytes = take-add 12 4 bytes ∙ ap (λ front. front ++ take 4 (drop 12 bytes)) (take-add 8 4 bytes)

-- eight, four and four bytes, one by one, of the numbers as code holds them
pub interval_cell-from_bytes : (i : Interval) (microseconds days months : List ℕ) → IsInterval i
    → microseconds ≡ int64_bytes (cast_signed w64 (cast_unsigned w64 i.microseconds))
    → days ≡ int32_bytes (cast_signed w32 (cast_unsigned w32 i.days)) → months ≡ int32_bytes (cast_signed w32 (cast_unsigned w32 i.months))
    → (get_or microseconds 0 0 ∷ get_or microseconds 1 0 ∷ get_or microseconds 2 0 ∷ get_or microseconds 3 0 ∷ get_or microseconds 4 0
    ∷ get_or microseconds 5 0 ∷ get_or microseconds 6 0 ∷ get_or microseconds 7 0 ∷ get_or days 0 0 ∷ get_or days 1 0 ∷ get_or days 2 0
    ∷ get_or days 3 0 ∷ get_or months 0 0 ∷ get_or months 1 0 ∷ get_or months 2 0 ∷ get_or months 3 0 ∷ []) ≡ interval_cell i
unfolding interval_cell
interval_cell-from_bytes i microseconds days months fits of_microseconds of_days of_months =
    let e : microseconds ≡ int64_bytes i.microseconds = of_microseconds ∙ ap int64_bytes (to_z-of_z fits.microseconds) in
    let f : days ≡ int32_bytes i.days = of_days ∙ ap int32_bytes (to_z-of_z fits.days) in
    let g : months ≡ int32_bytes i.months = of_months ∙ ap int32_bytes (to_z-of_z fits.months) in
    rw (e, f, g) refl

-- three equal numbers make equal intervals
pub same_interval : (i j : Interval) → i.months ≡ j.months → i.days ≡ j.days → i.microseconds ≡ j.microseconds → i ≡ j
same_interval i j months days microseconds =
    let with_months : ℤ → Interval = λ m. record { months = m; days = i.days; microseconds = i.microseconds } in
    let with_days : ℤ → Interval = λ d. record { months = j.months; days = d; microseconds = i.microseconds } in
    let with_microseconds : ℤ → Interval = λ u. record { months = j.months; days = j.days; microseconds = u } in
    ap with_months months ∙ ap with_days days ∙ ap with_microseconds microseconds

-- two intervals with one cell are one
pub interval_cell-injective : (i j : Interval) → IsInterval i → IsInterval j → interval_cell i ≡ interval_cell j → i ≡ j
unfolding interval_cell
interval_cell-injective i j fits_i fits_j same =
    let microseconds : int64_bytes i.microseconds ≡ int64_bytes j.microseconds = ap (λ cell. take 8 cell) same in
    let days : int32_bytes i.days ≡ int32_bytes j.days = ap (λ cell. take 4 (drop 8 cell)) same in
    let months : int32_bytes i.months ≡ int32_bytes j.months = ap (λ cell. drop 12 cell) same in
    let same_microseconds : i.microseconds ≡ j.microseconds =
    sym (int64_of-int64_bytes _ fits_i.microseconds) ∙ ap int64_of microseconds ∙ int64_of-int64_bytes _ fits_j.microseconds in
    let same_days : i.days ≡ j.days = sym (int32_of-int32_bytes _ fits_i.days) ∙ ap int32_of days ∙ int32_of-int32_bytes _ fits_j.days in
    let same_months : i.months ≡ j.months = sym (int32_of-int32_bytes _ fits_i.months) ∙ ap int32_of months
    ∙ int32_of-int32_bytes _ fits_j.months in
    same_interval i j same_months same_days same_microseconds
