-- The interval in a cell.
use Rattle.std.proofs.Common.{◌≡◌, ℕ, ℤ, ◌<◌, ◌≤◌, true, false, cond, List, length, take, slice_range, nat_lt, Ok, Err, sym, ap, ◌∙◌, arith, FitsSigned}
use Rattle.std.specs.Int.{w32, w64, cast_unsigned, cast_signed}
use Rattle.std.proofs.lemmas.Nat.{from_be_bytes-to_be_bytes_4, from_be_bytes-to_be_bytes_8}
use Rattle.bytes.proofs.Ranges.{slice_range_front}
use Rattle.std.proofs.lemmas.Bool.Decides.{nat_tests}
use Rattle.std.proofs.Math.Facts.{Fits-of_z, to_z-of_z}
use Rattle.pg_interval.specs.declared.pg_interval.Interval.{Interval}
use Rattle.pg_interval.specs.Cell.{int64_bytes, int32_bytes, interval_cell, IsInterval}
use Rattle.pg_interval.proofs.CellLemmas.{same_interval}
use Rattle.pg_types.specs.declared.error.CellError.TheVariants.{ShortCell}
use Rattle.pg_text.specs.Intervals.{int64_of, int32_of, interval_in, read_interval}

of_int64 : (z : ℤ) → FitsSigned w64 z → int64_of (int64_bytes z) ≡ z
of_int64 z fits =
    ap (cast_signed w64) (from_be_bytes-to_be_bytes_8 (cast_unsigned w64 z) (Fits-of_z fits).fits) ∙ to_z-of_z fits

of_int32 : (z : ℤ) → FitsSigned w32 z → int32_of (int32_bytes z) ≡ z
of_int32 z fits =
    ap (cast_signed w32) (from_be_bytes-to_be_bytes_4 (cast_unsigned w32 z) (Fits-of_z fits).fits) ∙ to_z-of_z fits

-- the fields of the interval whose cell the bytes begin with
cell_fields : (raw : List ℕ) (i : Interval) → IsInterval i → take 16 raw ≡ interval_cell i → interval_in raw ≡ i
unfolding interval_cell interval_in
cell_fields raw i fits e =
    let at : (s t : ℕ) → t ≤ 16 → slice_range raw s t ≡ slice_range (interval_cell i) s t =
    λ s t h. sym (slice_range_front (interval_cell i) raw s t 16 e h) in
    let months : int32_of (slice_range raw 12 16) ≡ i.months = ap int32_of (at 12 16 (omega arith)) ∙ of_int32 i.months fits.months in
    let days : int32_of (slice_range raw 8 12) ≡ i.days = ap int32_of (at 8 12 (omega arith)) ∙ of_int32 i.days fits.days in
    let microseconds : int64_of (slice_range raw 0 8) ≡ i.microseconds =
    ap int64_of (at 0 8 (omega arith)) ∙ of_int64 i.microseconds fits.microseconds in
    same_interval (interval_in raw) i months days microseconds

pub read_none : (raw : List ℕ) → length raw < 16 → Err ShortCell ≡ read_interval raw
read_none raw h =
    let e : nat_lt (length raw) 16 ≡ true = grind (arith, nat_tests) in
    sym (ap (λ b. cond b (Err ShortCell) (Ok (interval_in raw))) e)

pub read_some : (raw : List ℕ) (i : Interval) → ¬ (length raw < 16) → IsInterval i → take 16 raw ≡ interval_cell i
    → Ok i ≡ read_interval raw
read_some raw i h fits e =
    let long : nat_lt (length raw) 16 ≡ false = grind (arith, nat_tests) in
    sym (ap (λ b. cond b (Err ShortCell) (Ok (interval_in raw))) long ∙ ap Ok (cell_fields raw i fits e))
