-- What a report of a rota writes, or why it writes none.
use Rattle.std.specs.Prelude.{ℕ, ◌≡◌, ◌⊎◌, List, Option, Result, Ok, Err}
use Rattle.pg_interval.specs.declared.pg_interval.Interval.{Interval}
use Rattle.pg_interval.specs.Reading.{Style}
use Rattle.conversation_runs.specs.Streams.{GrowsBy, GrowsByFront, HasRisen}
use Rattle.rota_moments.specs.declared.moment.Moment.{Moment}
use Rattle.rota_moments.specs.declared.rotas.RotaError.TheVariants as rota
use Rattle.rota_moments.specs.Rotas.{moments_of, IsTotal}
use Rattle.rota_lines.specs.Lines.{rota_text}
use Rattle.rota_lines.specs.declared.reports.ReportError.{ReportError}
use Rattle.rota_lines.specs.declared.reports.ReportError.TheVariants.{Rota, TotalOverflow, WriteFault, NoMemory}

-- A text tells the rota of these steps from this start, and their total.
abbrev pub IsReport : Moment → List Interval → Style → List ℕ → Type 0
IsReport start steps style text = (moments : List Moment) × ((total : Interval) × (moments_of steps start ≡ Ok moments)
    × IsTotal steps (Ok total) × (text ≡ rota_text style steps moments total))

-- What came of a report: all of its text was written. Or nothing was, for a step that is refused, or else for the total. Or a front of the
-- text was, where the count of faults has risen, or where memory ran out.
abbrev pub HasReported : Moment → List Interval → Style → Result (Unit {0}) ReportError → Option (List ℕ) → Option (List ℕ) → ℕ → ℕ → Type 0
HasReported start steps style (Ok done) old new faults new_faults =
    ((text : List ℕ) × IsReport start steps style text × GrowsBy old new text) × (new_faults ≡ faults)
HasReported start steps style (Err (Rota (rota.OutOfRange place reason))) old new faults new_faults =
    (moments_of steps start ≡ Err (record { place = place; reason = reason })) × (new ≡ old) × (new_faults ≡ faults)
HasReported start steps style (Err (Rota rota.NoMemory)) old new faults new_faults = ⊥
HasReported start steps style (Err (TotalOverflow place)) old new faults new_faults =
    ((moments : List Moment) × (moments_of steps start ≡ Ok moments)) × IsTotal steps (Err place) × (new ≡ old) × (new_faults ≡ faults)
HasReported start steps style (Err WriteFault) old new faults new_faults =
    ((text : List ℕ) × IsReport start steps style text × GrowsByFront old new text) × HasRisen faults new_faults
HasReported start steps style (Err NoMemory) old new faults new_faults =
    ((new ≡ old) ⊎ ((text : List ℕ) × IsReport start steps style text × GrowsByFront old new text)) × (new_faults ≡ faults)
