-- What comes of a rota's report and of the clashes of two rotas, once their columns were looked for.
use Rattle.std.specs.Prelude.{ℕ, ◌≡◌, ◌⊎◌, List, Option, Some, None, Result, Ok, Err}
use Rattle.pg_interval.specs.declared.pg_interval.Interval.{Interval}
use Rattle.pg_interval.specs.Reading.{Style}
use Rattle.conversation_runs.specs.Streams.{GrowsBy, GrowsByFront, HasRisen}
use Rattle.conversation_runs.specs.declared.streams.SinkError.{SinkError}
use Rattle.conversation_runs.specs.declared.streams.SinkError.TheVariants as sink
use Rattle.rota_moments.specs.declared.moment.Moment.{Moment}
use Rattle.rota_moments.specs.declared.rotas.RotaError.{RotaError}
use Rattle.rota_moments.specs.declared.rotas.RotaError.TheVariants as rota
use Rattle.rota_moments.specs.Rotas.{Refusal, moments_of, IsTotal}
use Rattle.rota_clashes.specs.Clashes.{AreClashes}
use Rattle.rota_lines.specs.Lines.{clash_text}
use Rattle.rota_lines.specs.Report.{IsReport}
use Rattle.rota_lines.specs.declared.reports.ReportError.{ReportError}
use Rattle.rota_lines.specs.declared.reports.ReportError.TheVariants as report
use Rattle.rota_report.specs.declared.failure.Failure.{Failure}
use Rattle.rota_report.specs.declared.failure.Failure.TheVariants.{NoColumn, OutOfRange, TotalOverflow, WriteFault, NoMemory}

-- ---- why an order fails

abbrev pub failure_of_rota : RotaError → Failure
failure_of_rota (rota.OutOfRange place reason) = OutOfRange
failure_of_rota rota.NoMemory = NoMemory

abbrev pub failure_of_report : ReportError → Failure
failure_of_report (report.Rota e) = failure_of_rota e
failure_of_report (report.TotalOverflow place) = TotalOverflow
failure_of_report report.WriteFault = WriteFault
failure_of_report report.NoMemory = NoMemory

abbrev pub failure_of_sink : SinkError → Failure
failure_of_sink sink.Failed = WriteFault
failure_of_sink sink.NoMemory = NoMemory

-- ---- what was written

-- nothing was written, and no write failed
abbrev pub IsUntouched : Option (List ℕ) → Option (List ℕ) → ℕ → ℕ → Type 0
IsUntouched old new faults new_faults = (new ≡ old) × (new_faults ≡ faults)

-- all of such a text was written, and no write failed
abbrev pub IsWritten : (List ℕ → Type 0) → Option (List ℕ) → Option (List ℕ) → ℕ → ℕ → Type 0
IsWritten IsText old new faults new_faults = ((text : List ℕ) × IsText text × GrowsBy old new text) × (new_faults ≡ faults)

-- a front of such a text was written, and then a write failed
abbrev pub IsCut : (List ℕ → Type 0) → Option (List ℕ) → Option (List ℕ) → ℕ → ℕ → Type 0
IsCut IsText old new faults new_faults = ((text : List ℕ) × IsText text × GrowsByFront old new text) × HasRisen faults new_faults

-- Memory ran out: nothing was written, or a front of such a text, and no write failed.
abbrev pub IsStarved : (List ℕ → Type 0) → Option (List ℕ) → Option (List ℕ) → ℕ → ℕ → Type 0
IsStarved IsText old new faults new_faults =
    ((new ≡ old) ⊎ ((text : List ℕ) × IsText text × GrowsByFront old new text)) × (new_faults ≡ faults)

-- ---- a rota's report

-- a step of the rota is refused
abbrev pub IsOutOfRange : Moment → List Interval → Type 0
IsOutOfRange start steps = (refusal : Refusal) × (moments_of steps start ≡ Err refusal)

-- no step of the rota is refused, but the total of the steps is no interval
abbrev pub IsTooMuch : Moment → List Interval → Type 0
IsTooMuch start steps = ((moments : List Moment) × (moments_of steps start ≡ Ok moments)) × ((place : ℕ) × IsTotal steps (Err place))

-- What comes of the report of a rota: there is no such column; or the report was written, all of it, or a front where a write failed or
-- memory ran out; or nothing was written, since a step of the rota is refused, or else the total.
abbrev pub HasListed : Moment → Style → Option (List Interval) → Result (Unit {0}) Failure → Option (List ℕ) → Option (List ℕ) → ℕ → ℕ
    → Type 0
HasListed start style None (Err NoColumn) old new faults new_faults = IsUntouched old new faults new_faults
HasListed start style None (Err NoMemory) old new faults new_faults = IsUntouched old new faults new_faults
HasListed start style None result old new faults new_faults = ⊥
HasListed start style (Some steps) (Ok done) old new faults new_faults = IsWritten (IsReport start steps style) old new faults new_faults
HasListed start style (Some steps) (Err OutOfRange) old new faults new_faults =
    IsOutOfRange start steps × IsUntouched old new faults new_faults
HasListed start style (Some steps) (Err TotalOverflow) old new faults new_faults =
    IsTooMuch start steps × IsUntouched old new faults new_faults
HasListed start style (Some steps) (Err WriteFault) old new faults new_faults = IsCut (IsReport start steps style) old new faults new_faults
HasListed start style (Some steps) (Err NoMemory) old new faults new_faults =
    IsStarved (IsReport start steps style) old new faults new_faults
HasListed start style (Some steps) (Err failure) old new faults new_faults = ⊥

-- ---- the clashes of two rotas

-- the text of all clashes of two rotas
abbrev pub IsClashText : Moment → List Interval → Moment → List Interval → List ℕ → Type 0
IsClashText start steps other others text = (first : List Moment) × ((second : List Moment) × ((pairs : List (ℕ × ℕ))
    × (moments_of steps start ≡ Ok first) × (moments_of others other ≡ Ok second) × AreClashes first second pairs
    × (text ≡ clash_text pairs)))

-- What comes of the clashes of two rotas: one of them has no such column; or the lines were written, all of them, or a front where a write
-- failed or memory ran out; or nothing was written, since a step of one rota is refused.
abbrev pub HasCompared : Moment → Moment → Option (List Interval) → Option (List Interval) → Result (Unit {0}) Failure
    → Option (List ℕ) → Option (List ℕ) → ℕ → ℕ → Type 0
HasCompared start other (Some steps) (Some others) (Ok done) old new faults new_faults =
    IsWritten (IsClashText start steps other others) old new faults new_faults
HasCompared start other (Some steps) (Some others) (Err OutOfRange) old new faults new_faults =
    (IsOutOfRange start steps ⊎ IsOutOfRange other others) × IsUntouched old new faults new_faults
HasCompared start other (Some steps) (Some others) (Err WriteFault) old new faults new_faults =
    IsCut (IsClashText start steps other others) old new faults new_faults
HasCompared start other (Some steps) (Some others) (Err NoMemory) old new faults new_faults =
    IsStarved (IsClashText start steps other others) old new faults new_faults
HasCompared start other (Some steps) (Some others) (Err failure) old new faults new_faults = ⊥
HasCompared start other steps others (Err NoColumn) old new faults new_faults = IsUntouched old new faults new_faults
HasCompared start other steps others (Err NoMemory) old new faults new_faults = IsUntouched old new faults new_faults
HasCompared start other steps others result old new faults new_faults = ⊥
