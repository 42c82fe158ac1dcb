-- Faults of a sink.
use Rattle.std.proofs.Common.{◌≤◌, ℕ, arith}
use Rattle.conversation_runs.specs.declared.streams.SinkError.{SinkError}
use Rattle.conversation_runs.specs.declared.streams.SinkError.TheVariants.{Failed, NoMemory}
use Rattle.rota_lines.specs.Writing.{IsSinkCause}

-- the count of a sink's faults doesn't fall at an error
pub never_falls_at : (error : SinkError) (faults new_faults : ℕ) → IsSinkCause error faults new_faults → faults ≤ new_faults
never_falls_at Failed faults new_faults cause = cause.1
never_falls_at NoMemory faults new_faults cause = omega arith
