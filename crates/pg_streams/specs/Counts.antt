-- What is counted of the calls of a source or a sink.
use Rattle.std.specs.Prelude.{◌≡◌, ℕ, ◌+◌, ◌≤◌, Bool, true, false, if◌then◌else◌, min, Result, Ok, Err, IfOk, OnOk, OnErr, IsErrOf}
use Rattle.std.specs.Result.{is_err}
use Rattle.conversation_runs.specs.declared.streams.SourceFailed.{SourceFailed}
use Rattle.conversation_runs.specs.declared.streams.SinkError.{SinkError}
use Rattle.conversation_runs.specs.declared.streams.SinkError.TheVariants.{Failed, NoMemory}
use Rattle.conversation_runs.specs.Streams.{HasRisen, greatest_count, reads_after}

-- a count raised by one; it saturates at the greatest count
abbrev pub raised : ℕ → ℕ
raised n = min (n + 1) greatest_count

-- a count of faults after a call: raised where the call failed, and else the same
abbrev pub counted : Bool → ℕ → ℕ
counted failed n = if failed then raised n else n

-- whether the write failed; NoMemory is no fault of the sink
abbrev pub is_fault : Result (Unit {0}) SinkError → Bool
is_fault (Ok done) = false
is_fault (Err Failed) = true
is_fault (Err NoMemory) = false

-- each error was counted as a fault, and nothing else
pub record CountsFaults (result : Result (Unit {0}) SinkError) (old new : ℕ) : Type 0 where
  pub faults : new ≡ counted (is_err result) old
  pub failed : OnErr result (HasRisen old new)
  pub calm : OnOk result (new ≡ old)
  pub never_falls : old ≤ new

-- a write that failed was counted as a fault, and nothing else
pub record CountsWriteFaults (result : Result (Unit {0}) SinkError) (old new : ℕ) : Type 0 where
  pub faults : new ≡ counted (is_fault result) old
  pub failed : IsErrOf result Failed → HasRisen old new
  pub no_memory : IsErrOf result NoMemory → new ≡ old
  pub calm : OnOk result (new ≡ old)
  pub never_falls : old ≤ new

-- A read gave at most as many bytes as there was room for. It was counted as a read where it gave a byte, and as a fault where it failed.
pub record IsCountedRead (result : Result ℕ SourceFailed) (room old_reads new_reads old new : ℕ) : Type 0 where
  pub fits : IfOk result (λ n. n ≤ room)
  pub counts : new_reads ≡ reads_after result old_reads
  pub faults : new ≡ counted (is_err result) old
  pub failed : OnErr result (HasRisen old new)
  pub calm : OnOk result (new ≡ old)
  pub never_falls : old ≤ new
