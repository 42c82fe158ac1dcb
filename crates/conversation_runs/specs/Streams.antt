-- What goes in and out of a conversation: bytes that come, bytes that go, and counts.
use Rattle.std.specs.Prelude.{ℕ, List, [], ◌++◌, Option, Some, Result, Ok, Err, ◌≡◌, ◌≤◌, ◌<◌, ◌+◌, ◌==◌, ◌⊎◌, IfSome, IsErrOf, OnOk, if◌then◌else◌, min, take, drop, length}
use Rattle.pg_client.specs.Answer.{BeginsWith}
use Rattle.conversation_runs.specs.declared.ends.Progress.{Progress}
use Rattle.conversation_runs.specs.declared.ends.ServeError.{ServeError}
use Rattle.conversation_runs.specs.declared.ends.ServeError.TheVariants.{ReadFault, WriteFault, TurnLimit, NoMemory}
use Rattle.conversation_runs.specs.declared.streams.SinkError.{SinkError}
use Rattle.conversation_runs.specs.declared.streams.SinkError.TheVariants as sink

-- the greatest count, at which counts saturate
abbrev pub greatest_count : ℕ
greatest_count = 18446744073709551615

-- A count of faults has risen in a call. The greatest count can't rise, and is taken as risen.
abbrev pub HasRisen : ℕ → ℕ → Type 0
HasRisen old new = (old < new) ⊎ (old ≡ greatest_count)

-- the number of reads that gave at least one byte, after a read
abbrev pub reads_after : {E : Type 0} → Result ℕ E → ℕ → ℕ
reads_after (Ok n) reads = if n == 0 then reads else min (reads + 1) greatest_count
reads_after (Err e) reads = reads

-- the number of sends that were refused, after a send
abbrev pub refused_after : {E : Type 0} → Result (Unit {0}) E → ℕ → ℕ
refused_after (Ok done) refused = refused
refused_after (Err e) refused = min (refused + 1) greatest_count

-- the number of bytes of the sends that were answered with Ok, after a send of so many bytes
abbrev pub sent_after : {E : Type 0} → Result (Unit {0}) E → ℕ → ℕ → ℕ
sent_after (Ok done) n sent = min (sent + n) greatest_count
sent_after (Err e) n sent = sent

-- A read gave the first n bytes of those to come; none is given only where none is left.
pub record GivesFront (n : ℕ) (into bytes : List ℕ) (left : Option (List ℕ)) : Type 0 where
  pub within : n ≤ length bytes
  pub given : take n into ≡ take n bytes
  pub rest : left ≡ Some (drop n bytes)
  pub at_end : n ≡ 0 → bytes ≡ []

-- what was written, known or not, has grown by these bytes
abbrev pub GrowsBy : Option (List ℕ) → Option (List ℕ) → List ℕ → Type 0
GrowsBy old new bytes = IfSome old (λ before. new ≡ Some (before ++ bytes))

-- what was written has grown by a front of these bytes
abbrev pub GrowsByFront : Option (List ℕ) → Option (List ℕ) → List ℕ → Type 0
GrowsByFront old new bytes = IfSome old (λ before. (front : List ℕ) × BeginsWith bytes front × (new ≡ Some (before ++ front)))

-- a sink's error, as one of a session
abbrev pub told_of_sink : SinkError → ServeError
told_of_sink sink.Failed = WriteFault
told_of_sink sink.NoMemory = NoMemory

-- The cause of an error that comes from the sink's side: a write fault only where the sink's count has risen, and no
-- fault of another side. The count never falls, and without an error it stays.
pub record HasFlushed {T : Type 0} (old new : ℕ) (result : Result T ServeError) : Type 0 where
  pub write_fault : IsErrOf result WriteFault → HasRisen old new
  pub no_read_fault : ¬ IsErrOf result ReadFault
  pub no_turn_limit : ¬ IsErrOf result TurnLimit
  pub never_falls : old ≤ new
  pub calm : OnOk result (new ≡ old)

-- The cause of an error of a session: a write fault only where the sink's count has risen, and no read fault. The count never falls, and
-- without an error it stays.
pub record HasSinkCause {T : Type 0} (old new : ℕ) (result : Result T ServeError) : Type 0 where
  pub write_fault : IsErrOf result WriteFault → HasRisen old new
  pub no_read_fault : ¬ IsErrOf result ReadFault
  pub never_falls : old ≤ new
  pub calm : OnOk result (new ≡ old)

-- The cause of a result after a step: that of a flush, where the step had no error. Else the count stays.
abbrev pub HasSentCause : ℕ → ℕ → Result (Option Progress) ServeError → Option (Result Progress ServeError) → Type 0
HasSentCause old new (Ok step) (Some result) = HasFlushed old new result
HasSentCause old new step result = new ≡ old
