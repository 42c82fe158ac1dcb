-- How it is told that a recording isn't kept.
use Rattle.std.specs.Prelude.{ℕ, List, codes}
use Rattle.session_recording.specs.declared.error.RecordError.{RecordError}
use Rattle.session_recording.specs.declared.error.RecordError.TheVariants as refusal
use Rattle.recorded_clients.specs.declared.unkept.Unkept.{Unkept}
use Rattle.recorded_clients.specs.declared.unkept.Unkept.TheVariants as unkept

-- why there was no recording is why none is kept
abbrev pub unkept_of : RecordError → Unkept
unkept_of (refusal.TooLong count) = unkept.TooLong count
unkept_of refusal.Unended = unkept.Unended
unkept_of refusal.NoMemory = unkept.NoMemory

-- the exit status
abbrev pub status_of : Unkept → ℕ
status_of (unkept.TooLong count) = 21
status_of unkept.Unended = 0
status_of unkept.NoMemory = 7
status_of unkept.WriteFault = 5

-- the reason in words
abbrev pub text_of : Unkept → List ℕ
text_of (unkept.TooLong count) = codes "too long"
text_of unkept.Unended = codes "given up"
text_of unkept.NoMemory = codes "out of memory"
text_of unkept.WriteFault = codes "write fault"
