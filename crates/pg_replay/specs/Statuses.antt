-- What the program tells of an outcome: a status, and a line on its error output where there is one; and the line of a verdict.
use Rattle.std.specs.Prelude.{ℕ, List, [], ◌++◌, codes, decimal}
use Rattle.status_lines.specs.StatusLines.{line, line_of_file, status_of_file}
use Rattle.session_replay.specs.declared.verdict.Verdict.{Verdict}
use Rattle.session_replay.specs.declared.verdict.Verdict.TheVariants as verdict
use Rattle.pg_replay.specs.declared.outcome.Outcome.{Outcome}
use Rattle.pg_replay.specs.declared.outcome.Outcome.TheVariants.{Usage, File, Done, Differs, ReadFault, WriteFault, TurnLimit, NoMemory, TooLong, BadRecording}

-- the exit status of an outcome
abbrev pub status_of : Outcome → ℕ
status_of Usage = 2
status_of (File e) = status_of_file e
status_of Done = 0
status_of Differs = 20
status_of ReadFault = 4
status_of WriteFault = 5
status_of TurnLimit = 6
status_of NoMemory = 7
status_of TooLong = 21
status_of BadRecording = 22

-- the line for words that are no order
abbrev pub usage : List ℕ
usage = line (codes "usage: pg_replay record FILE PID KEY, verify FILE")

-- the line of an outcome, or none
abbrev pub line_of : Outcome → List ℕ
line_of Usage = usage
line_of (File e) = line_of_file e
line_of Done = []
line_of Differs = []
line_of ReadFault = line (codes "read fault")
line_of WriteFault = line (codes "write fault")
line_of TurnLimit = line (codes "turn limit")
line_of NoMemory = line (codes "out of memory")
line_of TooLong = line (codes "too long")
line_of BadRecording = line (codes "bad recording")

-- the line of a verdict
abbrev pub verdict_line : Verdict → List ℕ
verdict_line verdict.Same = line (codes "same")
verdict_line (verdict.Calls place) = line (codes "calls " ++ decimal place)
verdict_line (verdict.Replies place) = line (codes "replies " ++ decimal place)
verdict_line (verdict.End kind) = line (codes "end")

-- what a verdict comes to
abbrev pub verdict_outcome : Verdict → Outcome
verdict_outcome verdict.Same = Done
verdict_outcome other = Differs
