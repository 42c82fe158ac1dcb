-- What the program tells of a command: a status, and a line on its error output.
use Rattle.std.specs.Prelude.{ℕ, List, [], codes}
use Rattle.relation_server.specs.declared.outcome.Outcome.{Outcome}
use Rattle.relation_server.specs.declared.outcome.Outcome.TheVariants.{Done, Usage, File, PidTaken, Conversation, AcceptFault, SpawnFault}
use Rattle.status_lines.specs.StatusLines.{line, line_of_conversation, line_of_file, status_of_conversation, status_of_file}

-- ---- the status

-- of a command
abbrev pub status_of : Outcome → ℕ
status_of Done = 0
status_of Usage = 2
status_of (File e) = status_of_file e
status_of PidTaken = 8
status_of (Conversation answer) = status_of_conversation answer
status_of AcceptFault = 12
status_of SpawnFault = 13

-- ---- the line, where there is one

-- the line for words that are no command
abbrev pub usage : List ℕ
usage = line (codes
    "usage: relation_server serve FILE PID KEY [TURNS], demo SEED N, listen tcp PORT FILE [COUNT], listen unix PATH FILE [COUNT]")

abbrev pub line_of : Outcome → List ℕ
line_of Done = []
line_of Usage = usage
line_of (File e) = line_of_file e
line_of PidTaken = line (codes "pid is taken")
line_of (Conversation answer) = line_of_conversation answer
line_of AcceptFault = line (codes "accept fault")
line_of SpawnFault = line (codes "spawn fault")
