-- What the program tells of an outcome: a status, and a line on its error output where there is one.
use Rattle.std.specs.Prelude.{ℕ, List, codes}
use Rattle.status_lines.specs.StatusLines.{line, line_of_conversation, line_of_file, status_of_conversation, status_of_file}
use Rattle.pg_cursor.specs.declared.outcome.Outcome.{Outcome}
use Rattle.pg_cursor.specs.declared.outcome.Outcome.TheVariants.{Usage, File, Conversation}

-- the exit status of an outcome: 2 for words that are no `serve`, and else that of the file or of the conversation
abbrev pub status_of : Outcome → ℕ
status_of Usage = 2
status_of (File e) = status_of_file e
status_of (Conversation answer) = status_of_conversation answer

-- the line for words that are no `serve`
abbrev pub usage : List ℕ
usage = line (codes "usage: pg_cursor serve FILE PID KEY [TURNS]")

-- the line of an outcome, or none
abbrev pub line_of : Outcome → List ℕ
line_of Usage = usage
line_of (File e) = line_of_file e
line_of (Conversation answer) = line_of_conversation answer
