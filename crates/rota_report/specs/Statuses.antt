-- What the program tells of an order: a status, and a line on its error output where there is one.
use Rattle.std.specs.Prelude.{ℕ, List, [], Result, Ok, Err, codes}
use Rattle.status_lines.specs.StatusLines.{status_of_file, line_of_file, line}
use Rattle.rota_report.specs.declared.failure.Failure.{Failure}
use Rattle.rota_report.specs.declared.failure.Failure.TheVariants.{Usage, File, NoColumn, OutOfRange, TotalOverflow, WriteFault, NoMemory}

-- the status of an order's answer
abbrev pub status_of : Result (Unit {0}) Failure → ℕ
status_of (Ok done) = 0
status_of (Err Usage) = 2
status_of (Err (File e)) = status_of_file e
status_of (Err NoColumn) = 20
status_of (Err OutOfRange) = 21
status_of (Err TotalOverflow) = 22
status_of (Err WriteFault) = 5
status_of (Err NoMemory) = 7

-- the line for words that are no order
abbrev pub usage : List ℕ
usage = line (codes "usage: rota_report lines FILE RELATION COLUMN START STYLE, clashes FILE RELATION COLUMN START RELATION COLUMN START")

-- the line of an order's answer, which is empty where all is well
abbrev pub line_of : Result (Unit {0}) Failure → List ℕ
line_of (Ok done) = []
line_of (Err Usage) = usage
line_of (Err (File e)) = line_of_file e
line_of (Err NoColumn) = line (codes "no such column")
line_of (Err OutOfRange) = line (codes "out of range")
line_of (Err TotalOverflow) = line (codes "total overflow")
line_of (Err WriteFault) = line (codes "write fault")
line_of (Err NoMemory) = line (codes "out of memory")
