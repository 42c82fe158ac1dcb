use Rattle.std.proofs.Common.{◌≡◌, ℕ, List, ◌++◌, All, drop, take, string_bytes}
use Rattle.pg_text.specs.Words.{printed_style}
use Rattle.rota_lines.specs.Lines.{rota_text, lines_from, Stands}
use Rattle.rota_lines.specs.Writing.{IsOnItsWay}
use Rattle.rota_lines.proofs.writing.write_rota.Given as goal

-- the lines so far are on their way, no fault was counted, and their intervals' texts stand for them
abbrev pub invariant-loop-place : goal.invariant-loop-place
invariant-loop-place g l =
    (lines : List ℕ)
    × (rota_text (printed_style l.style) l.steps l.moments l.total
    ≡ lines ++ lines_from (printed_style l.style) l.total l.place (drop l.place l.steps) (drop l.place l.moments))
    × IsOnItsWay (g.K.Sink.written l.fn.sink) (g.K.Sink.written l.sink) lines (string_bytes l.text)
    × (g.K.Sink.faults l.sink ≡ g.K.Sink.faults l.fn.sink)
    × All (Stands (printed_style l.style)) (take l.place l.steps)
