use Rattle.std.proofs.Common.{◌≡◌, take, string_bytes}
use Rattle.rota_lines.specs.Lines.{clash_text}
use Rattle.rota_lines.specs.Writing.{IsOnItsWay}
use Rattle.rota_lines.proofs.writing.write_clashes.Given as goal

-- the lines so far are on their way, and no fault was counted
abbrev pub invariant-loop-pair : goal.invariant-loop-pair
invariant-loop-pair g l =
    IsOnItsWay (g.K.Sink.written l.fn.sink) (g.K.Sink.written l.sink) (clash_text (take l.pair-index l.pairs)) (string_bytes l.text)
    × (g.K.Sink.faults l.sink ≡ g.K.Sink.faults l.fn.sink)
