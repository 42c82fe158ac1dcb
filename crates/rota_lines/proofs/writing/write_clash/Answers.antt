-- A line more goes on.
use Rattle.std.proofs.Common.{string_bytes}
use Rattle.rota_lines.specs.Lines.{clash_line}
use Rattle.rota_lines.proofs.WritingLemmas.{goes_on_with}
use Rattle.rota_lines.proofs.writing.write_clash.Goals as goal

pub returns-in-Ok : goal.returns-in-Ok
returns-in-Ok g c = record {
  on = goes_on_with c.send_full.result (clash_line (c.args.first, c.args.second))
      (string_bytes c.args.text.now) (string_bytes c.put_clash.new.text) (string_bytes c.send_full.new.text)
      (g.K.Sink.written c.args.sink.now) (g.K.Sink.written c.send_full.new.sink) (g.K.Sink.faults c.args.sink.now)
      (g.K.Sink.faults c.send_full.new.sink)
      c.in-Ok.ensures c.send_full.ensures.on;
}
