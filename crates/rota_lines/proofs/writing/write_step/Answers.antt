-- A line more goes on.
use Rattle.std.proofs.Common.{decimal, string_bytes}
use Rattle.pg_text.specs.Words.{printed_style}
use Rattle.rota_lines.specs.Lines.{line}
use Rattle.rota_lines.proofs.WritingLemmas.{goes_on_with}
use Rattle.rota_lines.proofs.writing.write_step.Goals as goal

pub returns-in-Ok-clause-on : goal.returns-in-Ok-clause-on
returns-in-Ok-clause-on g c =
    goes_on_with c.send_full.result (line (printed_style c.args.told.style) (decimal c.args.number) c.args.told.moment c.args.told.interval)
    (string_bytes c.args.text.now) (string_bytes c.put_step.new.text) (string_bytes c.send_full.new.text)
    (g.K.Sink.written c.args.sink.now) (g.K.Sink.written c.send_full.new.sink) (g.K.Sink.faults c.args.sink.now)
    (g.K.Sink.faults c.send_full.new.sink)
    c.in-Ok.ensures.line c.send_full.ensures.on
