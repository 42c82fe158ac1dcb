use Rattle.std.proofs.Common.{◌≡◌, ◌-◌}
use Rattle.recording_text.specs.Judging.{items_at, call_at}
use Rattle.recording_text.proofs.Loops.{with_front}
use Rattle.recording_text.proofs.reading.items.Given as goal

abbrev pub invariant-loop : goal.invariant-loop
invariant-loop l = with_front l.items (items_at (call_at l.all) (l.count - l.counter) l.rest) ≡ items_at (call_at l.all) l.count l.bytes
