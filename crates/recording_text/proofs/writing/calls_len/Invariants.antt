use Rattle.std.proofs.Common.{◌≤◌, length, take}
use Rattle.std.specs.List.{flat_map}
use Rattle.recording_text.specs.Text.{call_text}
use Rattle.recording_text.proofs.writing.calls_len.Given as goal

abbrev pub invariant-loop-call : goal.invariant-loop-call
invariant-loop-call l = l.len ≤ length (flat_map call_text (take l.call-index l.calls))
