use Rattle.std.proofs.Common.{◌≡◌, ◌++◌, take}
use Rattle.std.specs.List.{flat_map}
use Rattle.recording_text.specs.Text.{call_text}
use Rattle.recording_text.proofs.writing.put_items.Given as goal

abbrev pub invariant-loop-call : goal.invariant-loop-call
invariant-loop-call l = l.out.items ≡ l.initial.out.items ++ flat_map call_text (take l.call-index l.calls)
