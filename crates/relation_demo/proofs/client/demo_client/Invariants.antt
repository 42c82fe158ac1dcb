use Rattle.std.proofs.Common.{◌≡◌, ◌++◌, true}
use Rattle.std.specs.List.{flat_map, range_with_len}
use Rattle.pg_messages.specs.Frames.{frame_bytes, startup_body, protocol_3_0}
use Rattle.relation_demo.specs.Client as client
use Rattle.relation_demo.proofs.client.demo_client.Given as goal

abbrev pub invariant-loop-number : goal.invariant-loop-number
invariant-loop-number l = l.bytes.items ≡ frame_bytes true protocol_3_0 (startup_body client.startup)
    ++ flat_map client.asking (range_with_len 0 l.number)
