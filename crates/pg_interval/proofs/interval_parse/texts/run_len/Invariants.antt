use Rattle.std.proofs.Common.{◌≡◌, ◌+◌, drop}
use Rattle.std.specs.List.{prefix_len}
use Rattle.pg_interval.specs.Reader.{is_kind}
use Rattle.pg_interval.proofs.interval_parse.texts.run_len.Given as goal

abbrev pub invariant-loop-place : goal.invariant-loop-place
invariant-loop-place l = prefix_len (is_kind l.kind) l.text ≡ l.place + prefix_len (is_kind l.kind) (drop l.place l.text)
