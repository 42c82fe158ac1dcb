use Rattle.std.proofs.Common.{drop}
use Rattle.pg_messages.specs.Frames.{type_bytes}
use Rattle.pg_messages.proofs.AnyOf.{any_behind_decides}
use Rattle.pg_messages.proofs.headers.is_type.Goals as goal

pub returns : goal.returns
returns c = any_behind_decides 81 (drop 1 type_bytes) c.args.byte
