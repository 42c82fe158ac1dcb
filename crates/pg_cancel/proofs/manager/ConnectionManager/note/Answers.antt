use Rattle.std.proofs.Common.{rules}
use Rattle.pg_cancel.proofs.Turning.{copies}
use Rattle.pg_cancel.proofs.manager.ConnectionManager.note.Goals as goal

pub split_seat-seat-requires : goal.split_seat-seat-requires
split_seat-seat-requires c = (search rules, search rules, copies _ _)
