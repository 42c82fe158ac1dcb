use Rattle.pg_messages.proofs.RowBytes.{row_sent}
use Rattle.pg_messages.proofs.codec.put_row.Goals as goal

pub returns-clause-ok : goal.returns-clause-ok
returns-clause-ok c =
    row_sent c.args.row.now c.args.dst.now.items c.reserve.new.self.items c.extend_reserved.new.self.items
    c.extend_reserved-2.new.self.items c.row_head-head.result c.as_slice-cells.result.now
    c.in_ok-reserve.ensures.items c.row_head-head.ensures c.extend_reserved.ensures.items c.extend_reserved-2.ensures.items
    c.as_slice-cells.ensures
