use Rattle.std.proofs.Common.{rules}
use Rattle.pg_cancel.proofs.Turning.{takes_in, compares}
use Rattle.pg_cancel.proofs.manager.ConnectionManager.take_in.Goals as goal

pub join_seat-requires : goal.join_seat-requires
join_seat-requires c =
    let h = c.handle.invariant in
    let n = c.note.invariant in (search rules, search rules, n.0.0, search rules, takes_in _ _ _ _ h.0.0.1 n.0.1 n.1)

pub load-requires : goal.load-requires
load-requires c = (search rules, search rules, compares _ _ _)

pub returns : goal.returns
returns c = record {
  same = search rules;
  mine = search rules;
  seen = search rules;
  told = search rules;
  legal = search rules;
  own = search rules;
}
