use Rattle.std.proofs.Common.{None}
use Rattle.pg_cancel.proofs.Noting.{notes_unregistered, changed_at}
use Rattle.pg_cancel.proofs.holders.Holders.unregister.Goals as goal

pub returns : goal.returns
returns c =
    let m = c.args.self.now.by_pid in
    let n = c.remove.new.self in
    let pid = c.args.pid in
    let changes = changed_at m n pid None c.ranges.pid c.remove.ensures.updates.0 in
    λ place h number legal index _ live. notes_unregistered h m n number pid legal index live changes
