use Rattle.std.proofs.Common.{◌≡◌, Some, None, subst}
use Rattle.pg_cancel.specs.declared.holders.Query.TheVariants.{Unstarted}
use Rattle.pg_cancel.proofs.Noting.{Changes, notes_taken, notes_registered, read_at, changed_at}
use Rattle.pg_cancel.proofs.holders.Holders.register.Goals as goal

pub returns-in-Some-clause-ok : goal.returns-in-Some-clause-ok
returns-in-Some-clause-ok c =
    let m = c.args.self.now.by_pid in
    let holder = c.in-Some.holder.now in
    let at = read_at m c.args.pid (Some holder) c.ranges.pid c.in-Some.ensures.value in
    λ h number legal index place is. notes_taken h m c.args.pid holder index at number c.args.key.now

pub returns-clause-ok : goal.returns-clause-ok
returns-clause-ok c =
    let m = c.args.self.now.by_pid in
    let n = c.insert.new.self in
    let pid = c.args.pid in
    let key = c.args.key.now in
    let copied : c.in_ok-key.key ≡ key = c.in_ok-key.ensures in
    let at = read_at m pid None c.ranges.pid c.in_default.ensures.value in
    let changes = changed_at m n pid _ c.ranges.pid c.in_ok-insert.ensures.updates.0 in
    λ h number legal index place is. notes_registered h m n pid key legal index at
    (subst (λ k. Changes m n pid (Some (record { number = k; key = key; query = Unstarted }))) place
    (subst (λ k. Changes m n pid (Some (record { number = c.args.place; key = k; query = Unstarted }))) copied changes)) number
