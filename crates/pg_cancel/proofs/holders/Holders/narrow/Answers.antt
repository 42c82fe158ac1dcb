use Rattle.std.proofs.Common.{◌≡◌, Some, take, ap, subst}
use Rattle.std.specs.Ordering.{int_cmp}
use Rattle.std.specs.BTreeMap.{get}
use Rattle.pg_cancel.specs.declared.holders.Holder.{Holder}
use Rattle.pg_cancel.proofs.Noting.{Changes, notes_narrowed, none_held, read_at, written_at}
use Rattle.pg_cancel.proofs.holders.Holders.narrow.Goals as goal

pub returns : goal.returns
returns c =
    let m = c.args.self.now.by_pid in
    let pid = c.args.pid in
    let holder = c.in-Some.holder.now in
    let w : Holder = record { number = holder.number; key = c.narrow.new.self; query = holder.query } in
    let n = c.get_mut.follows.lender w in
    let at = read_at m pid (Some holder) c.ranges.pid c.in-Some.ensures.value in
    let changes = written_at m n pid w holder c.ranges.pid at (c.get_mut.follows.holds w) in
    let short : w ≡ record { number = holder.number; key = take 4 holder.key; query = holder.query } =
    ap (λ k. record { number = holder.number; key = k; query = holder.query }) c.narrow.ensures in
    λ place h number legal index _ live. notes_narrowed h m n number pid holder legal index live at
    (subst (λ (x : Holder). Changes m n pid (Some x)) short changes)

pub unreachable-requires : goal.unreachable-requires
unreachable-requires c =
    let m = c.args.self.now.by_pid in
    let at = read_at m c.args.pid _ c.ranges.pid c.in_default.ensures.value in
    none_held (get int_cmp m c.args.pid) at c.requires
