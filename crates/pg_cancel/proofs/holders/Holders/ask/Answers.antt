use Rattle.std.proofs.Common.{Some, None, subst, sym}
use Rattle.std.specs.Ordering.{int_cmp}
use Rattle.std.specs.BTreeMap.{get}
use Rattle.pg_cancel.specs.Index.{Notes}
use Rattle.pg_cancel.specs.declared.entries.RegistryCall.TheVariants.{Ask}
use Rattle.pg_cancel.proofs.Noting.{notes_asked, none_held, read_at}
use Rattle.pg_cancel.proofs.holders.Holders.ask.Goals as goal

pub unreachable-requires : goal.unreachable-requires
unreachable-requires c =
    let m = c.args.self.now.by_pid in
    let at = read_at m c.args.pid None c.ranges.pid c.in_default.ensures.value in
    none_held (get int_cmp m c.args.pid) at c.requires

pub returns : goal.returns
returns c =
    let m = c.args.self.now.by_pid in
    let holder = c.in-Some.holder.now in
    let at = read_at m c.args.pid (Some holder) c.ranges.pid c.in-Some.ensures.value in
    λ place h number legal index _ live. subst (λ answer. Notes h number Ask (record { by_pid = m }) answer) (sym c.answer.ensures)
    (notes_asked h m number c.args.pid holder legal index live at)
