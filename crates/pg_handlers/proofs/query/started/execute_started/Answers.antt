use Rattle.std.proofs.Common.{rules, ◌≡◌, false, w32, IfSome, Some, None, ap, sym, subst, ◌∙◌}
use Rattle.std.specs.FinMap as fin
use Rattle.std.proofs.lemmas.Int.{to_z-of_z}
use Rattle.pg_portal.specs.Told.{portal_of, value_under}
use Rattle.named_entries.proofs.NameMaps.{at_some}
use Rattle.conversation_table.specs.Executing.{is_unstarted}
use Rattle.conversation_table.specs.Good.{HasGoodTag}
use Rattle.pg_client.specs.State.{state_in, state_of}
use Rattle.conversation_table.proofs.Executed.{nothing_lent, page_executed, returned}
use Rattle.conversation_table.proofs.Lends.{lent}
use Rattle.pg_handlers.proofs.query.started.execute_started.Goals as goal

pub returns-in_default : goal.returns-in_default
returns-in_default g c = λ h desk turns good.
    let maps = g.St.PortalStore.maps in let s = state_of maps c.args.client.now in let m = c.args.message in
    let none : value_under (fin.get s.portals m.name) ≡ None = search rules in
    let e = c.execute_no_portal.ensures in
    let x = returned c.session_outcome.ensures (nothing_lent h m s (state_of maps c.execute_no_portal.new.client) c.args.client.now.outbox
    c.execute_no_portal.new.client.outbox desk turns _ (ap (state_in s.info) c.portal_mut.follows.holds-at-none)
    c.execute_no_portal.result good none e.same e.ok e.refused e.answerable e.waiting) in
    (x.ok, x.refused, x.answerable, x.caused, x.limit, x.info, x.left, x.kept, x.good, x.spent)

pub send_page-requires : goal.send_page-requires
send_page-requires g c =
    let s = state_of g.St.PortalStore.maps c.args.client.now in let p = portal_of g.St.Rows.RowSource.items c.in-Some.portal.now in
    let found : value_under (fin.get s.portals c.args.message.name) ≡ Some p =
    ap (λ n. value_under (fin.get s.portals n)) (sym c.as_str.ensures) ∙ sym c.in-Some.ensures.value in
    let started : (is_unstarted p.stage ≡ false) × HasGoodTag p.stage =
    subst (λ o. IfSome o (λ p. (is_unstarted p.stage ≡ false) × HasGoodTag p.stage)) found c.requires.started in
    record { started = started.0; tag = started.1 }

pub returns : goal.returns
returns g c = λ h desk turns good.
    let R = g.St.Rows.RowSource.items in let maps = g.St.PortalStore.maps in
    let s = state_of maps c.args.client.now in let m = c.args.message in
    let p = portal_of R c.in-Some.portal.now in let w = portal_of R c.send_page.new.portal in
    let l = lent s.info (maps c.args.client.now.store) (maps (c.portal_mut.follows.lender c.send_page.new.portal)) m.name
    c.as_str.result.now p w c.as_str.ensures c.in-Some.ensures.value
    (at_some c.portal_mut.result c.in-Some.portal c.in-Some.is (c.portal_mut.follows.holds c.send_page.new.portal))
    c.send_page.ensures.bound in
    let started : (is_unstarted p.stage ≡ false) × HasGoodTag p.stage =
    subst (λ o. IfSome o (λ p. (is_unstarted p.stage ≡ false) × HasGoodTag p.stage)) l.found c.requires.started in
    let limit_is = to_z-of_z w32 m.max_rows c.requires.given.1.carries.2.max_rows in
    let e = c.send_page.ensures in
    let x = returned c.session_outcome-2.ensures (page_executed h m s _ c.args.client.now.outbox c.send_page.new.outbox desk turns p
    w.stage c.send_page.result good l started.0 _ limit_is e.page e.answerable e.stays e.kept e.tag) in
    (x.ok, x.refused, x.answerable, x.caused, x.limit, x.info, x.left, x.kept, x.good, x.spent)
