use Rattle.std.proofs.Common.{w32, refl, ◌∙◌, Result, Ok, Err}
use Rattle.std.specs.Prelude.{OnErr}
use Rattle.std.proofs.lemmas.Int.{to_z-of_z}
use Rattle.pg_results.specs.Told.{told_rows}
use Rattle.pg_portal.specs.Told.{portal_of}
use Rattle.named_entries.proofs.NameMaps.{at_some}
use Rattle.pg_client.specs.State.{state_of}
use Rattle.conversation_table.proofs.Lends.{lent}
use Rattle.conversation_table.proofs.Starting.{first_page}
use Rattle.pg_handlers.proofs.query.run.start_portal.Goals as goal

-- what holds anyway holds behind an error
behind_error : {A E P : Type 0} (r : Result A E) → P → OnErr r P
behind_error (Ok x) p = tt
behind_error (Err e) p = p

pub returns : goal.returns
returns g c =
    let R = g.St.Rows.RowSource.items in let maps = g.St.PortalStore.maps in
    let s = state_of maps c.args.client.now in let m = c.args.message in
    let p = portal_of R c.in-Some.portal.now in let w = portal_of R c.send_page.new.portal in
    let l = lent s.info (maps c.args.client.now.store) (maps (c.portal_mut.follows.lender c.send_page.new.portal)) m.name
    c.as_str.result.now p w c.as_str.ensures c.in-Some.ensures.value
    (at_some c.portal_mut.result c.in-Some.portal c.in-Some.is (c.portal_mut.follows.holds c.send_page.new.portal))
    (c.send_page.ensures.bound ∙ c.start.ensures.bound) in
    let f = first_page s _ m (told_rows R c.args.rows) c.args.client.now.outbox c.send_page.new.outbox c.send_page.result p w.stage l
    c.requires.portal c.send_page.ensures.tag _ _ (to_z-of_z w32 m.max_rows c.requires.given.1.carries.2.max_rows)
    c.start.ensures.started c.send_page.ensures.page in
    record {
      ok = f.ok;
      refused = f.refused;
      answerable = c.send_page.ensures.answerable;
      kept = record { info = behind_error c.send_page.result refl; left = f.left; kept = c.send_page.ensures.kept };
      good = f.good;
    }
