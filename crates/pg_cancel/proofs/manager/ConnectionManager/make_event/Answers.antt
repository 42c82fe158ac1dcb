use Rattle.std.proofs.Common.{rules, ◌≡◌, ◌∷◌, None, w32, refl, ap, ◌∙◌, sym, subst}
use mir.Val.{to_z, of_z}
use Rattle.atomic_table.specs.Table.{rest}
use Rattle.pg_cancel.specs.LegalHistory.{entry_of}
use Rattle.pg_cancel.specs.Index.{IsCaller, IsRosterOf}
use Rattle.pg_cancel.specs.RosterTable.{Happens}
use Rattle.pg_cancel.proofs.Histories.{last_pushed}
use Rattle.pg_cancel.proofs.Noting.{may_ask, same_roster}
use Rattle.pg_cancel.proofs.Events.{answered, lent_roster, one_log}
use Rattle.pg_cancel.proofs.Turning.{publishes_turn, releases_turn}
use Rattle.pg_cancel.proofs.manager.ConnectionManager.make_event.Goals as goal

pub slot_mut-roster-requires : goal.slot_mut-roster-requires
slot_mut-roster-requires c =
    let t = c.requires.turn in (search rules, (t.roster, t.slot ∙ ap (λ l. (0, t.roster) ∷ rest l) (sym t.slot)))

pub apply-answer-requires : goal.apply-answer-requires
apply-answer-requires c =
    let t = c.requires.turn in
    let lent = c.slot_mut-roster.result.now in
    let right : IsRosterOf t.log lent = lent_roster c.args.seat.now.me t.log t.roster lent t.slot c.slot_mut-roster.ensures.value t.right in
    let pid : to_z w32 (of_z w32 c.args.pid) ≡ c.args.pid = search rules in
    let caller = subst (λ p. IsCaller t.log c.args.number p c.args.call) (sym pid) (c.requires.called t.log t.turn) in
    may_ask t.log c.args.number _ c.args.call lent.holders right.index caller

pub store-requires : goal.store-requires
store-requires c =
    let t = c.requires.turn in
    let n = c.args.number in
    let call = c.args.call in
    let a = c.in-Ok.answer in
    let lent = c.slot_mut-roster.result.now in
    let right : IsRosterOf t.log lent = lent_roster c.args.seat.now.me t.log t.roster lent t.slot c.slot_mut-roster.ensures.value t.right in
    let roster = c.apply-answer.new.self in
    let pid : to_z w32 (of_z w32 c.args.pid) ≡ c.args.pid = search rules in
    let called = c.requires.called t.log t.turn in
    let x = c.in-Ok.ensures.ok t.log t.legal right (subst (λ p. IsCaller t.log n p call) (sym pid) called) in (
      search rules,
      search rules,
      publishes_turn _ _ _ _ t.log roster n call a (search rules) t.turn (ap (λ l. (0, roster) ∷ rest l) t.slot) refl x.right
          (search rules) (answered t.log n c.args.pid call a t.legal called x.told),
    )

pub store-requires-in-Err : goal.store-requires-in-Err
store-requires-in-Err c =
    let t = c.requires.turn in
    let lent = c.slot_mut-roster.result.now in
    let right : IsRosterOf t.log lent = lent_roster c.args.seat.now.me t.log t.roster lent t.slot c.slot_mut-roster.ensures.value t.right in
    let roster = c.apply-answer.new.self in (
      search rules,
      search rules,
      releases_turn _ _ _ _ t.log roster (search rules) t.turn (ap (λ l. (0, roster) ∷ rest l) t.slot) refl
          (same_roster t.log lent roster c.in-Err.ensures.err right) t.legal,
    )

pub returns-in-Ok-clause-ok : goal.returns-in-Ok-clause-ok
returns-in-Ok-clause-ok c = λ log has.
    let t = c.requires.turn in
    let m = c.args.seat.now.me in
    let n = c.args.number in
    let call = c.args.call in
    let a = c.in-Ok.answer in
    let lent = c.slot_mut-roster.result.now in
    let right : IsRosterOf t.log lent = lent_roster m t.log t.roster lent t.slot c.slot_mut-roster.ensures.value t.right in
    let roster = c.apply-answer.new.self in
    let pid : to_z w32 (of_z w32 c.args.pid) ≡ c.args.pid = search rules in
    let called = c.requires.called t.log t.turn in
    let x = c.in-Ok.ensures.ok t.log t.legal right (subst (λ p. IsCaller t.log n p call) (sym pid) called) in
    let e = entry_of t.log n call a in
    let here : Happens m t.log n call c.store.new.seat.me a = record {
      is = c.store.ensures.2 t.log roster e t.turn (ap (λ l. (0, roster) ∷ rest l) t.slot) (x.right.last ∙ last_pushed None t.log e);
      legal = (answered t.log n c.args.pid call a t.legal called x.told).legal;
      told = x.told;
    } in
    subst (λ h. Happens m h n call c.store.new.seat.me a) (one_log m t.log log t.turn has) here
