use Rattle.std.proofs.Common.{rules, ◌≡◌, ◌↔◌, true, w32, refl, ap, sym, subst, ◌∙◌}
use mir.Val.{to_z, of_z}
use Rattle.std.proofs.lemmas.Result.{err_from_is_err_and}
use Rattle.pg_cancel.specs.declared.entries.RegistryCall.TheVariants.{Ask}
use Rattle.pg_cancel.specs.LegalHistory.{IsCanceled}
use Rattle.pg_cancel.specs.Connections.{Connection, before_last}
use Rattle.pg_cancel.proofs.Events.{asked_exactly, heard_if, made_as}
use Rattle.pg_cancel.proofs.Handles.{begins_named, kept, still_seen, made_more, viewed, made_for}
use Rattle.pg_cancel.proofs.manager.ConnectionManager.ask.Goals as goal

pub make_call-requires : goal.make_call-requires
make_call-requires g c =
    let h = c.handle.inside in
    let pid : to_z w32 (of_z w32 h.pid) ≡ h.pid = search rules in record {
      issued = ap (λ (v : Connection). v.issuer) c.handle.view_is ∙ c.requires.issued;
      handle = c.handle.invariant.0;
      begins = begins_named _ _ _ _ _ pid c.handle.invariant.1;
      call = refl;
    }

pub is_yes-yes-requires : goal.is_yes-yes-requires
is_yes-yes-requires g c = c.in_ok-answer.ensures.told

pub invariant_of-handle : goal.invariant_of-handle
invariant_of-handle g c =
    let h = c.handle.inside in
    kept h.seat.me c.make_call.new.seat.me h.number h.pid h.key c.in_err-answer.ensures.err c.handle.invariant

pub invariant_of-handle-2 : goal.invariant_of-handle-2
invariant_of-handle-2 g c =
    let h = c.handle.inside in
    let made = c.in_ok-answer.ensures.ok in
    made_more h.seat.me c.make_call.new.seat.me h.number h.pid h.key Ask _ refl made.0 made.1 c.handle.invariant.1

pub returns-in_err-answer : goal.returns-in_err-answer
returns-in_err-answer g c =
    let h = c.handle.inside in
    let new = c.make_call.new.seat in
    let p = err_from_is_err_and c.from_residual.result c.from_residual.ensures.1 in
    rw p.1 (record {
      same = viewed _ c.args.handle.now _ c.handle.view_is c.make_call.ensures.same.0;
      ok = tt;
      exactly = tt;
      heard = tt;
      err = still_seen _ _ h.seat.me new.me _ _ _ _ c.make_call.ensures.same.0 c.in_err-answer.ensures.err c.handle.view_is;
    })

pub returns-clause-same : goal.returns-clause-same
returns-clause-same g c = viewed _ c.args.handle.now _ c.handle.view_is c.make_call.ensures.same.0

pub returns-clause-ok : goal.returns-clause-ok
returns-clause-ok g c =
    made_for _ c.args.handle.now _ _ _ _ _ _ c.handle.view_is refl c.is_yes-yes.ensures c.in_ok-answer.ensures.ok.1

pub returns-clause-exactly : goal.returns-clause-exactly
returns-clause-exactly g c =
    subst (λ (h : Connection). (c.is_yes-yes.result ≡ true)
    ↔ IsCanceled (before_last c.make_call.new.seat.me.0.seen) h.number) c.handle.view_is
    (asked_exactly _ _ _ _ _ _ _ c.is_yes-yes.result c.is_yes-yes.ensures c.in_ok-answer.ensures.ok.1)

pub returns-clause-heard : goal.returns-clause-heard
returns-clause-heard g c canceled =
    heard_if _ _ _ _ _ c.is_yes-yes.result (made_as _ _ _ _ _ _ _ _ c.is_yes-yes.ensures c.in_ok-answer.ensures.ok.1)
    (subst (λ (h : Connection). IsCanceled h.seen h.number) (sym c.handle.view_is) canceled)
