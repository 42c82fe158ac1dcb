use Rattle.std.proofs.Common.{rules, ◌≡◌, ◌↔◌, ℤ, true, w32, refl, ap, subst, ◌∙◌}
use mir.Val.{to_z, of_z}
use Rattle.std.proofs.lemmas.Result.{err_from_is_err_and}
use Rattle.pg_cancel.specs.LegalHistory.{IsConnected}
use Rattle.pg_cancel.specs.Connections.{Connection, before_last}
use Rattle.pg_cancel.proofs.Events.{asked_exactly}
use Rattle.pg_cancel.proofs.Handles.{begins_named, canceling, kept, still_seen, made_more, viewed, made_for}
use Rattle.pg_cancel.proofs.manager.ConnectionManager.cancel.Goals as goal

pub make_call-requires : goal.make_call-requires
make_call-requires g c =
    let h = c.handle.inside in
    let pid : to_z w32 (of_z w32 h.pid) ≡ h.pid = search rules in record {
      issued = ap (λ (v : Connection). v.issuer) c.handle.view_is ∙ c.requires.issued;
      handle = c.handle.invariant.0;
      begins = begins_named _ _ _ _ _ pid c.handle.invariant.1;
      call = refl;
    }

pub is_yes-requires : goal.is_yes-requires
is_yes-requires g c = c.in_ok-answer.ensures.told

pub invariant_of-handle : goal.invariant_of-handle
invariant_of-handle g c =
    let h = c.handle.inside in
    kept h.seat.me c.make_call.new.seat.me h.number h.pid h.key c.in_err-answer.ensures.err c.handle.invariant

pub invariant_of-handle-2 : goal.invariant_of-handle-2
invariant_of-handle-2 g c =
    let h = c.handle.inside in
    let made = c.in_ok-answer.ensures.ok in
    made_more h.seat.me c.make_call.new.seat.me h.number h.pid h.key _ _ refl made.0 made.1 c.handle.invariant.1

pub returns-in_err-copy_of : goal.returns-in_err-copy_of
returns-in_err-copy_of g c =
    let p = err_from_is_err_and c.from_residual.result c.from_residual.ensures.1 in
    rw p.1 (record { same = (refl, refl, refl, refl); ok = tt; exactly = tt; err = refl })

pub returns-in_err-answer : goal.returns-in_err-answer
returns-in_err-answer g c =
    let h = c.handle.inside in
    let new = c.make_call.new.seat in
    let p = err_from_is_err_and c.from_residual-in_err-answer.result c.from_residual-in_err-answer.ensures.1 in
    rw p.1 (record {
      same = viewed _ c.args.handle.now _ c.handle.view_is c.make_call.ensures.same.0;
      ok = tt;
      exactly = tt;
      err = still_seen _ _ h.seat.me new.me _ _ _ _ c.make_call.ensures.same.0 c.in_err-answer.ensures.err c.handle.view_is;
    })

pub returns-clause-same : goal.returns-clause-same
returns-clause-same g c = viewed _ c.args.handle.now _ c.handle.view_is c.make_call.ensures.same.0

pub returns-clause-ok : goal.returns-clause-ok
returns-clause-ok g c =
    let pid : to_z w32 (of_z w32 c.args.pid) ≡ c.args.pid = search rules in
    let copied : c.in_ok-copy_of.field-0 ≡ c.args.key.now = c.in_ok-copy_of.ensures in
    made_for _ c.args.handle.now _ _ _ _ _ _
    c.handle.view_is (canceling _ _ _ _ pid copied) c.is_yes.ensures c.in_ok-answer.ensures.ok.1

pub returns-clause-exactly : goal.returns-clause-exactly
returns-clause-exactly g c =
    let pid : to_z w32 (of_z w32 c.args.pid) ≡ c.args.pid = search rules in
    let seen = before_last c.make_call.new.seat.me.0.seen in
    let copied : c.in_ok-copy_of.field-0 ≡ c.args.key.now = c.in_ok-copy_of.ensures in
    subst (λ (p : ℤ). (c.is_yes.result ≡ true) ↔ IsConnected seen p c.args.key.now) pid
    (subst (λ k. (c.is_yes.result ≡ true) ↔ IsConnected seen (to_z w32 (of_z w32 c.args.pid)) k) copied
    (asked_exactly _ _ _ _ _ _ _ c.is_yes.result c.is_yes.ensures c.in_ok-answer.ensures.ok.1))
