use Rattle.std.proofs.Common.{rules, ◌≡◌, w32, refl, ap, ◌∙◌}
use mir.Val.{to_z, of_z}
use Rattle.std.proofs.lemmas.Result.{err_from_is_err_and}
use Rattle.pg_cancel.specs.Connections.{Connection}
use Rattle.pg_cancel.proofs.Handles.{begins_named, kept, still_seen, made_short, viewed_short, made_for}
use Rattle.pg_cancel.proofs.manager.ConnectionManager.narrow.Goals as goal

pub make_call-requires : goal.make_call-requires
make_call-requires g c =
    let h = c.handle.inside in
    let pid : to_z w32 (of_z w32 h.pid) ≡ h.pid = search rules in record {
      issued = ap (λ (v : Connection). v.issuer) c.handle.view_is ∙ c.requires.issued;
      handle = c.handle.invariant.0;
      begins = begins_named _ _ _ _ _ pid c.handle.invariant.1;
      call = refl;
    }

pub invariant_of-handle : goal.invariant_of-handle
invariant_of-handle g c =
    let h = c.handle.inside in
    kept h.seat.me c.make_call.new.seat.me h.number h.pid h.key c.in_err-make_call.ensures.err c.handle.invariant

pub invariant_of-handle-in-Done : goal.invariant_of-handle-in-Done
invariant_of-handle-in-Done g c =
    let h = c.handle.inside in
    let made = c.in_ok-make_call.ensures.ok in
    made_short h.seat.me c.make_call.new.seat.me h.number h.pid h.key c.narrow.new.self _
    c.narrow.ensures made.0 made.1 c.handle.invariant.1

pub returns-in_err-make_call : goal.returns-in_err-make_call
returns-in_err-make_call g c =
    let h = c.handle.inside in
    let new = c.make_call.new.seat in
    let p = err_from_is_err_and c.from_residual.result c.from_residual.ensures.1 in
    rw p.1 (record {
      same = tt;
      ok = tt;
      err = still_seen _ _ h.seat.me new.me _ _ _ _ c.make_call.ensures.same.0 c.in_err-make_call.ensures.err c.handle.view_is;
    })

pub returns : goal.returns
returns g c = record {
  same = viewed_short _ c.args.handle.now _ _ c.handle.view_is c.make_call.ensures.same.0 c.narrow.ensures;
  ok = made_for _ c.args.handle.now _ _ _ _ _ _ c.handle.view_is refl c.in-Done.is c.in_ok-make_call.ensures.ok.1;
  err = tt;
}
