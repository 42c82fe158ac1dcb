use Rattle.std.proofs.Common.{rules, ◌≡◌, w32, ap, sym, subst, ◌∙◌}
use mir.Val.{to_z, of_z}
use Rattle.pg_cancel.specs.RosterTable.{IsCalled}
use Rattle.pg_cancel.proofs.Events.{call_ensures, told_ensures, is_holding, calls_of_handle, may_make}
use Rattle.pg_cancel.proofs.manager.ConnectionManager.make_call.Goals as goal

pub make_event-requires : goal.make_event-requires
make_event-requires g c =
    let m = c.args.seat.now.me in
    let out = c.take_turn.new.seat.me in
    let place = c.take_turn.result in
    let turn = c.take_turn.ensures.out in
    let handle = c.requires.handle in
    let pid : to_z w32 (of_z w32 c.args.pid) ≡ c.args.pid = search rules in
    let called = calls_of_handle m out place c.args.number c.args.pid c.requires.begins.0 c.args.call handle c.requires.begins.1 turn in
    record {
      issued = search rules;
      turn = is_holding out m.0 place turn;
      called = subst (λ p. IsCalled out c.args.number p c.args.call) (sym pid) called;
      own = may_make out.0 c.args.number c.args.call c.requires.call (ap (λ z. z.0.number) turn.is ∙ handle.1)
          (ap (λ z. z.0.is_live) turn.is ∙ handle.2);
    }

pub returns-clause-ok : goal.returns-clause-ok
returns-clause-ok g c =
    call_ensures c.args.seat.now.me c.take_turn.new.seat.me c.make_event.new.seat.me c.take_turn.result c.args.number
    c.args.call
    c.make_event.result c.requires.call c.requires.handle c.take_turn.ensures.out c.make_event.ensures.ok

pub returns-clause-told : goal.returns-clause-told
returns-clause-told g c =
    told_ensures c.args.seat.now.me c.take_turn.new.seat.me c.make_event.new.seat.me c.take_turn.result c.args.number
    c.args.call
    c.make_event.result c.take_turn.ensures.out c.make_event.ensures.ok
