use Rattle.std.proofs.Common.{◌≡◌, length, rules, ap, sym, subst}
use Rattle.pg_cancel.specs.declared.entries.RegistryAnswer.TheVariants.{Registered, Taken}
use Rattle.pg_cancel.specs.Connections.{Registers}
use Rattle.pg_cancel.specs.RosterTable.{IsOpening}
use Rattle.pg_cancel.proofs.Events.{opened, entered_is, refused_is, opening, still_door, registers, calls_of_door, may_open, only_registered}
use Rattle.pg_cancel.proofs.manager.ConnectionManager.admit.Goals as goal

pub make_event-requires : goal.make_event-requires
make_event-requires c =
    let m = c.args.seat.now.me in record {
      issued = search rules;
      turn = c.requires.turn;
      called = calls_of_door m c.args.place _ c.args.call c.requires.call;
      own = may_open m.0 c.args.place c.args.call c.requires.call c.requires.door;
    }

pub unreachable-requires : goal.unreachable-requires
unreachable-requires c =
    let t = c.requires.turn in
    only_registered t.log c.args.place c.args.call c.in-Ok.answer c.requires.call (c.in-Ok.ensures.ok t.log t.turn).told
    c.in_default.not-Registered c.in_default.not-Taken

pub returns-in-Registered-clause-ok : goal.returns-in-Registered-clause-ok
returns-in-Registered-clause-ok c =
    let t = c.requires.turn in
    let v = c.args.seat.now.me.0 in
    let m = c.make_event.new.seat.me in
    let h = t.log in
    let ok = c.in-Ok.ensures.ok h t.turn in
    let fits = c.requires.fits h t.turn in
    let place : c.args.place ≡ length h = c.requires.place h t.turn in
    let x = opened v h _ c.args.call _ Registered
    c.requires.call c.requires.door fits t.legal place ok.legal ok.told c.in-Registered.is in
    let is = entered_is v m h _ c.args.call _ c.requires.call c.in-Registered.is ok.is in
    subst (λ k. IsOpening m k c.args.call × Registers k c.args.call v.seen m.0.seen Registered) (sym place)
    (opening v m h c.args.call x is, registers v m.0 h c.args.call Registered x (ap (λ z. z.0.seen) is))

pub returns-in-Taken-clause-taken : goal.returns-in-Taken-clause-taken
returns-in-Taken-clause-taken c =
    let t = c.requires.turn in
    let v = c.args.seat.now.me.0 in
    let m = c.make_event.new.seat.me in
    let h = t.log in
    let ok = c.in-Ok.ensures.ok h t.turn in
    let fits = c.requires.fits h t.turn in
    let holder = c.in-Taken.holder in
    let place : c.args.place ≡ length h = c.requires.place h t.turn in
    let x = opened v h _ c.args.call _
    (Taken holder) c.requires.call c.requires.door fits t.legal place ok.legal ok.told c.in-Taken.is in
    let is = refused_is v m h _ c.args.call _ holder c.requires.call c.in-Taken.is ok.is in
    λ k same.
    let who : holder ≡ k = cc (same) in (
      still_door v m h _ c.requires.door is,
      (
        length h,
        subst (λ y. Registers (length h) c.args.call v.seen m.0.seen (Taken y)) who
            (registers v m.0 h c.args.call (Taken holder) x (ap (λ z. z.0.seen) is)),
      ),
    )
