use Rattle.std.proofs.Common.{is_ok, sym, ap, ◌∙◌, subst}
use Rattle.std.specs.Option.{option_copied}
use Rattle.std.specs.List.{list_any}
use Rattle.shift_table.specs.Shifts.{is_shift, canceled, IsTimetable}
use Rattle.shift_table.specs.Kept.{shifts_in, IsKept}
use Rattle.shift_table.specs.declared.place.Place.{Place}
use Rattle.shift_table.proofs.Removed.{canceled_entry}
use Rattle.shift_table.proofs.Found.{lasts_for, known_entry}
use Rattle.shift_table.proofs.table.ShiftTable.cancel.Goals as goal
use Rattle.shift_table.proofs.table.ShiftTable.cancel.Goals.{in_default-2, in_default}

pub invariant_of-self : goal.invariant_of-self
invariant_of-self c =
    let done = canceled_entry c.self.inside.hours.entries c.place_of-place.result c.args.shift.start (ap (λ (p : Place). p.start) c.place_of-place.ensures) c.self.invariant in
    subst IsKept (sym c.remove.ensures.entries) done.kept

pub returns-in-Some-clause-known : goal.returns-in-Some-clause-known
returns-in-Some-clause-known c =
    sym c.if-is_same_span.true
    ∙ c.is_same_span.ensures
    ∙ ap (lasts_for c.args.shift.length) c.in-Some.ensures.value
    ∙ known_entry c.self.inside.hours.entries c.place_of-place.result c.args.shift c.place_of-place.ensures c.self.invariant
    ∙ ap (list_any (is_shift c.args.shift)) c.self.view_is

pub returns-in-Some-clause-canceled : goal.returns-in-Some-clause-canceled
returns-in-Some-clause-canceled c =
    let done = canceled_entry c.self.inside.hours.entries c.place_of-place.result c.args.shift.start (ap (λ (p : Place). p.start) c.place_of-place.ensures) c.self.invariant in
    ap shifts_in c.remove.ensures.entries ∙ done.shifts
    ∙ ap (λ (p : Place). canceled (shifts_in c.self.inside.hours.entries) p.name c.args.shift.start) c.place_of-place.ensures
    ∙ ap (λ t. canceled t c.args.shift.name c.args.shift.start) c.self.view_is

pub returns-in-Some-clause-timetable : goal.returns-in-Some-clause-timetable
returns-in-Some-clause-timetable c =
    let done = canceled_entry c.self.inside.hours.entries c.place_of-place.result c.args.shift.start (ap (λ (p : Place). p.start) c.place_of-place.ensures) c.self.invariant in
    subst (λ es. IsTimetable (shifts_in es)) (sym c.remove.ensures.entries) done.kept.timetable

pub returns-clause-known : goal.returns-clause-known
returns-clause-known c =
    let looked =
    known_entry c.self.inside.hours.entries c.place_of-place.result c.args.shift c.place_of-place.ensures c.self.invariant
    ∙ ap (list_any (is_shift c.args.shift)) c.self.view_is
    in
    elim c.match-get.branch [
      | in_default-2 w ↦ ap is_ok w.result-is ∙ sym w.if-is_same_span.false ∙ w.is_same_span.ensures
          ∙ ap (lasts_for c.args.shift.length) w.in-Some.ensures.value ∙ looked
      | in_default w ↦ ap is_ok w.result-is ∙ ap (lasts_for c.args.shift.length) (ap option_copied (sym w.in_default.is) ∙ c.get.ensures.value) ∙ looked
    ]
