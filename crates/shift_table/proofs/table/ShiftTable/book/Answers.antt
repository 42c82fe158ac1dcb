use Rattle.std.proofs.Common.{◌≡◌, ◌<ℤ◌, pos, Bool, true, false, ap, ◌∙◌, sym, subst, refl, arith, rules}
use Rattle.std.specs.List.{list_any}
use Rattle.std.proofs.lemmas.Int.{ints}
use Rattle.std.proofs.lemmas.Grind.{common_steps}
use Rattle.shift_table.specs.Spans.{span_of}
use Rattle.shift_table.specs.Shifts.{meets, clashes, booked}
use Rattle.shift_table.specs.Kept.{shift_at, shifts_in, IsKeyed, IsKept}
use Rattle.shift_table.specs.declared.place.Place.{Place}
use Rattle.shift_table.specs.declared.place.Hours.{Hours}
use Rattle.shift_table.proofs.Entries.{IsBooked, booked_entry}
use Rattle.shift_table.proofs.table.ShiftTable.book.Goals as goal

true_or_false : (b : Bool) → b ≡ true → b ≡ false → ⊥
true_or_false b t f = cc

pub returns-then-is_taken-clause-clash : goal.returns-then-is_taken-clause-clash
returns-then-is_taken-clause-clash c =
    let positive : pos 0 <ℤ span_of c.args.shift.length = omega (arith, ints) in
    let taken : list_any (clashes c.args.shift) c.args.self.now ≡ true =
    ap (λ (u : Place). list_any (meets u.name (span_of c.args.shift.start) u.start) c.args.self.now) (sym c.place_behind-until.ensures)
    ∙ sym c.is_taken.ensures ∙ c.if-is_taken.true in
    (λ _. (positive, taken), λ _. refl)

pub returns-in_err-insert-clause-clash : goal.returns-in_err-insert-clause-clash
returns-in_err-insert-clause-clash c =
    let free : list_any (clashes c.args.shift) c.args.self.now ≡ false =
    ap (λ (u : Place). list_any (meets u.name (span_of c.args.shift.start) u.start) c.args.self.now) (sym c.place_behind-until.ensures)
    ∙ sym c.is_taken.ensures ∙ c.if-is_taken.false in
    (λ e. absurd (first_of (cc, search rules, grind (arith, common_steps))), λ a. absurd (true_or_false (list_any (clashes c.args.shift) c.args.self.now) a.1 free))

pub returns-clause-clash : goal.returns-clause-clash
returns-clause-clash c =
    let free : list_any (clashes c.args.shift) c.args.self.now ≡ false =
    ap (λ (u : Place). list_any (meets u.name (span_of c.args.shift.start) u.start) c.args.self.now) (sym c.place_behind-until.ensures)
    ∙ sym c.is_taken.ensures ∙ c.if-is_taken.false in
    (λ e. cc, λ a. absurd (true_or_false (list_any (clashes c.args.shift) c.args.self.now) a.1 free))

pub invariant_of-self-2 : goal.invariant_of-self-2
invariant_of-self-2 c =
    let p : Place = record { name = c.args.shift.name; start = span_of c.args.shift.start } in
    let v : Hours = record { start = c.args.shift.start; length = c.args.shift.length } in
    let is : c.place_of-place.result ≡ p = c.place_of-place.ensures ∙ ap (λ (u : Place). record { name = u.name; start = span_of c.args.shift.start }) c.place_behind-until.ensures in
    let positive : pos 0 <ℤ span_of c.args.shift.length = omega (arith, ints) in
    let free : list_any (clashes c.args.shift) (shifts_in c.self.inside.hours.entries) ≡ false =
    ap (list_any (clashes c.args.shift)) c.self.view_is
    ∙ ap (λ (u : Place). list_any (meets u.name (span_of c.args.shift.start) u.start) c.args.self.now) (sym c.place_behind-until.ensures)
    ∙ sym c.is_taken.ensures ∙ c.if-is_taken.false in
    let keyed : IsKeyed (p, v) = record { moment = refl; interval = record { months = search rules; days = search rules; microseconds = search rules } } in
    let done : IsBooked c.self.inside.hours.entries c.place_of-place.result v =
    subst (λ q. IsBooked c.self.inside.hours.entries q v) (sym is) (booked_entry c.self.inside.hours.entries p v c.self.invariant keyed positive free) in
    subst IsKept (sym c.in_ok-insert.ensures.entries) done.kept

pub returns-clause-ok : goal.returns-clause-ok
returns-clause-ok c =
    let p : Place = record { name = c.args.shift.name; start = span_of c.args.shift.start } in
    let v : Hours = record { start = c.args.shift.start; length = c.args.shift.length } in
    let is : c.place_of-place.result ≡ p = c.place_of-place.ensures ∙ ap (λ (u : Place). record { name = u.name; start = span_of c.args.shift.start }) c.place_behind-until.ensures in
    let positive : pos 0 <ℤ span_of c.args.shift.length = omega (arith, ints) in
    let free : list_any (clashes c.args.shift) (shifts_in c.self.inside.hours.entries) ≡ false =
    ap (list_any (clashes c.args.shift)) c.self.view_is
    ∙ ap (λ (u : Place). list_any (meets u.name (span_of c.args.shift.start) u.start) c.args.self.now) (sym c.place_behind-until.ensures)
    ∙ sym c.is_taken.ensures ∙ c.if-is_taken.false in
    let keyed : IsKeyed (p, v) = record { moment = refl; interval = record { months = search rules; days = search rules; microseconds = search rules } } in
    let done : IsBooked c.self.inside.hours.entries c.place_of-place.result v =
    subst (λ q. IsBooked c.self.inside.hours.entries q v) (sym is) (booked_entry c.self.inside.hours.entries p v c.self.invariant keyed positive free) in
    ap shifts_in c.in_ok-insert.ensures.entries ∙ done.shifts
    ∙ ap (λ (q : Place). booked (shifts_in c.self.inside.hours.entries) (shift_at (q, v))) is
    ∙ ap (λ t. booked t c.args.shift) c.self.view_is

pub returns-clause-timetable : goal.returns-clause-timetable
returns-clause-timetable c = (invariant_of-self-2 c).timetable
