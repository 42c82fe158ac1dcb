use Rattle.std.proofs.Common.{◌++◌, arith, pos, negsuc, refl, ap, ◌∙◌}
use Rattle.std.proofs.lemmas.Int.{ints}
use Rattle.shift_table.specs.Shifts.{shifts_of}
use Rattle.shift_table.specs.Kept.{shifts_in}
use Rattle.shift_table.specs.declared.place.Place.{Place}
use Rattle.shift_table.proofs.Places.{runs_forward}
use Rattle.shift_table.proofs.Removed.{entries_of_name}
use Rattle.shift_table.proofs.table.ShiftTable.shifts_of.Goals as goal

pub range-place-items-requires : goal.range-place-items-requires
range-place-items-requires c =
    runs_forward (record { name = c.in_ok-clone.field-0; start = negsuc 170141183460469231731687303715884105727 })
    (record { name = c.args.name; start = pos 170141183460469231731687303715884105727 }) c.in_ok-clone.ensures.cases (omega (arith, ints))

pub loop-place-init : goal.loop-place-init
loop-place-init c =
    let first : Place = record { name = c.in_ok-clone.field-0; start = negsuc 170141183460469231731687303715884105727 } in
    let last : Place = record { name = c.args.name; start = pos 170141183460469231731687303715884105727 } in
    ap (λ xs. xs ++ shifts_in c.into_iter-place-iterator.result) c.new-shifts.ensures.items
    ∙ ap shifts_in (c.into_iter-place-iterator.ensures.into_iter_gives ∙ c.range-place-items.ensures.between tt)
    ∙ entries_of_name c.self.inside.hours.entries first last c.args.name c.self.invariant c.in_ok-clone.ensures.cases refl (omega (arith, ints)) (omega (arith, ints))
    ∙ ap (λ t. shifts_of t c.args.name) c.self.view_is
