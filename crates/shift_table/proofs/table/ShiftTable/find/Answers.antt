use Rattle.std.proofs.Common.{ap, ◌∙◌}
use Rattle.std.specs.Option.{option_map}
use Rattle.shift_table.specs.Shifts.{found}
use Rattle.shift_table.specs.Kept.{shift_at}
use Rattle.shift_table.specs.declared.place.Hours.{Hours}
use Rattle.shift_table.proofs.Found.{found_entry}
use Rattle.shift_table.proofs.table.ShiftTable.find.Goals as goal

pub returns-in_err-hours : goal.returns-in_err-hours
returns-in_err-hours c =
    c.from_residual.ensures
    ∙ ap (option_map (λ (v : Hours). shift_at (c.place_of-place.result, v))) c.in_err-hours.ensures.value
    ∙ found_entry c.self.inside.hours.entries c.place_of-place.result c.args.name c.args.start c.place_of-place.ensures c.self.invariant
    ∙ ap (λ t. found t c.args.name c.args.start) c.self.view_is

pub returns : goal.returns
returns c =
    ap (option_map (λ (v : Hours). shift_at (c.place_of-place.result, v))) c.in_ok-hours.ensures.value
    ∙ found_entry c.self.inside.hours.entries c.place_of-place.result c.args.name c.args.start c.place_of-place.ensures c.self.invariant
    ∙ ap (λ t. found t c.args.name c.args.start) c.self.view_is
