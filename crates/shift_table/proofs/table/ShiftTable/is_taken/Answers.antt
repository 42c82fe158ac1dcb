use Rattle.std.proofs.Common.{FitsSigned, int_lt, true, false, sym, ap, ap₂, ◌∙◌}
use Rattle.std.specs.Int.{w128}
use Rattle.std.specs.List.{list_any}
use Rattle.std.proofs.lemmas.Int.{to_z-of_z}
use Rattle.shift_table.specs.Spans.{span_of}
use Rattle.shift_table.specs.Shifts.{meets}
use Rattle.shift_table.specs.declared.place.Place.{Place}
use Rattle.shift_table.specs.declared.place.Hours.{Hours}
use Rattle.shift_table.proofs.Taken.{decided, taken_none}
use Rattle.shift_table.proofs.table.ShiftTable.is_taken.Goals as goal

pub returns-then-eq : goal.returns-then-eq
returns-then-eq c =
    let e : Place × Hours = (c.in-Some.place.now, c.in-Some.hours.now) in
    let r = c.range.ensures.in_range tt in
    let entry = r.3 e _ c.in-Some.ensures.steps in
    let whole : FitsSigned w128 c.end_of.result = record { sfits = c.end_of.type_inv } in
    let whole_start : FitsSigned w128 c.span_of.result = record { sfits = c.span_of.type_inv } in
    ap₂ int_lt (to_z-of_z w128 c.span_of.result whole_start ∙ c.span_of.ensures) (to_z-of_z w128 c.end_of.result whole ∙ c.end_of.ensures)
    ∙ decided c.self.inside.hours c.range.ensures.ordered c.self.invariant c.args.until.now (span_of c.args.start) e true entry.0.1 entry.1
    (λ q less some. r.4 e _ c.in-Some.ensures.steps q (tt, less) some) (sym c.eq.ensures ∙ c.if-eq.true)
    ∙ ap (list_any (meets c.args.until.now.name (span_of c.args.start) c.args.until.now.start)) c.self.view_is

pub returns-else-eq : goal.returns-else-eq
returns-else-eq c =
    let e : Place × Hours = (c.in-Some.place.now, c.in-Some.hours.now) in
    let r = c.range.ensures.in_range tt in
    let entry = r.3 e _ c.in-Some.ensures.steps in
    c.if-eq.false
    ∙ decided c.self.inside.hours c.range.ensures.ordered c.self.invariant c.args.until.now (span_of c.args.start) e false entry.0.1 entry.1
    (λ q less some. r.4 e _ c.in-Some.ensures.steps q (tt, less) some) (sym c.eq.ensures ∙ c.if-eq.false)
    ∙ ap (list_any (meets c.args.until.now.name (span_of c.args.start) c.args.until.now.start)) c.self.view_is

pub returns-in-None : goal.returns-in-None
returns-in-None c =
    let r = c.range.ensures.in_range tt in
    sym (taken_none c.self.inside.hours c.range.ensures.ordered c.self.invariant c.args.until.now (span_of c.args.start)
    (λ q less. r.5 c.in-None.ensures.steps.0 q (tt, less)))
    ∙ ap (list_any (meets c.args.until.now.name (span_of c.args.start) c.args.until.now.start)) c.self.view_is
