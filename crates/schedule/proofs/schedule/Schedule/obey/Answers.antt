use Rattle.std.proofs.Common.{ap, refl, ◌∙◌}
use Rattle.shift_transactions.specs.Trying.{changed_by}
use Rattle.schedule.proofs.Meeting.{nothing_done, on_err_always, outcome_fits}
use Rattle.schedule.proofs.schedule.Schedule.obey.Goals as goal

pub returns-in_err-sheet_of-clause-place : goal.returns-in_err-sheet_of-clause-place
returns-in_err-sheet_of-clause-place c =
    let same = nothing_done c.args.has_failed c.self.inside.table c.args.own.now c.do_order.new.transaction c.args.order c.in_ok-change.change
    c.in_ok-change.outcome c.in_ok-change.ensures.done (c.in_err-sheet_of.ensures.leaves refl) in
    on_err_always c.from_residual-in_err-sheet_of.result
    (c.in_ok-change.ensures.changed ∙ ap (changed_by c.self.inside.table) same.0 ∙ c.self.view_is)

pub returns-in_err-sheet_of-clause-own : goal.returns-in_err-sheet_of-clause-own
returns-in_err-sheet_of-clause-own c =
    on_err_always c.from_residual-in_err-sheet_of.result (nothing_done c.args.has_failed c.self.inside.table c.args.own.now
    c.do_order.new.transaction c.args.order c.in_ok-change.change c.in_ok-change.outcome c.in_ok-change.ensures.done
    (c.in_err-sheet_of.ensures.leaves refl)).1

pub sheet_of-requires : goal.sheet_of-requires
sheet_of-requires c =
    outcome_fits c.args.has_failed c.self.inside.table c.args.own.now c.do_order.new.transaction c.args.order c.in_ok-change.change
    c.in_ok-change.outcome c.in_ok-sheets.sheets c.in_ok-sheets.ensures c.in_ok-change.ensures.done
