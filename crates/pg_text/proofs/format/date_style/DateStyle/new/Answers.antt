use Rattle.std.proofs.Common.{◌∙◌, sym, ap, Some}
use Rattle.pg_text.specs.Dates.{display_before, order_behind}
use Rattle.pg_text.proofs.Commas.{around_none, around_match}
use Rattle.pg_text.proofs.format.date_style.DateStyle.new.Goals as goal

pub returns-in-None-clause-style : goal.returns-in-None-clause-style
returns-in-None-clause-style c =
    c.in_text.ensures ∙ ap (display_before c.args.config.now) (sym (around_none c.args.config.now c.in-None.ensures.cases))

pub returns-in-None-clause-order : goal.returns-in-None-clause-order
returns-in-None-clause-order c = ap order_behind (sym (around_none c.args.config.now c.in-None.ensures.cases))

pub returns-in-Some-clause-style : goal.returns-in-Some-clause-style
returns-in-Some-clause-style c =
    c.in_text-in-Some.ensures ∙ ap (display_before c.args.config.now) (sym (around_match c.args.config.now _ _ c.in-Some.ensures.cases))

pub returns-in-Some-clause-order : goal.returns-in-Some-clause-order
returns-in-Some-clause-order c =
    ap Some c.in_text-in-Some-2.ensures ∙ ap order_behind (sym (around_match c.args.config.now _ _ c.in-Some.ensures.cases))
