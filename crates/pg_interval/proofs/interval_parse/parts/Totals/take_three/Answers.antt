use Rattle.std.proofs.Common.{◌∙◌, ap, sym}
use Rattle.pg_interval.specs.Texts.{◌>>=◌, begins, is_minus}
use Rattle.pg_interval.specs.SqlText.{day_pairs, sql_time_pairs, year_month_pairs}
use Rattle.pg_interval.specs.Reader.{so_far}
use Rattle.pg_interval.specs.FieldReader.{answer}
use Rattle.pg_interval.proofs.ReadFields.{three_answers, on_none, on_some}
use Rattle.pg_interval.proofs.interval_parse.parts.Totals.take_three.Goals as goal

pub returns-then-not-take_year_month-clause-taken : goal.returns-then-not-take_year_month-clause-taken
returns-then-not-take_year_month-clause-taken c =
    let r = so_far c.args.self.now in
    let third = c.args.third.now in
    on_none c.take_year_month.result (so_far c.take_year_month.new.self) (answer r (year_month_pairs c.args.first.now))
    (λ q. answer q (day_pairs c.args.second.now) >>= λ s. answer s (sql_time_pairs (begins is_minus third) third))
    c.if-not-take_year_month.true c.take_year_month.ensures.taken
    ∙ sym (three_answers r c.args.first.now c.args.second.now third)

pub returns-then-not-take_days-clause-taken : goal.returns-then-not-take_days-clause-taken
returns-then-not-take_days-clause-taken c =
    let r = so_far c.args.self.now in
    let third = c.args.third.now in
    let q = so_far c.take_year_month.new.self in
    on_none c.take_days.result (so_far c.take_days.new.self) (answer q (day_pairs c.args.second.now))
    (λ s. answer s (sql_time_pairs (begins is_minus third) third)) c.if-not-take_days.true c.take_days.ensures.taken
    ∙ on_some c.take_year_month.result q (answer r (year_month_pairs c.args.first.now)) (λ q. answer q (day_pairs c.args.second.now)
    >>= λ s. answer s (sql_time_pairs (begins is_minus third) third)) c.if-not-take_year_month.false c.take_year_month.ensures.taken
    ∙ sym (three_answers r c.args.first.now c.args.second.now third)

pub returns-clause-taken : goal.returns-clause-taken
returns-clause-taken c =
    let r = so_far c.args.self.now in
    let third = c.args.third.now in
    let q = so_far c.take_year_month.new.self in
    c.take_time.ensures.taken
    ∙ ap (λ m. answer (so_far c.take_days.new.self) (sql_time_pairs m third)) c.sign_of.ensures
    ∙ on_some c.take_days.result (so_far c.take_days.new.self) (answer q (day_pairs c.args.second.now))
    (λ s. answer s (sql_time_pairs (begins is_minus third) third)) c.if-not-take_days.false c.take_days.ensures.taken
    ∙ on_some c.take_year_month.result q (answer r (year_month_pairs c.args.first.now)) (λ q. answer q (day_pairs c.args.second.now)
    >>= λ s. answer s (sql_time_pairs (begins is_minus third) third)) c.if-not-take_year_month.false c.take_year_month.ensures.taken
    ∙ sym (three_answers r c.args.first.now c.args.second.now third)
