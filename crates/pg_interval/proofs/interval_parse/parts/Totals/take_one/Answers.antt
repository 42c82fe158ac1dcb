use Rattle.std.proofs.Common.{◌∙◌, ap, sym}
use Rattle.pg_interval.specs.SqlText.{sql_time_pairs}
use Rattle.pg_interval.specs.Reader.{so_far}
use Rattle.pg_interval.specs.FieldReader.{answer}
use Rattle.pg_interval.proofs.ReadFields.{one_zero, one_time, one_years}
use Rattle.pg_interval.proofs.interval_parse.parts.Totals.take_one.Goals as goal

pub returns-then-is-clause-taken : goal.returns-then-is-clause-taken
returns-then-is-clause-taken c = one_zero (so_far c.args.self.now) c.args.first.now (sym c.is.ensures ∙ c.if-is.true)

pub returns-then-contains-clause-taken : goal.returns-then-contains-clause-taken
returns-then-contains-clause-taken c =
    let r = so_far c.args.self.now in
    c.take_time.ensures.taken
    ∙ ap (λ b. answer r (sql_time_pairs b c.args.first.now)) c.sign_of.ensures
    ∙ one_time r c.args.first.now (sym c.is.ensures ∙ c.if-is.false) (sym c.contains.ensures.value ∙ c.if-contains.true)

pub returns-clause-taken : goal.returns-clause-taken
returns-clause-taken c = c.take_year_month.ensures.taken
    ∙ one_years (so_far c.args.self.now) c.args.first.now (sym c.is.ensures ∙ c.if-is.false) (sym c.contains.ensures.value
    ∙ c.if-contains.false)
